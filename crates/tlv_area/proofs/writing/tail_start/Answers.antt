use Rattle.std.proofs.Common.{◌+◌, ◌≤◌, arith, Bool, true, false, cond}
use Rattle.tlv_area.specs.Map.{in_ranges}
use Rattle.tlv_area.proofs.Steps.{cells_past}
use Rattle.tlv_area.proofs.Trails.{length-free_le}
use Rattle.tlv_area.proofs.writing.tail_start.Goals as goal

header_low : (b : Bool) → 2 ≤ cond b 4 2
header_low true = omega arith
header_low false = omega arith

pub overflow_add-map : goal.overflow_add-map
overflow_add-map c =
    let bound = length-free_le (in_ranges c.args.map.now.reserved.items) c.args.map.now.space.start c.args.map.now.space.end in
    omega (arith, bound, c.requires.fits, header_low c.args.map.now.long)

pub returns-in-Some-clause-tail : goal.returns-in-Some-clause-tail
returns-in-Some-clause-tail c =
    let there = rw c.as_slice.ensures.value at c.in-Some.ensures.some in
    cells_past (in_ranges c.args.map.now.reserved.items) c.args.map.now.space.start c.args.map.now.space.end (c.args.map.now.tlv + 1) c.in-Some.past there
