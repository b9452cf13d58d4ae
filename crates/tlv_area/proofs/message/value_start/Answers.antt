use Rattle.std.proofs.Common.{◌+◌, arith, ◌∙◌, ap, drop}
use Rattle.tlv_area.specs.Map.{in_ranges, map_cells}
use Rattle.tlv_area.proofs.Steps.{cells_past}
use Rattle.tlv_area.proofs.Trails.{length-free_le}
use Rattle.tlv_area.proofs.message.value_start.Goals as goal

pub overflow_add-count : goal.overflow_add-count
overflow_add-count c =
    let bound = length-free_le (in_ranges c.args.map.now.reserved.items) c.args.map.now.space.start c.args.map.now.space.end in
    omega (arith, bound, c.requires.fits, c.header_size.ensures.value)

pub returns-in-Some-clause-cells : goal.returns-in-Some-clause-cells
returns-in-Some-clause-cells c =
    let there = rw c.as_slice.ensures.value at c.in-Some.ensures.some in
    cells_past (in_ranges c.args.map.now.reserved.items) c.args.map.now.space.start c.args.map.now.space.end (c.args.map.now.tlv + c.header_size.result) c.in-Some.past there
    ∙ ap (λ n. drop (c.args.map.now.tlv + n) (map_cells c.args.map.now)) c.header_size.ensures.value
