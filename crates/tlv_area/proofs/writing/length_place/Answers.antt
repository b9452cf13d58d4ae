use Rattle.std.proofs.Common.{sym, ◌∙◌, ap}
use Rattle.std.specs.Prelude.{slice_index}
use Rattle.tlv_area.specs.Map.{in_ranges}
use Rattle.tlv_area.proofs.Steps.{cell_at}
use Rattle.tlv_area.proofs.writing.length_place.Goals as goal

pub returns-in-Some-clause-place : goal.returns-in-Some-clause-place
returns-in-Some-clause-place c =
    let there = rw c.as_slice.ensures.value at c.in-Some.ensures.some in
    sym (cell_at (in_ranges c.args.map.now.reserved.items) c.args.tail c.args.map.now.space.end 0 c.in-Some.past c.requires.order there)
    ∙ ap (λ cells. slice_index cells 0) c.requires.tail
