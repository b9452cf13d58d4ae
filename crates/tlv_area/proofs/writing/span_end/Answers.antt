use Rattle.tlv_area.specs.Map.{in_ranges}
use Rattle.tlv_area.proofs.Steps.{cells_front}
use Rattle.tlv_area.proofs.writing.span_end.Goals as goal

pub returns-in-Some-clause-span : goal.returns-in-Some-clause-span
returns-in-Some-clause-span c =
    let there = rw c.as_slice.ensures.value at c.in-Some.ensures.some in
    cells_front (in_ranges c.args.map.now.reserved.items) c.args.tail c.args.map.now.space.end c.args.count c.in-Some.past there
