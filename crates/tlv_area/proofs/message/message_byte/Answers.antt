use Rattle.std.proofs.Common.{◌≡◌, ◌+◌, arith, sym, ◌∙◌, ap, drop}
use Rattle.std.proofs.lemmas.List.{get_or-take, get_or-drop}
use Rattle.std.specs.Prelude.{slice_index}
use Rattle.tlv_area.specs.Map.{map_cells, message_place, in_ranges}
use Rattle.tlv_area.proofs.Steps.{cell_at}
use Rattle.tlv_area.proofs.Trails.{length-free_le}
use Rattle.tlv_area.proofs.message.message_byte.Goals as goal

pub overflow_add-count : goal.overflow_add-count
overflow_add-count c =
    let bound = length-free_le (in_ranges c.args.map.now.reserved.items) c.args.map.now.space.start c.args.map.now.space.end in
    omega (arith, bound, c.requires.placed.fits, c.header_size.ensures.value)

pub overflow_add-count-2 : goal.overflow_add-count-2
overflow_add-count-2 c =
    let bound = length-free_le (in_ranges c.args.map.now.reserved.items) c.args.map.now.space.start c.args.map.now.space.end in
    omega (arith, bound, c.requires.placed.fits, c.header_size.ensures.value)

pub overflow_add-count-3 : goal.overflow_add-count-3
overflow_add-count-3 c =
    let bound = length-free_le (in_ranges c.args.map.now.reserved.items) c.args.map.now.space.start c.args.map.now.space.end in
    omega (arith, bound, c.requires.placed.fits, c.header_size.ensures.value)

pub returns-in-Some-clause-place : goal.returns-in-Some-clause-place
returns-in-Some-clause-place c =
    let there = rw c.as_slice.ensures.value at c.in-Some.ensures.some in
    let place : c.args.map.now.tlv + c.header_size.result + c.args.index ≡ message_place c.args.map.now + c.args.index =
    ap (λ n. c.args.map.now.tlv + n + c.args.index) c.header_size.ensures.value in
    sym (cell_at (in_ranges c.args.map.now.reserved.items) c.args.map.now.space.start c.args.map.now.space.end (c.args.map.now.tlv + c.header_size.result + c.args.index) c.in-Some.past
    c.requires.placed.order there)
    ∙ ap (λ n. slice_index (map_cells c.args.map.now) n) place
    ∙ sym (get_or-drop (message_place c.args.map.now) (map_cells c.args.map.now) c.args.index 0)
    ∙ sym (get_or-take c.args.map.now.length (drop (message_place c.args.map.now) (map_cells c.args.map.now)) c.args.index 0 c.requires.index)
