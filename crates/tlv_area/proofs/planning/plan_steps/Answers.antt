use Rattle.std.proofs.Common.{◌≡◌, ◌/◌, ◌%◌, ℕ, Bool, List, length, map, arith, ◌∙◌, ap, subst, take, Option}
use Rattle.tlv_area.specs.declared.step.Step.{Step}
use Rattle.std.specs.Prelude.{slice_index, slice_set}
use Rattle.nfc_base.specs.Blocks.{block_of}
use Rattle.tlv_area.specs.declared.space.AreaMap.{AreaMap}
use Rattle.tlv_area.specs.Layout.{free}
use Rattle.tlv_area.specs.Map.{in_ranges}
use Rattle.tlv_area.specs.Tail.{map_tail, written, span}
use Rattle.tlv_area.specs.Writing.{IsPut, IsStepTo, closed_block, write_of, block_in, blocks_changed, blocks_below}
use Rattle.tlv_area.proofs.Blocks.{block_within, block_number}
use Rattle.tlv_area.proofs.planning.plan_steps.Goals as goal

pub closed_block-closed-requires-clause-within : goal.closed_block-closed-requires-clause-within
closed_block-closed-requires-clause-within c =
    let within = block_within c.length_place-place.result c.args.map.now.space.end c.args.block c.requires.some c.length_place-place.ensures.high in
    omega (arith, within, c.requires.within)

pub block_bytes-requires : goal.block_bytes-requires
block_bytes-requires c =
    let within = block_within c.length_place-place.result c.args.map.now.space.end c.args.block c.requires.some c.length_place-place.ensures.high in
    omega (arith, within, c.requires.within)

pub step_to-requires-clause-number : goal.step_to-requires-clause-number
step_to-requires-clause-number c =
    block_number c.length_place-place.result c.args.map.now.space.end c.args.block 65536 c.requires.some c.length_place-place.ensures.high c.requires.end

pub block_bytes-requires-2 : goal.block_bytes-requires-2
block_bytes-requires-2 c =
    let within = block_within c.length_place-place.result c.args.map.now.space.end c.args.block c.requires.some c.length_place-place.ensures.high in
    omega (arith, within, c.requires.within, ap length c.as_slice-new.ensures.value, c.in_ok-new.ensures.outside.size)

pub step_to-requires-2-clause-number : goal.step_to-requires-2-clause-number
step_to-requires-2-clause-number c =
    block_number c.length_place-place.result c.args.map.now.space.end c.args.block 65536 c.requires.some c.length_place-place.ensures.high c.requires.end

step_as : {k j : ℕ} {now other content same : List ℕ} (o : Option Step) → k ≡ j → now ≡ other → content ≡ same → IsStepTo k now content o → IsStepTo j other same o
step_as {k} {j} {now} {other} {content} {same} o ks nows contents is =
    subst (λ c. IsStepTo j other c o) contents (subst (λ c. IsStepTo j c content o) nows (subst (λ n. IsStepTo n now content o) ks is))

pub returns-clause-plan : goal.returns-clause-plan
returns-clause-plan c =
    let m : AreaMap = c.args.map.now in
    let r : ℕ → Bool = in_ranges m.reserved.items in
    let tail : List ℕ = map_tail m in
    let new : List ℕ = c.in_ok-new.new.items in
    let old : List ℕ = c.args.store.now in
    let size : ℕ = c.args.block in
    let tail_is : free r c.tail_start-tail.result m.space.end ≡ tail = c.tail_start-tail.ensures.tail in
    let counted = rw c.as_slice.ensures.value at c.count_free-room.ensures.count in
    let room_is : c.count_free-room.result ≡ length tail = counted ∙ ap length tail_is in
    let bytes_is : c.in_ok-owned.owned.items ≡ written (length tail) c.args.message.now = c.in_ok-owned.ensures ∙ ap (λ n. written n c.args.message.now) room_is in
    let cells : free r c.tail_start-tail.result c.span_end-to.result ≡ span tail c.args.message.now =
    c.span_end-to.ensures.span ∙ ap (λ bs. take (length bs) (free r c.tail_start-tail.result m.space.end)) c.as_slice-bytes.ensures.value
    ∙ ap (λ bs. take (length bs) (free r c.tail_start-tail.result m.space.end)) bytes_is
    ∙ ap (λ cs. take (length (written (length tail) c.args.message.now)) cs) tail_is in
    let put_there = rw c.as_slice-bytes.ensures.value at c.in_ok-new.ensures in
    let put_bytes : IsPut (span tail c.args.message.now) old new (written (length tail) c.args.message.now) =
    subst (λ cs. IsPut cs old new (written (length tail) c.args.message.now)) cells
    (subst (λ bs. IsPut (free r c.tail_start-tail.result c.span_end-to.result) old new bs) bytes_is put_there) in
    let place : c.length_place-place.result ≡ slice_index tail 0 = c.length_place-place.ensures.place in
    let new_bytes : c.as_slice-new.result.now ≡ new = c.as_slice-new.ensures.value in
    let filled = rw new_bytes at c.in_ok-fill.ensures in
    let stored : c.block_bytes.result.now ≡ block_of size old (slice_index tail 0 / size) =
    c.block_bytes.ensures ∙ ap (λ p. block_of size old (p / size)) place in
    let closed : c.closed_block-closed.result.items ≡ closed_block size tail old =
    c.closed_block-closed.ensures ∙ ap (λ p. slice_set (block_of size old (p / size)) (p % size) 0) place in
    let shown : c.block_bytes-2.result.now ≡ block_of size new (slice_index tail 0 / size) =
    c.block_bytes-2.ensures ∙ ap (λ bs. block_of size bs (c.length_place-place.result / size)) new_bytes ∙ ap (λ p. block_of size new (p / size)) place in
    let home_is : c.length_place-place.result / size ≡ slice_index tail 0 / size = ap (λ p. p / size) place in (
      new,
      put_bytes,
      record {
        close = step_as c.step_to.result home_is stored (c.as_slice-2.ensures.value ∙ closed) c.step_to.ensures;
        fill = ap (λ ss. map write_of ss) c.new.ensures ∙ filled
            ∙ ap (λ cs. map (λ k. block_in size new k) (blocks_changed size cs (c.length_place-place.result / size) old new (blocks_below size m.space.end))) cells
            ∙ ap (λ p. map (λ k. block_in size new k) (blocks_changed size (span tail c.args.message.now) (p / size) old new (blocks_below size m.space.end))) place;
        last = step_as c.step_to-2.result home_is (c.as_slice-3.ensures.value ∙ closed) shown c.step_to-2.ensures;
      },
    )
