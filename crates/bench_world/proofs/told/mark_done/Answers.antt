use Rattle.std.proofs.Common.{◌≡◌, ◌<◌, ℕ, List, length, get_or, false, ◌∙◌, ap, arith}
use Rattle.snep_core.specs.Slots.{slot_count}
use Rattle.bench_world.specs.declared.entry.SlotDone.{SlotDone}
use Rattle.bench_world.specs.private.LinkTaken.{is_success, marked_done}
use Rattle.bench_world.proofs.open_link.SlotsTold.{map_next, rest_next}
use Rattle.bench_world.proofs.told.mark_done.Goals as goal

pub loop-one-preserved : goal.loop-one-preserved
loop-one-preserved c =
    let i : ℕ = c.loop-one.one-index in
    let ds : List SlotDone = c.loop-one.done in
    let d : SlotDone = record { slot = 0; success = false } in
    let y : SlotDone = record { slot = (get_or ds i d).slot; success = c.is_success-one.result } in
    let within : i < length ds = omega (arith, c.loop-one-test.true) in
    let told : y ≡ marked_done c.args.client.now.slots (get_or ds i d) =
    ap (λ v. record { slot = (get_or ds i d).slot; success = v }) (c.is_success-one.ensures ∙ ap is_success c.outcome.ensures) in
    record {
      told = c.loop-one.invariant.told ∙ map_next (marked_done c.args.client.now.slots) i ds y d within told;
      within = rest_next (λ (x : SlotDone). x.slot < slot_count) i ds y d within c.loop-one.invariant.within;
    }
