-- What a link that is opened at a place leaves, by what came of ATR_REQ.
use Rattle.std.proofs.Common.{◌≡◌, ℕ, ◌+◌, length, false, Result, Ok, Err, ◌∙◌, ap, subst}
use Rattle.std.specs.Prelude.{IfOk, IfErr, OnOk, OnErr}
use Rattle.nfc_base.specs.declared.carrier.EndCause.TheVariants.{Protocol}
use Rattle.nfc_base.specs.declared.carrier.LinkEnd.{LinkEnd}
use Rattle.air_core.specs.Turn.{Air, moment}
use Rattle.arrayvec.specs.ArrayVec.{ArrayVec}
use Rattle.dep_link.specs.Activating.{by_cause}
use Rattle.dep_link.specs.Initiator.{InitState}
use Rattle.llcp_link.specs.Answering.{Answers}
use Rattle.snep_core.specs.Server.{serving}
use Rattle.bench_devices.specs.declared.device.Device.{Device}
use Rattle.bench_devices.specs.Device.{is_tag}
use Rattle.bench_devices.specs.Opening.{OpensAny, OpeningEnds}
use Rattle.bench_devices.specs.Phases.{Stands}
use Rattle.bench_world.specs.declared.bench.ObeyFault.{ObeyFault}
use Rattle.bench_world.specs.declared.bench.ObeyFault.TheVariants as faults
use Rattle.bench_world.specs.declared.entry.Answer.{Answer}
use Rattle.bench_world.specs.declared.entry.Answer.TheVariants as answers
use Rattle.bench_world.specs.World.{FarEnd}
use Rattle.bench_world.specs.Linking.{own_general, new_client}
use Rattle.bench_world.specs.private.LinkedAt.{restarts, NotOpened, machines_at_start, moved_at, LinkLeft, OpensAt}
use Rattle.bench_world.specs.Obeying.{Machines}

module _ (m : Machines) (place miu rw n : ℕ) (far : FarEnd) (new : Air Device) (after : FarEnd) (r : Result (InitState × ArrayVec ℕ) LinkEnd)
    (asks : OpensAny restarts (Answers serving 0) m.air far new after (own_general miu) (by_cause r)) where
  -- ATR_RES came
  pub opens_ok : (i : InitState) (told : ArrayVec ℕ) → r ≡ Ok (i, told) → (result : Result Answer ObeyFault) (now : Machines)
      → OnOk result (now ≡ machines_at_start (moved_at m new place after) n (length far.service.accepted) i (new_client miu rw told.items))
      → IfOk result (λ a. a ≡ answers.Linked (length m.peers.links + 1))
      → IfErr result (λ e. e ≡ faults.Memory) → OnErr result (now ≡ moved_at m new place after) → OpensAt m now place miu rw n far result
  opens_ok i told is result now opened linked wanting same = record {
    air = new;
    after = after;
    came = Ok (i, told);
    asks = subst (OpensAny restarts (Answers serving 0) m.air far new after (own_general miu)) (ap by_cause is) asks;
    left = by_result result opened linked wanting same;
  }
    where
      by_result : (q : Result Answer ObeyFault) → OnOk q (now ≡ machines_at_start (moved_at m new place after) n (length far.service.accepted) i (new_client miu rw told.items))
          → IfOk q (λ a. a ≡ answers.Linked (length m.peers.links + 1)) → IfErr q (λ e. e ≡ faults.Memory) → OnErr q (now ≡ moved_at m new place after)
          → LinkLeft (moved_at m new place after) miu rw n (length far.service.accepted) (Ok (i, told)) q now
      by_result (Ok a) o l w s = (l, o)
      by_result (Err e) o l w s = (w, s)

  -- it didn't
  pub opens_err : (e : LinkEnd) → r ≡ Err e → (result : Result Answer ObeyFault) (now : Machines) → NotOpened e.cause result → now ≡ moved_at m new place after
      → OpensAt m now place miu rw n far result
  opens_err e is result now told same = record {
    air = new;
    after = after;
    came = Err e.cause;
    asks = subst (OpensAny restarts (Answers serving 0) m.air far new after (own_general miu)) (ap by_cause is) asks;
    left = (told, same);
  }

  -- no answer comes that isn't allowed
  pub never_odd : (e : LinkEnd) → r ≡ Err e → (d : Device) (at : ℕ) → Stands (moment m.air) at d → is_tag d ≡ false → e.cause ≡ Protocol → ⊥
  never_odd e is d at stands peer odd = subst (OpeningEnds new at d) (ap by_cause is ∙ ap (λ c. Err c) odd) (asks at d stands peer).ends
