-- What sending frames of a script's own to the selected peer does, by its parts: ATR_REQ first, and then the frames.
use Rattle.std.proofs.Common.{◌≡◌, inr, ℕ, List, length, true, false, Result, Ok, Err, refl, ap, subst}
use Rattle.nfc_base.specs.Choosing.{Choosing}
use Rattle.nfc_base.specs.Signal.{Signal}
use Rattle.nfc_base.specs.declared.carrier.LinkEnd.{LinkEnd}
use Rattle.air_core.specs.Turn.{Air, moment}
use Rattle.arrayvec.specs.ArrayVec.{ArrayVec}
use Rattle.dep_link.specs.Activating.{by_cause}
use Rattle.dep_link.specs.Initiator.{InitState}
use Rattle.llcp_link.specs.Counting.{AnswersCounted, RestartsCounted}
use Rattle.snep_core.specs.Server.{serving}
use Rattle.bench_devices.specs.declared.device.Device.{Device}
use Rattle.bench_devices.specs.Device.{is_tag}
use Rattle.bench_devices.specs.Opening.{Opened, OpensAny, OpeningEnds}
use Rattle.bench_devices.specs.Phases.{Stands}
use Rattle.bench_world.specs.declared.bench.ObeyFault.{ObeyFault}
use Rattle.bench_world.specs.declared.entry.Answer.{Answer}
use Rattle.bench_world.specs.private.ForgedAt.{left_by}
use Rattle.bench_world.specs.Forging.{forged_general}
use Rattle.bench_world.specs.Obeying.{Machines}
use Rattle.bench_world.specs.private.RawAt.{HeardEach, RawSendsAll, RawSendsTo, SendsCounted, SentRaw, told_raw}
use Rattle.bench_world.specs.World.{FarEnd}

module _ (old mid : Air Device) (far half : Choosing FarEnd) (r : Result (InitState × ArrayVec ℕ) LinkEnd)
    (asks : OpensAny (RestartsCounted serving) (AnswersCounted serving) old far mid half forged_general (by_cause r)) where
  -- where ATR_RES came the field is lit
  pub opened_lit : (p : InitState × ArrayVec ℕ) → r ≡ Ok p → (place : ℕ) (d : Device) → Stands (moment old) place d → is_tag d ≡ false → mid.lit ≡ true
  opened_lit p is place d stands peer =
      let o : Opened mid place d p.0 p.1.items = subst (OpeningEnds mid place d) (ap by_cause is) (asks place d stands peer).ends in
      o.here.step.0

  pub raws_ok : (p : InitState × ArrayVec ℕ) → r ≡ Ok p → (frames : List Signal) (new : Air Device) (after : Choosing FarEnd) (came : HeardEach)
      → SendsCounted mid half frames new after came → RawSendsAll old far frames new after (Ok came)
  raws_ok p is frames new after came sends = record {
    mid = mid;
    half = half;
    came = Ok p;
    asks = subst (OpensAny (RestartsCounted serving) (AnswersCounted serving) old far mid half forged_general) (ap by_cause is) asks;
    behind = sends;
  }

  pub raws_err : (e : LinkEnd) → r ≡ Err e → (frames : List Signal) → RawSendsAll old far frames mid half (Err e.cause)
  raws_err e is frames = record {
    mid = mid;
    half = half;
    came = Err e.cause;
    asks = subst (OpensAny (RestartsCounted serving) (AnswersCounted serving) old far mid half forged_general) (ap by_cause is) asks;
    behind = (refl, refl, refl);
  }

pub raws_to : (m now : Machines) (place : ℕ) (counts : List ℕ) (frames : List Signal) (peer : ℕ) (far : FarEnd) (air : Air Device) (after : Choosing FarEnd) (sent : SentRaw)
    (result : Result Answer ObeyFault)
    → RawSendsAll m.air (record { end = far; numbers = counts }) frames air after sent → result ≡ told_raw sent → now ≡ left_by sent m air place after.end peer (length far.service.accepted)
    → RawSendsTo m now place counts frames peer far result
raws_to m now place counts frames peer far air after sent result sends told left = inr (record { air = air; after = after; sent = sent; sends = sends; told = told; left = left })
