-- What sending payloads to the selected peer does, by its parts: ATR_REQ first, and then the exchanges.
use Rattle.std.proofs.Common.{◌≡◌, inr, ℕ, zero, suc, List, [], ◌∷◌, ◌++◌, length, Bool, true, false, if◌then◌else◌, Option, Some, Result, Ok, Err, refl, ◌∙◌, ap, subst}
use Rattle.std.specs.Prelude.{IfOk, IfErr, is_ok, slice_set}
use Rattle.nfc_base.specs.Choosing.{Choosing}
use Rattle.nfc_base.specs.declared.carrier.EndCause.{EndCause}
use Rattle.nfc_base.specs.declared.carrier.LinkEnd.{LinkEnd}
use Rattle.air_core.specs.Turn.{Air, moment}
use Rattle.arrayvec.specs.ArrayVec.{ArrayVec}
use Rattle.dep_link.specs.Activating.{by_cause}
use Rattle.dep_link.specs.DepLinks.{over_at}
use Rattle.dep_link.specs.Initiator.{InitState}
use Rattle.llcp_link.specs.Counting.{AnswersCounted, RestartsCounted}
use Rattle.snep_core.specs.Server.{serving}
use Rattle.link_calls.specs.Carrying.{IsOpen, IsWalked, IsWalkCut}
use Rattle.link_calls.specs.Exchanging.{by_hand, sending}
use Rattle.bench_devices.specs.declared.device.Device.{Device}
use Rattle.bench_devices.specs.Device.{device_end, is_tag}
use Rattle.bench_devices.specs.Keeping.{ghosts}
use Rattle.bench_devices.specs.Opening.{Opened, OpensAny, OpeningEnds}
use Rattle.bench_devices.specs.Phases.{Stands}
use Rattle.bench_world.specs.declared.bench.ObeyFault.{ObeyFault}
use Rattle.bench_world.specs.declared.entry.Answer.{Answer}
use Rattle.bench_world.specs.declared.inbox.LinkRange.{LinkRange}
use Rattle.bench_world.specs.private.ForgedAt.{Exchanges, SendsAll, SendsTo, Sent, left_by, told_sent}
use Rattle.bench_world.specs.Forging.{forged_general}
use Rattle.bench_world.specs.Obeying.{Machines}
use Rattle.bench_world.specs.World.{FarEnd}

module _ (old mid : Air Device) (far half : Choosing FarEnd) (r : Result (InitState × ArrayVec ℕ) LinkEnd)
    (asks : OpensAny (RestartsCounted serving) (AnswersCounted serving) old far mid half forged_general (by_cause r)) where
  -- where ATR_RES came a link is open
  pub open_from : (i : InitState) (told : ArrayVec ℕ) → r ≡ Ok (i, told) → (place : ℕ) (d : Device) → Stands (moment old) place d → is_tag d ≡ false → IsOpen ghosts device_end mid i
  open_from i told is place d stands peer =
      let o : Opened mid place d i told.items = subst (OpeningEnds mid place d) (ap by_cause is) (asks place d stands peer).ends in
      record { in_step = o.here.step; going = ap (λ (x : InitState). over_at x.phase true) o.initiator }

  pub sends_ok : (i : InitState) (told : ArrayVec ℕ) → r ≡ Ok (i, told) → (payloads : List (List ℕ)) (new : Air Device) (j : InitState) (after : Choosing FarEnd)
      (came : Result (List (List ℕ)) EndCause)
      → IfOk came (λ replies. IsWalked ghosts device_end by_hand (sending payloads []) mid i half new j after replies)
      → IfErr came (λ why. IsWalkCut ghosts device_end by_hand (sending payloads []) mid i half new j after why) → SendsAll old far payloads new after (Ok came)
  sends_ok i told is payloads new j after came ok err = record {
    mid = mid;
    half = half;
    came = Ok (i, told);
    asks = subst (OpensAny (RestartsCounted serving) (AnswersCounted serving) old far mid half forged_general) (ap by_cause is) asks;
    behind = (j, by came ok err);
  }
    where
      by : (q : Result (List (List ℕ)) EndCause) → IfOk q (λ replies. IsWalked ghosts device_end by_hand (sending payloads []) mid i half new j after replies)
          → IfErr q (λ why. IsWalkCut ghosts device_end by_hand (sending payloads []) mid i half new j after why) → Exchanges payloads mid i half new j after q
      by (Ok replies) ok err = ok
      by (Err why) ok err = err

  pub sends_err : (e : LinkEnd) → r ≡ Err e → (payloads : List (List ℕ)) → SendsAll old far payloads mid half (Err e.cause)
  sends_err e is payloads = record {
    mid = mid;
    half = half;
    came = Err e.cause;
    asks = subst (OpensAny (RestartsCounted serving) (AnswersCounted serving) old far mid half forged_general) (ap by_cause is) asks;
    behind = (refl, refl, refl);
  }

-- An end that was taken from its place is put back there.
pub set_twice : (os : List (Option FarEnd)) (n : ℕ) (x y : Option FarEnd) → slice_set (slice_set os n x) n y ≡ slice_set os n y
set_twice [] n x y = refl
set_twice (o ∷ os) zero x y = refl
set_twice (o ∷ os) (suc n) x y = ap (λ xs. o ∷ xs) (set_twice os n x y)

module _ (m : Machines) (air : Air Device) (place : ℕ) (half : Option FarEnd) (after : FarEnd) (peer start behind : ℕ) (links : List LinkRange)
    (behind_is : behind ≡ length after.service.accepted) where
  abbrev made : List (Option FarEnd) → List LinkRange → Machines
  made os ls = record { air = air; ends = os; peers = record { numbers = m.peers.numbers; gone = m.peers.gone; links = ls }; link = m.link }

  abbrev more : Bool → ℕ → List LinkRange
  more v k = if v then m.peers.links ++ record { peer = peer; start = start; end = Some k } ∷ [] else m.peers.links

  -- the machines behind payloads that were sent, with one link more where one was opened
  pub left_is : {X : Type 0} (sent : Result X EndCause) (opened : Bool) → opened ≡ is_ok sent → links ≡ more opened behind
      → made (slice_set (slice_set m.ends place half) place (Some after)) links ≡ left_by sent m air place after peer start
  left_is (Ok came) opened is added =
      ap (λ os. made os links) (set_twice m.ends place half (Some after)) ∙ ap (made (slice_set m.ends place (Some after))) (added ∙ ap (λ v. more v behind) is ∙ ap (more true) behind_is)
  left_is (Err why) opened is added =
      ap (λ os. made os links) (set_twice m.ends place half (Some after)) ∙ ap (made (slice_set m.ends place (Some after))) (added ∙ ap (λ v. more v behind) is)

pub sends_to : (m now : Machines) (place : ℕ) (counts : List ℕ) (payloads : List (List ℕ)) (peer : ℕ) (far : FarEnd) (air : Air Device) (after : Choosing FarEnd) (sent : Sent)
    (result : Result Answer ObeyFault)
    → SendsAll m.air (record { end = far; numbers = counts }) payloads air after sent → result ≡ told_sent sent → now ≡ left_by sent m air place after.end peer (length far.service.accepted)
    → SendsTo m now place counts payloads peer far result
sends_to m now place counts payloads peer far air after sent result sends told left = inr (record { air = air; after = after; sent = sent; sends = sends; told = told; left = left })
