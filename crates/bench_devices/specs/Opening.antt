-- Opening a link to a peer of the bench that is selected: which request is due, and what is there once it ended
-- (NFCIP-1, ISO/IEC 18092; NFC Forum Digital Protocol).
use Rattle.std.specs.Prelude.{◌≡◌, ◌↔◌, ℕ, ◌<◌, List, [], ◌∷◌, true, false, Result, Ok, Err}
use Rattle.std.specs.Result.{IfOk}
use Rattle.nfc_base.specs.LinkTurns.{bad_receptions}
use Rattle.nfc_base.specs.Trace.{breaks, noise}
use Rattle.nfc_base.specs.declared.carrier.EndCause.{EndCause}
use Rattle.nfc_base.specs.declared.carrier.EndCause.TheVariants.{FieldLost, SixBad, Protocol, Memory}
use Rattle.air_core.specs.Conversation.{Note, Next, Over}
use Rattle.air_core.specs.Speaking.{Speaks}
use Rattle.air_core.specs.Turn.{Air, moment}
use Rattle.air_core.specs.Waits.{stand}
use Rattle.arrayvec.specs.ArrayVec.{ArrayVec}
use Rattle.dep_link.specs.Initiator.{InitState, waiting}
use Rattle.dep_link.specs.Activating.{atr_frame, RestartedTimes}
use Rattle.dep_link.specs.AnyTarget.{AnswersAtr, atr_next}
use Rattle.bench_script.specs.declared.command.DeviceId.{DeviceId}
use Rattle.bench_devices.specs.declared.device.Device.{Device}
use Rattle.bench_devices.specs.declared.polling.SeenKind.{SeenKind}
use Rattle.bench_devices.specs.declared.polling.SeenKind.TheVariants as seen
use Rattle.bench_devices.specs.Beside.{TalkLeaves, InStepAt}
use Rattle.bench_devices.specs.Device.{devices, device_id, device_target, is_tag}
use Rattle.bench_devices.specs.Keeping.{kept}
use Rattle.bench_devices.specs.Peers.{IsMadePeer}
use Rattle.bench_devices.specs.Phases.{Stands}
use Rattle.bench_devices.specs.Polling as polls
use Rattle.bench_devices.specs.Polling.{Followed, Told, selecting}

-- Behind the selection of a peer ATR_REQ is asked, with these general bytes; a tag is asked for no link.
abbrev pub peer_next : SeenKind → List ℕ → List Note → Next
peer_next seen.T2 general ns = Over
peer_next seen.T4 general ns = Over
peer_next seen.Peer general ns = atr_next general ns
peer_next seen.T5 general ns = Over

abbrev pub then_opens : List ℕ → Followed SeenKind → Next
then_opens general (polls.Asks n) = n
then_opens general (Told (Ok kind) ns) = peer_next kind general ns
then_opens general (Told (Err e) ns) = Over

-- what is due while a link is opened to the device with an identifier, by an initiator with these general bytes
abbrev pub linking : DeviceId → List ℕ → List Note → Next
linking id general ns = then_opens general (selecting id ns)

-- A link is open to the peer that stood at a place, which was made as a peer may be: its initiator cuts to this peer's
-- LR code, and was told its general bytes. Both ends are in step, and all that stays of the peer is as it was.
pub record Opened (new : Air Device) (place : ℕ) (d : Device) (i : InitState) (told : List ℕ) : Type 0 where
  pub made : IsMadePeer (device_id d) (device_target d)
  pub initiator : i ≡ waiting (device_target d).lr
  pub general : told ≡ (device_target d).general
  pub here : InStepAt new place i
  pub same : kept here.step.1.listener ≡ kept d

-- what is there, by how it ended; no answer comes that isn't allowed
abbrev pub OpeningEnds : Air Device → ℕ → Device → Result (InitState × ArrayVec ℕ) EndCause → Type 0
OpeningEnds new place d (Ok p) = Opened new place d p.0 p.1.items
OpeningEnds new place d (Err FieldLost) = new.lit ≡ false
OpeningEnds new place d (Err SixBad) = new.lit ≡ true
OpeningEnds new place d (Err Protocol) = ⊥
OpeningEnds new place d (Err Memory) = new.lit ≡ true

-- So it was asked of the peer at a place, up to some end: each request was due, and this is told by what was heard. The
-- field is lost exactly where a Break was used, and a reception was bad only where a transmission didn't pass. The far
-- end was restarted with these general bytes as often as ATR_REQ arrived, once at least where the link is open.
pub record Opens {F : Type 0} (restarts : F → List ℕ → F → Type 0) (steps : F → List ℕ → List ℕ → F → Type 0)
    (old : Air Device) (far : F) (new : Air Device) (after : F)
    (general : List ℕ) (place : ℕ) (d : Device) (result : Result (InitState × ArrayVec ℕ) EndCause) : Type 0 where
  pub notes : List Note
  pub speaks : Speaks devices restarts steps (atr_next general) old far new after notes
  pub answers : AnswersAtr true notes (stand 0 (atr_frame general ∷ []) notes) result
  pub lost : (result ≡ Err FieldLost) ↔ (0 < breaks speaks.events)
  pub noisy : result ≡ Err SixBad → 0 < noise speaks.events
  pub calm : noise speaks.events ≡ 0 → bad_receptions speaks.events ≡ 0
  pub times : ℕ
  pub restarted : RestartedTimes restarts general times far after
  pub begun : IfOk result (λ p. 0 < times)
  pub ends : OpeningEnds new place d result
  pub leaves : TalkLeaves (device_id d) place old.listeners new.listeners

-- so it was, of whatever peer stands at a place
abbrev pub OpensAny : {F : Type 0} → (F → List ℕ → F → Type 0) → (F → List ℕ → List ℕ → F → Type 0) → Air Device → F
    → Air Device → F → List ℕ → Result (InitState × ArrayVec ℕ) EndCause → Type 0
OpensAny restarts steps old far new after general result =
    (place : ℕ) (d : Device) → Stands (moment old) place d → is_tag d ≡ false
    → Opens restarts steps old far new after general place d result
