-- What is due while payloads that were written by hand are sent to a peer over a link of their own, and what is
-- answered (NFCIP-1, ISO/IEC 18092; NFC Forum Digital Protocol; that such a link has a number is this project's own).
use Rattle.std.specs.Prelude.{◌≡◌, ◌↔◌, ℕ, suc, ◌<◌, nat_lt, List, [], ◌∷◌, Bool, true, false, if◌then◌else◌, Option}
use Rattle.std.specs.Prelude.{Some, None, Result, Ok, Err}
use Rattle.std.specs.List.{AllByRecursion}
use Rattle.nfc_base.specs.Trace.{breaks, noise}
use Rattle.nfc_base.specs.declared.carrier.EndCause.{EndCause}
use Rattle.nfc_base.specs.declared.carrier.EndCause.TheVariants as cause
use Rattle.nfc_base.specs.declared.event.Event.{Event}
use Rattle.nfc_base.specs.declared.event.Heard.{Heard}
use Rattle.nfc_base.specs.declared.event.Heard.TheVariants.{Whole, Collided, Damaged, Silent}
use Rattle.air_core.specs.Conversation.{Note, Lit, Got, Lost, Next, Over, Asks, receptions}
use Rattle.nfca_poll.specs.declared.fault.PollFault.{PollFault}
use Rattle.arrayvec.specs.ArrayVec.{ArrayVec}
use Rattle.dep_link.specs.Activating.{atr_frame, told_atr}
use Rattle.dep_link.specs.Frames.{spelled}
use Rattle.dep_link.specs.Initiator.{waiting}
use Rattle.link_calls.specs.Exchanging.{Sending, by_hand, sending}
use Rattle.link_calls.specs.Walk as walks
use Rattle.link_calls.specs.Walk.{Walk, walk_at, walk_due_at, walk_noted}
use Rattle.llcp_pdu.specs.Wire.{least_miu}
use Rattle.bench_script.specs.declared.command.DeviceId.TheVariants as ids
use Rattle.bench_devices.specs.declared.device.Device.{Device}
use Rattle.bench_devices.specs.declared.polling.SeenKind.{SeenKind}
use Rattle.bench_devices.specs.declared.polling.SeenKind.TheVariants as seen
use Rattle.bench_devices.specs.Answering.{HasPollCause}
use Rattle.bench_devices.specs.Hearing.{IsAnswered}
use Rattle.bench_devices.specs.Polling as polls
use Rattle.bench_devices.specs.Polling.{Followed, Told, selecting}
use Rattle.bench_world.specs.declared.entry.Answer.{Answer}
use Rattle.bench_world.specs.declared.entry.Answer.TheVariants as answers
use Rattle.bench_world.specs.declared.entry.Loss.TheVariants as losses
use Rattle.bench_world.specs.Answering.{poll_answer}
use Rattle.bench_world.specs.Calls.{told_loss}
use Rattle.bench_world.specs.Linking.{IsFieldLost, own_general}

-- the general bytes that are said to the peer: those of an end of the least MIU
abbrev pub forged_general : List ℕ
forged_general = own_general least_miu

-- Where it stands once a peer is selected: ATR_REQ had so many bad receptions; its wait ended by a fault; a link is
-- open, over which the payloads are exchanged; or something was heard that belongs to none of this.
pub data Forging : Type 0 where
  Activates : ℕ → Forging
  Unlinked : EndCause → Forging
  Exchanges : Walk Sending (List (List ℕ)) → Forging
  Strays : Forging

-- a whole answer to ATR_REQ: the payloads are exchanged by an initiator that cuts to the peer's LR code
abbrev pub linked_by : List (List ℕ) → Option (ℕ × ArrayVec ℕ) → Forging
linked_by payloads None = Strays
linked_by payloads (Some p) = Exchanges (walk_at by_hand (sending payloads []) (waiting p.0))

-- a bad reception: ATR_REQ is asked again, up to the sixth
abbrev pub bad_again : ℕ → Forging
bad_again bad = if nat_lt bad 5 then Activates (suc bad) else Unlinked cause.SixBad

abbrev pub heard_atr : List (List ℕ) → ℕ → Heard → Forging
heard_atr payloads bad (Whole f) = linked_by payloads (told_atr (spelled f))
heard_atr payloads bad (Collided f) = bad_again bad
heard_atr payloads bad Damaged = bad_again bad
heard_atr payloads bad Silent = bad_again bad

abbrev pub forge_noted : List (List ℕ) → Forging → Note → Forging
forge_noted payloads (Activates bad) Lit = Strays
forge_noted payloads (Activates bad) (Got h) = heard_atr payloads bad h
forge_noted payloads (Activates bad) Lost = Unlinked cause.FieldLost
forge_noted payloads (Exchanges w) n = Exchanges (walk_noted by_hand w n)
forge_noted payloads (Unlinked why) n = Strays
forge_noted payloads Strays n = Strays

abbrev pub forge_stand : List (List ℕ) → Forging → List Note → Forging
forge_stand payloads s [] = s
forge_stand payloads s (n ∷ ns) = forge_stand payloads (forge_noted payloads s n) ns

abbrev pub forge_due : Forging → Next
forge_due (Activates bad) = Asks (atr_frame forged_general)
forge_due (Exchanges w) = walk_due_at w
forge_due (Unlinked why) = Over
forge_due Strays = Over

-- Behind the selection of a peer it goes on so; a tag is asked for no link.
abbrev pub peer_forges : List (List ℕ) → SeenKind → List Note → Next
peer_forges payloads seen.T2 ns = Over
peer_forges payloads seen.T4 ns = Over
peer_forges payloads seen.T5 ns = Over
peer_forges payloads seen.Peer ns = forge_due (forge_stand payloads (Activates 0) ns)

abbrev pub then_forges : List (List ℕ) → Followed SeenKind → Next
then_forges payloads (polls.Asks n) = n
then_forges payloads (Told (Ok kind) ns) = peer_forges payloads kind ns
then_forges payloads (Told (Err e) ns) = Over

-- what is due while payloads are sent to the device with an identifier
abbrev pub forging : List ℕ → List (List ℕ) → List Note → Next
forging id payloads ns = then_forges payloads (selecting (ids.A id) ns)

-- Whether a link was opened, by what was heard: ATR_REQ was answered by ATR_RES.
abbrev pub is_linked : Forging → Bool
is_linked (Exchanges w) = true
is_linked _ = false

abbrev pub peer_linked : List (List ℕ) → SeenKind → List Note → Bool
peer_linked payloads seen.Peer ns = is_linked (forge_stand payloads (Activates 0) ns)
peer_linked payloads _ ns = false

abbrev pub linked_then : List (List ℕ) → Followed SeenKind → Bool
linked_then payloads (Told (Ok kind) ns) = peer_linked payloads kind ns
linked_then payloads _ = false

abbrev pub opens_link : List ℕ → List (List ℕ) → List Event → Bool
opens_link id payloads events = linked_then payloads (selecting (ids.A id) (receptions events))

-- the answer by where it stands: the reply to each payload, or by what the link ended
abbrev pub told_walk : Walk Sending (List (List ℕ)) → Option Answer
told_walk (walks.Comes replies i) = Some (answers.Replies replies)
told_walk (walks.BrokenBy why) = told_loss why
told_walk _ = None

abbrev pub told_forging : Forging → Option Answer
told_forging (Exchanges w) = told_walk w
told_forging (Unlinked why) = told_loss why
told_forging _ = None

-- What is answered once polling ended: its faults come first, and a tag has no link as peers do.
abbrev pub ForgeEnds : List (List ℕ) → Result SeenKind PollFault → List Note → Answer → Type 0
ForgeEnds payloads (Ok seen.Peer) behind answer = told_forging (forge_stand payloads (Activates 0) behind) ≡ Some answer
ForgeEnds payloads (Ok seen.T2) behind answer = answer ≡ answers.WrongKind
ForgeEnds payloads (Ok seen.T4) behind answer = answer ≡ answers.WrongKind
ForgeEnds payloads (Ok seen.T5) behind answer = answer ≡ answers.WrongKind
ForgeEnds payloads (Err e) behind answer = poll_answer e ≡ Some answer

-- The law of the answer, over the devices that are placed: first a device is selected, then it is asked for a link, and
-- the payloads are exchanged. The field is lost exactly where a Break was used, and without noise no wait has six bad
-- receptions: each note behind the selection is a whole answer.
pub record ForgeTells (id : List ℕ) (ds : List Device) (payloads : List (List ℕ)) (events : List Event)
    (answer : Answer) : Type 0 where
  pub polled : Result SeenKind PollFault
  pub behind : List Note
  pub selected : selecting (ids.A id) (receptions events) ≡ Told polled behind
  pub cause : HasPollCause (ids.A id) ds polled events
  pub ends : ForgeEnds payloads polled behind answer
  pub lost : IsFieldLost answer ↔ (0 < breaks events)
  pub noisy : answer ≡ answers.LinkEnded losses.SixBad → 0 < noise events
  pub calm : noise events ≡ 0 → AllByRecursion IsAnswered behind
