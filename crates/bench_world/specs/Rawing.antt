-- What is due while frames of a script's own are sent to a device, and what is answered (NFCIP-1, ISO/IEC 18092; NFC
-- Forum Digital Protocol; that each frame is sent once, whatever is heard of it, is this project's own).
use Rattle.std.specs.Prelude.{◌≡◌, ◌↔◌, ℕ, suc, ◌<◌, nat_lt, List, [], ◌∷◌, ◌++◌, Bool, true, false, if◌then◌else◌}
use Rattle.std.specs.Prelude.{Option, Some, None, Result, Ok, Err}
use Rattle.nfc_base.specs.Signal.{Signal}
use Rattle.nfc_base.specs.Trace.{breaks, noise}
use Rattle.nfc_base.specs.declared.carrier.EndCause.{EndCause}
use Rattle.nfc_base.specs.declared.carrier.EndCause.TheVariants as cause
use Rattle.nfc_base.specs.declared.event.Event.{Event}
use Rattle.nfc_base.specs.declared.event.Heard.{Heard}
use Rattle.nfc_base.specs.declared.event.Heard.TheVariants.{Whole, Collided, Damaged, Silent}
use Rattle.air_core.specs.Conversation.{Note, Lit, Got, Lost, Next, Over, Asks, receptions}
use Rattle.nfca_poll.specs.declared.fault.PollFault.{PollFault}
use Rattle.arrayvec.specs.ArrayVec.{ArrayVec}
use Rattle.dep_link.specs.Activating.{atr_frame, told_atr}
use Rattle.dep_link.specs.Frames.{spelled}
use Rattle.bench_script.specs.declared.command.DeviceId.{DeviceId}
use Rattle.bench_devices.specs.declared.device.Device.{Device}
use Rattle.bench_devices.specs.declared.polling.SeenKind.{SeenKind}
use Rattle.bench_devices.specs.declared.polling.SeenKind.TheVariants as seen
use Rattle.bench_devices.specs.Answering.{HasPollCause}
use Rattle.bench_devices.specs.Polling as polls
use Rattle.bench_devices.specs.Polling.{Followed, Told, selecting}
use Rattle.bench_world.specs.declared.entry.Answer.{Answer}
use Rattle.bench_world.specs.declared.entry.Answer.TheVariants as answers
use Rattle.bench_world.specs.declared.entry.Loss.TheVariants as losses
use Rattle.bench_world.specs.declared.entry.RawHeard.{RawHeard}
use Rattle.bench_world.specs.declared.entry.RawHeard.TheVariants as raws
use Rattle.bench_world.specs.Answering.{poll_answer}
use Rattle.bench_world.specs.Calls.{told_loss}
use Rattle.bench_world.specs.Forging.{forged_general}
use Rattle.bench_world.specs.Linking.{IsFieldLost}

-- what is told of a frame, by what was heard of its turn
abbrev pub raw_heard : Heard → RawHeard
raw_heard (Whole f) = raws.Whole f
raw_heard (Collided f) = raws.Clash
raw_heard Damaged = raws.Damaged
raw_heard Silent = raws.Silent

-- Where it stands once a device is selected: ATR_REQ, which a peer is asked first, had so many bad receptions; its wait
-- ended by a fault; this was heard of the frames so far, and those are left; the field was lost at a frame; or
-- something was heard that belongs to none of this.
pub data Rawing : Type 0 where
  Activates : ℕ → Rawing
  Unlinked : EndCause → Rawing
  Sends : List RawHeard → List Signal → Rawing
  Dark : Rawing
  Strays : Rawing

-- a whole answer to ATR_REQ: the frames follow
abbrev pub raw_linked_by : List Signal → Option (ℕ × ArrayVec ℕ) → Rawing
raw_linked_by frames None = Strays
raw_linked_by frames (Some p) = Sends [] frames

-- a bad reception: ATR_REQ is asked again, up to the sixth
abbrev pub raw_bad_again : ℕ → Rawing
raw_bad_again bad = if nat_lt bad 5 then Activates (suc bad) else Unlinked cause.SixBad

abbrev pub raw_heard_atr : List Signal → ℕ → Heard → Rawing
raw_heard_atr frames bad (Whole f) = raw_linked_by frames (told_atr (spelled f))
raw_heard_atr frames bad (Collided f) = raw_bad_again bad
raw_heard_atr frames bad Damaged = raw_bad_again bad
raw_heard_atr frames bad Silent = raw_bad_again bad

-- a frame is sent once: whatever is heard of it, the next one follows
abbrev pub raw_sent : List RawHeard → List Signal → Note → Rawing
raw_sent heard left Lit = Strays
raw_sent heard left (Got h) = Sends (heard ++ raw_heard h ∷ []) left
raw_sent heard left Lost = Dark

abbrev pub raw_noted : List Signal → Rawing → Note → Rawing
raw_noted frames (Activates bad) Lit = Strays
raw_noted frames (Activates bad) (Got h) = raw_heard_atr frames bad h
raw_noted frames (Activates bad) Lost = Unlinked cause.FieldLost
raw_noted frames (Sends heard (f ∷ left)) n = raw_sent heard left n
raw_noted frames (Sends heard []) n = Strays
raw_noted frames (Unlinked why) n = Strays
raw_noted frames Dark n = Strays
raw_noted frames Strays n = Strays

abbrev pub raw_stand : List Signal → Rawing → List Note → Rawing
raw_stand frames s [] = s
raw_stand frames s (n ∷ ns) = raw_stand frames (raw_noted frames s n) ns

abbrev pub raw_due : Rawing → Next
raw_due (Activates bad) = Asks (atr_frame forged_general)
raw_due (Sends heard (f ∷ left)) = Asks f
raw_due (Sends heard []) = Over
raw_due (Unlinked why) = Over
raw_due Dark = Over
raw_due Strays = Over

-- a peer is activated first
abbrev pub raw_first : SeenKind → List Signal → Rawing
raw_first seen.Peer frames = Activates 0
raw_first seen.T2 frames = Sends [] frames
raw_first seen.T4 frames = Sends [] frames
raw_first seen.T5 frames = Sends [] frames

-- where it stands behind the selection of a device that is seen to be this
abbrev pub raw_behind : List Signal → SeenKind → List Note → Rawing
raw_behind frames kind ns = raw_stand frames (raw_first kind frames) ns

abbrev pub then_raws : List Signal → Followed SeenKind → Next
then_raws frames (polls.Asks n) = n
then_raws frames (Told (Ok kind) ns) = raw_due (raw_behind frames kind ns)
then_raws frames (Told (Err e) ns) = Over

-- what is due while frames are sent to the device with an identifier
abbrev pub rawing : DeviceId → List Signal → List Note → Next
rawing id frames ns = then_raws frames (selecting id ns)

-- Whether a link was opened, by what was heard: a peer answered ATR_REQ by ATR_RES.
abbrev pub are_sent : Rawing → Bool
are_sent (Sends heard left) = true
are_sent Dark = true
are_sent _ = false

abbrev pub raw_linked : List Signal → SeenKind → List Note → Bool
raw_linked frames seen.Peer ns = are_sent (raw_behind frames seen.Peer ns)
raw_linked frames _ ns = false

abbrev pub raw_linked_then : List Signal → Followed SeenKind → Bool
raw_linked_then frames (Told (Ok kind) ns) = raw_linked frames kind ns
raw_linked_then frames _ = false

abbrev pub raw_opens : DeviceId → List Signal → List Event → Bool
raw_opens id frames events = raw_linked_then frames (selecting id (receptions events))

-- the answer by where it stands: what was heard of each frame, that the field was lost at one, or by what activating
-- ended
abbrev pub told_rawing : Rawing → Option Answer
told_rawing (Sends heard []) = Some (answers.Heard heard)
told_rawing (Sends heard (f ∷ left)) = None
told_rawing Dark = Some answers.FieldLost
told_rawing (Unlinked why) = told_loss why
told_rawing (Activates bad) = None
told_rawing Strays = None

-- What is answered once polling ended: its faults come first.
abbrev pub RawEnds : List Signal → Result SeenKind PollFault → List Note → Answer → Type 0
RawEnds frames (Ok kind) behind answer = told_rawing (raw_behind frames kind behind) ≡ Some answer
RawEnds frames (Err e) behind answer = poll_answer e ≡ Some answer

-- The law of the answer, over the devices that are placed: first a device is selected, then, if it is a peer, it is
-- activated, and each frame is sent once. The field is lost exactly where a Break was used, and without noise no wait
-- has six bad receptions.
pub record RawTells (id : DeviceId) (ds : List Device) (frames : List Signal) (events : List Event) (answer : Answer)
    : Type 0 where
  pub polled : Result SeenKind PollFault
  pub behind : List Note
  pub selected : selecting id (receptions events) ≡ Told polled behind
  pub cause : HasPollCause id ds polled events
  pub ends : RawEnds frames polled behind answer
  pub lost : IsFieldLost answer ↔ (0 < breaks events)
  pub noisy : answer ≡ answers.LinkEnded losses.SixBad → 0 < noise events
