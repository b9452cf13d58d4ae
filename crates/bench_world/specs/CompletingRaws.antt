-- What a sending of frames of a script's own comes to where noise doesn't keep it from that: no Break was used, polling
-- had one round, of a Type 5 tag one try, without noise, and ATR_REQ, where a peer was asked it, had fewer than six bad
-- receptions (this project's own).
use Rattle.std.specs.Prelude.{◌≡◌, ℕ, List, length, Some, Ok}
use Rattle.nfc_base.specs.Signal.{Signal}
use Rattle.nfc_base.specs.Trace.{breaks}
use Rattle.nfc_base.specs.declared.carrier.EndCause.TheVariants as cause
use Rattle.nfc_base.specs.declared.event.Event.{Event}
use Rattle.air_core.specs.Conversation.{Note, receptions}
use Rattle.bench_script.specs.declared.command.Command.TheVariants.{Raw}
use Rattle.bench_script.specs.declared.command.DeviceId.{DeviceId}
use Rattle.bench_script.specs.DeviceIds.{bytes_of}
use Rattle.bench_devices.specs.declared.device.Device.{Device}
use Rattle.bench_devices.specs.declared.polling.SeenKind.{SeenKind}
use Rattle.bench_devices.specs.Answering.{IsNamed}
use Rattle.bench_devices.specs.Placed.{device_with}
use Rattle.bench_devices.specs.Polling.{Told, selecting}
use Rattle.bench_world.specs.declared.entry.Answer.{Answer}
use Rattle.bench_world.specs.declared.entry.Answer.TheVariants as answers
use Rattle.bench_world.specs.declared.entry.Entry.{Entry}
use Rattle.bench_world.specs.declared.entry.RawHeard.{RawHeard}
use Rattle.bench_world.specs.Completing.{IsQuietOnce}
use Rattle.bench_world.specs.Journal.{LeadsTo}
use Rattle.bench_world.specs.Legal.{State, Given, Joins, LegalStep}
use Rattle.bench_world.specs.Quiet.{AllPass}
use Rattle.bench_world.specs.Rawing.{Unlinked, raw_behind}

-- Nothing kept the frames from being sent.
pub record IsUndisturbedRaw (id : DeviceId) (frames : List Signal) (es : List Event) : Type 0 where
  pub lit : breaks es ≡ 0
  pub round : IsQuietOnce id es
  pub waits : (kind : SeenKind) (behind : List Note) → selecting id (receptions es) ≡ Told (Ok kind) behind
      → raw_behind frames kind behind ≡ Unlinked cause.SixBad → ⊥

-- what was heard of so many frames is told
abbrev pub IsHeardOf : ℕ → Answer → Type 0
IsHeardOf n answer = (heard : List RawHeard) × (answer ≡ answers.Heard heard) × (length heard ≡ n)

-- The entry sends frames to this device, which is placed.
pub record RawsPlaced (s : State) (e : Entry) (id : DeviceId) (frames : List Signal) (d : Device) : Type 0 where
  pub command : e.command ≡ Raw id frames
  pub placed : device_with (bytes_of id) s.world.field.listeners ≡ Some d
  pub named : IsNamed id d

-- So it is answered wherever the lines of a script lead: of each frame it is told what was heard.
abbrev pub RawsComplete : Type 0
RawsComplete =
    (lines : List (List ℕ)) (numbers : List Joins) (journal : List Entry) (s t : State) (g : Given) (e : Entry)
    (id : DeviceId) (frames : List Signal) (d : Device) → LeadsTo lines numbers journal s
    → LegalStep s g e t → RawsPlaced s e id frames d → IsUndisturbedRaw id frames e.events
    → IsHeardOf (length frames) e.answer

-- On quiet air, where no fate is left but Pass, nothing keeps them from that.
abbrev pub RawsQuietly : State → Entry → Type 0
RawsQuietly s e = (id : DeviceId) (frames : List Signal) (d : Device) → RawsPlaced s e id frames d
    → IsHeardOf (length frames) e.answer

abbrev pub QuietRaws : Type 0
QuietRaws =
    (lines : List (List ℕ)) (numbers : List Joins) (journal : List Entry) (s t : State) (g : Given) (e : Entry)
    → LeadsTo lines numbers journal s → LegalStep s g e t → AllPass s.queue
    → RawsQuietly s e
