-- What a command answers that polls, and the cause of each answer.
use Rattle.std.specs.Prelude.{◌≡◌, ◌↔◌, ◌<◌, ℕ, List, [], Option, Some, None, IsSome, ◌⊎◌, Result, Ok, Err}
use Rattle.nfc_base.specs.Signal.{Signal}
use Rattle.nfc_base.specs.Trace.{noise, breaks, turns}
use Rattle.nfc_base.specs.declared.event.Event.{Event}
use Rattle.nfc_base.specs.declared.tag_link.AskFault.{AskFault}
use Rattle.nfc_base.specs.declared.tag_link.AskFault.TheVariants as asking
use Rattle.air_core.specs.Conversation.{Note, EachDue, receptions}
use Rattle.nfca_poll.specs.declared.fault.PollFault.{PollFault}
use Rattle.nfca_poll.specs.declared.fault.PollFault.TheVariants as faults
use Rattle.tag_reader.specs.declared.fault.ReadFault.{ReadFault}
use Rattle.tag_reader.specs.declared.fault.ReadFault.TheVariants as reading
use Rattle.tag_reader.specs.declared.found.Found.{Found}
use Rattle.tag_writer.specs.declared.fault.WriteFault.TheVariants as writing
use Rattle.bench_script.specs.declared.command.DeviceId.{DeviceId}
use Rattle.bench_script.specs.DeviceIds.{bytes_of}
use Rattle.t3t_access.specs.declared.polling.Fcrowd.{Fcrowd}
use Rattle.t3t_access.specs.declared.polling.Fcrowd.TheVariants as threes
use Rattle.t3t_access.specs.Polling.{TellsPolledF}
use Rattle.bench_devices.specs.Crowding.{CrowdTells}
use Rattle.bench_devices.specs.Sensing.{sensing, HasSensed}
use Rattle.bench_devices.specs.declared.device.Device.{Device}
use Rattle.bench_devices.specs.declared.polling.SeenKind.{SeenKind}
use Rattle.bench_devices.specs.declared.sweeping.Everybody.{Everybody}
use Rattle.bench_devices.specs.Polling.{Told, asks, selecting}
use Rattle.bench_devices.specs.Placed.{device_with, OfPlaced}
use Rattle.bench_devices.specs.Answering.{HasPollCause, TellsBy, GoesOnBy}
use Rattle.bench_devices.specs.Phases.{WriteEnd}
use Rattle.bench_world.specs.declared.entry.Answer.{Answer}
use Rattle.bench_world.specs.declared.entry.Answer.TheVariants as answers
use Rattle.bench_world.specs.Crowded.{seen_all, is_crowd}

-- The answer that tells of a fault of polling. The others never end a command of the bench.
abbrev pub poll_answer : PollFault → Option Answer
poll_answer faults.Nobody = None
poll_answer faults.Disturbed = Some answers.Disturbed
poll_answer faults.FieldLost = Some answers.FieldLost
poll_answer faults.Memory = None
poll_answer faults.NotFound = Some answers.NotFound
poll_answer faults.BadAnswer = None

-- The answer that tells what a read came to. The other faults never end one on the bench.
abbrev pub read_answer : Result Found ReadFault → Option Answer
read_answer (Ok found) = Some (answers.Message found.message found.writable)
read_answer (Err reading.NotNdef) = Some answers.NotNdef
read_answer (Err reading.Version) = Some answers.Version
read_answer (Err reading.NoRead) = Some answers.NoRead
read_answer (Err reading.Sectors) = Some answers.Sectors
read_answer (Err reading.BadSize) = Some answers.BadSize
read_answer (Err reading.NoMessageTlv) = Some answers.NoMessageTlv
read_answer (Err reading.BadTlv) = Some answers.BadTlv
read_answer (Err (reading.Refused code)) = None
read_answer (Err reading.FieldLost) = Some answers.FieldLost
read_answer (Err reading.SixBad) = Some answers.SixBad
read_answer (Err reading.Memory) = None
read_answer (Err reading.Protocol) = None

-- a read that an answer tells of, or want of memory
abbrev pub MayEnd : Result Found ReadFault → Type 0
MayEnd r = IsSome (read_answer r) ⊎ (r ≡ Err reading.Memory)

-- The answer that tells what a write came to. The other faults never end one on the bench.
abbrev pub written_by : WriteEnd → Option Answer
written_by (Ok done) = Some answers.Written
written_by (Err writing.NotNdef) = Some answers.NotNdef
written_by (Err writing.Version) = Some answers.Version
written_by (Err writing.NoRead) = Some answers.NoRead
written_by (Err writing.Sectors) = Some answers.Sectors
written_by (Err writing.BadSize) = Some answers.BadSize
written_by (Err writing.NoMessageTlv) = Some answers.NoMessageTlv
written_by (Err writing.BadTlv) = Some answers.BadTlv
written_by (Err (writing.Refused code)) = Some (answers.Refused code)
written_by (Err writing.FieldLost) = Some answers.FieldLost
written_by (Err writing.SixBad) = Some answers.SixBad
written_by (Err writing.Memory) = None
written_by (Err writing.ReadOnly) = Some answers.ReadOnly
written_by (Err (writing.TooLong room)) = Some (answers.TooLong room)
written_by (Err writing.ShortMlc) = Some answers.ShortMlc
written_by (Err writing.Protocol) = None

-- a write that an answer tells of, or want of memory
abbrev pub MayEndWrite : WriteEnd → Type 0
MayEndWrite r = IsSome (written_by r) ⊎ (r ≡ Err writing.Memory)

-- What a command answers once its tag is selected, where a wait of it ended by a fault: the field was lost in it, or it
-- had six bad receptions.
abbrev pub TellsFault : AskFault → Answer → Type 0
TellsFault asking.FieldLost answer = answer ≡ answers.FieldLost
TellsFault asking.SixBad answer = answer ≡ answers.SixBad
TellsFault asking.Memory answer = ⊥
TellsFault asking.Protocol answer = ⊥

-- What a command answers that selects a tag, by how that ended and what was heard behind it. Where all that is asked of
-- the tag was answered, the answer tells of the device.
abbrev pub TagEnds : (Device → Answer → Type 0) → DeviceId → List Device → List Signal → Result SeenKind PollFault
    → List Note → Answer → Type 0
TagEnds Tells id ds asked (Ok kind) behind answer =
    TellsBy kind (λ a. OfPlaced (λ d. Tells d a) (device_with (bytes_of id) ds)) TellsFault asked behind answer
TagEnds Tells id ds asked (Err e) behind answer = poll_answer e ≡ Some answer

-- The law of a command of a tag, over the devices that are placed: first it selects, then it asks what it asks of the
-- tag. The field is lost exactly where a Break was used, and without noise no wait has six bad receptions.
pub record TagTells (Tells : Device → Answer → Type 0) (id : DeviceId) (ds : List Device) (asked : List Signal)
    (events : List Event) (answer : Answer) : Type 0 where
  pub polled : Result SeenKind PollFault
  pub behind : List Note
  pub selected : selecting id (receptions events) ≡ Told polled behind
  pub cause : HasPollCause id ds polled events
  pub ends : TagEnds Tells id ds asked polled behind answer
  pub lost : (answer ≡ answers.FieldLost) ↔ (0 < breaks events)
  pub noisy : answer ≡ answers.SixBad → 0 < noise events

-- Nothing but want of memory ended what is asked of a selected tag: what was heard broke off no wait, and no Break was
-- used.
pub record IsUnbrokenTag (id : DeviceId) (asked : List Signal) (cut : List Event) : Type 0 where
  pub kind : SeenKind
  pub behind : List Note
  pub selected : selecting id (receptions cut) ≡ Told (Ok kind) behind
  pub unbroken : GoesOnBy kind asked behind
  pub unlost : breaks cut ≡ 0

-- A read or a write that was cut off: all that happened selects the tag, or so it ended.
abbrev pub CutTag : DeviceId → List Signal → List Event → Type 0
CutTag id asked cut = EachDue (λ ns. asks (selecting id ns)) [] cut ⊎ IsUnbrokenTag id asked cut

-- What a search answers, by what it has come to. The other faults never end one on the bench.
abbrev pub TellsFound : Result Everybody PollFault → Answer → Type 0
TellsFound (Ok e) answer = answer ≡ answers.Found (seen_all e) (is_crowd e.others)
TellsFound (Err faults.Nobody) answer = ⊥
TellsFound (Err faults.Disturbed) answer = answer ≡ answers.Disturbed
TellsFound (Err faults.FieldLost) answer = answer ≡ answers.FieldLost
TellsFound (Err faults.Memory) answer = ⊥
TellsFound (Err faults.NotFound) answer = ⊥
TellsFound (Err faults.BadAnswer) answer = ⊥

-- The answer that tells what a search for Type 5 tags came to, if one does: not all faults end one on the bench.
abbrev pub tags_answer : Result (List (List ℕ)) PollFault → Option Answer
tags_answer (Ok ids) = Some (answers.Crowd ids)
tags_answer (Err fault) = poll_answer fault

-- What a search for Type 5 tags answers, by the tags that are placed and what happened.
pub record TagsTell (ds : List Device) (events : List Event) (answer : Answer) : Type 0 where
  pub found : Result (List (List ℕ)) PollFault
  pub tells : CrowdTells ds events found
  pub answered : tags_answer found ≡ Some answer

-- The answer that tells which Type 3 tags are there.
abbrev pub three_told : Fcrowd → Answer
three_told threes.Nobody = answers.T3None
three_told (threes.One id) = answers.T3One id
three_told threes.Crowd = answers.T3Crowd

-- The answer that tells what a search for them came to, if one does: not all faults end one on the bench.
abbrev pub sensed_answer : Result Fcrowd PollFault → Option Answer
sensed_answer (Ok found) = Some (three_told found)
sensed_answer (Err fault) = poll_answer fault

-- What a search for Type 3 tags answers, by what was heard of its turns, and why, by the tags that are placed. The
-- field is lost exactly where a Break was used.
pub record ThreesTell (ds : List Device) (events : List Event) (answer : Answer) : Type 0 where
  pub found : Result Fcrowd PollFault
  pub told : sensing (receptions events) ≡ Told found []
  pub heard : TellsPolledF (turns events) found
  pub cause : HasSensed ds found events
  pub lost : (found ≡ Err faults.FieldLost) ↔ (0 < breaks events)
  pub answered : sensed_answer found ≡ Some answer
