-- Reading and writing a Type 3 tag on the bench: what is asked of it, what the answer tells, and how its stores stand
-- meanwhile (NFC Forum Type 3 Tag).
use Rattle.std.specs.Prelude.{◌≡◌, ◌↔◌, ◌<◌, ℕ, List, [], Bool, Option, Some, None, IsSome, ◌⊎◌, Result, Ok, Err}
use Rattle.std.specs.List.{AllByRecursion}
use Rattle.nfc_base.specs.Signal.{Signal}
use Rattle.nfc_base.specs.Trace.{noise, breaks}
use Rattle.nfc_base.specs.declared.event.Event.{Event}
use Rattle.air_core.specs.Conversation.{EachDue, Note, receptions}
use Rattle.air_core.specs.Waits.{stand}
use Rattle.nfca_poll.specs.declared.fault.PollFault.{PollFault}
use Rattle.t3t_tag.specs.Store.{IsT3Store}
use Rattle.t3t_access.specs.declared.fault.T3Fault.{T3Fault}
use Rattle.t3t_access.specs.declared.fault.T3Fault.TheVariants as fault
use Rattle.t3t_access.specs.declared.found.Found3.{Found3}
use Rattle.bench_devices.specs.declared.device.Device.{Device}
use Rattle.bench_devices.specs.Answering.{IsUnbroken, TellsStanding}
use Rattle.bench_devices.specs.Device.{BenchWorld, device_id, device_locks, device_store, kind_of}
use Rattle.bench_devices.specs.Keeping.{images_of}
use Rattle.bench_devices.specs.Kinds.{DeviceKind, T2Kind, T3Kind, T4Kind, PeerKind, T5Kind}
use Rattle.bench_devices.specs.Placed.{device_with, OfPlaced}
use Rattle.bench_devices.specs.Polling.{Told, asks}
use Rattle.bench_devices.specs.Sensing.{seeking, has_three, found_if, HasSought}
use Rattle.bench_devices.specs.Threes.{ReadAsksThree, ShowsThree, ShowsThreeWrite, WriteAsksThreeOf, KeepsWrite3Law}
use Rattle.bench_world.specs.declared.entry.Answer.{Answer}
use Rattle.bench_world.specs.declared.entry.Answer.TheVariants as answers
use Rattle.bench_world.specs.Answering.{TellsFault, poll_answer}

-- one thing of a Type 3 tag, another of any other device
abbrev pub IfThree : DeviceKind → Type 0 → Type 0 → Type 0
IfThree T2Kind P Q = Q
IfThree T3Kind P Q = P
IfThree T4Kind P Q = Q
IfThree PeerKind P Q = Q
IfThree T5Kind P Q = Q

-- The store of a Type 3 tag is one that a new tag may have.
abbrev pub IsWellStored : Device → Type 0
IsWellStored d = IfThree (kind_of d) (IsT3Store (device_store d)) (Unit {0})

abbrev pub AreWellStored : List Device → Type 0
AreWellStored ds = AllByRecursion IsWellStored ds

-- what a read and a write ask of the device with an identifier: nothing of one that is no Type 3 tag
abbrev pub ReadAsks3 : List ℕ → Device → List Signal → Type 0
ReadAsks3 id d asked = IfThree (kind_of d) (ReadAsksThree id (device_store d) asked) (asked ≡ [])

abbrev pub WriteAsks3 : List ℕ → List ℕ → Device → List Signal → Type 0
WriteAsks3 id message d asked = IfThree (kind_of d) (WriteAsksThreeOf id message d asked) (asked ≡ [])

-- what a read and a write come to
abbrev pub ReadEnd3 : Type 0
ReadEnd3 = Result Found3 T3Fault

abbrev pub WriteEnd3 : Type 0
WriteEnd3 = Result (Unit {0}) T3Fault

-- The answer that tells what a read came to. The other faults never end one on the bench.
abbrev pub told_three : ReadEnd3 → Option Answer
told_three (Ok found) = Some (answers.Message found.message.items found.writable)
told_three (Err fault.NotNdef) = Some answers.NotNdef
told_three (Err fault.Version) = Some answers.Version
told_three (Err fault.BadSize) = Some answers.BadSize
told_three (Err (fault.Refused status)) = None
told_three (Err fault.FieldLost) = Some answers.FieldLost
told_three (Err fault.SixBad) = Some answers.SixBad
told_three (Err fault.Memory) = None
told_three (Err fault.ReadOnly) = None
told_three (Err (fault.TooLong most)) = None
told_three (Err fault.Protocol) = None
told_three (Err fault.Unfinished) = Some answers.Unfinished

-- a read that an answer tells of, or want of memory
abbrev pub MayEnd3 : ReadEnd3 → Type 0
MayEnd3 r = IsSome (told_three r) ⊎ (r ≡ Err fault.Memory)

-- The answer that tells what a write came to. No write tells that another one wasn't finished: it finishes it.
abbrev pub written_three : WriteEnd3 → Option Answer
written_three (Ok x) = Some answers.Written
written_three (Err fault.NotNdef) = Some answers.NotNdef
written_three (Err fault.Version) = Some answers.Version
written_three (Err fault.BadSize) = Some answers.BadSize
written_three (Err (fault.Refused status)) = Some (answers.Refused status)
written_three (Err fault.FieldLost) = Some answers.FieldLost
written_three (Err fault.SixBad) = Some answers.SixBad
written_three (Err fault.Memory) = None
written_three (Err fault.ReadOnly) = Some answers.ReadOnly
written_three (Err (fault.TooLong most)) = Some (answers.TooLong most)
written_three (Err fault.Protocol) = None
written_three (Err fault.Unfinished) = None

abbrev pub MayEndWrite3 : WriteEnd3 → Type 0
MayEndWrite3 r = IsSome (written_three r) ⊎ (r ≡ Err fault.Memory)

-- The answer tells what a read finds by the form of a Type 3 tag's store, ...
pub record TellsForm3 (store : List ℕ) (answer : Answer) : Type 0 where
  pub end : ReadEnd3
  pub shows : ShowsThree store end
  pub told : told_three end ≡ Some answer

abbrev pub TellsRead3 : Device → Answer → Type 0
TellsRead3 d answer = IfThree (kind_of d) (TellsForm3 (device_store d) answer) ⊥

-- ... and what a write of a message comes to, by the store and by the locked blocks.
pub record TellsEnd3 (message store : List ℕ) (locked : List Bool) (answer : Answer) : Type 0 where
  pub end : WriteEnd3
  pub shows : ShowsThreeWrite store locked message end
  pub told : written_three end ≡ Some answer

abbrev pub TellsWrite3 : List ℕ → Device → Answer → Type 0
TellsWrite3 message d answer = IfThree (kind_of d) (TellsEnd3 message (device_store d) (device_locks d) answer) ⊥

-- What a command answers that selects a Type 3 tag, by how that ended and what was heard behind it. Where all that is
-- asked of the tag was answered, the answer tells of the device.
abbrev pub ThreeEnds : (Device → Answer → Type 0) → List ℕ → List Device → List Signal → Result (Unit {0}) PollFault
    → List Note → Answer → Type 0
ThreeEnds Tells id ds asked (Ok x) behind answer =
    TellsStanding (λ a. OfPlaced (λ d. Tells d a) (device_with id ds)) TellsFault (stand 0 asked behind) answer
ThreeEnds Tells id ds asked (Err e) behind answer = poll_answer e ≡ Some answer

-- The law of a command of a Type 3 tag, over the devices that are placed: first it selects, then it asks what it asks
-- of the tag. A clash and a damaged answer may be of the tag, and it is selected then where it is placed. The field is
-- lost exactly where a Break was used, and without noise no wait has six bad receptions.
pub record ThreeTells (Tells : Device → Answer → Type 0) (id : List ℕ) (ds : List Device) (asked : List Signal)
    (events : List Event) (answer : Answer) : Type 0 where
  pub heard : Result (Unit {0}) PollFault
  pub behind : List Note
  pub sought : seeking id (receptions events) ≡ Told heard behind
  pub cause : HasSought id ds (found_if (has_three id ds) heard) events
  pub ends : ThreeEnds Tells id ds asked (found_if (has_three id ds) heard) behind answer
  pub lost : (answer ≡ answers.FieldLost) ↔ (0 < breaks events)
  pub noisy : answer ≡ answers.SixBad → 0 < noise events

-- Nothing but want of memory ended what is asked of a Type 3 tag that was found: what was heard broke off no wait, and
-- no Break was used.
pub record IsUnbrokenThree (id : List ℕ) (asked : List Signal) (cut : List Event) : Type 0 where
  pub behind : List Note
  pub sought : seeking id (receptions cut) ≡ Told (Ok tt) behind
  pub unbroken : IsUnbroken (stand 0 asked behind)
  pub unlost : breaks cut ≡ 0

-- A command of a Type 3 tag that was cut off: all that happened looks for the tag, or so it ended.
abbrev pub CutThree : List ℕ → List Signal → List Event → Type 0
CutThree id asked cut = EachDue (λ ns. asks (seeking id ns)) [] cut ⊎ IsUnbrokenThree id asked cut

-- The stores of a Type 3 tag keep the law of a write; any other device keeps its own.
abbrev pub KeepsStores3 : List ℕ → Device → WriteEnd3 → BenchWorld → List Event → Type 0
KeepsStores3 message d r w es =
    IfThree (kind_of d) (KeepsWrite3Law message d r w es)
    (AllByRecursion (λ s. s ≡ device_store d) (images_of (device_id d) w es))

-- how the stores of the tag stand by the answer
abbrev pub end_told : Answer → WriteEnd3
end_told answers.Written = Ok tt
end_told (answers.Refused status) = Err (fault.Refused status)
end_told answers.NotNdef = Err fault.NotNdef
end_told answers.Version = Err fault.Version
end_told answers.BadSize = Err fault.BadSize
end_told answers.ReadOnly = Err fault.ReadOnly
end_told (answers.TooLong most) = Err (fault.TooLong most)
end_told answer = Err fault.Memory
