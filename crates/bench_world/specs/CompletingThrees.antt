-- What a read and a write of a Type 3 tag answer where noise doesn't keep them from it, and what a read tells behind a
-- write: no Break was used, no wait had six bad receptions, and one try of polling had no noise (tries and six
-- receptions are this project's own).
use Rattle.std.specs.Prelude.{◌≡◌, ◌⊎◌, ◌<◌, ℕ, List, Bool, Some, Ok}
use Rattle.nfc_base.specs.Signal.{Signal}
use Rattle.nfc_base.specs.Trace.{breaks}
use Rattle.nfc_base.specs.declared.event.Event.{Event}
use Rattle.nfc_base.specs.declared.tag_link.AskFault.TheVariants.{SixBad}
use Rattle.air_core.specs.Conversation.{Note, receptions}
use Rattle.air_core.specs.Waits.{Broken, stand}
use Rattle.nfca_poll.specs.Inventory.{tries}
use Rattle.t3t_tag.specs.Form.{IsT3Form, Message}
use Rattle.t3t_access.specs.Polling.{sensf_req}
use Rattle.bench_script.specs.declared.command.Command.TheVariants.{Read3, Write3}
use Rattle.bench_script.specs.declared.command.DeviceId.TheVariants.{V}
use Rattle.bench_script.specs.declared.message.Msg.{Msg}
use Rattle.bench_script.specs.Messages.{message_of}
use Rattle.bench_devices.specs.declared.device.Device.{Device}
use Rattle.bench_devices.specs.Device.{device_store, kind_of}
use Rattle.bench_devices.specs.Kinds.{T3Kind}
use Rattle.bench_devices.specs.Noise.{noisy_tries}
use Rattle.bench_devices.specs.Placed.{device_with}
use Rattle.bench_devices.specs.Polling.{Told}
use Rattle.bench_devices.specs.Sensing.{seeking}
use Rattle.bench_devices.specs.Threes.{ShowsThreeWriteOf}
use Rattle.bench_world.specs.declared.entry.Answer.{Answer}
use Rattle.bench_world.specs.declared.entry.Answer.TheVariants as answers
use Rattle.bench_world.specs.declared.entry.Entry.{Entry}
use Rattle.bench_world.specs.Behind.{LeaveAlone}
use Rattle.bench_world.specs.Legal.{EachLegal, Given, LegalStep, State}
use Rattle.bench_world.specs.Quiet.{AllPass}
use Rattle.bench_world.specs.Threes.{TellsRead3, TellsWrite3}

-- a wait of what is asked of the tag had six bad receptions
abbrev pub HadSixBad3 : List Signal → List Note → Type 0
HadSixBad3 asked ns = (left : List Signal) × (stand 0 asked ns ≡ Broken SixBad left)

-- Nothing kept the command of a Type 3 tag, which asks this, from its answer.
pub record IsUndisturbed3 (id : List ℕ) (asked : List Signal) (es : List Event) : Type 0 where
  pub lit : breaks es ≡ 0
  pub once : noisy_tries sensf_req es < tries
  pub waits : (behind : List Note) → seeking id (receptions es) ≡ Told (Ok tt) behind → HadSixBad3 asked behind → ⊥

-- The Type 3 tag with this identifier is placed.
pub record IsPlaced3 (s : State) (id : List ℕ) (d : Device) : Type 0 where
  pub found : device_with id s.world.field.listeners ≡ Some d
  pub kind : kind_of d ≡ T3Kind

-- So a read of it tells what its store holds: the message, that a write wasn't finished, or the fault that the store
-- has.
abbrev pub ThreesRead : Type 0
ThreesRead =
    (s t : State) (g : Given) (e : Entry) (id : List ℕ) (d : Device) → LegalStep s g e t → e.command ≡ Read3 id
    → IsPlaced3 s id d
    → IsUndisturbed3 id g.asked e.events → TellsRead3 d e.answer

-- A write tells what it comes to by what the tag holds and by its locked blocks, ...
abbrev pub ThreesWrite : Type 0
ThreesWrite =
    (s t : State) (g : Given) (e : Entry) (id : List ℕ) (m : Msg) (d : Device) → LegalStep s g e t
    → e.command ≡ Write3 id m → IsPlaced3 s id d
    → IsUndisturbed3 id g.asked e.events → TellsWrite3 (message_of m) d e.answer

-- ... which is a success where the tag takes the message and no block of the write is locked.
abbrev pub ThreesWritten : Type 0
ThreesWritten =
    (s t : State) (g : Given) (e : Entry) (id : List ℕ) (m : Msg) (d : Device) → LegalStep s g e t
    → e.command ≡ Write3 id m → IsPlaced3 s id d
    → IsUndisturbed3 id g.asked e.events → ShowsThreeWriteOf (message_of m) d (Ok tt) → e.answer ≡ answers.Written

-- All this where no fate is left but Pass.
abbrev pub QuietThreesRead : Type 0
QuietThreesRead =
    (s t : State) (g : Given) (e : Entry) (id : List ℕ) (d : Device) → LegalStep s g e t → e.command ≡ Read3 id
    → IsPlaced3 s id d → AllPass s.queue → TellsRead3 d e.answer

abbrev pub QuietThreesWrite : Type 0
QuietThreesWrite =
    (s t : State) (g : Given) (e : Entry) (id : List ℕ) (m : Msg) (d : Device) → LegalStep s g e t
    → e.command ≡ Write3 id m → IsPlaced3 s id d → AllPass s.queue
    → TellsWrite3 (message_of m) d e.answer

abbrev pub QuietThreesWritten : Type 0
QuietThreesWritten =
    (s t : State) (g : Given) (e : Entry) (id : List ℕ) (m : Msg) (d : Device) → LegalStep s g e t
    → e.command ≡ Write3 id m → IsPlaced3 s id d → AllPass s.queue
    → ShowsThreeWriteOf (message_of m) d (Ok tt) → e.answer ≡ answers.Written

-- A Type 3 tag is placed; a write of it has an answer, then come entries that leave it alone, and then a read of it.
pub record Writes3ThenReads (id : List ℕ) (tag : Device) (m : Msg) (answer told : Answer) : Type 0 where
  pub before : State
  pub written : State
  pub later : State
  pub after : State
  pub write : Entry
  pub between : List Entry
  pub read : Entry
  pub write_given : Given
  pub given : List Given
  pub read_given : Given
  pub placed : IsPlaced3 before id tag
  pub writes : LegalStep before write_given write written
  pub writing : write.command ≡ Write3 id m
  pub answered : write.answer ≡ answer
  pub goes_on : EachLegal written given between later
  pub alone : LeaveAlone (V id) between
  pub reads : LegalStep later read_given read after
  pub reading : read.command ≡ Read3 id
  pub told' : read.answer ≡ told

-- Behind a success the read tells the message that was written, and never that the write wasn't finished.
abbrev pub Written3IsRead : Type 0
Written3IsRead =
    (id : List ℕ) (tag : Device) (m : Msg) (message : List ℕ) (writable : Bool)
    → Writes3ThenReads id tag m answers.Written (answers.Message message writable) → message ≡ message_of m

abbrev pub Written3IsWhole : Type 0
Written3IsWhole = (id : List ℕ) (tag : Device) (m : Msg) → Writes3ThenReads id tag m answers.Written answers.Unfinished
    → ⊥

-- Where noise doesn't keep the read from it, it tells that message, ...
abbrev pub Undisturbed3IsRead : Type 0
Undisturbed3IsRead =
    (id : List ℕ) (tag : Device) (m : Msg) (told : Answer) (r : Writes3ThenReads id tag m answers.Written told)
    → IsUndisturbed3 id r.read_given.asked r.read.events
    → (writable : Bool) × (told ≡ answers.Message (message_of m) writable)

-- ... and so it does where no fate is left but Pass.
abbrev pub Quiet3IsRead : Type 0
Quiet3IsRead =
    (id : List ℕ) (tag : Device) (m : Msg) (told : Answer) (r : Writes3ThenReads id tag m answers.Written told)
    → AllPass r.later.queue
    → (writable : Bool) × (told ≡ answers.Message (message_of m) writable)

-- Whatever the write answered, a message that the read tells is the one that the tag held before, or the new one.
abbrev pub OneOfTwo3IsRead : Type 0
OneOfTwo3IsRead =
    (id : List ℕ) (tag : Device) (m : Msg) (answer : Answer) (message : List ℕ) (writable : Bool)
    → Writes3ThenReads id tag m answer (answers.Message message writable)
    → IsT3Form (device_store tag) (Message message) ⊎ (message ≡ message_of m)
