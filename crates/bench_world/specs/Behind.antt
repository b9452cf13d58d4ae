-- What a read tells behind a write of its tag, where no command between them touches the tag.
use Rattle.std.specs.Prelude.{◌≡◌, ◌⊎◌, ℕ, ◌<◌, List, [], ◌∷◌, ◌++◌, replicate, Bool, Some}
use Rattle.std.specs.List.{AllByRecursion}
use Rattle.nfc_base.specs.Trace.{transmissions}
use Rattle.nfc_base.specs.declared.event.Fate.{Fate}
use Rattle.nfc_base.specs.declared.event.Fate.TheVariants.{Pass, Break}
use Rattle.tlv_area.specs.Form.{Message}
use Rattle.tag_reader.specs.Kinds.{IsStoreForm}
use Rattle.bench_script.specs.declared.command.Command.{Command}
use Rattle.bench_script.specs.declared.command.Command.TheVariants.{Raw, Remove, Read, Write, Write3}
use Rattle.bench_script.specs.declared.command.DeviceId.{DeviceId}
use Rattle.bench_script.specs.declared.message.Msg.{Msg}
use Rattle.bench_script.specs.DeviceIds.{bytes_of}
use Rattle.bench_script.specs.Messages.{message_of}
use Rattle.bench_devices.specs.declared.device.Device.{Device}
use Rattle.bench_devices.specs.Answering.{IsNamed}
use Rattle.bench_devices.specs.Device.{device_store, how_of, size_of}
use Rattle.bench_devices.specs.Placed.{device_with}
use Rattle.bench_world.specs.declared.entry.Answer.{Answer}
use Rattle.bench_world.specs.declared.entry.Answer.TheVariants as answers
use Rattle.bench_world.specs.declared.entry.Entry.{Entry}
use Rattle.bench_world.specs.Legal.{State, Given, LegalStep, EachLegal}

-- A command may change what the tag with an identifier holds, or takes it away: frames that are sent as they are reach
-- each device. A later command that may adds its case.
abbrev pub Touches : DeviceId → Command → Type 0
Touches id (Remove other) = bytes_of other ≡ bytes_of id
Touches id (Write other message) = bytes_of other ≡ bytes_of id
Touches id (Write3 other message) = other ≡ bytes_of id
Touches id (Raw other frames) = Unit {0}
Touches id c = ⊥

-- none of these does
abbrev pub LeaveAlone : DeviceId → List Entry → Type 0
LeaveAlone id es = AllByRecursion (λ e. Touches id e.command → ⊥) es

-- A tag is placed; a write of it has an answer, then come entries that leave it alone, and then a read of it that tells
-- a message.
pub record WritesThenReads (id : DeviceId) (tag : Device) (m : Msg) (answer : Answer) (message : List ℕ) : Type 0 where
  pub before : State
  pub written : State
  pub later : State
  pub after : State
  pub write : Entry
  pub between : List Entry
  pub read : Entry
  pub write_given : Given
  pub given : List Given
  pub read_given : Given
  pub placed : device_with (bytes_of id) before.world.field.listeners ≡ Some tag
  pub writes : LegalStep before write_given write written
  pub writing : write.command ≡ Write id m
  pub answered : write.answer ≡ answer
  pub goes_on : EachLegal written given between later
  pub alone : LeaveAlone id between
  pub reads : LegalStep later read_given read after
  pub reading : read.command ≡ Read id
  pub writable : Bool
  pub told : read.answer ≡ answers.Message message writable

-- Behind a success the read tells the message that was written.
abbrev pub WrittenIsRead : Type 0
WrittenIsRead =
    (id : DeviceId) (tag : Device) (m : Msg) (message : List ℕ) → WritesThenReads id tag m answers.Written message
    → message ≡ message_of m

-- Whatever the write answered, the read tells the message that the tag held before, the empty one or the new one.
abbrev pub OneOfThreeIsRead : Type 0
OneOfThreeIsRead =
    (id : DeviceId) (tag : Device) (m : Msg) (answer : Answer) (old message : List ℕ)
    → WritesThenReads id tag m answer message
    → IsStoreForm (how_of tag) (size_of tag) (device_store tag) (Message old)
    → (message ≡ old) ⊎ (message ≡ []) ⊎ (message ≡ message_of m)

-- so many transmissions pass, and the next is a Break
abbrev pub breaking : ℕ → List Fate
breaking passes = replicate passes Pass ++ Break ∷ []

-- A tag is placed, and where no fate is left a write of it is a success. The same write is broken off: fewer
-- transmissions pass than it has, and the next is a Break. Then the tag is read.
pub record BreaksThenReads (id : DeviceId) (tag : Device) (m : Msg) (read : Entry) : Type 0 where
  pub before : State
  pub placed : device_with (bytes_of id) before.world.field.listeners ≡ Some tag
  pub named : IsNamed id tag
  pub none : before.queue ≡ []
  pub whole : Entry
  pub whole_given : Given
  pub whole_after : State
  pub writes : LegalStep before whole_given whole whole_after
  pub writing : whole.command ≡ Write id m
  pub success : whole.answer ≡ answers.Written
  pub passes : ℕ
  pub few : passes < transmissions (λ _. 1) whole.events
  pub broken : Entry
  pub broken_given : Given
  pub broken_after : State
  pub breaks : LegalStep (record {
    world = before.world;
    queue = breaking passes;
    peers = before.peers;
    link = before.link;
  }) broken_given broken broken_after
  pub again : broken.command ≡ Write id m
  pub read_given : Given
  pub after : State
  pub reads : LegalStep broken_after read_given read after
  pub reading : read.command ≡ Read id

-- An entry tells the message that a tag holds, the empty one, or this one.
pub record TellsOneOfThree (tag : Device) (new : List ℕ) (read : Entry) : Type 0 where
  pub old : List ℕ
  pub held : IsStoreForm (how_of tag) (size_of tag) (device_store tag) (Message old)
  pub message : List ℕ
  pub writable : Bool
  pub told : read.answer ≡ answers.Message message writable
  pub three : (message ≡ old) ⊎ ((message ≡ []) ⊎ (message ≡ new))

-- Wherever the write is broken off, a message is told then: the old one, the empty one, or the new one.
abbrev pub BrokenIsRead : Type 0
BrokenIsRead = (id : DeviceId) (tag : Device) (m : Msg) (read : Entry) → BreaksThenReads id tag m read
    → TellsOneOfThree tag (message_of m) read

-- An entry tells the message that a tag holds.
pub record TellsHeld (tag : Device) (read : Entry) : Type 0 where
  pub old : List ℕ
  pub held : IsStoreForm (how_of tag) (size_of tag) (device_store tag) (Message old)
  pub writable : Bool
  pub told : read.answer ≡ answers.Message old writable

-- Broken off at its first transmission a write changed nothing: the message that the tag held before is told.
abbrev pub FirstBrokenIsRead : Type 0
FirstBrokenIsRead = (id : DeviceId) (tag : Device) (m : Msg) (read : Entry) (r : BreaksThenReads id tag m read)
    → r.passes ≡ 0 → TellsHeld tag read
