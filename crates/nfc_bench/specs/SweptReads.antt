-- What the reads of a sweep tell, wherever its write is broken off.
use Rattle.std.specs.Prelude.{◌≡◌, ◌⊎◌, ℕ, ◌<◌, List, [], length, get_or, Some, true}
use Rattle.tlv_area.specs.Form.{Message}
use Rattle.tag_reader.specs.Kinds.{IsStoreForm}
use Rattle.bench_script.specs.declared.command.DeviceId.{DeviceId}
use Rattle.bench_script.specs.DeviceIds.{bytes_of}
use Rattle.bench_script.specs.Messages.{message_of}
use Rattle.bench_devices.specs.declared.device.Device.{Device}
use Rattle.bench_devices.specs.Device.{device_store, how_of, size_of}
use Rattle.bench_devices.specs.Placed.{device_with}
use Rattle.bench_world.specs.declared.entry.Entry.{Entry}
use Rattle.bench_world.specs.Legal.{State, Joins}
use Rattle.bench_world.specs.Journal.{LeadsTo}
use Rattle.nfc_bench.specs.Run.{AreRuns}
use Rattle.nfc_bench.specs.Sweep.{told_in, first_told, written_in, is_neither}

-- Behind these lines a tag with this identifier is placed, which holds this message.
pub record HeldBehind (lines : List (List ℕ)) (id : DeviceId) (message : List ℕ) : Type 0 where
  pub numbers : List Joins
  pub journal : List Entry
  pub state : State
  pub leads : LeadsTo lines numbers journal state
  pub tag : Device
  pub placed : device_with (bytes_of id) state.world.field.listeners ≡ Some tag
  pub held : IsStoreForm (how_of tag) (size_of tag) (device_store tag) (Message message)

-- A run's last entry tells a message: the old one, the empty one, or the new one.
pub record TellsThree (old new : List ℕ) (run : List Entry) : Type 0 where
  pub message : List ℕ
  pub told : told_in run ≡ Some message
  pub three : (message ≡ old) ⊎ ((message ≡ []) ⊎ (message ≡ new))

-- So does each run of a sweep behind the first: the old message is the one that the tag holds before the last line, and
-- the new one is what that writes. The first of them tells the old one.
abbrev pub SweptIsRead : Type 0
SweptIsRead =
    (lines : List (List ℕ)) (runs : List (List Entry)) (r : AreRuns lines runs)
    → (old : List ℕ) × HeldBehind r.script.before r.script.id old
    × ((i : ℕ) → i < length r.broken → TellsThree old (message_of r.script.message) (get_or r.broken i []))
    × (0 < length r.broken → first_told r.broken ≡ Some old)

-- So what is counted as neither the old message nor the new one is the empty one.
abbrev pub NeitherIsEmpty : Type 0
NeitherIsEmpty =
    (lines : List (List ℕ)) (runs : List (List Entry)) (r : AreRuns lines runs) (i : ℕ) → i < length r.broken
    → is_neither (first_told r.broken) (written_in r.first) (told_in (get_or r.broken i [])) ≡ true
    → told_in (get_or r.broken i []) ≡ Some []
