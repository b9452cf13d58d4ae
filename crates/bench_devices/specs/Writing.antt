-- Writing a tag of the bench: what it asks, what it shows of the store and of the blocks that are locked, and the law
-- over the tag's stores meanwhile.
use Rattle.std.specs.Prelude.{ℕ, List, Result}
use Rattle.nfc_base.specs.Signal.{Signal}
use Rattle.nfc_base.specs.TagLinks.{plain_state}
use Rattle.nfc_base.specs.declared.event.Event.{Event}
use Rattle.tag_writer.specs.declared.fault.WriteFault.{WriteFault}
use Rattle.tag_writer.specs.Outcome.{IsOutcome}
use Rattle.tag_writer.specs.Law.{Ending, WriteLaw}
use Rattle.tag_writer.specs.WriteAsked.{IsWriteAsked}
use Rattle.bench_devices.specs.declared.device.Device.{Device}
use Rattle.bench_devices.specs.Device.{BenchWorld, device_id, device_store, device_commands, how_of, size_of}
use Rattle.bench_devices.specs.Keeping.{images_of}

-- What a write of a message asks of a device, from the first command to the last: by its store and its locked blocks.
-- Nothing is selected of a Type 4 tag yet, whatever was before: it is newly activated.
abbrev pub AsksWriteOf : List ℕ → Device → List Signal → Type 0
AsksWriteOf message d commands = IsWriteAsked (how_of d) (size_of d) (device_commands d) (plain_state (device_store d))
    message commands

-- What a write tells where all that it asks was answered: success, a fault of the store, what the message asks for, or
-- a refusal. The faults of the link and want of memory show nothing of the device.
abbrev pub ShowsWrite : List ℕ → Device → Result (Unit {0}) WriteFault → Type 0
ShowsWrite message d r = IsOutcome (how_of d) (size_of d) (device_commands d) (plain_state (device_store d)) message r

-- The law of a write over the stores of the device: the one at the start of some events, and the one after each of
-- them.
abbrev pub KeepsWriteLaw : List ℕ → Device → Ending → BenchWorld → List Event → Type 0
KeepsWriteLaw message d ending w es = WriteLaw (how_of d) (size_of d) (device_store d) message ending
    (images_of (device_id d) w es)
