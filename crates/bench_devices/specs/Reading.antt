-- Reading a tag of the bench: what it asks, and what it shows of the store.
use Rattle.std.specs.Prelude.{ℕ, List, Result, Ok, Err}
use Rattle.nfc_base.specs.Signal.{Signal}
use Rattle.tlv_area.specs.declared.container.ContainerFault.TheVariants as container
use Rattle.tlv_area.specs.Form.{Faulty, NoMessageTlv, BadTlv}
use Rattle.tag_reader.specs.declared.fault.ReadFault.{ReadFault}
use Rattle.tag_reader.specs.declared.fault.ReadFault.TheVariants as faults
use Rattle.tag_reader.specs.declared.found.Found.{Found}
use Rattle.tag_reader.specs.declared.how.How.{How}
use Rattle.tag_reader.specs.Asked.{IsAsked}
use Rattle.tag_reader.specs.Kinds.{IsStoreForm}
use Rattle.tag_reader.specs.Reading.{IsFound}
use Rattle.bench_devices.specs.declared.device.Device.{Device}
use Rattle.bench_devices.specs.Device.{device_store, how_of, size_of}

-- what a read asks of a device, from the first command to the last
abbrev pub AsksOf : Device → List Signal → Type 0
AsksOf d commands = IsAsked (how_of d) (size_of d) (device_store d) commands

-- What a read finds, by the form of the store: its message, or a fault of the store. The other faults show nothing of
-- it.
abbrev pub Shows : How → ℕ → List ℕ → Result Found ReadFault → Type 0
Shows how size store (Ok found) = IsFound how size store found
Shows how size store (Err faults.NotNdef) = IsStoreForm how size store (Faulty container.NotNdef)
Shows how size store (Err faults.Version) = IsStoreForm how size store (Faulty container.Version)
Shows how size store (Err faults.NoRead) = IsStoreForm how size store (Faulty container.NoRead)
Shows how size store (Err faults.Sectors) = IsStoreForm how size store (Faulty container.Sectors)
Shows how size store (Err faults.BadSize) = IsStoreForm how size store (Faulty container.BadSize)
Shows how size store (Err faults.NoMessageTlv) = IsStoreForm how size store NoMessageTlv
Shows how size store (Err faults.BadTlv) = IsStoreForm how size store BadTlv
Shows how size store (Err e) = ⊥

abbrev pub ShowsOf : Device → Result Found ReadFault → Type 0
ShowsOf d r = Shows (how_of d) (size_of d) (device_store d) r
