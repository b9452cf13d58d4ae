-- What the answer to a read tells of the store.
use Rattle.std.specs.Prelude.{◌≡◌, ℕ, List, []}
use Rattle.nfc_base.specs.Signal.{Signal}
use Rattle.tlv_area.specs.declared.container.ContainerFault.TheVariants as container
use Rattle.tlv_area.specs.Form.{Faulty, Message, NoMessageTlv, BadTlv}
use Rattle.tag_reader.specs.declared.how.How.{How}
use Rattle.tag_reader.specs.Kinds.{IsStoreForm}
use Rattle.tag_reader.specs.Access.{IsAccess}
use Rattle.bench_devices.specs.declared.device.Device.{Device}
use Rattle.bench_devices.specs.Kinds.{IfRead}
use Rattle.bench_devices.specs.Device.{device_store, how_of, size_of, kind_of}
use Rattle.bench_devices.specs.Reading.{AsksOf}
use Rattle.bench_world.specs.declared.entry.Answer.{Answer}
use Rattle.bench_world.specs.declared.entry.Answer.TheVariants as answers

-- What a read answers, by the form of the store. The other answers tell of none.
abbrev pub Tells : How → ℕ → List ℕ → Answer → Type 0
Tells how size store (answers.Message message writable) =
    IsStoreForm how size store (Message message) × IsAccess how size store writable
Tells how size store answers.NotNdef = IsStoreForm how size store (Faulty container.NotNdef)
Tells how size store answers.Version = IsStoreForm how size store (Faulty container.Version)
Tells how size store answers.NoRead = IsStoreForm how size store (Faulty container.NoRead)
Tells how size store answers.Sectors = IsStoreForm how size store (Faulty container.Sectors)
Tells how size store answers.BadSize = IsStoreForm how size store (Faulty container.BadSize)
Tells how size store answers.NoMessageTlv = IsStoreForm how size store NoMessageTlv
Tells how size store answers.BadTlv = IsStoreForm how size store BadTlv
Tells how size store answer = ⊥

-- A read of a tag tells of its store, and one of a peer that it is none.
abbrev pub TellsOf : Device → Answer → Type 0
TellsOf d answer = IfRead (kind_of d) (Tells (how_of d) (size_of d) (device_store d) answer)
    (answer ≡ answers.WrongKind)

-- what a read asks of a device that was selected: nothing of a peer
abbrev pub ReadAsks : Device → List Signal → Type 0
ReadAsks d asked = IfRead (kind_of d) (AsksOf d asked) (asked ≡ [])
