-- What the answer to a write tells: of the store, and of how the stores of the tag stand.
use Rattle.std.specs.Prelude.{◌≡◌, ℕ, List, [], Some}
use Rattle.std.specs.List.{AllByRecursion}
use Rattle.nfc_base.specs.Signal.{Signal}
use Rattle.nfc_base.specs.declared.event.Event.{Event}
use Rattle.tag_writer.specs.Law.{Ending, Written, Refused, Stopped}
use Rattle.bench_devices.specs.declared.device.Device.{Device}
use Rattle.bench_devices.specs.Phases.{WriteEnd}
use Rattle.bench_devices.specs.Kinds.{IfRead}
use Rattle.bench_devices.specs.Device.{BenchWorld, device_id, device_store, kind_of}
use Rattle.bench_devices.specs.Keeping.{images_of}
use Rattle.bench_devices.specs.Writing.{AsksWriteOf, ShowsWrite, KeepsWriteLaw}
use Rattle.bench_world.specs.declared.entry.Answer.{Answer}
use Rattle.bench_world.specs.declared.entry.Answer.TheVariants as answers
use Rattle.bench_world.specs.Answering.{written_by}

-- The answer tells what a write of a message comes to, by what the tag holds and by its locked blocks.
abbrev pub TellsTag : List ℕ → Device → Answer → Type 0
TellsTag message d answer = (r : WriteEnd) × ShowsWrite message d r × (written_by r ≡ Some answer)

-- A write of a peer tells that it is no tag.
abbrev pub TellsWrite : List ℕ → Device → Answer → Type 0
TellsWrite message d answer = IfRead (kind_of d) (TellsTag message d answer) (answer ≡ answers.WrongKind)

-- what a write asks of a device that was selected: nothing of a peer
abbrev pub WriteAsks : List ℕ → Device → List Signal → Type 0
WriteAsks message d asked = IfRead (kind_of d) (AsksWriteOf message d asked) (asked ≡ [])

-- The stores of a tag keep the law of a write; a device that isn't written keeps its own, a peer none.
abbrev pub KeepsStores : List ℕ → Device → Ending → BenchWorld → List Event → Type 0
KeepsStores message d ending w es = IfRead (kind_of d) (KeepsWriteLaw message d ending w es)
    (AllByRecursion (λ s. s ≡ device_store d) (images_of (device_id d) w es))

-- how the stores of the tag stand by the answer
abbrev pub ending_told : Answer → Ending
ending_told answers.Written = Written
ending_told (answers.Refused code) = Refused
ending_told answer = Stopped
