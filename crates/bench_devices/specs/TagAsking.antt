-- What is due in a command that selects a tag, and then asks commands of it.
use Rattle.std.specs.Prelude.{List, Ok, Err}
use Rattle.nfc_base.specs.Signal.{Signal}
use Rattle.air_core.specs.Conversation.{Note, Next, Over}
use Rattle.bench_script.specs.declared.command.DeviceId.{DeviceId}
use Rattle.bench_devices.specs.declared.polling.SeenKind.{SeenKind}
use Rattle.bench_devices.specs.Polling.{Followed, Asks, Told, selecting}
use Rattle.bench_devices.specs.CardAsking.{tag_next}

-- behind the selection these commands are asked, by the kind that the tag is seen to be of
abbrev pub then_asks : List Signal → Followed SeenKind → Next
then_asks asked (Asks n) = n
then_asks asked (Told (Ok kind) ns) = tag_next kind asked ns
then_asks asked (Told (Err e) ns) = Over

abbrev pub tag_due : DeviceId → List Signal → List Note → Next
tag_due id asked ns = then_asks asked (selecting id ns)
