-- What is due in a command that selects a Type 3 tag, and then asks commands of it.
use Rattle.std.specs.Prelude.{ℕ, List, Ok, Err}
use Rattle.nfc_base.specs.Signal.{Signal}
use Rattle.air_core.specs.Conversation.{Note, Next, Over}
use Rattle.air_core.specs.Waits.{waits_next}
use Rattle.bench_devices.specs.Polling.{Followed, Asks, Told}
use Rattle.bench_devices.specs.Sensing.{seeking}

-- behind the selection these commands are asked, as they are sent
abbrev pub then_three : List Signal → Followed (Unit {0}) → Next
then_three asked (Asks n) = n
then_three asked (Told (Ok x) ns) = waits_next asked ns
then_three asked (Told (Err e) ns) = Over

abbrev pub three_due : List ℕ → List Signal → List Note → Next
three_due id asked ns = then_three asked (seeking id ns)
