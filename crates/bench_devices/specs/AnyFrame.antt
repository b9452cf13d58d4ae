-- What any frames do, whatever each device is doing: nothing here supposes which of them is selected, or that others
-- are aside (who hears what is this project's own).
use Rattle.std.specs.Prelude.{◌≡◌, ◌≤◌, ℕ, suc, List, [], ◌∷◌, if◌then◌else◌, Option, Some, None, option_map}
use Rattle.nfc_base.specs.Signal.{Signal}
use Rattle.nfc_base.specs.declared.event.Event.{Event}
use Rattle.air_core.specs.Conversation.{replay}
use Rattle.far_air.specs.FarTurns.{QuietBut}
use Rattle.far_air.specs.Quietly.{NoneHands}
use Rattle.bench_devices.specs.declared.device.Device.{Device}
use Rattle.bench_devices.specs.Device.{BenchWorld, air, devices, is_tag}
use Rattle.bench_devices.specs.Phases.{AreTidy}

-- Each Type 4 tag and each peer has a link at most while it is active, whatever happens.
abbrev pub DevicesTidy : Type 0
DevicesTidy = (w : BenchWorld) (es : List Event) → AreTidy w.listeners → AreTidy (replay air w es).listeners

-- how many peers are placed
abbrev pub peers_in : List Device → ℕ
peers_in [] = 0
peers_in (d ∷ ds) = if is_tag d then peers_in ds else suc (peers_in ds)

-- and at which place the first of them stands
abbrev pub peer_place : List Device → Option ℕ
peer_place [] = None
peer_place (d ∷ ds) = if is_tag d then option_map suc (peer_place ds) else Some 0

-- No device but a peer hands anything over: where none is placed, nothing is handed over in any events; ...
abbrev pub TagsHandNothing : Type 0
TagsHandNothing = (w : BenchWorld) (es : List Event) → peer_place w.listeners ≡ None → NoneHands devices w es

-- ... and where no second one is, the one at its place alone may hand something over, at any frame.
abbrev pub OnePeerHands : Type 0
OnePeerHands = (place : ℕ) (ls : List Device) (f : Signal) → peers_in ls ≤ 1 → peer_place ls ≡ Some place
    → QuietBut devices f place ls

-- What happens leaves each peer its place.
abbrev pub PeersStay : Type 0
PeersStay =
    (w : BenchWorld) (es : List Event) → (peers_in (replay air w es).listeners ≡ peers_in w.listeners)
    × (peer_place (replay air w es).listeners ≡ peer_place w.listeners)
