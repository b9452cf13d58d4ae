-- The world of a bench: the field's, and the far ends above its devices. A peer's far end is an end of a link whose
-- service is a SNEP server; a tag has none (NFC Forum LLCP 1.3, SNEP 1.0; the air is this project's own).
use Rattle.std.specs.Prelude.{List, [], ◌∷◌, ◌++◌, map, false, Option}
use Rattle.air_core.specs.Conversation.{AirModel}
use Rattle.llcp_link.specs.State.{LlcState}
use Rattle.snep_core.specs.Server.{ServerState}
use Rattle.far_air.specs.FarWorld.{FarWorld, far_air}
use Rattle.far_air.specs.Staying.{far_stable}
use Rattle.peer_air.specs.PeerFars.{peer_ends}
use Rattle.bench_devices.specs.declared.device.Device.{Device}
use Rattle.bench_devices.specs.Device.{devices, StablePart, stable_of}
use Rattle.bench_devices.specs.Device.{device_linked}

abbrev pub FarEnd : Type 0
FarEnd = LlcState ServerState

abbrev pub WholeWorld : Type 0
WholeWorld = FarWorld Device FarEnd

abbrev pub bench_air : AirModel WholeWorld
bench_air = far_air devices device_linked peer_ends

-- dark, and without devices
abbrev pub first_world : WholeWorld
first_world = record { field = record { lit = false; listeners = [] }; fars = []; numbers = [] }

-- the world whose field has these devices, at the places of those before
abbrev pub with_listeners : WholeWorld → List Device → WholeWorld
with_listeners w ds = record {
  field = record { lit = w.field.lit; listeners = ds };
  fars = w.fars;
  numbers = w.numbers;
}

-- One device more; its far end takes the place behind the others.
abbrev pub with_one_more : WholeWorld → Device → Option FarEnd → WholeWorld
with_one_more w d end = record {
  field = record { lit = w.field.lit; listeners = w.field.listeners ++ d ∷ [] };
  fars = w.fars ++ end ∷ [];
  numbers = w.numbers;
}

-- What stays when the field goes dark: of each device, and of each far end what stays of one without a link.
pub record Stable : Type 0 where
  pub devices : List StablePart
  pub ends : List (Option FarEnd)

abbrev pub stable : WholeWorld → Stable
stable w = record { devices = map stable_of w.field.listeners; ends = far_stable devices device_linked peer_ends w }
