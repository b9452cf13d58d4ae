-- The devices that are placed, by their identifiers.
use Rattle.std.specs.Prelude.{ℕ, List, [], ◌∷◌, nat_eq, if◌then◌else◌, Option, Some, None}
use Rattle.std.specs.Cmp.Lexicographic.{pointwise}
use Rattle.bench_devices.specs.declared.device.Device.{Device}
use Rattle.bench_devices.specs.Device.{device_id}

-- the first device with an identifier
abbrev pub device_with : List ℕ → List Device → Option Device
device_with id [] = None
device_with id (d ∷ ds) = if pointwise nat_eq (device_id d) id then Some d else device_with id ds

-- the devices without the first that has an identifier; the others stay in their order
abbrev pub without : List ℕ → List Device → List Device
without id [] = []
without id (d ∷ ds) = if pointwise nat_eq (device_id d) id then ds else d ∷ without id ds

-- the devices, the first that has an identifier being changed so; the others stay
abbrev pub with_changed : (Device → Device) → List ℕ → List Device → List Device
with_changed change id [] = []
with_changed change id (d ∷ ds) = if pointwise nat_eq (device_id d) id then change d ∷ ds
    else d ∷ with_changed change id ds

-- Something holds of the device with an identifier, which is placed.
abbrev pub OfPlaced : (Device → Type 0) → Option Device → Type 0
OfPlaced P None = ⊥
OfPlaced P (Some d) = P d

-- Where the device is placed, something holds of it.
abbrev pub IfPlaced : (Device → Type 0) → Type 0 → Option Device → Type 0
IfPlaced P Q None = Q
IfPlaced P Q (Some d) = P d
