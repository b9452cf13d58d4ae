-- Where a device stands in the field. No public contract speaks of it.
use Rattle.std.specs.Prelude.{◌≡◌, ℕ, List, ◌∷◌, ◌++◌, length}
use Rattle.bench_devices.specs.declared.device.Device.{Device}
use Rattle.bench_devices.specs.Device.{device_id}

-- a device with this identifier stands at this place
pub record StandsAt (id : List ℕ) (listeners : List Device) (place : ℕ) : Type 0 where
  pub before : List Device
  pub device : Device
  pub behind : List Device
  pub split : listeners ≡ before ++ device ∷ behind
  pub at : length before ≡ place
  pub named : device_id device ≡ id
