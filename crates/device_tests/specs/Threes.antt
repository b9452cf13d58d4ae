-- A field that has a Type 3 tag alone.
use Rattle.std.specs.Prelude.{◌≡◌, ℕ, List, [], ◌∷◌, true}
use Rattle.air_core.specs.Turn.{Air}
use Rattle.t3t_tag.specs.Store.{T3State, IsT3State}
use Rattle.bench_devices.specs.Powered.{Powered}
use Rattle.bench_devices.specs.declared.device.Device.{Device}
use Rattle.bench_devices.specs.declared.device.Device.TheVariants.{T3}

-- the identifier of the tests' tag
abbrev pub own_id : List ℕ
own_id = 1 ∷ 2 ∷ 3 ∷ 4 ∷ 5 ∷ 6 ∷ 7 ∷ 8 ∷ []

-- The tag is selected, since the field is lit.
pub record HasThree (a : Air Device) : Type 0 where
  pub powered : Powered T3State
  pub listeners : a.listeners ≡ T3 powered ∷ []
  pub lit : powered.lit ≡ true
  pub named : powered.tag.id ≡ own_id

-- a tag of this identifier
pub record IsTagOf (id : List ℕ) (t : T3State) : Type 0 where
  pub named : t.id ≡ id
  pub state : IsT3State t
