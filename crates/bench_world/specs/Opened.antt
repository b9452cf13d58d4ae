-- What a bench keeps of its peers and of the link that is open.
use Rattle.std.specs.Prelude.{◌≡◌, ℕ, zero, suc, ◌<◌, List, [], ◌∷◌, Option, Some, None, get_or, true, false}
use Rattle.std.specs.List.{AllByRecursion}
use Rattle.air_core.specs.Turn.{Air}
use Rattle.far_air.specs.FarEnds.{first_far, later_fars}
use Rattle.llcp_pdu.specs.General.{IsMiu}
use Rattle.llcp_conn.specs.Conn.{IsWindow}
use Rattle.llcp_link.specs.Names.{is_bound}
use Rattle.dep_link.specs.DepLinks.{over_at}
use Rattle.snep_core.specs.Accord.{Accords}
use Rattle.snep_core.specs.Talk.{server_sap}
use Rattle.bench_devices.specs.declared.device.Device.{Device}
use Rattle.bench_devices.specs.Beside.{InStepAt}
use Rattle.bench_devices.specs.Device.{is_tag}
use Rattle.bench_world.specs.World.{FarEnd}
use Rattle.bench_world.specs.Links.{OpenLink, is_number}
use Rattle.bench_world.specs.Peers.{Peers}

-- A peer has a number and a far end, whose MIU and receive window are those that an end may have, and to which a server
-- is bound.
pub record IsServed (number : Option ℕ) (above : Option FarEnd) : Type 0 where
  pub peer : ℕ
  pub numbered : number ≡ Some peer
  pub end : FarEnd
  pub stands : above ≡ Some end
  pub miu : IsMiu end.miu
  pub window : IsWindow end.window
  pub bound : is_bound server_sap end.bound ≡ true

-- so each peer has of these devices, by what stands at their places
abbrev pub AreServed : List Device → List (Option ℕ) → List (Option FarEnd) → Type 0
AreServed [] ps os = Unit {0}
AreServed (d ∷ ds) ps os = (is_tag d ≡ false → IsServed (first_far ps) (first_far os))
    × AreServed ds (later_fars ps) (later_fars os)

-- No two of these have one number, and each is below this.
abbrev pub IsBelow : ℕ → Option ℕ → Type 0
IsBelow n None = Unit {0}
IsBelow n (Some p) = p < n

abbrev pub IsOther : Option ℕ → Option ℕ → Type 0
IsOther None q = Unit {0}
IsOther (Some p) q = is_number p q ≡ false

abbrev pub AreNumbered : ℕ → List (Option ℕ) → Type 0
AreNumbered n [] = Unit {0}
AreNumbered n (p ∷ ps) = IsBelow n p × AllByRecursion (IsOther p) ps × AreNumbered n ps

-- the first place that has a number is this one
abbrev pub IsFirstWith : ℕ → ℕ → List (Option ℕ) → Type 0
IsFirstWith n place [] = ⊥
IsFirstWith n zero (p ∷ ps) = is_number n p ≡ true
IsFirstWith n (suc place) (p ∷ ps) = (is_number n p ≡ false) × IsFirstWith n place ps

-- The peer of an open link, by its number, stands at a place of the lit field. It has a link, and is selected, alone
-- and in step with the initiator there, whose last exchange didn't end by a fault. Its far end stands above it, and the
-- client accords with that.
pub record IsOpen (air : Air Device) (ends : List (Option FarEnd)) (peers : Peers) (l : OpenLink) : Type 0 where
  pub place : ℕ
  pub number : IsFirstWith l.peer place peers.numbers
  pub step : InStepAt air place l.initiator
  pub going : over_at l.initiator.phase true ≡ None
  pub end : FarEnd
  pub above : get_or ends place None ≡ Some end
  pub accords : Accords l.client end
