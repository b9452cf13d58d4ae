-- A peer of the bench that is talked to, and the devices beside it (NFC Forum Digital Protocol; who hears what is this
-- project's own).
use Rattle.std.specs.Prelude.{◌≡◌, ℕ, zero, suc, List, [], ◌∷◌, map, true}
use Rattle.std.specs.List.{AllByRecursion}
use Rattle.air_core.specs.Turn.{Air}
use Rattle.air_core.specs.PlainTags.{IsAside}
use Rattle.dep_link.specs.Initiator.{InitState}
use Rattle.dep_link.specs.DepLinks.{IsInStep}
use Rattle.bench_devices.specs.declared.device.Device.{Device}
use Rattle.bench_devices.specs.Kinds.{PeerKind}
use Rattle.bench_devices.specs.Device.{device_end, device_linked, kind_of}
use Rattle.bench_devices.specs.Keeping.{ghosts, kept}
use Rattle.bench_devices.specs.Phases.{AreTidy}

-- A peer stands at a place, and all others are aside of it: of another identifier than this one, and no NFC-A device
-- that is ready or selected.
abbrev pub PeerAt : List ℕ → ℕ → List Device → Type 0
PeerAt own place [] = ⊥
PeerAt own zero (l ∷ ls) = (kind_of l ≡ PeerKind) × AllByRecursion (IsAside ghosts own) ls
PeerAt own (suc place) (l ∷ ls) = IsAside ghosts own l × PeerAt own place ls

-- What talking to such a peer leaves: all that stays of the devices stays, the others are aside still, and each has a
-- link at most while it is active.
pub record TalkLeaves (own : List ℕ) (place : ℕ) (old new : List Device) : Type 0 where
  pub same : map kept new ≡ map kept old
  pub at : PeerAt own place new
  pub tidy : AreTidy old → AreTidy new

-- The field is lit, and the peer at a place is selected, alone, and in step with this initiator. It has a link.
pub record InStepAt (air : Air Device) (place : ℕ) (i : InitState) : Type 0 where
  pub step : IsInStep ghosts device_end air i
  pub at : step.1.place ≡ place
  pub linked : device_linked step.1.listener ≡ true
