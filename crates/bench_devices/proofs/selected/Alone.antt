-- What stands of the device that was selected, and of those beside it.
use Rattle.std.proofs.Common.{◌≡◌, ℕ, List, [], ◌∷◌, ◌++◌, refl, sym, ◌∙◌, ap, subst}
use Rattle.std.specs.List.{AllByRecursion}
use Rattle.nfc_base.specs.TagLinks.{IsNamedIn}
use Rattle.air_core.specs.Turn.{Air, world, moment}
use Rattle.air_core.specs.PlainTags.{IsAside}
use Rattle.bench_devices.specs.declared.device.Device.{Device}
use Rattle.bench_devices.specs.Device.{device_tech, device_id, device_store}
use Rattle.bench_devices.specs.Placed.{device_with, IfPlaced}
use Rattle.bench_devices.specs.Keeping.{kept, ghosts, IsSound, IsAsideOf, held_by}
use Rattle.bench_devices.specs.Phases.{Stands}
use Rattle.bench_devices.proofs.kinds.EveryFrame.{IsSoundOne}
use Rattle.bench_devices.proofs.kinds.ImagesJoin.{IsFirstAt, first_alone, with_alone}
use Rattle.bench_devices.proofs.reads.ReadingTags.{eight_bytes}

all_aside : (own : List ℕ) (ds : List Device) → AllByRecursion (IsAside ghosts own) ds → AllByRecursion (IsAsideOf own) ds
all_aside own [] h = tt
all_aside own (d ∷ ds) h = ((λ other. h.0), all_aside own ds h.1)

pub beside_all : (before : List Device) (d : Device) (behind : List Device) → AllByRecursion (IsAside ghosts (device_id d)) before → AllByRecursion (IsAside ghosts (device_id d)) behind
    → AllByRecursion (IsAsideOf (device_id d)) (before ++ d ∷ behind)
beside_all [] d behind first later = ((λ other. absurd (other refl)), all_aside (device_id d) behind later)
beside_all (b ∷ before) d behind first later = ((λ other. first.0), beside_all before d behind first.1 later)

-- Devices of which one stands alone, and may be placed.
pub sound_alone : (before : List Device) (d : Device) (behind : List Device) → IsSound (kept d) → AllByRecursion (IsAside ghosts (device_id d)) before → IsSoundOne (device_id d) (before ++ d ∷ behind)
sound_alone before d behind sound first = subst (IfPlaced (λ x. IsSound (kept x)) (Unit {0})) (sym (with_alone before d behind first)) sound

module _ (a : Air Device) (place : ℕ) (d : Device) (s : Stands (moment a) place d) where
  devices_are : (world a).listeners ≡ s.before ++ d ∷ s.behind
  devices_are = ap (λ w. w.listeners) s.world

  pub first_there : IsFirstAt (device_id d) (world a).listeners place
  first_there = subst (λ ds. IsFirstAt (device_id d) ds place) (sym devices_are) (subst (IsFirstAt (device_id d) (s.before ++ d ∷ s.behind)) s.at (first_alone s.before d s.behind s.first))

  pub held_there : held_by (device_with (device_id d) (world a).listeners) ≡ device_store d
  held_there = ap (λ ds. held_by (device_with (device_id d) ds)) devices_are ∙ ap held_by (with_alone s.before d s.behind s.first)

  pub sound_there : IsSoundOne (device_id d) (world a).listeners
  sound_there = subst (IsSoundOne (device_id d)) (sym devices_are) (sound_alone s.before d s.behind s.sound s.first)

  pub beside_there : AllByRecursion (IsAsideOf (device_id d)) (world a).listeners
  beside_there = subst (AllByRecursion (IsAsideOf (device_id d))) (sym devices_are) (beside_all s.before d s.behind s.first s.later)

  pub named_there : IsNamedIn (device_tech d) (device_id d)
  named_there = eight_bytes d s.sound
