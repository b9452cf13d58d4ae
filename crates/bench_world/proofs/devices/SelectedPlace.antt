-- What is looked at where a device was selected is this device.
use Rattle.std.proofs.Common.{◌≡◌, ℕ, List, ◌∷◌, ◌++◌, sym, ◌∙◌, ap}
use Rattle.std.specs.Prelude.{slice_index_or}
use Rattle.std.proofs.Math.Seq.{get_or-append_seam}
use Rattle.air_core.specs.Turn.{Air, moment}
use Rattle.bench_devices.specs.declared.device.Device.{Device}
use Rattle.bench_devices.specs.Phases.{Stands}

pub looked_at : (new : Air Device) (place : ℕ) (d : Device) → Stands (moment new) place d → (ls : List Device) (found : Device) → ls ≡ new.listeners → found ≡ slice_index_or ls place found → found ≡ d
looked_at new place d s ls found all is =
    let here : new.listeners ≡ s.before ++ d ∷ s.behind = ap (λ w. w.listeners) s.world in
    is ∙ ap (λ xs. slice_index_or xs place found) (all ∙ here) ∙ ap (λ i. slice_index_or (s.before ++ d ∷ s.behind) i found) (sym s.at) ∙ get_or-append_seam s.before d s.behind found
