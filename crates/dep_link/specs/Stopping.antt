-- Who heard a request in which a far end stopped for want of memory (NFCIP-1, ISO/IEC 18092; the air is this project's
-- own).
use Rattle.std.specs.Prelude.{◌≡◌, ◌⊎◌, ℕ, List, [], ◌∷◌, None}
use Rattle.nfc_base.specs.Far.{Untouched, Hands}
use Rattle.nfc_base.specs.Signal.{Signal}
use Rattle.air_core.specs.World.{Machine, hands_over, stepped_by}

-- In order the listeners heard it, up to one that handed this payload over, and got no reply. Those before it handed
-- nothing over, and those behind it heard nothing.
abbrev pub HeardUpTo : {L : Type 0} → Machine L → Signal → List ℕ → List L → List L → Type 0
HeardUpTo m f payload [] ms = ⊥
HeardUpTo {L} m f payload (l ∷ ls) ms =
    (later : List L) × (ms ≡ stepped_by m l f None ∷ later)
    × (((hands_over m l f ≡ Hands payload) × (later ≡ ls))
    ⊎ ((hands_over m l f ≡ Untouched) × HeardUpTo m f payload ls later))
