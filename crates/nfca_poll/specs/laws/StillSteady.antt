-- A listener that a request leaves as it is, is steady at it.
use Rattle.std.proofs.Common.{◌≡◌, ℕ, zero, suc, Bool, true, false, if◌then◌else◌, None, refl, ◌∙◌, ap}
use Rattle.nfc_base.specs.Signal.{Signal}
use Rattle.nfc_base.specs.Far.{Untouched}
use Rattle.air_core.specs.World.{Machine, hears, hands_over, answered_by, stepped_by}
use Rattle.nfca_poll.specs.Inventory.{heard_again, IsSteady}

module _ {L : Type 0} (m : Machine L) (f : Signal) (l : L) (untouched : m.handed l f ≡ Untouched)
    (same : m.after l f None ≡ l) where
  hands_none : (v : Bool) → (if v then m.handed l f else Untouched) ≡ Untouched
  hands_none true = untouched
  hands_none false = refl

  step_same : (v : Bool) → (if v then m.after l f None else l) ≡ l
  step_same true = same
  step_same false = refl

  stays : (n : ℕ) → heard_again m f l n ≡ l
  stays zero = refl
  stays (suc n) = ap (λ x. stepped_by m x f None) (stays n) ∙ step_same (hears m l f)

  pub still_steady : IsSteady m f l
  still_steady tech n =
      (ap (λ x. hands_over m x f) (stays n) ∙ hands_none (hears m l f), ap (λ x. answered_by m x f None) (stays n))
