-- A front that nothing wakes stays where it is, and says nothing.
use Rattle.std.proofs.Common.{◌≡◌, ℕ, List, None, ◌⊎◌, inl, inr, refl}
use Rattle.nfca_poll.specs.declared.kind.Kind.{Kind}
use Rattle.nfca_poll.specs.Calls.{Reading, Calls, Other, Sens, All, Slp, Sdd, Sel}
use Rattle.nfca_poll.specs.Front.{Idle, Sleep, front_next, front_says}

pub idle_stays : (ls : List (List ℕ)) (r : Reading) → ((r ≡ Calls Sens) ⊎ (r ≡ Calls All) → ⊥) → front_next ls Idle r ≡ Idle
idle_stays ls (Calls Sens) a = absurd (a (inl refl))
idle_stays ls (Calls All) a = absurd (a (inr refl))
idle_stays ls (Calls Slp) a = refl
idle_stays ls (Calls (Sdd level known)) a = refl
idle_stays ls (Calls (Sel level bytes)) a = refl
idle_stays ls Other a = refl

pub idle_silent : (ls : List (List ℕ)) (kind : Kind) (r : Reading) → ((r ≡ Calls Sens) ⊎ (r ≡ Calls All) → ⊥) → front_says ls kind Idle r ≡ None
idle_silent ls kind (Calls Sens) a = absurd (a (inl refl))
idle_silent ls kind (Calls All) a = absurd (a (inr refl))
idle_silent ls kind (Calls Slp) a = refl
idle_silent ls kind (Calls (Sdd level known)) a = refl
idle_silent ls kind (Calls (Sel level bytes)) a = refl
idle_silent ls kind Other a = refl

pub sleep_stays : (ls : List (List ℕ)) (r : Reading) → (r ≡ Calls All → ⊥) → front_next ls Sleep r ≡ Sleep
sleep_stays ls (Calls Sens) b = refl
sleep_stays ls (Calls All) b = absurd (b refl)
sleep_stays ls (Calls Slp) b = refl
sleep_stays ls (Calls (Sdd level known)) b = refl
sleep_stays ls (Calls (Sel level bytes)) b = refl
sleep_stays ls Other b = refl

pub sleep_silent : (ls : List (List ℕ)) (kind : Kind) (r : Reading) → (r ≡ Calls All → ⊥) → front_says ls kind Sleep r ≡ None
sleep_silent ls kind (Calls Sens) b = refl
sleep_silent ls kind (Calls All) b = absurd (b refl)
sleep_silent ls kind (Calls Slp) b = refl
sleep_silent ls kind (Calls (Sdd level known)) b = refl
sleep_silent ls kind (Calls (Sel level bytes)) b = refl
sleep_silent ls kind Other b = refl
