-- Stores that follow others, one stretch after another; and what the trace of a field leaves of its listeners.
use Rattle.std.proofs.Common.{◌≡◌, inl, inr, ℕ, List, [], ◌∷◌, ◌++◌, refl, ap}
use Rattle.nfc_base.specs.declared.event.Event.{Event}
use Rattle.nfc_base.specs.Signal.{Signal}
use Rattle.nfc_base.specs.TagLinks.{TagState, TagStep, after_all, passed}
use Rattle.air_core.specs.World.{World, happens, quiet_air}
use Rattle.air_core.specs.Conversation.{replay}
use Rattle.air_core.specs.PlainLinks.{at_place, Follows, stores_after}
use Rattle.air_core.specs.declared.listener.Listener.{Ghosts}

-- the last of some stores, the one before them where there is none
abbrev pub last_of : List ℕ → List (List ℕ) → List ℕ
last_of now [] = now
last_of now (y ∷ ys) = last_of y ys

pub last_passed : (step : TagState → Signal → TagStep) (s : TagState) (cs : List Signal)
    → last_of s.store (passed step s cs) ≡ (after_all step s cs).store
last_passed step s [] = refl
last_passed step s (c ∷ cs) = last_passed step (step s c).after cs

pub follows_on : (now : List ℕ) (xs ys zs ws : List (List ℕ)) → Follows now xs ys → Follows (last_of now ys) zs ws
    → Follows now (xs ++ zs) (ys ++ ws)
follows_on now [] [] zs ws p q = q
follows_on now [] (y ∷ ys) zs ws p q = absurd p
follows_on now (x ∷ xs) [] zs [] p q = (p.0, follows_on now xs [] zs [] p.1 q)
follows_on now (x ∷ xs) [] zs (w ∷ ws) p q = inl (p.0, follows_on now xs [] zs (w ∷ ws) p.1 q)
follows_on now (x ∷ xs) (y ∷ ys) zs ws (inl p) q = inl (p.0, follows_on now xs (y ∷ ys) zs ws p.1 q)
follows_on now (x ∷ xs) (y ∷ ys) zs ws (inr p) q = inr (p.0, follows_on y xs ys zs ws p.1 q)

pub stores_append : {L : Type 0} (k : Ghosts L) (place : ℕ) (w : World L) (a b : List Event) →
    stores_after k place w (a ++ b) ≡ stores_after k place w a
    ++ stores_after k place (replay (quiet_air k.machine) w a) b
stores_append k place w [] b = refl
stores_append k place w (e ∷ a) b = ap (λ xs. at_place k.store [] (happens k.machine w e).listeners place ∷ xs)
    (stores_append k place (happens k.machine w e) a b)
