-- Things that stand in bytes one behind the other (this project's own).
use Rattle.std.specs.Prelude.{◌≡◌, ℕ, List, [], ◌∷◌}

-- Each begins the bytes that those before it leave, so that the rest stands behind it; and the last leaves none.
abbrev pub Spelled : {A : Type 0} → (A → List ℕ → List ℕ → Type 0) → List A → List ℕ → Type 0
Spelled begins [] bytes = bytes ≡ []
Spelled begins (x ∷ xs) bytes = (rest : List ℕ) × begins x bytes rest × Spelled begins xs rest
