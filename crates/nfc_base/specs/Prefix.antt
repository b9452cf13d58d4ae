-- The beginning of a list.
use Rattle.std.specs.Prelude.{◌≡◌, List, ◌++◌}

-- the second list begins with the first
abbrev pub IsPrefix : {A : Type 0} → List A → List A → Type 0
IsPrefix {A} xs ys = (rest : List A) × (ys ≡ xs ++ rest)
