-- The numbers by which an end chooses what it gives, one each time; where none is left, 0.
use Rattle.std.specs.Prelude.{ℕ, List, [], ◌∷◌}

-- the next number of those that are left
abbrev pub first_number : List ℕ → ℕ
first_number [] = 0
first_number (n ∷ ns) = n

abbrev pub later_numbers : List ℕ → List ℕ
later_numbers [] = []
later_numbers (n ∷ ns) = ns

-- an end, and the numbers that are left to it
pub record Choosing (F : Type 0) : Type 0 where
  pub end : F
  pub numbers : List ℕ
