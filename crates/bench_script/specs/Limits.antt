-- The limits of a script's lines; this project's own.
use Rattle.std.specs.Prelude.{ℕ, ◌≤◌, List, length}
use Rattle.std.specs.List.{All}

-- how many lines it may have, and how many bytes a line, without its LF
abbrev pub most_lines : ℕ
most_lines = 1000

abbrev pub longest_line : ℕ
longest_line = 4096

-- Neither the number of the lines is above its limit nor the length of one of them.
pub record AreWithinLimits (lines : List (List ℕ)) : Type 0 where
  pub few : length lines ≤ most_lines
  pub short : All (λ l. length l ≤ longest_line) lines
