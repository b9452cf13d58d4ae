-- What reading a whole script comes to, before a line of it is obeyed. (Limits are this project's own.)
use Rattle.std.specs.Prelude.{◌≡◌, ◌⊎◌, ℕ, ◌+◌, ◌<◌, List, [], ◌∷◌, ◌++◌, length, Bool, true, false, Option, Some}
use Rattle.std.specs.Prelude.{IfSome}
use Rattle.nfc_io.specs.Lines.{lines_of}
use Rattle.bench_script.specs.Limits.{most_lines, longest_line, AreWithinLimits}

-- The lines of a script that were read, and whether one more stands behind them that isn't.
pub record Scripted : Type 0 where
  pub lines : List (List ℕ)
  pub is_cut : Bool

-- There is an input; it is the source's, where the source tells its bytes.

-- it was read to its end: these are its lines
pub record ReadsAll (left left' : Option (List ℕ)) (lines : List (List ℕ)) : Type 0 where
  pub input : List ℕ
  pub told : IfSome left (λ bytes. (input ≡ bytes) × (left' ≡ Some []))
  pub parts : lines_of input ≡ lines
  pub limits : AreWithinLimits lines

-- these are the first of some lines, and the next is one too many or too long
pub record AreCut (front lines : List (List ℕ)) : Type 0 where
  pub line : List ℕ
  pub after : List (List ℕ)
  pub parts : lines ≡ front ++ line ∷ after
  pub beyond : (most_lines < 1 + length front) ⊎ (longest_line < length line)

-- these are the first lines of the input, and so is the next
pub record ReadsToLimit (left : Option (List ℕ)) (lines : List (List ℕ)) : Type 0 where
  pub input : List ℕ
  pub told : IfSome left (λ bytes. input ≡ bytes)
  pub cut : AreCut lines (lines_of input)
  pub limits : AreWithinLimits lines

-- The lines of a script are just those that were read, or behind them comes one that is one too many or too long.
pub record AreLinesOf (s : Scripted) (lines : List (List ℕ)) : Type 0 where
  pub limits : AreWithinLimits s.lines
  pub whole : s.is_cut ≡ false → lines ≡ s.lines
  pub cut : s.is_cut ≡ true → AreCut s.lines lines

-- A script was read: to the input's end, unless it is cut.
pub record ReadsScript (left left' : Option (List ℕ)) (s : Scripted) : Type 0 where
  pub input : List ℕ
  pub told : IfSome left (λ bytes. (input ≡ bytes) × (s.is_cut ≡ false → left' ≡ Some []))
  pub lines : AreLinesOf s (lines_of input)
