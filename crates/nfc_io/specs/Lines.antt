-- The lines of some bytes.
use Rattle.std.specs.Prelude.{◌≡◌, ◌≢◌, ℕ, ◌<◌, List, [], ◌∷◌, ◌++◌, length, slice_index, ◌==◌, if◌then◌else◌, Option}
use Rattle.std.specs.Prelude.{Some, None}
use Rattle.std.specs.List.{onto_first}

-- the lines: each ends with LF, and the last may lack it; nothing behind the last LF is no line
abbrev pub lines_of : List ℕ → List (List ℕ)
lines_of [] = []
lines_of (b ∷ bs) = if b == 10 then [] ∷ lines_of bs else onto_first b (lines_of bs)

-- a byte before the first of some whole lines
abbrev pub onto_whole : ℕ → List (List ℕ) → List (List ℕ)
onto_whole b [] = []
onto_whole b (w ∷ ws) = (b ∷ w) ∷ ws

-- the lines that end with LF
abbrev pub whole_lines : List ℕ → List (List ℕ)
whole_lines [] = []
whole_lines (b ∷ bs) = if b == 10 then [] ∷ whole_lines bs else onto_whole b (whole_lines bs)

-- no LF is in the text
abbrev pub NoLf : List ℕ → Type 0
NoLf l = (k : ℕ) → k < length l → slice_index l k ≢ 10

-- the first line, and the text behind its LF, where there is one
abbrev pub CutsLine : List ℕ → List ℕ → Option (List ℕ) → Type 0
CutsLine text line None = (text ≡ line) × NoLf line
CutsLine text line (Some rest) = (text ≡ line ++ 10 ∷ rest) × NoLf line

-- the bytes of some lines, each with its LF
abbrev pub joined : List (List ℕ) → List ℕ
joined [] = []
joined (l ∷ ls) = l ++ 10 ∷ joined ls
