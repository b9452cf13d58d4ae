-- What an input to be audited holds: the lines of a script, a line that ends them, and a report. (This project's own.)
use Rattle.std.specs.Prelude.{◌≡◌, ◌≢◌, ◌⊎◌, ℕ, ◌+◌, ◌<◌, List, [], ◌∷◌, ◌++◌, length, take, codes, ◌==◌, ◌*◌}
use Rattle.std.specs.List.{All, count_by}
use Rattle.nfc_io.specs.Lines.{lines_of, joined}
use Rattle.bench_script.specs.Limits.{most_lines, longest_line, AreWithinLimits}
use Rattle.nfc_bench.specs.Limits.{chunk_size, longest_script}

-- the line that ends a script
abbrev pub mark : List ℕ
mark = codes "%%"

-- how many bytes a report may have
abbrev pub most_report : ℕ
most_report = 16777216

-- How many bytes of an input are read: at most those of the longest script, of two lines more, of the longest report,
-- and of one call.
abbrev pub most_audited : ℕ
most_audited = longest_script + 2 * (longest_line + 1) + most_report + chunk_size

-- none of these lines is that one
abbrev pub HaveNoMark : List (List ℕ) → Type 0
HaveNoMark lines = All (λ l. l ≢ mark) lines

-- The input has this report, behind these lines and the one that ends them; which may lack its LF where nothing stands
-- behind it.
pub record HasReport (input : List ℕ) (lines : List (List ℕ)) (report : List ℕ) : Type 0 where
  pub cut : lines_of input ≡ lines ++ mark ∷ lines_of report
  pub bytes : (input ≡ joined lines ++ (mark ++ 10 ∷ report)) ⊎ ((input ≡ joined lines ++ mark) × (report ≡ []))

-- Behind these lines comes one that doesn't end them, and is one too many or too long.
pub record GoesBeyond (lines all : List (List ℕ)) : Type 0 where
  pub line : List ℕ
  pub after : List (List ℕ)
  pub parts : all ≡ lines ++ line ∷ after
  pub other : line ≢ mark
  pub beyond : (most_lines < 1 + length lines) ⊎ (longest_line < length line)

-- The input has no report: it ends behind these lines, or goes beyond the limits of a script.
abbrev pub LacksReport : List ℕ → List (List ℕ) → Type 0
LacksReport input lines = (lines_of input ≡ lines) ⊎ GoesBeyond lines (lines_of input)

-- The script of the input: its lines up to the one that ends them, and where none does, those within the limits.
pub record IsScriptOf (input : List ℕ) (lines : List (List ℕ)) : Type 0 where
  pub limits : AreWithinLimits lines
  pub none : HaveNoMark lines
  pub ends : LacksReport input lines ⊎ ((report : List ℕ) × HasReport input lines report)

-- in how many of these bytes a line ends
abbrev pub ends_in : List ℕ → ℕ
ends_in bytes = count_by (λ b. b == 10) bytes

-- the line of the input in which a report is longer than it may be
abbrev pub passing_line : List (List ℕ) → List ℕ → ℕ
passing_line lines report = length lines + 2 + ends_in (take most_report report)

-- Line n of the input is the first that shows that it has no report which may be audited: the one behind the script, or
-- the one in which the report is longer than it may be.
abbrev pub HasNone : List ℕ → List (List ℕ) → ℕ → Type 0
HasNone input lines n =
    (LacksReport input lines × (n ≡ 1 + length lines))
    ⊎ ((report : List ℕ) × HasReport input lines report × (most_report < length report)
    × (n ≡ passing_line lines report))
