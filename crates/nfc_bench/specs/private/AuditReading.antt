-- What reading an input to be audited comes to, part by part; for private calls.
use Rattle.std.specs.Prelude.{◌≡◌, ◌≢◌, ◌⊎◌, ℕ, ◌+◌, ◌*◌, ◌<◌, ◌≤◌, List, [], ◌∷◌, ◌++◌, length, take, true, false}
use Rattle.std.specs.Prelude.{Option, Some, None, IfSome, Result, Ok, Err, Bool}
use Rattle.std.specs.List.{AllByRecursion}
use Rattle.nfc_io.specs.Lines.{lines_of, joined, NoLf}
use Rattle.nfc_io.specs.Reading.{Lined, new_lined, Advances, GaveLines}
use Rattle.nfc_io.specs.declared.line_reader.LineStop.{LineStop}
use Rattle.nfc_io.specs.declared.line_reader.LineStop.TheVariants as stops
use Rattle.nfc_io.specs.Behind.{HandsOver, bytes_of}
use Rattle.nfc_io.specs.declared.rest.Rest.{Rest}
use Rattle.nfc_io.specs.declared.rest.Rest.TheVariants as rests
use Rattle.bench_script.specs.Limits.{most_lines, longest_line, AreWithinLimits}
use Rattle.nfc_bench.specs.Limits.{longest_script}
use Rattle.nfc_bench.specs.AuditInput.{mark, most_report, HaveNoMark, HasReport, LacksReport, HasNone, ends_in}
use Rattle.nfc_bench.specs.declared.top.audit_input.Ahead.{Ahead}
use Rattle.nfc_bench.specs.declared.top.audit_input.Ahead.TheVariants.{Marked, Unmarked}
use Rattle.nfc_bench.specs.declared.top.audit_input.Behind.{Behind}
use Rattle.nfc_bench.specs.declared.top.audit_input.Behind.TheVariants.{Report, NoReport}
use Rattle.nfc_bench.specs.declared.top.audit_input.Next.{Next}
use Rattle.nfc_bench.specs.declared.top.audit_input.Next.TheVariants.{Line, Mark, Nothing}

-- A reader went on: to a line, to the one that ends a script, or to none, where there is none or it is too long.
abbrev pub GoesTo : Lined → Lined → Option (List ℕ) → Option (List ℕ) → Next → Type 0
GoesTo a b left left' Line = Advances a b left left' (Ok true) × (b.line ≢ mark)
GoesTo a b left left' Mark = Advances a b left left' (Ok true) × (b.line ≡ mark)
GoesTo a b left left' Nothing = Advances a b left left' (Ok false) ⊎ Advances a b left left' (Err stops.TooLong)

-- It came to something, and holds no more than it has room for.
pub record WentOn (a b : Lined) (left left' : Option (List ℕ)) : Type 0 where
  pub result : Result Bool LineStop
  pub advanced : Advances a b left left' result
  pub few : length b.held ≤ 4097

-- how many bytes are read up to the line that ends a script: those of two lines more at most, of which one is held
abbrev pub most_ahead : ℕ
most_ahead = longest_script + 2 * (longest_line + 1)

-- The lines of a script, as they were read: these are their bytes, each with its LF, and so many they are.
pub record AreLines (lines : List (List ℕ)) (script : List ℕ) (count : ℕ) : Type 0 where
  pub bytes : script ≡ joined lines
  pub number : count ≡ length lines
  pub clean : AllByRecursion NoLf lines
  pub limits : AreWithinLimits lines
  pub none : HaveNoMark lines

-- A reader gave lines, which are gathered.
pub record HasGathered (left left' : Option (List ℕ)) (reader : Lined) (script : List ℕ) (count : ℕ) : Type 0 where
  pub lines : List (List ℕ)
  pub are : AreLines lines script count
  pub gave : GaveLines lines new_lined left reader left'
  pub going : reader.stop ≡ None

-- ... and behind them the one that ends them
pub record ComesToMark (left left' : Option (List ℕ)) (reader : Lined) (script : List ℕ) (count : ℕ) : Type 0 where
  pub lines : List (List ℕ)
  pub are : AreLines lines script count
  pub gave : GaveLines (lines ++ mark ∷ []) new_lined left reader left'
  pub going : reader.stop ≡ None

-- ... or none that does. There is an input; it is the source's, where the source tells its bytes.
pub record ComesToNone (left : Option (List ℕ)) (script : List ℕ) (count : ℕ) : Type 0 where
  pub lines : List (List ℕ)
  pub are : AreLines lines script count
  pub input : List ℕ
  pub told : IfSome left (λ bytes. input ≡ bytes)
  pub lacks : LacksReport input lines

abbrev pub Comes : Option (List ℕ) → Option (List ℕ) → Lined → Ahead → Type 0
Comes left left' reader (Marked script count) = ComesToMark left left' reader script.items count × (count ≤ most_lines)
Comes left left' reader (Unmarked script count) = ComesToNone left script.items count × (count ≤ most_lines)

-- A reader hands over what stands behind so many lines and the one that ends them.
abbrev pub HandsReport : Lined → Option (List ℕ) → Option (List ℕ) → ℕ → Behind → Type 0
HandsReport a left left' count (Report report) = HandsOver most_report a left left' (rests.Whole report)
HandsReport a left left' count (NoReport n) =
    (rest : Rest) × HandsOver most_report a left left' rest × (most_report < length (bytes_of rest))
    × (n ≡ count + 2 + ends_in (take most_report (bytes_of rest)))

-- the source was read to its end, where there is a report
abbrev pub IsRead : Behind → Option (List ℕ) → Type 0
IsRead (Report report) left' = left' ≡ Some []
IsRead (NoReport n) left' = Unit {0}

-- what stands behind the lines of a script
abbrev pub StandsBehind : List ℕ → List (List ℕ) → Behind → Type 0
StandsBehind input lines (Report report) = HasReport input lines report.items × (length report.items ≤ most_report)
StandsBehind input lines (NoReport n) = HasNone input lines n

-- An input was read: the lines of its script, and what stands behind them.
pub record ReadsInput (left left' : Option (List ℕ)) (script : List ℕ) (behind : Behind) : Type 0 where
  pub input : List ℕ
  pub told : IfSome left (λ bytes. (input ≡ bytes) × IsRead behind left')
  pub lines : List (List ℕ)
  pub cut : lines_of script ≡ lines
  pub limits : AreWithinLimits lines
  pub none : HaveNoMark lines
  pub stands : StandsBehind input lines behind
