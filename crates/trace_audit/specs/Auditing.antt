-- What an audit says of a report: that it is one that a script may have, or else which is its first line that no run
-- can have; and which scripts it audits. (Scripts and reports are this project's own.)
use Rattle.std.specs.Prelude.{◌≡◌, ℕ, ◌+◌, ◌≤◌, List, [], ◌∷◌, ◌++◌, length, take, false}
use Rattle.std.specs.List.{AllByRecursion}
use Rattle.nfc_io.specs.Lines.{joined, whole_lines}
use Rattle.bench_script.specs.declared.command.Command.{Command}
use Rattle.bench_script.specs.Script.{Spells}
use Rattle.bench_world.specs.declared.entry.Entry.{Entry}
use Rattle.bench_world.specs.Following.{MayFollow}
use Rattle.bench_world.specs.Journal.{LeadsTo, Legal}
use Rattle.bench_world.specs.Legal.{State, Joins, changed, first_state}
use Rattle.bench_world.specs.Obeying.{Benched}
use Rattle.bench_world.specs.Report.{report_text}
use Rattle.bench_world.specs.Showing.{MayShow}
use Rattle.bench_world.specs.Taking.{AreTaken, standing_of}
use Rattle.trace_audit.specs.Reading.{AreOnAir}
use Rattle.nfc_base.specs.Prefix.{IsPrefix}

-- each frame in a journal is one that may be on the air
abbrev pub IsOnAir : List Entry → Type 0
IsOnAir journal = AllByRecursion (λ (e : Entry). AreOnAir e.events) journal

-- A text is good for some lines where it is the report of a journal that they may have, by any numbers of PDUs.
pub record IsGoodText (lines : List (List ℕ)) (text : List ℕ) : Type 0 where
  pub journal : List Entry
  pub legal : Legal lines journal
  pub on_air : IsOnAir journal
  pub is : text ≡ report_text false journal

-- the first so many lines of a text, each with its LF
abbrev pub first_lines : ℕ → List ℕ → List ℕ
first_lines n text = joined (take n (whole_lines text))

-- some good text begins so
pub record BeginsGood (lines : List (List ℕ)) (front : List ℕ) : Type 0 where
  pub text : List ℕ
  pub good : IsGoodText lines text
  pub begins : IsPrefix front text

-- Line n, counted from 1, is the first of the report that no run can have: a good text begins with those before it, and
-- none with these and line n. A last line without LF is none that a good text has; and where the report ends too early,
-- or is empty, line n is the one that isn't there.
pub record IsFaultyAt (lines : List (List ℕ)) (report : List ℕ) (n : ℕ) : Type 0 where
  pub good : ℕ
  pub next : n ≡ good + 1
  pub within : good ≤ length (whole_lines report)
  pub begins : BeginsGood lines (first_lines good report)
  pub ends : n ≤ length (whole_lines report) → BeginsGood lines (first_lines n report) → ⊥
  pub not_good : IsGoodText lines report → ⊥

-- The bench has a journal that the lines may have, whose text is the report; so the report is a good text.
pub record IsReportOf (lines : List (List ℕ)) (report : List ℕ) (bench : Benched) : Type 0 where
  pub sound : bench.spoiled ≡ false
  pub numbers : List Joins
  pub leads : LeadsTo lines numbers bench.journal bench.state
  pub on_air : IsOnAir bench.journal
  pub is : report ≡ report_text false bench.journal

-- A line is audited in a state: it spells a command that may be followed there, so it is accepted and isn't a `raw`
-- while a peer is placed.
abbrev pub IsAudited : State → List ℕ → Type 0
IsAudited s line = (c : Command) × Spells line c × MayFollow s c

-- none of these commands is such a `raw`, each behind those before it
abbrev pub AllShow : State → List Command → Type 0
AllShow s [] = Unit {0}
AllShow s (c ∷ cs) = MayShow s c × AllShow (changed s c) cs

-- The lines are audited, each behind those before it: they spell these commands. What is sent plays no part in it.
pub record AreAudited (lines : List (List ℕ)) (commands : List Command) : Type 0 where
  pub taken : AreTaken lines commands
  pub shown : AllShow first_state commands

-- Line n, counted from 1, is the first of the lines that isn't audited. So it is of the lines alone, whatever the
-- report is.
pub record IsUnauditedAt (lines : List (List ℕ)) (n : ℕ) : Type 0 where
  pub before : List (List ℕ)
  pub line : List ℕ
  pub after : List (List ℕ)
  pub parts : lines ≡ before ++ line ∷ after
  pub number : n ≡ length before + 1
  pub commands : List Command
  pub audited : AreAudited before commands
  pub refused : IsAudited (standing_of commands) line → ⊥

-- What an audit says is settled by the lines and the report: at most one line of a report is the first that no run can
-- have, ...
abbrev pub OneFault : Type 0
OneFault = (lines : List (List ℕ)) (report : List ℕ) (n m : ℕ) → IsFaultyAt lines report n → IsFaultyAt lines report m
    → n ≡ m

-- ... at most one line of a script is the first that isn't audited, ...
abbrev pub OneUnaudited : Type 0
OneUnaudited = (lines : List (List ℕ)) (n m : ℕ) → IsUnauditedAt lines n → IsUnauditedAt lines m → n ≡ m

-- ... and none where all are.
abbrev pub NoneUnaudited : Type 0
NoneUnaudited = (lines : List (List ℕ)) (commands : List Command) (n : ℕ) → AreAudited lines commands
    → IsUnauditedAt lines n → ⊥
