-- What a run of the words `audit` does, by the status that it ends with. (This project's own.)
use Rattle.std.specs.Prelude.{◌≡◌, ◌⊎◌, ℕ, ◌≤◌, List, [], length, Option, Some, IfSome}
use Rattle.nfc_io.specs.Counts.{HasRisen}
use Rattle.nfc_io.specs.Moves.{with_end, GainsFront}
use Rattle.bench_script.specs.declared.command.Command.{Command}
use Rattle.bench_script.specs.Limits.{AreWithinLimits}
use Rattle.bench_world.specs.Obeying.{Benched}
use Rattle.trace_audit.specs.Auditing.{AreAudited, IsFaultyAt, IsReportOf, IsUnauditedAt}
use Rattle.nfc_bench.specs.AuditInput.{most_report, most_audited, HaveNoMark, HasReport, IsScriptOf, HasNone}
use Rattle.nfc_bench.specs.AuditText.{faulty_line, legal_text}

-- An input that is audited: a script, whose lines are all audited, and a report that isn't too long.
pub record IsAudited (input : List ℕ) : Type 0 where
  pub lines : List (List ℕ)
  pub report : List ℕ
  pub parts : HasReport input lines report
  pub none : HaveNoMark lines
  pub limits : AreWithinLimits lines
  pub few : length report ≤ most_report
  pub commands : List Command
  pub audited : AreAudited lines commands

-- Line n of an input isn't audited: it is the first of its script that isn't; or all of that are, and the input has no
-- report that may be audited, which line n is the first to show.
pub record IsUnaudited (input : List ℕ) (n : ℕ) : Type 0 where
  pub lines : List (List ℕ)
  pub script : IsScriptOf input lines
  pub why : IsUnauditedAt lines n ⊎ ((commands : List Command) × AreAudited lines commands × HasNone input lines n)

-- There is an input; it is the source's, where the source tells its bytes.

-- it was read to its end, and is audited
pub record ReadsAudited (left left' : Option (List ℕ)) : Type 0 where
  pub input : List ℕ
  pub told : IfSome left (λ bytes. (input ≡ bytes) × (left' ≡ Some []))
  pub parts : IsAudited input

-- Status 0: the report is the text of a journal that the script may have, which the bench has now; that was written,
-- and what was accepted on each link.
pub record EndsLegal (left left' taken taken' : Option (List ℕ)) (b : Benched) : Type 0 where
  pub read : ReadsAudited left left'
  pub is : IsReportOf read.parts.lines read.parts.report b
  pub written : taken' ≡ with_end taken (legal_text b)

-- Status 1: this line of the report is the first that no run can have; that was written.
pub record EndsFaulty (left left' taken taken' : Option (List ℕ)) : Type 0 where
  pub read : ReadsAudited left left'
  pub number : ℕ
  pub faulty : IsFaultyAt read.parts.lines read.parts.report number
  pub written : taken' ≡ with_end taken (faulty_line number)

-- what an audit found, of which the sink gained a front
abbrev pub IsCutOff : List (List ℕ) → List ℕ → Option (List ℕ) → Option (List ℕ) → Benched → Type 0
IsCutOff lines report taken taken' b =
    (IsReportOf lines report b × GainsFront taken taken' (legal_text b))
    ⊎ ((n : ℕ) × IsFaultyAt lines report n × GainsFront taken taken' (faulty_line n))

-- Status 4: the sink failed within what was found.
pub record EndsUnfound (left left' taken taken' : Option (List ℕ)) (writes writes' : ℕ) (b : Benched) : Type 0 where
  pub risen : HasRisen writes writes'
  pub read : ReadsAudited left left'
  pub found : IsCutOff read.parts.lines read.parts.report taken taken' b
