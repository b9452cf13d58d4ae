-- What an audit answers: a verdict on the report where all lines of the script are audited, and else the first that
-- isn't.
use Rattle.std.specs.Prelude.{◌≡◌, ◌+◌, ◌<◌, ◌⊎◌, ℕ, List, [], length, true, false}
use Rattle.bench_script.specs.declared.command.Command.{Command}
use Rattle.bench_world.specs.Legal.{State}
use Rattle.bench_world.specs.Obeying.{Benched}
use Rattle.trace_audit.specs.declared.judging.AuditFault.{AuditFault}
use Rattle.trace_audit.specs.declared.judging.AuditFault.TheVariants.{Memory, Script}
use Rattle.trace_audit.specs.declared.judging.Verdict.{Verdict}
use Rattle.trace_audit.specs.declared.judging.Verdict.TheVariants.{Faulty, Legal}
use Rattle.trace_audit.specs.declared.stepping.Walk.{Walk}
use Rattle.trace_audit.specs.Auditing.{AreAudited, IsAudited, IsFaultyAt, IsReportOf, IsUnauditedAt}

-- The report is the text of the journal that the bench has now, or has this first line that no run can have. Only one
-- of these can be, and of one line alone (`verdicts_settled`), so each comes exactly where it is so.
abbrev pub Says : List (List ℕ) → List ℕ → Benched → Verdict → Type 0
Says lines report bench Legal = IsReportOf lines report bench
Says lines report bench (Faulty n) = IsFaultyAt lines report n

pub record Judges (lines : List (List ℕ)) (report : List ℕ) (bench : Benched) (verdict : Verdict) : Type 0 where
  pub commands : List Command
  pub audited : AreAudited lines commands
  pub says : Says lines report bench verdict

-- A script is refused at the first line that isn't audited, whatever the report is. Where memory is wanting nothing is
-- said.
abbrev pub RefusesScript : List (List ℕ) → AuditFault → Type 0
RefusesScript lines (Script n) = IsUnauditedAt lines n
RefusesScript lines Memory = Unit {0}

-- A line of the script is refused where it isn't audited, by its number.
abbrev pub RefusedAt : State → ℕ → List ℕ → AuditFault → Type 0
RefusedAt s line text (Script n) = (n ≡ line) × (IsAudited s text → ⊥)
RefusedAt s line text Memory = Unit {0}

-- Behind the last line of the script: the report's next line is a fault where the walk has strayed or something is
-- left, and else there is none.
abbrev pub JudgedAt : Walk → Verdict → Type 0
JudgedAt w Legal = (w.strayed ≡ false) × (w.left.now ≡ [])
JudgedAt w (Faulty n) = (n ≡ w.good + 1) × ((w.strayed ≡ true) ⊎ (0 < length w.left.now))

-- the numbers of the errors
abbrev pub audit_fault_number : AuditFault → ℕ
audit_fault_number (Script n) = 1
audit_fault_number Memory = 2
