-- An audit, from what its parts came to.
use Rattle.std.proofs.Common.{◌≡◌, ℕ, ◌<◌, ◌≤◌, ◌^◌, ◌⊎◌, List, [], length, Option, Some, None, inl, inr, sym, subst, arith}
use Rattle.std.specs.Prelude.{IfSome}
use Rattle.nfc_io.specs.Lines.{lines_of}
use Rattle.bench_script.specs.Limits.{AreWithinLimits}
use Rattle.bench_world.specs.Obeying.{Benched}
use Rattle.trace_audit.specs.Auditing.{IsReportOf}
use Rattle.trace_audit.specs.Judging.{Judges}
use Rattle.trace_audit.specs.declared.judging.Verdict.{Verdict}
use Rattle.nfc_bench.specs.declared.top.audit.Unaudited.{Unaudited}
use Rattle.nfc_bench.specs.declared.top.audit.Unaudited.TheVariants.{Refused, ReadFault, Memory}
use Rattle.nfc_bench.specs.declared.top.audit_input.Behind.{Behind}
use Rattle.nfc_bench.specs.declared.top.audit_input.Behind.TheVariants.{Report, NoReport}
use Rattle.nfc_bench.specs.AuditInput.{HaveNoMark, HasReport, LacksReport, HasNone, IsScriptOf}
use Rattle.nfc_bench.specs.private.AuditReading.{IsRead, ReadsInput, StandsBehind}
use Rattle.nfc_bench.specs.private.AuditStops.{HasJudged, RefusesAudit, LinesStop, AuditStops}
use Rattle.nfc_bench.proofs.Counting.{numbered_few}

-- The input is the source's.
is_told : (left left' : Option (List ℕ)) (input : List ℕ) (behind : Behind) → IfSome left (λ bytes. (input ≡ bytes) × IsRead behind left') → IfSome left (λ bytes. input ≡ bytes)
is_told None left' input behind told = tt
is_told (Some bytes) left' input behind told = told.0

-- What is judged of what stands behind a script: its report, or, where there is none, the empty one.
abbrev pub JudgesBehind : List (List ℕ) → Behind → Benched → Verdict → Type 0
JudgesBehind lines (Report report) b v = Judges lines report.items b v
JudgesBehind lines (NoReport n) b v = Judges lines [] b v

-- That is a verdict; or a line isn't audited.
abbrev pub Concludes : Option (List ℕ) → Option (List ℕ) → Behind → Benched → Verdict → Type 0
Concludes left left' (Report report) b v = HasJudged left left' b v
Concludes left left' (NoReport n) b v = RefusesAudit left n

-- the script of an input
ends_so : (input : List ℕ) (lines : List (List ℕ)) (behind : Behind) → StandsBehind input lines behind → LacksReport input lines ⊎ ((report : List ℕ) × HasReport input lines report)
ends_so input lines (Report report) stands = inr (report.items, stands.0)
ends_so input lines (NoReport n) (inl lacks) = inl lacks.0
ends_so input lines (NoReport n) (inr (report, has, long, number)) = inr (report, has)

script_of : (left left' : Option (List ℕ)) (script : List ℕ) (behind : Behind) (rs : ReadsInput left left' script behind) → IsScriptOf rs.input (lines_of script)
script_of left left' script behind rs =
    subst (λ ls. IsScriptOf rs.input ls) (sym rs.cut) (record { limits = rs.limits; none = rs.none; ends = ends_so rs.input rs.lines behind rs.stands })

-- an input was judged
pub concludes : (left left' : Option (List ℕ)) (script : List ℕ) (behind : Behind) (b : Benched) (v : Verdict) → ReadsInput left left' script behind
    → JudgesBehind (lines_of script) behind b v → Concludes left left' behind b v
concludes left left' script (Report report) b v rs j = record {
  read = record {
    input = rs.input;
    told = rs.told;
    parts = record {
      lines = lines_of script;
      report = report.items;
      parts = subst (λ ls. HasReport rs.input ls report.items) (sym rs.cut) rs.stands.0;
      none = subst (λ ls. HaveNoMark ls) (sym rs.cut) rs.none;
      limits = subst (λ ls. AreWithinLimits ls) (sym rs.cut) rs.limits;
      few = rs.stands.1;
      commands = j.commands;
      audited = j.audited;
    };
  };
  says = j.says;
}
concludes left left' script (NoReport n) b v rs j = record {
  input = rs.input;
  told = is_told left left' rs.input (NoReport n) rs.told;
  line = record {
    lines = lines_of script;
    script = script_of left left' script (NoReport n) rs;
    why = inr (j.commands, j.audited, subst (λ ls. HasNone rs.input ls n) (sym rs.cut) rs.stands);
  };
}

-- why it wasn't
pub stops : (left left' : Option (List ℕ)) (script : List ℕ) (behind : Behind) (r r' : ℕ) (b b' : Benched) (why : Unaudited) → ReadsInput left left' script behind
    → LinesStop (lines_of script) why → AuditStops left r r' b b' why
stops left left' script behind r r' b b' (Refused n) rs s = record {
  input = rs.input;
  told = is_told left left' rs.input behind rs.told;
  line = record { lines = lines_of script; script = script_of left left' script behind rs; why = inl s };
}
stops left left' script behind r r' b b' ReadFault rs s = absurd s
stops left left' script behind r r' b b' Memory rs s = tt

-- a journal of a script has few entries
pub report_few : (lines : List (List ℕ)) (report : List ℕ) (b : Benched) → AreWithinLimits lines → IsReportOf lines report b → length b.journal < 2 ^ 32
report_few lines report b limits is =
    let few : length lines ≤ 1000 = limits.few in
    omega (arith, few, numbered_few 1 lines b.journal is.leads.numbered)
