-- What the parts of an audit come to; for private calls.
use Rattle.std.specs.Prelude.{◌≡◌, ℕ, List, Option, IfSome}
use Rattle.nfc_io.specs.Counts.{HasRisen}
use Rattle.bench_world.specs.Obeying.{Benched}
use Rattle.trace_audit.specs.Auditing.{IsUnauditedAt}
use Rattle.trace_audit.specs.Judging.{Says}
use Rattle.trace_audit.specs.declared.judging.Verdict.{Verdict}
use Rattle.nfc_bench.specs.Audit.{IsUnaudited, ReadsAudited}
use Rattle.nfc_bench.specs.declared.top.audit.Unaudited.{Unaudited}
use Rattle.nfc_bench.specs.declared.top.audit.Unaudited.TheVariants.{Refused, ReadFault, Memory}

-- an input was read, and its report judged
pub record HasJudged (left left' : Option (List ℕ)) (b : Benched) (verdict : Verdict) : Type 0 where
  pub read : ReadsAudited left left'
  pub says : Says read.parts.lines read.parts.report b verdict

-- a line of it isn't audited
pub record RefusesAudit (left : Option (List ℕ)) (n : ℕ) : Type 0 where
  pub input : List ℕ
  pub told : IfSome left (λ bytes. input ≡ bytes)
  pub line : IsUnaudited input n

-- why the lines of a script have no verdict
abbrev pub LinesStop : List (List ℕ) → Unaudited → Type 0
LinesStop lines (Refused n) = IsUnauditedAt lines n
LinesStop lines ReadFault = ⊥
LinesStop lines Memory = Unit {0}

-- why an input has none
abbrev pub AuditStops : Option (List ℕ) → ℕ → ℕ → Benched → Benched → Unaudited → Type 0
AuditStops left r r' b b' (Refused n) = RefusesAudit left n
AuditStops left r r' b b' ReadFault = HasRisen r r' × (b' ≡ b)
AuditStops left r r' b b' Memory = Unit {0}
