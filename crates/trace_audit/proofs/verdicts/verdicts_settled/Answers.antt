use Rattle.trace_audit.proofs.Settled.{none_unaudited, one_fault, one_unaudited}
use Rattle.trace_audit.proofs.verdicts.verdicts_settled.Goals as goal

pub returns : goal.returns
returns c = record { fault = one_fault; script = one_unaudited; whole = none_unaudited }
