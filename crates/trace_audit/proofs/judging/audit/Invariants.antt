use Rattle.std.proofs.Common.{length}
use Rattle.trace_audit.proofs.Judged.{WalksAt}
use Rattle.trace_audit.proofs.judging.audit.Given as goal

abbrev pub invariant-lines : goal.invariant-lines
invariant-lines l = WalksAt l.script l.report l.left l.line l.bench l.walk

abbrev pub decreases-lines : goal.decreases-lines
decreases-lines l = length l.left
