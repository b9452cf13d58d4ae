use Rattle.trace_audit.proofs.Steps.{takes_if}
use Rattle.trace_audit.proofs.stepping.take_line.Goals as goal

pub returns-else-walk-clause-ok : goal.returns-else-walk-clause-ok
returns-else-walk-clause-ok c = takes_if c.args.bench.now c.follow_line.new.bench c.args.line c.args.command.now c.args.walk c.follow_line.result c.in_default.not-Skip c.if-walk.false
    c.follow_line.ensures.ok
