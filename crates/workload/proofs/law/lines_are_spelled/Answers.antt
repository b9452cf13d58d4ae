use Rattle.workload.proofs.Spelled.{lines_spelled, within_limits}
use Rattle.workload.proofs.law.lines_are_spelled.Goals as goal

pub returns-clause-spelled : goal.returns-clause-spelled
returns-clause-spelled c = lines_spelled

pub returns-clause-limits : goal.returns-clause-limits
returns-clause-limits c = within_limits
