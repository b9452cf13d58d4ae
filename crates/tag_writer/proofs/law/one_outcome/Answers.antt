use Rattle.tag_writer.proofs.OneOutcome.{one_outcome, told_outcome}
use Rattle.tag_writer.proofs.law.one_outcome.Goals as goal

pub returns-clause-one : goal.returns-clause-one
returns-clause-one c = one_outcome

pub returns-clause-told : goal.returns-clause-told
returns-clause-told c = told_outcome
