use Rattle.trace_audit.proofs.TechJournals.{journals_tech}
use Rattle.trace_audit.proofs.TechNames.{names_behind, names_between}
use Rattle.trace_audit.proofs.TechSteps.{legal_tech}
use Rattle.trace_audit.proofs.law.technologies_told.Goals as goal

pub returns-clause-steps : goal.returns-clause-steps
returns-clause-steps c = legal_tech

pub returns-clause-between : goal.returns-clause-between
returns-clause-between c = names_between

pub returns-clause-behind : goal.returns-clause-behind
returns-clause-behind c = names_behind

pub returns-clause-journals : goal.returns-clause-journals
returns-clause-journals c = journals_tech
