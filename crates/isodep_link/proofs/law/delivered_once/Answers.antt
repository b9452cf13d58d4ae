use Rattle.isodep_link.proofs.Once.{delivers_anew}
use Rattle.isodep_link.proofs.Brought.{obeys_commands}
use Rattle.isodep_link.proofs.law.delivered_once.Goals as goal

pub returns-clause-commands : goal.returns-clause-commands
returns-clause-commands c = obeys_commands

pub returns-clause-anew : goal.returns-clause-anew
returns-clause-anew c = delivers_anew
