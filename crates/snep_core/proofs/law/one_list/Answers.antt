use Rattle.snep_core.proofs.sessions.Cuts.{puts_one}
use Rattle.snep_core.proofs.law.one_list.Goals as goal

pub returns : goal.returns
returns c = puts_one
