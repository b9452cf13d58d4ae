use Rattle.snep_core.proofs.sessions.Cuts.{last_puts}
use Rattle.snep_core.proofs.law.last_put.Goals as goal

pub returns : goal.returns
returns c = last_puts
