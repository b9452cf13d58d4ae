use Rattle.snep_core.proofs.sessions.Cuts.{fronts_put}
use Rattle.snep_core.proofs.law.fronts.Goals as goal

pub returns : goal.returns
returns c = fronts_put
