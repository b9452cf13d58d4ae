use Rattle.snep_core.proofs.sessions.Links.{link_law}
use Rattle.snep_core.proofs.law.link.Goals as goal

pub returns : goal.returns
returns c = link_law
