use Rattle.dep_link.proofs.Anew.{delivers_anew}
use Rattle.dep_link.proofs.law.delivered_anew.Goals as goal

pub returns : goal.returns
returns c = delivers_anew
