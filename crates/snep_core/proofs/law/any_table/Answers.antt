use Rattle.snep_core.proofs.accord.Peers.{offers_accord}
use Rattle.snep_core.proofs.law.any_table.Goals as goal

pub returns : goal.returns
returns c = offers_accord
