use Rattle.snep_core.specs.Talk.{sap_of_slot}
use Rattle.zevlodek_c.proofs.Nears.{failed}
use Rattle.zevlodek_c.proofs.near.get.Goals as goal

pub returns-clause-does : goal.returns-clause-does
returns-clause-does c =
    failed _ _ (sap_of_slot c.args.slot) _ c.in-Err.fault c.get_on.new.self.llc _ _ c.args.far.now c.get_on.new.far c.most.result c.failed.result c.requires.fresh
    c.most.ensures c.failed.ensures (c.in-Err.ensures.err c.requires.going.spent)
