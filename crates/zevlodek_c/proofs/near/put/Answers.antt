use Rattle.snep_core.specs.Talk.{client_sap}
use Rattle.zevlodek_c.proofs.Nears.{failed}
use Rattle.zevlodek_c.proofs.near.put.Goals as goal

pub returns-clause-does : goal.returns-clause-does
returns-clause-does c =
    failed _ _ client_sap _ c.in-Err.fault c.put.new.self.llc _ _ c.args.far.now c.put.new.far c.most.result c.failed.result c.requires.fresh
    c.most.ensures c.failed.ensures (c.in-Err.ensures.err c.requires.going.spent c.requires.going.free)
