use Rattle.zevlodek_c.proofs.Nears.{failed_aside}
use Rattle.zevlodek_c.proofs.near.close.Goals as goal

pub returns-clause-does : goal.returns-clause-does
returns-clause-does c =
    failed_aside _ _ _ c.in-Err.fault c.close.new.self.llc _ _ c.args.far.now c.close.new.far c.most.result c.failed.result c.requires.fresh
    c.most.ensures c.failed.ensures (c.in-Err.ensures.err c.requires.going.spent)
