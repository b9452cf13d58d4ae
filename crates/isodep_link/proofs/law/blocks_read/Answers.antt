use Rattle.isodep_link.proofs.Spelled.{exact, one_block}
use Rattle.isodep_link.proofs.law.blocks_read.Goals as goal

pub returns-clause-exact : goal.returns-clause-exact
returns-clause-exact c = exact

pub returns-clause-one : goal.returns-clause-one
returns-clause-one c = one_block
