use Rattle.std.proofs.Common.{◌≡◌, drop}
use Rattle.t3t_tag.specs.Store.{block_count}
use Rattle.t3t_tag.specs.Step.{are_there}
use Rattle.t3t_tag.proofs.tag.T3Tag.has_all.Given as goal

abbrev pub invariant-loop-block : goal.invariant-loop-block
invariant-loop-block l = are_there (block_count l.self.store) (drop l.block-index l.blocks) ≡ are_there (block_count l.self.store) l.blocks
