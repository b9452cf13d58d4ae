use Rattle.std.proofs.Common.{◌≡◌, ◌++◌, ◌*◌, drop, length, true}
use Rattle.t3t_tag.specs.Store.{block_count}
use Rattle.t3t_tag.specs.Step.{are_there, content_of}
use Rattle.t3t_tag.proofs.tag.T3Tag.content.Given as goal

abbrev pub invariant-loop-block : goal.invariant-loop-block
invariant-loop-block l =
    (l.content.items ++ content_of l.self.store (drop l.block-index l.blocks) ≡ content_of l.self.store l.blocks)
    × (length l.content.items ≡ 16 * l.block-index)
    × (are_there (block_count l.self.store) (drop l.block-index l.blocks) ≡ true)
