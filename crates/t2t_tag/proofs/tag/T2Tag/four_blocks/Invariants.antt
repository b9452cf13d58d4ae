use Rattle.std.proofs.Common.{◌≡◌, ◌*◌, length}
use Rattle.t2t_tag.proofs.Memory.{blocks_from}
use Rattle.t2t_tag.proofs.tag.T2Tag.four_blocks.Given as goal

abbrev pub invariant-loop-i : goal.invariant-loop-i
invariant-loop-i l = (l.content.items ≡ blocks_from l.self.store l.block l.i) × (length l.content.items ≡ 4 * l.i)
