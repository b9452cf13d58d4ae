use Rattle.std.proofs.Common.{◌≡◌, ◌++◌, ◌*◌, drop, length}
use Rattle.t3t_tag.specs.Spelling.{elements}
use Rattle.t3t_tag.proofs.command.elements_of.Given as goal

abbrev pub invariant-loop-block : goal.invariant-loop-block
invariant-loop-block l = (l.elements.items ++ elements (drop l.block-index l.blocks) ≡ elements l.blocks) × (length l.elements.items ≡ 2 * l.block-index)
