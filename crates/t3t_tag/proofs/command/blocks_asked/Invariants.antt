use Rattle.std.proofs.Common.{◌≡◌, ◌*◌, drop, length}
use Rattle.t3t_tag.specs.Reading.{blocks_named}
use Rattle.t3t_tag.proofs.Elements.{joined}
use Rattle.t3t_tag.proofs.command.blocks_asked.Given as goal

abbrev pub invariant-loop-i : goal.invariant-loop-i
invariant-loop-i l = (joined l.blocks.items (blocks_named (drop (2 * l.i) l.elements)) ≡ blocks_named l.elements) × (length l.blocks.items ≡ l.i)
