use Rattle.std.proofs.Common.{◌≡◌, length}
use Rattle.t3t_access.specs.Answers.{numbers}
use Rattle.t3t_access.proofs.asking.numbers.Given as goal

abbrev pub invariant-loop-i : goal.invariant-loop-i
invariant-loop-i l = (l.blocks.items ≡ numbers l.first l.i) × (length l.blocks.items ≡ l.i)
