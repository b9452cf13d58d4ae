use Rattle.std.proofs.Common.{◌≡◌, ◌+◌, ◌*◌, ◌≤◌, drop}
use Rattle.std.specs.Prelude.{fold, sum}
use Rattle.t3t_tag.proofs.attributes.sum_of.Given as goal

abbrev pub invariant-loop-byte : goal.invariant-loop-byte
invariant-loop-byte l = (fold (λ a x. a + x) l.sum (drop l.byte-index l.bytes) ≡ sum l.bytes) × (l.sum ≤ 255 * l.byte-index)
