use Rattle.std.proofs.Common.{◌≡◌, ◌+◌, ◌*◌, ◌++◌, length}
use Rattle.hex.specs.Hex.{encode_upper}
use Rattle.bench_world.proofs.fixed_text.push_digits.Given as goal

abbrev pub invariant-fronts : goal.invariant-fronts
invariant-fronts g l = record {
  value : l.piece.items ++ encode_upper l.left ≡ l.fn.piece.items ++ encode_upper l.bytes;
  size : length l.piece.items + 2 * length l.left ≡ length l.fn.piece.items + 2 * length l.bytes;
}

abbrev pub decreases-fronts : goal.decreases-fronts
decreases-fronts g l = length l.left
