use Rattle.std.proofs.Common.{arith}
use Rattle.bench_world.proofs.lines.Joined.{digits_put}
use Rattle.bench_world.proofs.fixed_text.push_digits.Goals as goal

pub fronts-preserved : goal.fronts-preserved
fronts-preserved g c = record {
  value = digits_put 32 c.fronts.left.now c.split_at.result.0.now c.split_at.result.1.now c.fronts.piece.items c.push_few.new.piece.items _ c.split_at.ensures.front c.split_at.ensures.back
      c.push_few.ensures.value c.fronts.invariant.value;
  size = omega (arith, c.push_few.ensures.size, c.fronts.invariant.size, c.split_at.ensures.front_len, c.split_at.ensures.back_len);
}
