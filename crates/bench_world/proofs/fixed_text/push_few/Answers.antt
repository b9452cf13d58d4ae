use Rattle.std.proofs.Common.{refl}
use Rattle.hex.specs.Hex.{encode_with}
use Rattle.bench_world.proofs.fixed_text.push_few.Goals as goal

pub write_digits-requires-clause-pairs : goal.write_digits-requires-clause-pairs
unfolding encode_with
write_digits-requires-clause-pairs g c = refl
