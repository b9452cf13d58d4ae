use Rattle.std.proofs.Common.{refl}
use Rattle.bench_world.specs.Legal.{no_joins}
use Rattle.bench_world.proofs.tags.Legality.{untouched}
use Rattle.bench_world.proofs.bench.make_shown.Goals as goal

pub returns-in_default-clause-cut : goal.returns-in_default-clause-cut
returns-in_default-clause-cut c = λ e. (no_joins, untouched c.args.machines.now c.args.machines.now c.args.command.now c.requires.idle refl)
