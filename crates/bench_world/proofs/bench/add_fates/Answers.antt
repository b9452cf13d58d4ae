use Rattle.bench_world.proofs.devices.Placed.{fates_added}
use Rattle.bench_world.proofs.bench.add_fates.Goals as goal

pub returns-in-Ok-clause-ok : goal.returns-in-Ok-clause-ok
returns-in-Ok-clause-ok c = fates_added c.args.field.now c.add_fates.new.self c.args.fates.now c.requires c.in-Ok.ensures.ok
