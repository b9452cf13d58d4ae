use Rattle.bench_world.proofs.link_law.Gained.{range_part}
use Rattle.bench_world.proofs.gains.in_range.Goals as goal

pub returns : goal.returns
returns g c =
    range_part c.args.range.now c.args.list.now c.unwrap_or.result c.min-end.result c.min-start.result c.unwrap_or.ensures c.min-end.ensures c.min-start.ensures
