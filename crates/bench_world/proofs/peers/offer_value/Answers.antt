use Rattle.std.proofs.Common.{rules}
use Rattle.bench_world.proofs.devices.Peering.{value_offered}
use Rattle.bench_world.proofs.peers.offer_value.Goals as goal

pub returns-in-Ok-clause-ok : goal.returns-in-Ok-clause-ok
returns-in-Ok-clause-ok c =
    value_offered c.args.machines.now c.offer.new.self c.args.id.now c.args.key.now c.args.value.now c.in-Some.place c.requires c.in-Some.ensures.peer (search rules) c.in-Some.ensures.some
    c.in-Ok.ensures.ok
