use Rattle.std.proofs.Common.{refl}
use Rattle.bench_world.proofs.devices.Peering.{inbox_told}
use Rattle.bench_world.proofs.peers.inbox.Goals as goal

pub returns-in-Ok-clause-ok : goal.returns-in-Ok-clause-ok
returns-in-Ok-clause-ok c =
    inbox_told c.args.machines.now c.args.machines.now c.args.id.now c.in-Some.place c.in-Ok.messages c.requires c.in-Some.ensures.peer c.in-Some.ensures.some refl c.in-Ok.ensures
