use Rattle.std.proofs.Common.{rules, ◌≡◌, Some}
use Rattle.bench_devices.specs.AnyFrame.{peer_place}
use Rattle.bench_world.proofs.raws.send_to_tag.Goals as goal

pub send_beside-requires-clause-end : goal.send_beside-requires-clause-end
send_beside-requires-clause-end c =
    let at : peer_place c.args.machines.now.air.listeners ≡ Some c.in-Some.place = search rules in
    (c.requires.places c.in-Some.place at).1
