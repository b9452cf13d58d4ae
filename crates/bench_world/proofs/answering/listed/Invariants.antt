use Rattle.std.proofs.Common.{◌≡◌, ◌++◌, map}
use Rattle.bench_world.specs.Crowded.{seen_card}
use Rattle.bench_world.proofs.answering.listed.Given as goal

abbrev pub invariant-loop-device : goal.invariant-loop-device
invariant-loop-device l = l.devices.items ++ map seen_card l.device-iterator.rest.items ≡ map seen_card l.fn.picked.items
