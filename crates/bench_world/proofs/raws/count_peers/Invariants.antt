use Rattle.std.proofs.Common.{◌≡◌, ◌+◌, ◌≤◌, drop}
use Rattle.bench_devices.specs.AnyFrame.{peers_in}
use Rattle.bench_world.proofs.raws.count_peers.Given as goal

-- so many are counted, and the rest are left
abbrev pub invariant-loop-device : goal.invariant-loop-device
invariant-loop-device l = record {
  few : l.count ≤ l.device-index;
  sum : l.count + peers_in (drop l.device-index l.devices) ≡ peers_in l.devices;
}
