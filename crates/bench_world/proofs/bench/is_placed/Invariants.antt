use Rattle.std.proofs.Common.{◌≡◌, drop}
use Rattle.bench_devices.specs.Placed.{device_with}
use Rattle.bench_world.proofs.bench.is_placed.Given as goal

abbrev pub invariant-loop-device : goal.invariant-loop-device
invariant-loop-device l = device_with l.fn.id (drop l.device-index l.devices) ≡ device_with l.fn.id l.devices
