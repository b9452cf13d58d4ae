use Rattle.std.proofs.Common.{IsSome, drop}
use Rattle.bench_devices.specs.Placed.{device_with}
use Rattle.bench_devices.proofs.polling.place_of.Given as goal

abbrev pub invariant-loop-place : goal.invariant-loop-place
invariant-loop-place l = IsSome (device_with l.id (drop l.place l.devices))
