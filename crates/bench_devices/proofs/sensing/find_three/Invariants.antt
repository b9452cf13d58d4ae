use Rattle.std.proofs.Common.{◌≡◌, drop}
use Rattle.bench_devices.specs.Sensing.{has_three}
use Rattle.bench_devices.proofs.sensing.find_three.Given as goal

abbrev pub invariant-loop-place : goal.invariant-loop-place
invariant-loop-place l = has_three l.id (drop l.place l.devices) ≡ has_three l.id l.devices
