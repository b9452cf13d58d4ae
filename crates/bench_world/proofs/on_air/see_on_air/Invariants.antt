use Rattle.std.proofs.Common.{drop}
use Rattle.bench_world.specs.ReadBack.{AreOnAir}
use Rattle.bench_world.proofs.on_air.see_on_air.Given as goal

-- all are, if the rest is
abbrev pub invariant-loop-event : goal.invariant-loop-event
invariant-loop-event l = AreOnAir (drop l.event-index l.events) → AreOnAir l.events
