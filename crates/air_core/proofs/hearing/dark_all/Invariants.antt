use Rattle.std.proofs.Common.{◌≡◌, ◌++◌, take, drop}
use Rattle.std.specs.Prelude.{map}
use Rattle.air_core.proofs.hearing.dark_all.Given as goal

abbrev pub invariant-loop-listener : goal.invariant-loop-listener
invariant-loop-listener g l = map g.L.Listener.machine.darkened l.fn.listeners ≡ take l.listener-index l.listeners ++ map g.L.Listener.machine.darkened (drop l.listener-index l.listeners)
