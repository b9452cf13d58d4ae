use Rattle.std.proofs.Common.{◌≡◌, ◌++◌, take, drop}
use Rattle.std.specs.Prelude.{map}
use Rattle.air_core.proofs.hearing.light_all.Given as goal

abbrev pub invariant-loop-listener : goal.invariant-loop-listener
invariant-loop-listener g l =
    map (λ x. g.L.Listener.machine.woken (g.L.Listener.machine.darkened x)) l.fn.listeners
    ≡ take l.listener-index l.listeners ++ map (λ x. g.L.Listener.machine.woken (g.L.Listener.machine.darkened x)) (drop l.listener-index l.listeners)
