use Rattle.air_core.specs.private.Joining.{IsJoined}
use Rattle.air_core.proofs.Hearings.{GoesOn, StopGoesOn}
use Rattle.air_core.proofs.hearing.hear_all.Given as goal

abbrev pub invariant-loop-listener : goal.invariant-loop-listener
invariant-loop-listener g l = record {
  steps : GoesOn g.L.Listener.machine g.A.Answerer.restarts g.A.Answerer.steps l.frame l.fn.listeners l.fn.far l.listeners l.listener-index l.answers l.far;
  stops : StopGoesOn g.L.Listener.machine g.A.Answerer.restarts g.A.Answerer.steps l.frame g.A.Answerer.stops g.A.Answerer.is_stuck l.fn.listeners l.fn.far l.listeners l.listener-index l.far;
  fits : IsJoined l.answers;
}
