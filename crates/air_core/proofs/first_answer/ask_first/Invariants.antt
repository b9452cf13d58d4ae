use Rattle.std.proofs.Common.{◌-◌, ◌≤◌}
use Rattle.air_core.specs.FirstAnswers.{BadTurns}
use Rattle.air_core.proofs.first_answer.ask_first.Given as goal

abbrev pub invariant-loop-bad : goal.invariant-loop-bad
invariant-loop-bad g l = record {
  before : BadTurns g.L.Listener.machine g.A.Answerer.restarts g.A.Answerer.steps l.request l.fn.field l.fn.far l.bad l.field l.far;
  most : l.bad ≤ 6;
}

abbrev pub decreases-loop-bad : goal.decreases-loop-bad
decreases-loop-bad g l = 6 - l.bad
