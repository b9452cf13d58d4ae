use Rattle.air_core.proofs.PlainAside.{Laws}
use Rattle.peer_air.proofs.Aside.{aside_turns, speaks_aside}
use Rattle.peer_air.proofs.law.talks_aside.Given as given
use Rattle.peer_air.proofs.law.talks_aside.Goals as goal

laws : (g : given.Over) → Laws g.L.Listener
laws g = record {
  step_keeps = g.met.L.Listener.step_keeps;
  dark_keeps = g.met.L.Listener.dark_keeps;
  dark_rests = g.met.L.Listener.dark_rests;
  rests = g.met.L.Listener.rests;
  ignores = g.met.L.Listener.ignores;
}

pub returns-clause-turn : goal.returns-clause-turn
returns-clause-turn g c = aside_turns g.L.Listener (laws g) g.A.Answerer.restarts g.A.Answerer.steps

pub returns-clause-speaks : goal.returns-clause-speaks
returns-clause-speaks g c = λ linked t view. speaks_aside g.L.Listener (laws g) g.A.Answerer.restarts g.A.Answerer.steps linked t view
