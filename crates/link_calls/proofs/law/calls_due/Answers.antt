use Rattle.air_core.proofs.PlainAside.{Laws}
use Rattle.peer_air.proofs.Wholly.{swaps_far, stops_far}
use Rattle.link_calls.proofs.CallWalk.{talks_far, breaks_far}
use Rattle.link_calls.proofs.law.calls_due.Given as given
use Rattle.link_calls.proofs.law.calls_due.Goals as goal

laws : (g : given.Over) → Laws g.L.Listener
laws g = record {
  step_keeps = g.met.L.Listener.step_keeps;
  dark_keeps = g.met.L.Listener.dark_keeps;
  dark_rests = g.met.L.Listener.dark_rests;
  rests = g.met.L.Listener.rests;
  ignores = g.met.L.Listener.ignores;
}

pub returns-clause-talks : goal.returns-clause-talks
returns-clause-talks g c = λ linked t see view.
    talks_far g.L.Listener g.L.PeerListener.target linked t see g.A.Answerer.restarts g.A.Answerer.steps g.A.Answerer.stops view
    (swaps_far g.L.Listener (laws g) g.L.PeerListener.target linked t g.A.Answerer.restarts g.A.Answerer.steps g.A.Answerer.stops view g.met.A.Answerer.fits)
    (stops_far g.L.Listener (laws g) g.L.PeerListener.target linked t g.A.Answerer.restarts g.A.Answerer.steps g.A.Answerer.stops view)

pub returns-clause-breaks : goal.returns-clause-breaks
returns-clause-breaks g c = λ linked t see view.
    breaks_far g.L.Listener g.L.PeerListener.target linked t see g.A.Answerer.restarts g.A.Answerer.steps g.A.Answerer.stops view
    (swaps_far g.L.Listener (laws g) g.L.PeerListener.target linked t g.A.Answerer.restarts g.A.Answerer.steps g.A.Answerer.stops view g.met.A.Answerer.fits)
    (stops_far g.L.Listener (laws g) g.L.PeerListener.target linked t g.A.Answerer.restarts g.A.Answerer.steps g.A.Answerer.stops view)
