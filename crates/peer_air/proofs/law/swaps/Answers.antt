use Rattle.air_core.proofs.PlainAside.{Laws}
use Rattle.peer_air.proofs.Wholly.{exchanges_far, swaps_far, all_far, stops_far, peers_stand}
use Rattle.peer_air.proofs.law.swaps.Given as given
use Rattle.peer_air.proofs.law.swaps.Goals as goal

laws : (g : given.Over) → Laws g.L.Listener
laws g = record {
  step_keeps = g.met.L.Listener.step_keeps;
  dark_keeps = g.met.L.Listener.dark_keeps;
  dark_rests = g.met.L.Listener.dark_rests;
  rests = g.met.L.Listener.rests;
  ignores = g.met.L.Listener.ignores;
}

pub returns-clause-stands : goal.returns-clause-stands
returns-clause-stands g c = λ linked t. peers_stand g.L.Listener g.L.PeerListener.target linked t

pub returns-clause-exchange : goal.returns-clause-exchange
returns-clause-exchange g c = λ linked t. exchanges_far g.L.Listener (laws g) g.L.PeerListener.target linked t

pub returns-clause-swap : goal.returns-clause-swap
returns-clause-swap g c = λ linked t view. swaps_far g.L.Listener (laws g) g.L.PeerListener.target linked t g.A.Answerer.restarts g.A.Answerer.steps g.A.Answerer.stops view g.met.A.Answerer.fits

pub returns-clause-stop : goal.returns-clause-stop
returns-clause-stop g c = λ linked t view. stops_far g.L.Listener (laws g) g.L.PeerListener.target linked t g.A.Answerer.restarts g.A.Answerer.steps g.A.Answerer.stops view

pub returns-clause-all : goal.returns-clause-all
returns-clause-all g c = λ linked t view. all_far g.L.Listener (laws g) g.L.PeerListener.target linked t g.A.Answerer.restarts g.A.Answerer.steps g.A.Answerer.stops view g.met.A.Answerer.fits
