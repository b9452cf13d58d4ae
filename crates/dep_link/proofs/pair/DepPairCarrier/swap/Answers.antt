use Rattle.dep_link.specs.DepLinks.{seen_pair}
use Rattle.dep_link.proofs.Swapped.{ok_may, err_told, swapped_may, err_swapped, calm_may, ready_may, refused_may}
use Rattle.dep_link.proofs.pair.DepPairCarrier.swap.Goals as goal

pub returns-clause-ok : goal.returns-clause-ok
returns-clause-ok g c =
    ok_may g.L.Listener g.L.PeerListener.target g.A.Answerer.steps g.A.Answerer.stops (seen_pair {L = g.row.L.Denot}) c.args.self.now c.exchange.new.self c.args.out.now c.args.far.now
    c.exchange.new.far c.exchange.result c.requires.ready c.exchange.ensures.peer c.exchange.ensures.ended

pub returns-clause-err : goal.returns-clause-err
returns-clause-err g c = λ none.
    err_told g.L.Listener g.L.PeerListener.target g.A.Answerer.steps g.A.Answerer.stops (seen_pair c.args.self.now) (seen_pair c.exchange.new.self) c.args.out.now c.args.far.now c.exchange.new.far
    c.exchange.result (c.exchange.ensures.peer none (c.requires.ready none))

pub returns-clause-ended : goal.returns-clause-ended
returns-clause-ended g c =
    refused_may g.L.Listener g.L.PeerListener.target g.A.Answerer.steps g.A.Answerer.stops (seen_pair {L = g.row.L.Denot}) c.args.self.now c.exchange.new.self c.args.out.now c.args.far.now
    c.exchange.new.far c.exchange.result c.requires.ready c.exchange.ensures.peer c.exchange.ensures.ended

pub returns-clause-calm : goal.returns-clause-calm
returns-clause-calm g c = λ none lit quiet.
    calm_may g.L.Listener g.L.PeerListener.target g.A.Answerer.steps g.A.Answerer.stops (seen_pair {L = g.row.L.Denot}) c.args.self.now c.exchange.new.self c.args.out.now c.args.far.now
    c.exchange.new.far c.exchange.result c.requires.ready c.exchange.ensures.peer c.exchange.ensures.ended none quiet

pub returns-clause-ready : goal.returns-clause-ready
returns-clause-ready g c =
    ready_may g.L.Listener g.L.PeerListener.target g.A.Answerer.steps g.A.Answerer.stops (seen_pair {L = g.row.L.Denot}) c.args.self.now c.exchange.new.self c.args.out.now c.args.far.now
    c.exchange.new.far c.exchange.result c.requires.ready c.exchange.ensures.peer c.exchange.ensures.ended

pub returns-clause-swapped : goal.returns-clause-swapped
returns-clause-swapped g c =
    swapped_may g.L.Listener g.L.PeerListener.target g.A.Answerer.steps g.A.Answerer.stops (seen_pair {L = g.row.L.Denot}) c.args.self.now c.exchange.new.self c.args.out.now c.args.far.now
    c.exchange.new.far c.exchange.result c.requires.ready c.exchange.ensures.peer c.exchange.ensures.ended

pub returns-clause-failed : goal.returns-clause-failed
returns-clause-failed g c = λ none.
    err_swapped g.L.Listener g.L.PeerListener.target g.A.Answerer.steps g.A.Answerer.stops (seen_pair {L = g.row.L.Denot}) c.args.self.now c.exchange.new.self c.args.out.now c.args.far.now
    c.exchange.new.far c.exchange.result (c.exchange.ensures.peer none (c.requires.ready none))
