use Rattle.std.proofs.Common.{subst}
use Rattle.nfc_base.specs.Signal.{Signal}
use Rattle.air_core.specs.Turn.{Transmits}
use Rattle.air_core.proofs.ListenerLaws.{laws_of}
use Rattle.dep_link.proofs.Released.{far_stays}
use Rattle.dep_link.proofs.pair.release.Goals as goal

pub returns-clause-stays : goal.returns-clause-stays
returns-clause-stays g c = λ t.
    let T : Signal → Type 0 = λ f. Transmits g.L.Listener.machine g.A.Answerer.restarts g.A.Answerer.steps g.A.Answerer.stops g.A.Answerer.is_stuck c.args.pair.field.now f c.args.far.now
    c.transmit.result c.transmit.new.self c.transmit.new.far in
    far_stays g.L.Listener (laws_of g.met.L.Listener) g.L.PeerListener.target g.A.Answerer.restarts g.A.Answerer.steps g.A.Answerer.stops g.A.Answerer.is_stuck
    c.args.pair.field.now c.transmit.new.self c.args.far.now c.transmit.new.far t c.transmit.result
    (subst T c.air_frame.ensures.frame c.transmit.ensures.turn)
