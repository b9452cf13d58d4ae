use Rattle.std.proofs.Common.{[], arith}
use Rattle.air_core.specs.Listening.{said_at}
use Rattle.air_core.specs.private.Joining.{joint_with}
use Rattle.air_core.proofs.Hearings.{Whole, go_on, ends, stop_goes_on, stops_here}
use Rattle.air_core.proofs.hearing.hear_all.Goals as goal

pub returns-in-Err-clause-err : goal.returns-in-Err-clause-err
returns-in-Err-clause-err g c =
    stops_here g.L.Listener.machine g.A.Answerer.restarts g.A.Answerer.steps c.args.frame.now g.A.Answerer.stops g.A.Answerer.is_stuck c.args.listeners.now c.args.far.now
    c.loop-listener.listeners c.loop-listener.listener-index c.loop-listener.far c.listener-item.result c.meet.new.listener c.meet.new.far
    (omega arith) c.loop-listener.invariant.stops c.in-Err.ensures.err

pub loop-listener-preserved : goal.loop-listener-preserved
loop-listener-preserved g c = record {
  steps = go_on g.L.Listener.machine g.A.Answerer.restarts g.A.Answerer.steps c.args.frame.now c.args.listeners.now c.args.far.now
      c.loop-listener.listeners c.loop-listener.listener-index c.loop-listener.answers c.join.new.self c.loop-listener.far c.meet.new.far c.listener-item.result c.meet.new.listener
      (said_at c.in-Ok.said c.meet.new.answer)
      (omega arith) c.loop-listener.invariant.steps c.in-Ok.ensures.ok c.join.ensures.joint;
  stops = stop_goes_on g.L.Listener.machine g.A.Answerer.restarts g.A.Answerer.steps c.args.frame.now g.A.Answerer.stops g.A.Answerer.is_stuck c.args.listeners.now c.args.far.now
      c.loop-listener.listeners c.loop-listener.listener-index c.loop-listener.far c.meet.new.far c.listener-item.result c.meet.new.listener (said_at c.in-Ok.said c.meet.new.answer)
      (omega arith) c.loop-listener.invariant.stops c.in-Ok.ensures.ok;
  fits = c.join.ensures.fits;
}

pub returns-clause-ok : goal.returns-clause-ok
returns-clause-ok g c =
    let w : Whole g.L.Listener.machine g.A.Answerer.restarts g.A.Answerer.steps c.args.frame.now c.args.listeners.now c.args.far.now c.loop-listener.listeners c.loop-listener.far
    (joint_with c.loop-listener.answers []) =
    ends g.L.Listener.machine g.A.Answerer.restarts g.A.Answerer.steps c.args.frame.now c.args.listeners.now c.args.far.now c.loop-listener.listeners c.loop-listener.listener-index
    c.loop-listener.answers c.loop-listener.far
    (omega arith) c.loop-listener.invariant.steps in
    (w.answers, w.all, w.joint)
