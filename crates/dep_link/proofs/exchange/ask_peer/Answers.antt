use Rattle.std.proofs.Common.{◌≡◌, length, Err, sym, ◌∙◌, refl, ap, subst, rules}
use Rattle.air_core.specs.declared.fault.AirFault.{AirFault}
use Rattle.air_core.specs.Turn.{Transmits}
use Rattle.air_core.proofs.ListenerLaws.{laws_of}
use Rattle.air_core.proofs.PlainAside.{Laws}
use Rattle.nfc_base.specs.declared.event.Heard.{Heard}
use Rattle.dep_link.specs.declared.initiator.InitStep.{InitStep}
use Rattle.dep_link.specs.Initiator.{InitState, InitTurn, init_table}
use Rattle.dep_link.proofs.Moves.{out_stays, falls_by}
use Rattle.dep_link.proofs.AnyPeer.{begins_so, goes_on, tells_reply, tells_six, tells_never, tells_lost, tells_wanting, tells_stopped}
use Rattle.dep_link.proofs.SwapEnds.{first_here, next_here, ends_replied, ends_six, ends_never, ends_lost, ends_memory, ends_stopped}
use Rattle.dep_link.proofs.exchange.ask_peer.Given as given
use Rattle.dep_link.proofs.exchange.ask_peer.Goals as goal

laws : (g : given.Over) → Laws g.L.Listener
laws g = laws_of g.met.L.Listener

-- the payload that was begun stays
next_out : (g : given.Over) (i i' : InitState) (h : Heard) (d : InitStep) → (let x : InitTurn = record { state = i'; does = d } in x) ≡ init_table i h → i'.out ≡ i.out
next_out g i i' h d e = ap (λ (x : InitTurn). x.state.out) e ∙ out_stays i h

pub loop-heard-init : goal.loop-heard-init
loop-heard-init g c = record {
  out = refl;
  bytes = search rules;
  said = λ i out b. begins_so g.L.Listener.machine g.A.Answerer.restarts g.A.Answerer.steps g.A.Answerer.stops g.A.Answerer.is_stuck c.args.field.now c.args.far.now i out c.args.initiator.now
      c.args.request b;
  goes = λ i out b r s lit first handed arrived t. first_here g.L.Listener (laws g) g.L.PeerListener.target g.A.Answerer.restarts g.A.Answerer.steps c.args.field.now i out first handed arrived t
      c.args.far.now s lit c.args.initiator.now c.args.request b r;
}

pub loop-heard-preserved : goal.loop-heard-preserved
loop-heard-preserved g c = record {
  out = next_out g c.loop-heard.initiator c.next_into.new.self c.in-Ok.heard _ c.in-Send.ensures.step ∙ c.loop-heard.invariant.out;
  bytes = search rules;
  said = λ i out b.
      goes_on g.L.Listener.machine g.A.Answerer.restarts g.A.Answerer.steps g.A.Answerer.stops g.A.Answerer.is_stuck c.args.field.now c.args.far.now i out c.loop-heard.field c.transmit.new.self
      c.loop-heard.far c.transmit.new.far c.loop-heard.initiator c.loop-heard.frame (c.loop-heard.invariant.said i out b)
      c.in-Ok.heard c.in-Ok.ensures.turn c.next_into.new.self _ c.in-Send.ensures.step;
  goes = λ i out b r s lit first handed arrived t.
      next_here g.L.Listener (laws g) g.L.PeerListener.target g.A.Answerer.restarts g.A.Answerer.steps c.args.field.now i out first handed arrived t c.args.far.now g.A.Answerer.stops
      g.A.Answerer.is_stuck c.loop-heard.field c.loop-heard.far c.loop-heard.initiator c.loop-heard.frame c.loop-heard.invariant.bytes
      (c.loop-heard.invariant.goes i out b r s lit first handed arrived t) c.transmit.new.far c.transmit.new.self c.in-Ok.heard c.in-Ok.ensures.turn c.next_into.new.self _ c.in-Send.ensures.step;
}

pub loop-heard-smaller : goal.loop-heard-smaller
loop-heard-smaller g c = falls_by c.loop-heard.initiator c.next_into.new.self c.in-Ok.heard c.next_into.new.sent c.next_into.ensures.some c.in-Send.ensures.step

pub returns-in-Finished : goal.returns-in-Finished
returns-in-Finished g c = record {
  out = next_out g c.loop-heard.initiator c.next_into.new.self c.in-Ok.heard _ c.in-Finished.ensures.step ∙ c.loop-heard.invariant.out;
  turns = λ i out b.
      tells_reply g.L.Listener.machine g.A.Answerer.restarts g.A.Answerer.steps g.A.Answerer.stops g.A.Answerer.is_stuck c.args.field.now c.args.far.now i out c.loop-heard.field c.transmit.new.self
      c.loop-heard.far c.transmit.new.far c.loop-heard.initiator c.loop-heard.frame (c.loop-heard.invariant.said i out b)
      c.in-Ok.heard c.in-Ok.ensures.turn c.next_into.new.self c.in-Finished.reply.items c.in-Finished.ensures.step;
  ends = λ i out b r s lit first handed arrived t.
      ends_replied g.L.Listener (laws g) g.L.PeerListener.target g.A.Answerer.restarts g.A.Answerer.steps c.args.field.now i out first handed arrived t c.args.far.now g.A.Answerer.stops
      g.A.Answerer.is_stuck c.loop-heard.field c.loop-heard.far c.loop-heard.initiator c.loop-heard.frame c.loop-heard.invariant.bytes
      (c.loop-heard.invariant.goes i out b r s lit first handed arrived t) c.transmit.new.far c.transmit.new.self c.in-Ok.heard c.in-Ok.ensures.turn c.next_into.new.self c.in-Finished.reply.items
      c.in-Finished.ensures.step;
}

pub returns-in-SixBad : goal.returns-in-SixBad
returns-in-SixBad g c = record {
  out = next_out g c.loop-heard.initiator c.next_into.new.self c.in-Ok.heard _ c.in-SixBad.ensures.step ∙ c.loop-heard.invariant.out;
  turns = λ i out b.
      tells_six g.L.Listener.machine g.A.Answerer.restarts g.A.Answerer.steps g.A.Answerer.stops g.A.Answerer.is_stuck c.args.field.now c.args.far.now i out c.loop-heard.field c.transmit.new.self
      c.loop-heard.far c.transmit.new.far c.loop-heard.initiator c.loop-heard.frame (c.loop-heard.invariant.said i out b)
      c.in-Ok.heard c.in-Ok.ensures.turn c.next_into.new.self c.in-SixBad.ensures.step;
  ends = λ i out b r s lit first handed arrived t.
      ends_six g.L.Listener (laws g) g.L.PeerListener.target g.A.Answerer.restarts g.A.Answerer.steps c.args.field.now i out first handed arrived t c.args.far.now g.A.Answerer.stops
      g.A.Answerer.is_stuck c.loop-heard.field c.loop-heard.far c.loop-heard.initiator c.loop-heard.frame c.loop-heard.invariant.bytes
      (c.loop-heard.invariant.goes i out b r s lit first handed arrived t) c.transmit.new.far c.transmit.new.self c.in-Ok.heard c.in-Ok.ensures.turn c.next_into.new.self c.in-SixBad.ensures.step;
}

pub returns-in-Protocol : goal.returns-in-Protocol
returns-in-Protocol g c = record {
  out = next_out g c.loop-heard.initiator c.next_into.new.self c.in-Ok.heard _ c.in-Protocol.ensures.step ∙ c.loop-heard.invariant.out;
  turns = λ i out b.
      tells_never g.L.Listener.machine g.A.Answerer.restarts g.A.Answerer.steps g.A.Answerer.stops g.A.Answerer.is_stuck c.args.field.now c.args.far.now i out c.loop-heard.field c.transmit.new.self
      c.loop-heard.far c.transmit.new.far c.loop-heard.initiator c.loop-heard.frame (c.loop-heard.invariant.said i out b)
      c.in-Ok.heard c.in-Ok.ensures.turn c.next_into.new.self c.in-Protocol.ensures.step;
  ends = λ i out b r s lit first handed arrived t.
      ends_never g.L.Listener (laws g) g.L.PeerListener.target g.A.Answerer.restarts g.A.Answerer.steps c.args.field.now i out first handed arrived t c.args.far.now g.A.Answerer.stops
      g.A.Answerer.is_stuck c.loop-heard.field c.loop-heard.far c.loop-heard.initiator c.loop-heard.frame c.loop-heard.invariant.bytes
      (c.loop-heard.invariant.goes i out b r s lit first handed arrived t) c.transmit.new.far c.transmit.new.self c.in-Ok.heard c.in-Ok.ensures.turn c.next_into.new.self c.in-Protocol.ensures.step;
}

pub returns-in-Err-FieldLost : goal.returns-in-Err-FieldLost
returns-in-Err-FieldLost g c = record {
  out = c.loop-heard.invariant.out;
  turns = λ i out b.
      let P : AirFault → Type 0 = λ e. Transmits g.L.Listener.machine g.A.Answerer.restarts g.A.Answerer.steps g.A.Answerer.stops g.A.Answerer.is_stuck c.loop-heard.field c.loop-heard.frame
      c.loop-heard.far (Err e) c.transmit.new.self c.transmit.new.far in
      tells_lost g.L.Listener.machine g.A.Answerer.restarts g.A.Answerer.steps g.A.Answerer.stops g.A.Answerer.is_stuck c.args.field.now c.args.far.now i out c.loop-heard.field c.transmit.new.self
      c.loop-heard.far c.transmit.new.far c.loop-heard.initiator c.loop-heard.frame (c.loop-heard.invariant.said i out b)
      (subst P c.in-Err-FieldLost.field-0-is c.in-Err-FieldLost.ensures.turn);
  ends = λ i out b r s lit first handed arrived t.
      let P : AirFault → Type 0 = λ e. Transmits g.L.Listener.machine g.A.Answerer.restarts g.A.Answerer.steps g.A.Answerer.stops g.A.Answerer.is_stuck c.loop-heard.field c.loop-heard.frame
      c.loop-heard.far (Err e) c.transmit.new.self c.transmit.new.far in
      ends_lost g.L.Listener (laws g) g.L.PeerListener.target g.A.Answerer.restarts g.A.Answerer.steps c.args.field.now i out first handed arrived t c.args.far.now g.A.Answerer.stops
      g.A.Answerer.is_stuck c.loop-heard.field c.loop-heard.far c.loop-heard.initiator c.loop-heard.frame c.loop-heard.invariant.bytes
      (c.loop-heard.invariant.goes i out b r s lit first handed arrived t) c.transmit.new.far c.transmit.new.self c.loop-heard.initiator
      (subst P c.in-Err-FieldLost.field-0-is c.in-Err-FieldLost.ensures.turn);
}

pub returns-then-trace-before : goal.returns-then-trace-before
returns-then-trace-before g c = record {
  out = c.loop-heard.invariant.out;
  turns = λ i out b.
      let P : AirFault → Type 0 = λ e. Transmits g.L.Listener.machine g.A.Answerer.restarts g.A.Answerer.steps g.A.Answerer.stops g.A.Answerer.is_stuck c.loop-heard.field c.loop-heard.frame
      c.loop-heard.far (Err e) c.transmit.new.self c.transmit.new.far in
      tells_wanting g.L.Listener.machine g.A.Answerer.restarts g.A.Answerer.steps g.A.Answerer.stops g.A.Answerer.is_stuck c.args.field.now c.args.far.now i out c.loop-heard.field c.transmit.new.self
      c.loop-heard.far c.transmit.new.far c.loop-heard.initiator c.loop-heard.frame (c.loop-heard.invariant.said i out b)
      (subst P c.in-Err-Memory.field-0-is c.in-Err-Memory.ensures.turn) (sym (ap length c.trace.ensures) ∙ c.if-trace-before.true ∙ ap length c.trace-before.ensures);
  ends = λ i out b r s lit first handed arrived t.
      let P : AirFault → Type 0 = λ e. Transmits g.L.Listener.machine g.A.Answerer.restarts g.A.Answerer.steps g.A.Answerer.stops g.A.Answerer.is_stuck c.loop-heard.field c.loop-heard.frame
      c.loop-heard.far (Err e) c.transmit.new.self c.transmit.new.far in
      ends_memory g.L.Listener (laws g) g.L.PeerListener.target g.A.Answerer.restarts g.A.Answerer.steps c.args.field.now i out first handed arrived t c.args.far.now g.A.Answerer.stops
      g.A.Answerer.is_stuck c.loop-heard.field c.loop-heard.far c.loop-heard.initiator c.loop-heard.frame c.loop-heard.invariant.bytes
      (c.loop-heard.invariant.goes i out b r s lit first handed arrived t) c.transmit.new.far c.transmit.new.self (subst P c.in-Err-Memory.field-0-is c.in-Err-Memory.ensures.turn)
      (sym (ap length c.trace.ensures) ∙ c.if-trace-before.true ∙ ap length c.trace-before.ensures);
}

pub returns-in-Err-Memory : goal.returns-in-Err-Memory
returns-in-Err-Memory g c = record {
  out = c.loop-heard.invariant.out;
  turns = λ i out b.
      let P : AirFault → Type 0 = λ e. Transmits g.L.Listener.machine g.A.Answerer.restarts g.A.Answerer.steps g.A.Answerer.stops g.A.Answerer.is_stuck c.loop-heard.field c.loop-heard.frame
      c.loop-heard.far (Err e) c.transmit.new.self c.transmit.new.far in
      tells_stopped g.L.Listener.machine g.A.Answerer.restarts g.A.Answerer.steps g.A.Answerer.stops g.A.Answerer.is_stuck c.args.field.now c.args.far.now i out c.loop-heard.field c.transmit.new.self
      c.loop-heard.far c.transmit.new.far c.loop-heard.initiator c.loop-heard.frame (c.loop-heard.invariant.said i out b)
      (subst P c.in-Err-Memory.field-0-is c.in-Err-Memory.ensures.turn) (λ e. c.if-trace-before.false (ap length c.trace.ensures ∙ e ∙ sym (ap length c.trace-before.ensures)));
  ends = λ i out b r s lit first handed arrived t.
      let P : AirFault → Type 0 = λ e. Transmits g.L.Listener.machine g.A.Answerer.restarts g.A.Answerer.steps g.A.Answerer.stops g.A.Answerer.is_stuck c.loop-heard.field c.loop-heard.frame
      c.loop-heard.far (Err e) c.transmit.new.self c.transmit.new.far in
      ends_stopped g.L.Listener (laws g) g.L.PeerListener.target g.A.Answerer.restarts g.A.Answerer.steps c.args.field.now i out first handed arrived t c.args.far.now g.A.Answerer.stops
      g.A.Answerer.is_stuck c.loop-heard.field c.loop-heard.far c.loop-heard.initiator c.loop-heard.frame c.loop-heard.invariant.bytes
      (c.loop-heard.invariant.goes i out b r s lit first handed arrived t) c.transmit.new.far c.transmit.new.self (subst P c.in-Err-Memory.field-0-is c.in-Err-Memory.ensures.turn)
      (λ e. c.if-trace-before.false (ap length c.trace.ensures ∙ e ∙ sym (ap length c.trace-before.ensures)));
}
