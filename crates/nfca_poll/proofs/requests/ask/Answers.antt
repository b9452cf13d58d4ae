use Rattle.std.proofs.Common.{false, Err, subst}
use Rattle.air_core.specs.Turn.{Transmits}
use Rattle.air_core.specs.declared.fault.AirFault.{AirFault}
use Rattle.nfca_poll.proofs.noise.Muting.{restarts_mute, steps_mute, stops_mute, ask_heard, ask_lost, ask_memory}
use Rattle.nfca_poll.proofs.requests.ask.Goals as goal

pub returns-in-Ok : goal.returns-in-Ok
returns-in-Ok g c = ask_heard g.L.Listener.machine (λ a. false) c.args.field.now c.args.request.now _ c.in-Ok.heard c.transmit.new.self c.transmit.new.far c.in-Ok.ensures.turn

pub returns-in-Err-FieldLost : goal.returns-in-Err-FieldLost
returns-in-Err-FieldLost g c =
    let T : AirFault → Type 0 = λ e. Transmits g.L.Listener.machine restarts_mute steps_mute stops_mute (λ a. false) c.args.field.now c.args.request.now (record {}) (Err e) c.transmit.new.self
    c.transmit.new.far in
    ask_lost g.L.Listener.machine (λ a. false) c.args.field.now c.args.request.now _ c.transmit.new.self c.transmit.new.far c.requires
    (subst T c.in-Err-FieldLost.field-0-is c.in-Err-FieldLost.ensures.turn)

pub returns-in-Err-Memory : goal.returns-in-Err-Memory
returns-in-Err-Memory g c =
    let T : AirFault → Type 0 = λ e. Transmits g.L.Listener.machine restarts_mute steps_mute stops_mute (λ a. false) c.args.field.now c.args.request.now (record {}) (Err e) c.transmit.new.self
    c.transmit.new.far in
    ask_memory g.L.Listener.machine (λ a. false) c.args.field.now c.args.request.now _ c.transmit.new.self c.transmit.new.far (subst T c.in-Err-Memory.field-0-is c.in-Err-Memory.ensures.turn)
