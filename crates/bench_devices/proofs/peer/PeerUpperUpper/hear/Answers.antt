use Rattle.std.proofs.Common.{rules, ◌≡◌, true, sym, ◌∙◌}
use Rattle.std.specs.Prelude.{IfOk, OnErr}
use Rattle.std.proofs.lemmas.Result.{IfOk-weaker, on_err_weaker}
use Rattle.nfc_base.specs.Signal.{Signal}
use Rattle.nfca_poll.specs.Upper.{UpperStep}
use Rattle.dep_link.specs.Target.{TargetState, target_table}
use Rattle.bench_devices.specs.Peers.{PeerNear, takes_frame, peer_machine, Handles, Halts}
use Rattle.bench_devices.specs.laws.PeerUpper.{taken_step, taken_stop}
use Rattle.bench_devices.proofs.peer.PeerUpperUpper.hear.Goals as goal

pub returns-then-takes-clause-ok : goal.returns-then-takes-clause-ok
returns-then-takes-clause-ok g c =
    let u : PeerNear = c.args.self.now in
    let f : Signal = c.args.frame.now in
    let own : TargetState = c.self.inside.target in
    let same : own ≡ u.target = search rules in
    let taken : takes_frame u f ≡ true = sym c.takes.ensures ∙ c.if-takes.true in
    let after : PeerNear = record { target = c.take.new.target; linked = true } in
    let h : IfOk c.take.result (λ s. Handles g.A.Answerer.restarts g.A.Answerer.steps (target_table own f).state (target_table own f).does c.args.far.now s c.take.new.target c.take.new.far) =
    search rules in
    IfOk-weaker c.take.result (λ s. Handles g.A.Answerer.restarts g.A.Answerer.steps (target_table own f).state (target_table own f).does c.args.far.now s c.take.new.target c.take.new.far)
    (λ s. UpperStep g.A.Answerer.restarts g.A.Answerer.steps (peer_machine.handed u f) (peer_machine.says u f) (peer_machine.after u f) c.args.far.now s after c.take.new.far)
    (λ s k. taken_step g.A.Answerer.restarts g.A.Answerer.steps u f c.args.far.now s c.take.new.target c.take.new.far taken own same k) h

pub returns-then-takes-clause-err : goal.returns-then-takes-clause-err
returns-then-takes-clause-err g c =
    let u : PeerNear = c.args.self.now in
    let f : Signal = c.args.frame.now in
    let own : TargetState = c.self.inside.target in
    let same : own ≡ u.target = search rules in
    let taken : takes_frame u f ≡ true = sym c.takes.ensures ∙ c.if-takes.true in
    let after : PeerNear = record { target = c.take.new.target; linked = true } in
    let h : OnErr c.take.result (Halts g.A.Answerer.stops g.A.Answerer.is_stuck (target_table own f).state (target_table own f).does c.args.far.now c.take.new.target c.take.new.far) = search rules in
    on_err_weaker c.take.result (λ k. taken_stop g.A.Answerer.stops g.A.Answerer.is_stuck u f c.args.far.now c.take.new.target c.take.new.far taken own same k) h
