use Rattle.std.proofs.Common.{rules, ◌≡◌, false, IfErr, List, OnOk, sym, subst, inr}
use Rattle.air_core.proofs.PlainAside.{Laws}
use Rattle.dep_link.specs.DepLinks.{seen_pair}
use Rattle.snep_core.specs.declared.slot.Slot.{Slot}
use Rattle.snep_core.specs.Accord.{Accords, IsRun, RunFails}
use Rattle.snep_core.specs.Talk.{EndState, begins_all}
use Rattle.snep_core.proofs.accord.Peers.{counted_is_peer}
use Rattle.link_calls.specs.AtOnce.{all_staged, puts_at_once}
use Rattle.link_calls.specs.Called.{AllCalled, AllFailed}
use Rattle.link_calls.proofs.AtOnce.{none_sent}
use Rattle.link_calls.proofs.Made.{given_back}
use Rattle.link_calls.proofs.RunOn.{both_err, both_ok, ran, ran_failed}
use Rattle.link_calls.proofs.Untouched.{nothing_done}
use Rattle.link_calls.proofs.at_once.run_on.Given as given
use Rattle.link_calls.proofs.at_once.run_on.Goals as goal

laws : (g : given.Over) → Laws g.L.Listener
laws g = record {
  step_keeps = g.met.L.Listener.step_keeps;
  dark_keeps = g.met.L.Listener.dark_keeps;
  dark_rests = g.met.L.Listener.dark_rests;
  rests = g.met.L.Listener.rests;
  ignores = g.met.L.Listener.ignores;
}

-- while messages were staged nothing was sent
pub returns-in-Err-clause-err : goal.returns-in-Err-clause-err
returns-in-Err-clause-err g c =
    subst (λ e. AllFailed g.L.Listener g.L.PeerListener.target c.args.counts c.args.messages.now c.args.client.now.llc
    (record { air = c.args.field.now; initiator = c.args.initiator.now; far = c.args.far.now }) e
    c.stage_all.new.client.llc (record { air = c.args.field.now; initiator = c.args.initiator.now; far = c.args.far.now })) (sym c.in-Err.ensures.err)
    (record {
      goes = inr (nothing_done g.L.Listener g.L.PeerListener.target c.args.counts (begins_all c.args.client.now.llc (puts_at_once c.args.messages.now)) c.args.field.now c.args.initiator.now
          c.args.far.now);
      serves = λ accords. none_sent c.args.messages.now c.args.far.now.end c.stage_all.new.client.llc;
    })

pub returns-clause-ok : goal.returns-clause-ok
returns-clause-ok g c =
    let ms = c.args.messages.now in
    let client : EndState = c.args.client.now.llc in
    let slots : List Slot = c.args.client.now.slots in
    let llc : c.stage_all.new.client.llc ≡ client = search rules in
    let staged : c.stage_all.new.client.slots ≡ all_staged ms slots = search rules in
    given_back (λ a i. OnOk c.run.result (AllCalled g.L.Listener g.L.PeerListener.target c.args.counts ms client slots
    (record { air = c.args.field.now; initiator = c.args.initiator.now; far = c.args.far.now })
    c.run.new.self.llc c.run.new.self.slots (record { air = a; initiator = i; far = c.run.new.far })))
    c.run.new.carrier.field.now _ c.run.new.carrier.initiator.now _ (search rules) (search rules)
    (both_ok (Accords c.stage_all.new.client.llc c.args.far.now.end) _ (IsRun c.stage_all.new.client.slots c.run.new.self.slots c.args.far.now.end c.run.new.self.llc c.run.new.far.end) _
    c.run.result c.run.ensures.ok (λ accords. c.run.ensures.ran (λ p. p.end) counted_is_peer accords)
    (λ r served. ran g.L.Listener g.L.PeerListener.target (seen_pair {L = g.row.L.Denot}) (laws g) c.on-pair.result c.run.new.carrier c.args.far.now c.run.new.far c.args.field.now c.args.initiator.now
    c.on-pair.ensures.fresh c.requires.open_ c.run.ensures.ready c.args.counts client c.run.new.self.llc ms slots c.run.new.self.slots c.requires.rest c.requires.apart
    c.stage_all.new.client.llc c.stage_all.new.client.slots llc staged r served))

pub returns-clause-err : goal.returns-clause-err
returns-clause-err g c =
    let ms = c.args.messages.now in
    let client : EndState = c.args.client.now.llc in
    let slots : List Slot = c.args.client.now.slots in
    let llc : c.stage_all.new.client.llc ≡ client = search rules in
    let staged : c.stage_all.new.client.slots ≡ all_staged ms slots = search rules in
    let going : c.stage_all.new.client.spent ≡ false = search rules in
    given_back (λ a i. IfErr c.run.result (λ e. AllFailed g.L.Listener g.L.PeerListener.target c.args.counts ms client
    (record { air = c.args.field.now; initiator = c.args.initiator.now; far = c.args.far.now }) e
    c.run.new.self.llc (record { air = a; initiator = i; far = c.run.new.far })))
    c.run.new.carrier.field.now _ c.run.new.carrier.initiator.now _ (search rules) (search rules)
    (both_err (Accords c.stage_all.new.client.llc c.args.far.now.end) _ (λ e. RunFails c.stage_all.new.client.slots c.run.new.self.slots c.args.far.now.end e c.run.new.far.end) _
    c.run.result (c.run.ensures.err going) (λ accords. c.run.ensures.fails (λ p. p.end) counted_is_peer accords)
    (λ e r served. ran_failed g.L.Listener g.L.PeerListener.target (seen_pair {L = g.row.L.Denot}) (laws g) c.on-pair.result c.run.new.carrier c.args.far.now c.run.new.far c.args.field.now
    c.args.initiator.now
    c.on-pair.ensures.fresh c.requires.open_ c.run.ensures.ready c.args.counts client c.run.new.self.llc ms slots c.run.new.self.slots c.requires.rest c.requires.apart
    c.stage_all.new.client.llc c.stage_all.new.client.slots llc staged e r served))
