use Rattle.std.proofs.Common.{rules, IfOk, IfErr, refl}
use Rattle.std.proofs.lemmas.Result.{IfErr-weaker, IfOk-weaker}
use Rattle.air_core.proofs.PlainAside.{Laws}
use Rattle.dep_link.specs.DepLinks.{seen_pair}
use Rattle.snep_core.specs.declared.job.Ending.TheVariants.{Value}
use Rattle.snep_core.specs.declared.job.Job.TheVariants.{Over}
use Rattle.snep_core.specs.Talk.{Ends, Gets, begins_from, one_on, sap_of_slot}
use Rattle.snep_core.proofs.accord.Peers.{counted_is_peer}
use Rattle.link_calls.specs.Calls.{RequestFails, IsMade}
use Rattle.link_calls.proofs.Made.{given_back, made, request_failed}
use Rattle.link_calls.proofs.calls.get_on.Given as given
use Rattle.link_calls.proofs.calls.get_on.Goals as goal

laws : (g : given.Over) → Laws g.L.Listener
laws g = record {
  step_keeps = g.met.L.Listener.step_keeps;
  dark_keeps = g.met.L.Listener.dark_keeps;
  dark_rests = g.met.L.Listener.dark_rests;
  rests = g.met.L.Listener.rests;
  ignores = g.met.L.Listener.ignores;
}

pub returns-clause-ok : goal.returns-clause-ok
returns-clause-ok g c =
    let from = begins_from c.args.client.now.llc (sap_of_slot c.args.slot) (Gets c.args.acceptable c.args.key.now) in
    given_back (λ a i. IfOk c.get_on.result (λ v. IsMade g.L.Listener g.L.PeerListener.target c.args.counts from c.args.field.now c.args.initiator.now c.args.far.now a i c.get_on.new.far
    (Ends (one_on (sap_of_slot c.args.slot) (Over (Value v.items))) c.get_on.new.self.llc)))
    c.get_on.new.carrier.field.now _ c.get_on.new.carrier.initiator.now _ (search rules) (search rules)
    (IfOk-weaker c.get_on.result _ _ (λ v t. made g.L.Listener g.L.PeerListener.target (seen_pair {L = g.row.L.Denot}) (laws g) c.on-pair.result c.get_on.new.carrier c.args.far.now c.get_on.new.far
    c.args.field.now c.args.initiator.now
    c.on-pair.ensures.fresh c.requires.open_ c.get_on.ensures.ready c.args.counts from (Ends (one_on (sap_of_slot c.args.slot) (Over (Value v.items))) c.get_on.new.self.llc) t (λ left. refl))
    c.get_on.ensures.ok)

pub returns-clause-err : goal.returns-clause-err
returns-clause-err g c =
    let from = begins_from c.args.client.now.llc (sap_of_slot c.args.slot) (Gets c.args.acceptable c.args.key.now) in
    given_back (λ a i. IfErr c.get_on.result (λ e. RequestFails g.L.Listener g.L.PeerListener.target c.args.counts from c.args.field.now c.args.initiator.now c.args.far.now a i c.get_on.new.far
    (sap_of_slot c.args.slot) c.get_on.new.self.llc e))
    c.get_on.new.carrier.field.now _ c.get_on.new.carrier.initiator.now _ (search rules) (search rules)
    (IfErr-weaker c.get_on.result _ _ (λ e t. request_failed g.L.Listener g.L.PeerListener.target (seen_pair {L = g.row.L.Denot}) (laws g) c.on-pair.result c.get_on.new.carrier c.args.far.now
    c.get_on.new.far c.args.field.now c.args.initiator.now
    c.on-pair.ensures.fresh c.requires.open_ c.get_on.ensures.ready (sap_of_slot c.args.slot) c.args.counts from e c.get_on.new.self.llc t) (c.get_on.ensures.err c.requires.going))

pub returns-clause-value : goal.returns-clause-value
returns-clause-value g c = λ accords. c.get_on.ensures.value (λ p. p.end) counted_is_peer accords

pub returns-clause-fails : goal.returns-clause-fails
returns-clause-fails g c = λ accords. c.get_on.ensures.fails (λ p. p.end) counted_is_peer accords
