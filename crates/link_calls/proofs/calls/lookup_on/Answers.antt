use Rattle.std.proofs.Common.{rules, IfOk, IfErr, refl}
use Rattle.std.proofs.lemmas.Result.{IfErr-weaker, IfOk-weaker}
use Rattle.air_core.proofs.PlainAside.{Laws}
use Rattle.dep_link.specs.DepLinks.{seen_pair}
use Rattle.snep_core.specs.declared.job.Ending.TheVariants.{Sap}
use Rattle.snep_core.specs.declared.job.Job.TheVariants.{Over}
use Rattle.snep_core.specs.Talk.{Ends, Finds, alone, begins}
use Rattle.snep_core.proofs.accord.Peers.{counted_is_peer}
use Rattle.link_calls.specs.Calls.{CallFails, IsMade}
use Rattle.link_calls.proofs.Made.{given_back, made, call_failed}
use Rattle.link_calls.proofs.calls.lookup_on.Given as given
use Rattle.link_calls.proofs.calls.lookup_on.Goals as goal

laws : (g : given.Over) → Laws g.L.Listener
laws g = record {
  step_keeps = g.met.L.Listener.step_keeps;
  dark_keeps = g.met.L.Listener.dark_keeps;
  dark_rests = g.met.L.Listener.dark_rests;
  rests = g.met.L.Listener.rests;
  ignores = g.met.L.Listener.ignores;
}

pub returns-clause-ok : goal.returns-clause-ok
returns-clause-ok g c =
    let from = begins c.args.client.now.llc (Finds c.args.name.now) in
    given_back (λ a i. IfOk c.lookup.result (λ v. IsMade g.L.Listener g.L.PeerListener.target c.args.counts from c.args.field.now c.args.initiator.now c.args.far.now a i c.lookup.new.far
    (Ends (alone (Over (Sap v))) c.lookup.new.self.llc)))
    c.lookup.new.carrier.field.now _ c.lookup.new.carrier.initiator.now _ (search rules) (search rules)
    (IfOk-weaker c.lookup.result _ _ (λ v t. made g.L.Listener g.L.PeerListener.target (seen_pair {L = g.row.L.Denot}) (laws g) c.on-pair.result c.lookup.new.carrier c.args.far.now c.lookup.new.far
    c.args.field.now c.args.initiator.now
    c.on-pair.ensures.fresh c.requires.open_ c.lookup.ensures.ready c.args.counts from (Ends (alone (Over (Sap v))) c.lookup.new.self.llc) t (λ left. refl)) c.lookup.ensures.ok)

pub returns-clause-err : goal.returns-clause-err
returns-clause-err g c =
    let from = begins c.args.client.now.llc (Finds c.args.name.now) in
    given_back (λ a i. IfErr c.lookup.result (λ e. CallFails g.L.Listener g.L.PeerListener.target c.args.counts from c.args.field.now c.args.initiator.now c.args.far.now a i c.lookup.new.far
    c.lookup.new.self.llc e))
    c.lookup.new.carrier.field.now _ c.lookup.new.carrier.initiator.now _ (search rules) (search rules)
    (IfErr-weaker c.lookup.result _ _ (λ e t. call_failed g.L.Listener g.L.PeerListener.target (seen_pair {L = g.row.L.Denot}) (laws g) c.on-pair.result c.lookup.new.carrier c.args.far.now
    c.lookup.new.far c.args.field.now c.args.initiator.now
    c.on-pair.ensures.fresh c.requires.open_ c.lookup.ensures.ready c.args.counts from e c.lookup.new.self.llc t) (c.lookup.ensures.err c.requires.going))

pub returns-clause-found : goal.returns-clause-found
returns-clause-found g c = λ accords. c.lookup.ensures.found (λ p. p.end) counted_is_peer accords

pub returns-clause-fails : goal.returns-clause-fails
returns-clause-fails g c = λ accords. c.lookup.ensures.fails (λ p. p.end) counted_is_peer accords
