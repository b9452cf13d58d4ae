use Rattle.std.proofs.Common.{rules, IfErr, OnOk, refl}
use Rattle.std.proofs.lemmas.Result.{IfErr-weaker, on_ok_weaker}
use Rattle.air_core.proofs.PlainAside.{Laws}
use Rattle.dep_link.specs.DepLinks.{seen_pair}
use Rattle.snep_core.specs.declared.job.Ending.TheVariants.{Done}
use Rattle.snep_core.specs.declared.job.Job.TheVariants.{Over}
use Rattle.snep_core.specs.Talk.{Ends, Puts, alone, begins, client_sap}
use Rattle.snep_core.proofs.accord.Peers.{counted_is_peer}
use Rattle.link_calls.specs.Calls.{RequestFails, IsMade}
use Rattle.link_calls.proofs.Made.{given_back, made, request_failed}
use Rattle.link_calls.proofs.calls.put_on.Given as given
use Rattle.link_calls.proofs.calls.put_on.Goals as goal

laws : (g : given.Over) → Laws g.L.Listener
laws g = record {
  step_keeps = g.met.L.Listener.step_keeps;
  dark_keeps = g.met.L.Listener.dark_keeps;
  dark_rests = g.met.L.Listener.dark_rests;
  rests = g.met.L.Listener.rests;
  ignores = g.met.L.Listener.ignores;
}

pub returns-clause-ok : goal.returns-clause-ok
returns-clause-ok g c =
    let from = begins c.args.client.now.llc (Puts c.args.message.now) in
    given_back (λ a i. OnOk c.put.result (IsMade g.L.Listener g.L.PeerListener.target c.args.counts from c.args.field.now c.args.initiator.now c.args.far.now a i c.put.new.far
    (Ends (alone (Over Done)) c.put.new.self.llc)))
    c.put.new.carrier.field.now _ c.put.new.carrier.initiator.now _ (search rules) (search rules)
    (on_ok_weaker c.put.result (λ t. made g.L.Listener g.L.PeerListener.target (seen_pair {L = g.row.L.Denot}) (laws g) c.on-pair.result c.put.new.carrier c.args.far.now c.put.new.far c.args.field.now
    c.args.initiator.now
    c.on-pair.ensures.fresh c.requires.open_ c.put.ensures.ready c.args.counts from (Ends (alone (Over Done)) c.put.new.self.llc) t (λ left. refl)) c.put.ensures.ok)

pub returns-clause-err : goal.returns-clause-err
returns-clause-err g c =
    let from = begins c.args.client.now.llc (Puts c.args.message.now) in
    given_back (λ a i. IfErr c.put.result (λ e. RequestFails g.L.Listener g.L.PeerListener.target c.args.counts from c.args.field.now c.args.initiator.now c.args.far.now a i c.put.new.far client_sap
    c.put.new.self.llc e))
    c.put.new.carrier.field.now _ c.put.new.carrier.initiator.now _ (search rules) (search rules)
    (IfErr-weaker c.put.result _ _ (λ e t. request_failed g.L.Listener g.L.PeerListener.target (seen_pair {L = g.row.L.Denot}) (laws g) c.on-pair.result c.put.new.carrier c.args.far.now c.put.new.far
    c.args.field.now c.args.initiator.now
    c.on-pair.ensures.fresh c.requires.open_ c.put.ensures.ready client_sap c.args.counts from e c.put.new.self.llc t) (c.put.ensures.err c.requires.going c.requires.free))

pub returns-clause-taken : goal.returns-clause-taken
returns-clause-taken g c = λ accords. c.put.ensures.taken (λ p. p.end) counted_is_peer accords

pub returns-clause-fails : goal.returns-clause-fails
returns-clause-fails g c = λ accords. c.put.ensures.fails c.requires.free (λ p. p.end) counted_is_peer accords
