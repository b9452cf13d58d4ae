use Rattle.std.proofs.Common.{rules, IfOk, IfErr, refl, sym, subst, inl, inr}
use Rattle.std.proofs.lemmas.Result.{IfErr-weaker, IfOk-weaker}
use Rattle.llcp_link.specs.Asking.{looked_up}
use Rattle.snep_core.specs.Calling.{FailsBy, Talks}
use Rattle.snep_core.specs.Jobs.{Looks, Over, Sap}
use Rattle.snep_core.specs.Talk.{Ends, Finds, alone, begins}
use Rattle.snep_core.specs.Accord.{AsideFails}
use Rattle.snep_core.proofs.accord.LookupEnds.{lookup_fails, lookup_found}
use Rattle.snep_core.proofs.jobs.Talking.{talks_none}
use Rattle.snep_core.proofs.client.Client.lookup.Goals as goal

pub returns-in-Err-clause-err : goal.returns-in-Err-clause-err
returns-in-Err-clause-err g c = λ going. inr (record {
  at = record { llc = looked_up c.args.self.now.llc c.args.name.now; jobs = alone (Looks c.args.self.now.llc.asked); idle = 0 };
  mid = c.args.carrier.now;
  mid_far = c.args.far.now;
  talks = talks_none g.C.Carrier.seen g.C.Carrier.swaps g.A.Answerer.steps g.A.Answerer.stops c.args.counts
      (begins c.args.self.now.llc (Finds c.args.name.now)) c.args.carrier.now c.args.far.now;
  cut = inl (inl (record { fault = c.in-Err.ensures.err; link_is = refl; far_is = refl }));
})

pub returns-in-Err-clause-fails : goal.returns-in-Err-clause-fails
returns-in-Err-clause-fails g c = λ view peer a.
    subst (λ f. AsideFails (view c.args.far.now) f (view c.args.far.now)) (sym c.in-Err.ensures.err) refl

pub returns-clause-found : goal.returns-clause-found
returns-clause-found g c =
    let ok : IfOk c.match-converse.result (λ sap. Talks g.C.Carrier.seen g.C.Carrier.swaps g.A.Answerer.steps g.A.Answerer.stops c.args.counts
    (begins c.args.self.now.llc (Finds c.args.name.now)) c.args.carrier.now c.args.far.now (Ends (alone (Over (Sap sap))) c.converse.new.self.llc)
    c.converse.new.carrier c.converse.new.far) = search rules in
    λ view peer a. IfOk-weaker c.match-converse.result _ _ (λ sap t. lookup_found g.C.Carrier.seen g.C.Carrier.swaps g.A.Answerer.steps g.A.Answerer.stops view peer
    c.args.name.now c.requires.name c.args.self.now.llc c.args.carrier.now c.args.far.now a c.args.counts sap c.converse.new.self.llc c.converse.new.carrier c.converse.new.far t) ok

pub returns-clause-fails : goal.returns-clause-fails
returns-clause-fails g c =
    let err : IfErr c.match-converse.result (λ e. FailsBy g.C.Carrier.seen g.C.Carrier.swaps g.A.Answerer.steps g.A.Answerer.stops c.args.counts
    (begins c.args.self.now.llc (Finds c.args.name.now)) c.args.carrier.now c.args.far.now e c.converse.new.self.llc
    c.converse.new.carrier c.converse.new.far) = search rules in
    λ view peer a. IfErr-weaker c.match-converse.result _ _ (λ e t. lookup_fails g.C.Carrier.seen g.C.Carrier.swaps g.A.Answerer.steps g.A.Answerer.stops view peer
    c.args.name.now c.requires.name c.args.self.now.llc c.args.carrier.now c.args.far.now a c.args.counts e c.converse.new.self.llc c.converse.new.carrier c.converse.new.far t) err
