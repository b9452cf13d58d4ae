use Rattle.std.proofs.Common.{rules, ◌≡◌, ◌<◌, ◌^◌, false, List, ℕ, Some, refl, sym, subst, inl, inr}
use Rattle.std.proofs.lemmas.Result.{IfErr-weaker, IfOk-weaker}
use Rattle.snep_core.specs.Accord.{GetFails}
use Rattle.snep_core.specs.Calling.{ClientState, FailsBy, Talks}
use Rattle.snep_core.specs.Jobs.{Begins, Ending, Over}
use Rattle.snep_core.specs.Talk.{Ends, Gets, begins_from, begun, connected, get_bytes, one_on, sap_of_slot}
use Rattle.snep_core.proofs.accord.GetEnds.{get_fails, get_got}
use Rattle.snep_core.proofs.accord.RequestEnds.{slot_range}
use Rattle.snep_core.proofs.jobs.Talking.{talks_none}
use Rattle.snep_core.proofs.client.Client.get_on.Goals as goal

pub returns-in-Err-clause-err : goal.returns-in-Err-clause-err
returns-in-Err-clause-err g c = λ going. inr (inr (record {
  at = record {
    llc = connected c.args.self.now.llc (sap_of_slot c.args.slot);
    jobs = one_on (sap_of_slot c.args.slot) (Begins (Some c.args.acceptable) (get_bytes c.args.acceptable c.args.key.now));
    idle = 0;
  };
  mid = c.args.carrier.now;
  mid_far = c.args.far.now;
  talks = talks_none g.C.Carrier.seen g.C.Carrier.swaps g.A.Answerer.steps g.A.Answerer.stops c.args.counts
      (begins_from c.args.self.now.llc (sap_of_slot c.args.slot) (Gets c.args.acceptable c.args.key.now)) c.args.carrier.now c.args.far.now;
  cut = inl (inl (record { fault = c.spend.ensures.fault; link_is = refl; far_is = refl }));
}))

pub returns-in-Err-ask-clause-err : goal.returns-in-Err-ask-clause-err
returns-in-Err-ask-clause-err g c =
    let e : c.in-Ok.request ≡ get_bytes c.args.acceptable c.args.key.now = search rules in
    λ going. inr
    (subst (λ (b : List ℕ). FailsBy g.C.Carrier.seen g.C.Carrier.swaps g.A.Answerer.steps g.A.Answerer.stops c.args.counts
    (begun (connected c.args.self.now.llc (sap_of_slot c.args.slot)) (one_on (sap_of_slot c.args.slot) (Begins (Some c.args.acceptable) b))) c.args.carrier.now c.args.far.now c.in-Err-ask.fault
    c.ask.new.self.llc c.ask.new.carrier c.ask.new.far) e
    (subst (λ (z : ClientState). FailsBy g.C.Carrier.seen g.C.Carrier.swaps g.A.Answerer.steps g.A.Answerer.stops c.args.counts
    (begun (connected z.llc (sap_of_slot c.args.slot)) (one_on (sap_of_slot c.args.slot) (Begins (Some c.args.acceptable) c.in-Ok.request))) c.args.carrier.now c.args.far.now c.in-Err-ask.fault
    c.ask.new.self.llc c.ask.new.carrier c.ask.new.far) c.self.view_is c.in-Err-ask.ensures.err))

pub returns-clause-ok : goal.returns-clause-ok
returns-clause-ok g c =
    let e : c.in-Ok.request ≡ get_bytes c.args.acceptable c.args.key.now = search rules in
    let t =
    subst (λ (z : ClientState). Talks g.C.Carrier.seen g.C.Carrier.swaps g.A.Answerer.steps g.A.Answerer.stops c.args.counts
    (begun (connected z.llc (sap_of_slot c.args.slot)) (one_on (sap_of_slot c.args.slot) (Begins (Some c.args.acceptable) c.in-Ok.request))) c.args.carrier.now c.args.far.now
    (Ends (one_on (sap_of_slot c.args.slot) (Over c.in-Ok-ask.ending)) c.ask.new.self.llc) c.ask.new.carrier c.ask.new.far) c.self.view_is c.in-Ok-ask.ensures.ok in
    let u =
    subst (λ (b : List ℕ). Talks g.C.Carrier.seen g.C.Carrier.swaps g.A.Answerer.steps g.A.Answerer.stops c.args.counts
    (begun (connected c.args.self.now.llc (sap_of_slot c.args.slot)) (one_on (sap_of_slot c.args.slot) (Begins (Some c.args.acceptable) b))) c.args.carrier.now c.args.far.now
    (Ends (one_on (sap_of_slot c.args.slot) (Over c.in-Ok-ask.ending)) c.ask.new.self.llc) c.ask.new.carrier c.ask.new.far) e t in
    IfOk-weaker c.value_of.result _ _ (λ value is. subst (λ (o : Ending). Talks g.C.Carrier.seen g.C.Carrier.swaps g.A.Answerer.steps g.A.Answerer.stops c.args.counts
    (begun (connected c.args.self.now.llc (sap_of_slot c.args.slot)) (one_on (sap_of_slot c.args.slot) (Begins (Some c.args.acceptable) (get_bytes c.args.acceptable c.args.key.now))))
    c.args.carrier.now c.args.far.now (Ends (one_on (sap_of_slot c.args.slot) (Over o)) c.ask.new.self.llc) c.ask.new.carrier c.ask.new.far) is u) c.value_of.ensures.value

pub returns-clause-err : goal.returns-clause-err
returns-clause-err g c =
    let e : c.in-Ok.request ≡ get_bytes c.args.acceptable c.args.key.now = search rules in
    let t =
    subst (λ (z : ClientState). Talks g.C.Carrier.seen g.C.Carrier.swaps g.A.Answerer.steps g.A.Answerer.stops c.args.counts
    (begun (connected z.llc (sap_of_slot c.args.slot)) (one_on (sap_of_slot c.args.slot) (Begins (Some c.args.acceptable) c.in-Ok.request))) c.args.carrier.now c.args.far.now
    (Ends (one_on (sap_of_slot c.args.slot) (Over c.in-Ok-ask.ending)) c.ask.new.self.llc) c.ask.new.carrier c.ask.new.far) c.self.view_is c.in-Ok-ask.ensures.ok in
    let u =
    subst (λ (b : List ℕ). Talks g.C.Carrier.seen g.C.Carrier.swaps g.A.Answerer.steps g.A.Answerer.stops c.args.counts
    (begun (connected c.args.self.now.llc (sap_of_slot c.args.slot)) (one_on (sap_of_slot c.args.slot) (Begins (Some c.args.acceptable) b))) c.args.carrier.now c.args.far.now
    (Ends (one_on (sap_of_slot c.args.slot) (Over c.in-Ok-ask.ending)) c.ask.new.self.llc) c.ask.new.carrier c.ask.new.far) e t in
    λ going. IfErr-weaker c.value_of.result _ _ (λ fault r. inl (record {
      why = r.0;
      fault = r.2;
      talks = subst (λ (o : Ending). Talks g.C.Carrier.seen g.C.Carrier.swaps g.A.Answerer.steps g.A.Answerer.stops c.args.counts
          (begun (connected c.args.self.now.llc (sap_of_slot c.args.slot)) (one_on (sap_of_slot c.args.slot) (Begins (Some c.args.acceptable) (get_bytes c.args.acceptable c.args.key.now))))
          c.args.carrier.now c.args.far.now (Ends (one_on (sap_of_slot c.args.slot) (Over o)) c.ask.new.self.llc) c.ask.new.carrier c.ask.new.far) r.1 u;
    })) c.value_of.ensures.refused

pub returns-in-Err-clause-fails : goal.returns-in-Err-clause-fails
returns-in-Err-clause-fails g c = λ view peer a.
    subst (λ f. GetFails (sap_of_slot c.args.slot) c.args.acceptable c.args.key.now (view c.args.far.now) f c.spend.new.self.llc (view c.args.far.now)) (sym c.spend.ensures.fault) refl

pub returns-in-Err-ask-clause-fails : goal.returns-in-Err-ask-clause-fails
returns-in-Err-ask-clause-fails g c = λ view peer a.
    let going : c.args.self.now.spent ≡ false = search rules in
    let small : c.args.acceptable < 2 ^ 32 = search rules in
    get_fails g.C.Carrier.seen g.C.Carrier.swaps g.A.Answerer.steps g.A.Answerer.stops view peer (sap_of_slot c.args.slot) (slot_range c.args.slot c.requires.slot) c.args.acceptable small
    c.args.key.now c.requires.key
    c.args.self.now.llc c.args.carrier.now c.args.far.now a c.args.counts c.in-Err-ask.fault c.ask.new.self.llc c.ask.new.carrier c.ask.new.far
    (returns-in-Err-ask-clause-err g c going)

pub returns-clause-value : goal.returns-clause-value
returns-clause-value g c = λ view peer a.
    let small : c.args.acceptable < 2 ^ 32 = search rules in
    IfOk-weaker c.value_of.result _ _ (λ value t. get_got g.C.Carrier.seen g.C.Carrier.swaps g.A.Answerer.steps g.A.Answerer.stops view peer (sap_of_slot c.args.slot)
    (slot_range c.args.slot c.requires.slot) c.args.acceptable small c.args.key.now c.requires.key
    c.args.self.now.llc c.args.carrier.now c.args.far.now a c.args.counts value.items c.ask.new.self.llc c.ask.new.carrier c.ask.new.far t)
    (returns-clause-ok g c)

pub returns-clause-fails : goal.returns-clause-fails
returns-clause-fails g c = λ view peer a.
    let going : c.args.self.now.spent ≡ false = search rules in
    let small : c.args.acceptable < 2 ^ 32 = search rules in
    IfErr-weaker c.value_of.result _ _ (λ fault t. get_fails g.C.Carrier.seen g.C.Carrier.swaps g.A.Answerer.steps g.A.Answerer.stops view peer (sap_of_slot c.args.slot)
    (slot_range c.args.slot c.requires.slot) c.args.acceptable small c.args.key.now c.requires.key
    c.args.self.now.llc c.args.carrier.now c.args.far.now a c.args.counts fault c.ask.new.self.llc c.ask.new.carrier c.ask.new.far t)
    (returns-clause-err g c going)
