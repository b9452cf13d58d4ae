use Rattle.std.proofs.Common.{List, ℕ, None, refl, sym, subst, inl, inr, arith}
use Rattle.snep_core.specs.Accord.{PutFails}
use Rattle.snep_core.specs.Calling.{FailsBy, Talks}
use Rattle.snep_core.specs.Jobs.{Begins, Done, Ending, Over, Refused}
use Rattle.snep_core.specs.Talk.{Ends, Puts, alone, begins, begun, client_sap, connected, put_bytes}
use Rattle.snep_core.proofs.accord.PutEnds.{put_fails, put_taken}
use Rattle.snep_core.proofs.accord.RequestEnds.{slot_range}
use Rattle.snep_core.proofs.jobs.Talking.{talks_none}
use Rattle.snep_core.proofs.client.ClientEnd.put.Goals as goal

pub returns-in-Err-clause-err : goal.returns-in-Err-clause-err
returns-in-Err-clause-err g c = inr (inr (record {
  at = record { llc = connected c.args.self.now.llc client_sap; jobs = alone (Begins None (put_bytes c.args.message.now)); idle = 0 };
  mid = c.args.carrier.now;
  mid_far = c.args.far.now;
  talks = talks_none g.C.Carrier.seen g.C.Carrier.swaps g.A.Answerer.steps g.A.Answerer.stops c.args.counts
      (begins c.args.self.now.llc (Puts c.args.message.now)) c.args.carrier.now c.args.far.now;
  cut = inl (inl (record { fault = c.spend.ensures.fault; link_is = refl; far_is = refl }));
}))

pub returns-in-Err-ask-clause-err : goal.returns-in-Err-ask-clause-err
returns-in-Err-ask-clause-err g c = inr
    (subst (λ (b : List ℕ). FailsBy g.C.Carrier.seen g.C.Carrier.swaps g.A.Answerer.steps g.A.Answerer.stops c.args.counts
    (begun (connected c.args.self.now.llc client_sap) (alone (Begins None b))) c.args.carrier.now c.args.far.now c.in-Err-ask.fault c.ask.new.self.llc
    c.ask.new.carrier c.ask.new.far) c.in-Ok.ensures c.in-Err-ask.ensures.err)

pub returns-in-Ok-Done-clause-ok : goal.returns-in-Ok-Done-clause-ok
returns-in-Ok-Done-clause-ok g c =
    let t =
    subst (λ (o : Ending). Talks g.C.Carrier.seen g.C.Carrier.swaps g.A.Answerer.steps g.A.Answerer.stops c.args.counts
    (begun (connected c.args.self.now.llc client_sap) (alone (Begins None c.in-Ok.request))) c.args.carrier.now c.args.far.now
    (Ends (alone (Over o)) c.ask.new.self.llc) c.ask.new.carrier c.ask.new.far) c.in-Ok-Done.field-0-is c.in-Ok-Done.ensures.ok in
    subst (λ (b : List ℕ). Talks g.C.Carrier.seen g.C.Carrier.swaps g.A.Answerer.steps g.A.Answerer.stops c.args.counts
    (begun (connected c.args.self.now.llc client_sap) (alone (Begins None b))) c.args.carrier.now c.args.far.now
    (Ends (alone (Over Done)) c.ask.new.self.llc) c.ask.new.carrier c.ask.new.far) c.in-Ok.ensures t

pub returns-in-Ok-Refused-clause-err : goal.returns-in-Ok-Refused-clause-err
returns-in-Ok-Refused-clause-err g c =
    let t =
    subst (λ (o : Ending). Talks g.C.Carrier.seen g.C.Carrier.swaps g.A.Answerer.steps g.A.Answerer.stops c.args.counts
    (begun (connected c.args.self.now.llc client_sap) (alone (Begins None c.in-Ok.request))) c.args.carrier.now c.args.far.now
    (Ends (alone (Over o)) c.ask.new.self.llc) c.ask.new.carrier c.ask.new.far) c.in-Ok-Refused.field-0-is c.in-Ok-Refused.ensures.ok in
    inl (record {
      why = c.in-Ok-Refused.refusal;
      fault = c.fault.ensures;
      talks = subst (λ (b : List ℕ). Talks g.C.Carrier.seen g.C.Carrier.swaps g.A.Answerer.steps g.A.Answerer.stops c.args.counts
          (begun (connected c.args.self.now.llc client_sap) (alone (Begins None b))) c.args.carrier.now c.args.far.now
          (Ends (alone (Over (Refused c.in-Ok-Refused.refusal))) c.ask.new.self.llc) c.ask.new.carrier c.ask.new.far) c.in-Ok.ensures t;
    })

pub returns-in-Err-clause-fails : goal.returns-in-Err-clause-fails
returns-in-Err-clause-fails g c = λ view peer a.
    subst (λ f. PutFails client_sap c.args.message.now (view c.args.far.now) f c.spend.new.self.llc (view c.args.far.now)) (sym c.spend.ensures.fault) (inl refl)

pub returns-in-Err-ask-clause-fails : goal.returns-in-Err-ask-clause-fails
returns-in-Err-ask-clause-fails g c = λ view peer a.
    put_fails g.C.Carrier.seen g.C.Carrier.swaps g.A.Answerer.steps g.A.Answerer.stops view peer client_sap (slot_range 0 (omega arith)) c.args.message.now c.requires.message c.args.self.now.llc
    c.args.carrier.now c.args.far.now a c.args.counts c.in-Err-ask.fault c.ask.new.self.llc c.ask.new.carrier c.ask.new.far (returns-in-Err-ask-clause-err g c)

pub returns-in-Ok-Done-clause-taken : goal.returns-in-Ok-Done-clause-taken
returns-in-Ok-Done-clause-taken g c = λ view peer a.
    put_taken g.C.Carrier.seen g.C.Carrier.swaps g.A.Answerer.steps g.A.Answerer.stops view peer client_sap (slot_range 0 (omega arith)) c.args.message.now c.requires.message c.args.self.now.llc
    c.args.carrier.now c.args.far.now a c.args.counts c.ask.new.self.llc c.ask.new.carrier c.ask.new.far (returns-in-Ok-Done-clause-ok g c)

pub returns-in-Ok-Refused-clause-fails : goal.returns-in-Ok-Refused-clause-fails
returns-in-Ok-Refused-clause-fails g c = λ view peer a.
    put_fails g.C.Carrier.seen g.C.Carrier.swaps g.A.Answerer.steps g.A.Answerer.stops view peer client_sap (slot_range 0 (omega arith)) c.args.message.now c.requires.message c.args.self.now.llc
    c.args.carrier.now c.args.far.now a c.args.counts c.fault.result c.ask.new.self.llc c.ask.new.carrier c.ask.new.far (returns-in-Ok-Refused-clause-err g c)
