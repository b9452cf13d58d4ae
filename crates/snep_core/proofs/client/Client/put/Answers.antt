use Rattle.std.proofs.Common.{None, refl, inl, inr}
use Rattle.snep_core.specs.Jobs.{Begins}
use Rattle.snep_core.specs.Talk.{Puts, alone, begins, client_sap, connected, put_bytes}
use Rattle.snep_core.proofs.jobs.Talking.{talks_none}
use Rattle.snep_core.proofs.client.Client.put.Goals as goal

pub returns-in_default-clause-err : goal.returns-in_default-clause-err
returns-in_default-clause-err g c = λ going free. inr (inr (record {
  at = record { llc = connected c.args.self.now.llc client_sap; jobs = alone (Begins None (put_bytes c.args.message.now)); idle = 0 };
  mid = c.args.carrier.now;
  mid_far = c.args.far.now;
  talks = talks_none g.C.Carrier.seen g.C.Carrier.swaps g.A.Answerer.steps g.A.Answerer.stops c.args.counts
      (begins c.args.self.now.llc (Puts c.args.message.now)) c.args.carrier.now c.args.far.now;
  cut = inl (inl (record { fault = c.spend.ensures.fault; link_is = refl; far_is = refl }));
}))
