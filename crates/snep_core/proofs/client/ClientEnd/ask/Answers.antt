use Rattle.std.proofs.Common.{refl, inl, inr}
use Rattle.snep_core.specs.Jobs.{Begins}
use Rattle.snep_core.specs.Talk.{begun, connected, one_on}
use Rattle.snep_core.proofs.jobs.Talking.{talks_none}
use Rattle.snep_core.proofs.client.ClientEnd.ask.Goals as goal

pub returns-in-Err-clause-err : goal.returns-in-Err-clause-err
returns-in-Err-clause-err g c = inr (record {
  at = record { llc = connected c.args.self.now.llc c.args.sap; jobs = one_on c.args.sap (Begins c.args.most c.args.request); idle = 0 };
  mid = c.args.carrier.now;
  mid_far = c.args.far.now;
  talks = talks_none g.C.Carrier.seen g.C.Carrier.swaps g.A.Answerer.steps g.A.Answerer.stops c.args.counts
      (begun (connected c.args.self.now.llc c.args.sap) (one_on c.args.sap (Begins c.args.most c.args.request))) c.args.carrier.now c.args.far.now;
  cut = inl (inl (record { fault = c.in-Err.ensures.err; link_is = refl; far_is = refl }));
})
