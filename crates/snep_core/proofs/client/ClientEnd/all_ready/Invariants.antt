use Rattle.std.proofs.Common.{◌≡◌}
use Rattle.snep_core.specs.Talk.{all_readied}
use Rattle.snep_core.proofs.accord.AllJobs.{behind}
use Rattle.snep_core.proofs.client.ClientEnd.all_ready.Given as goal

abbrev pub invariant-jobs : goal.invariant-jobs
invariant-jobs l = record {
  spent : l.self.spent ≡ l.fn.self.spent;
  readied : all_readied l.fn.jobs.items l.fn.self.llc ≡ behind l.now.items (all_readied l.one-iterator.rest.items l.self.llc);
}
