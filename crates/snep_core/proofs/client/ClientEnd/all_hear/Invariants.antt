use Rattle.std.proofs.Common.{◌≡◌}
use Rattle.snep_core.proofs.accord.AllJobs.{Hearing}
use Rattle.snep_core.proofs.client.ClientEnd.all_hear.Given as goal

abbrev pub invariant-all : goal.invariant-all
invariant-all l = record {
  spent : l.self.spent ≡ l.fn.self.spent;
  hearing : Hearing l.fn.self.llc l.fn.all.items l.self.llc l.jobs.items l.gave l.one-iterator.rest.items;
}
