use Rattle.std.proofs.Common.{◌≡◌, ◌++◌}
use Rattle.snep_core.specs.Listening.{all_awaiting}
use Rattle.snep_core.proofs.client.ClientEnd.awaiting.Given as goal

abbrev pub invariant-jobs : goal.invariant-jobs
invariant-jobs l = record {
  same : l.self ≡ l.fn.self;
  awaited : all_awaiting l.fn.self.llc l.fn.jobs.items ≡ l.all.items ++ all_awaiting l.fn.self.llc l.one-iterator.rest.items;
}
