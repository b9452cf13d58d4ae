use Rattle.std.proofs.Common.{◌≡◌, ◌+◌, ◌≤◌, drop}
use Rattle.llcp_link.specs.Taking.{answers_in as count_answers}
use Rattle.llcp_link.proofs.queue.answers_in.Given as goal

abbrev pub invariant-queue : goal.invariant-queue
invariant-queue l = record {
  count : l.count + count_answers (drop l.queued-index l.queue) ≡ count_answers l.queue;
  bound : l.count ≤ l.queued-index;
}
