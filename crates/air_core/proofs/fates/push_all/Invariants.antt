use Rattle.std.proofs.Common.{◌≡◌, ◌≤◌, ◌+◌, ◌-◌, ◌++◌, length, drop}
use Rattle.std.specs.VecDeque.{deque_len, deque_capacity}
use Rattle.air_core.proofs.fates.push_all.Given as goal

abbrev pub invariant-loop-fate : goal.invariant-loop-fate
invariant-loop-fate l = record {
  room : deque_len l.fates + (length l.more - l.fate-index) ≤ deque_capacity l.fates;
  items : l.fates.items ++ drop l.fate-index l.more ≡ l.fn.fates.items ++ l.more;
}
