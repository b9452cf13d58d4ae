use Rattle.std.proofs.Common.{◌≡◌, ◌++◌, reverse, length}
use Rattle.nfcv_poll.proofs.masks.Masks.take_all.Given as goal

abbrev pub invariant-moved : goal.invariant-moved
invariant-moved l = reverse l.other ++ l.self ≡ reverse l.fn.other ++ l.fn.self

abbrev pub decreases-moved : goal.decreases-moved
decreases-moved l = length l.other
