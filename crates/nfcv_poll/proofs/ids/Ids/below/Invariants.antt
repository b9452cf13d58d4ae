use Rattle.std.proofs.Common.{◌≡◌, ◌+◌, drop}
use Rattle.nfcv_poll.specs.Search.{below}
use Rattle.nfcv_poll.proofs.ids.Ids.below.Given as goal

abbrev pub invariant-loop-known : goal.invariant-loop-known
invariant-loop-known l = (l.count ≡ l.known-index) × (l.count + below (drop l.count l.self) l.id ≡ below l.self l.id)
