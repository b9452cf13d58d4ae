use Rattle.std.proofs.Common.{◌≡◌, drop}
use Rattle.nfca_poll.specs.Rounds.{has_found}
use Rattle.nfca_poll.proofs.rounds.Found.has.Given as goal

abbrev pub invariant-loop-device : goal.invariant-loop-device
invariant-loop-device l = has_found (drop l.device-index l.device-items) l.id ≡ has_found l.fn.self l.id
