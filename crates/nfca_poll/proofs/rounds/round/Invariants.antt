use Rattle.std.proofs.Common.{◌≡◌, ◌≤◌, ◌-◌, length, true}
use Rattle.std.specs.Option.{option_copied}
use Rattle.nfca_poll.specs.Poll.{Calling}
use Rattle.nfca_poll.specs.Rounds.{Seeks}
use Rattle.nfca_poll.specs.private.OneRound.{one_round}
use Rattle.nfca_poll.proofs.enquiries.Enquiring.{Reached}
use Rattle.nfca_poll.proofs.rounds.round.Given as goal

abbrev pub invariant-loop-device : goal.invariant-loop-device
invariant-loop-device g l = record {
  lit : l.field.lit ≡ true;
  few : length l.found ≤ 256;
  so_far : Reached (one_round (option_copied l.fn.wanted)) g.L.Listener.machine l.fn.field l.field (Seeks 1 l.found (Calling 0));
}

abbrev pub decreases-loop-device : goal.decreases-loop-device
decreases-loop-device g l = 257 - length l.found
