use Rattle.nfca_poll.specs.Rounds.{picking, next_round}
use Rattle.nfca_poll.proofs.enquiries.Enquiring.{Reached}
use Rattle.nfca_poll.proofs.rounds.pick.Given as goal

abbrev pub invariant-loop : goal.invariant-loop
invariant-loop g l = Reached (picking l.fn.id) g.L.Listener.machine l.fn.field l.field (next_round l.counter)
