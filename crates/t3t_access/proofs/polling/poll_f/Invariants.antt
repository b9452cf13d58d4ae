use Rattle.std.proofs.Common.{◌≡◌, true}
use Rattle.nfca_poll.specs.Inventory.{Tries}
use Rattle.t3t_access.specs.Polling.{polling_f, sensf_req}
use Rattle.nfca_poll.proofs.enquiries.Enquiring.{Reached}
use Rattle.nfca_poll.proofs.quiet.Steady.{InVain}
use Rattle.t3t_access.proofs.polling.poll_f.Given as goal

abbrev pub invariant-loop : goal.invariant-loop
invariant-loop g l = record {
  lit : l.field.lit ≡ true;
  so_far : Reached polling_f g.L.Listener.machine l.fn.field l.field (Tries l.counter l.damaged);
  vain : InVain g.L.Listener.machine sensf_req l.fn.field l.field l.counter l.damaged;
}
