use Rattle.std.proofs.Common.{◌≡◌, true}
use Rattle.nfca_poll.specs.Inventory.{inventory, inventory_all, Tries}
use Rattle.nfca_poll.proofs.enquiries.Enquiring.{Reached}
use Rattle.nfca_poll.proofs.quiet.Steady.{InVain}
use Rattle.nfca_poll.proofs.inventory.inventory_one.Given as goal

abbrev pub invariant-loop : goal.invariant-loop
invariant-loop g l = record {
  lit : l.field.lit ≡ true;
  so_far : Reached inventory g.L.Listener.machine l.fn.field l.field (Tries l.counter l.damaged);
  vain : InVain g.L.Listener.machine inventory_all l.fn.field l.field l.counter l.damaged;
}
