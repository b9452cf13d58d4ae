use Rattle.std.proofs.Common.{◌≡◌, true, false}
use Rattle.nfca_poll.specs.Inventory.{picking_v, inventory_of, Tries}
use Rattle.nfca_poll.proofs.enquiries.Enquiring.{Reached}
use Rattle.nfca_poll.proofs.quiet.Steady.{InVain}
use Rattle.nfca_poll.proofs.inventory.pick_v.Given as goal

abbrev pub invariant-loop : goal.invariant-loop
invariant-loop g l = record {
  lit : l.field.lit ≡ true;
  so_far : Reached (picking_v l.fn.id) g.L.Listener.machine l.fn.field l.field (Tries l.counter false);
  vain : InVain g.L.Listener.machine (inventory_of l.fn.id) l.fn.field l.field l.counter false;
}
