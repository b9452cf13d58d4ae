use Rattle.std.proofs.Common.{◌≡◌, List, length}
use Rattle.snep_core.specs.Session.{Offer}
use Rattle.zevlodek_c.specs.Peer.{SpellsOffers, table_with}
use Rattle.zevlodek_c.proofs.peer.offer_all.Given as goal

abbrev pub invariant-loop-rest : goal.invariant-loop-rest
invariant-loop-rest l = record {
  goes : (os : List Offer) → SpellsOffers os l.initial.rest → (more : List Offer) × SpellsOffers more l.rest
      × (record l.fn.server { table = table_with l.fn.server.table os } ≡ record l.server { table = table_with l.server.table more });
}

abbrev pub decreases-loop-rest : goal.decreases-loop-rest
decreases-loop-rest l = length l.rest
