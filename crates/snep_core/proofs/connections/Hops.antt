-- Whatever a client and a peer give one another, each SAP's connection stays in step.
use Rattle.std.proofs.Common.{ℕ, List}
use Rattle.llcp_link.specs.State.{Bound}
use Rattle.llcp_link.specs.Giving.{after_giving, gave, given}
use Rattle.llcp_link.specs.Taking.{taken_from}
use Rattle.snep_core.specs.Accord.{PeerState}
use Rattle.snep_core.specs.Jobs.{Job}
use Rattle.snep_core.specs.Server.{Received, serving}
use Rattle.snep_core.specs.Session.{Offer}
use Rattle.snep_core.specs.Talk.{EndState, silent}
use Rattle.snep_core.proofs.connections.Carrying.{Handed, HopSo, handed}
use Rattle.snep_core.proofs.connections.Meets.{Keeps, Meets, acks_meets, asks_meets, client_gives, hears_meets, server_gives, tells_meets}
use Rattle.snep_core.proofs.connections.Opening.{cc_meets, cc_short, connect_meets, connect_short}
use Rattle.snep_core.proofs.connections.Places.{Plan}
use Rattle.snep_core.proofs.connections.Sides.{Sizes}

module _ (limit : ℕ) (table : List Offer) (names : List Bound) (old : List Received) (z : Sizes) (plan : ℕ → Plan) (job : ℕ → Job) (keeps : Keeps limit table names old z plan) where
  abbrev M : EndState → PeerState → Type 0
  M l p = Meets limit table names old z plan job l p

  pub hops : (l : EndState) (p : PeerState) → M l p → HopSo silent serving M p (gave silent l)
  hops l p h =
      client_gives limit table names old z plan job keeps l p h M (λ o. HopSo silent serving M p o) (λ g y. y)
      (λ s rest e. (connect_short limit table names old z plan job l p h s rest e, connect_meets limit table names old z plan job l p h s rest e))
      (λ s t free u queue e. asks_meets limit table names old z plan job keeps l p h s t free u queue e)
      (λ s t free v vs e. acks_meets limit table names old z plan job keeps l p h s t free)
      (λ e q s. tt)

  pub hops_back : (p : PeerState) (l : EndState) → M l p → HopSo serving silent (λ q e. M e q) l (gave serving p)
  hops_back p l h =
      server_gives limit table names old z plan job keeps l p h (λ q e. M e q) (λ o. HopSo serving silent (λ q e. M e q) l o) (λ g y. y)
      (λ s rest e. (cc_short limit table names old z plan job l p h s rest e, cc_meets limit table names old z plan job l p h s rest e))
      (λ s t free y room. tells_meets limit table names old z plan job keeps l p h s t free y room)
      (λ s t free u us e. hears_meets limit table names old z plan job keeps l p h s t free)
      (λ e q s. tt)

  -- the client's payload, handed over; and the peer's
  pub hands : {l : EndState} → {p : PeerState} → M l p → (k : ℕ) → Handed silent serving M k l p
  hands {l} {p} h k = handed silent serving M hops k l p h.sides.client_readable h.sides.peer_readable h

  pub takes : {l : EndState} → {p : PeerState} → M l p → (k : ℕ) → M (taken_from silent l (given serving k p)) (after_giving serving k p)
  takes {l} {p} h k = (handed serving silent (λ q e. M e q) hops_back k p l h.sides.peer_readable h.sides.client_readable h).now
