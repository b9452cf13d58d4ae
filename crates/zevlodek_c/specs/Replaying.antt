-- A far end behind the payloads of a log, for private calls: no public contract speaks of it, the table is Peer.antt.
use Rattle.std.specs.Prelude.{◌≡◌, ℕ, ℤ, List}
use Rattle.snep_core.specs.Session.{Offer}
use Rattle.zevlodek_c.specs.declared.peer.Peer.{Peer}
use Rattle.zevlodek_c.specs.declared.peer.PeerFault.{PeerFault}
use Rattle.zevlodek_c.specs.declared.peer.PeerFault.TheVariants as faults
use Rattle.zevlodek_c.specs.Codes.{bad_log, bad_argument, no_memory}
use Rattle.zevlodek_c.specs.Peer.{Answered, IsPeerAsked, IsPayloadLog, SpellsOffers, SpellsPayloads}
use Rattle.zevlodek_c.specs.Peer.{answered_all, begun_end, unasked}

abbrev pub fault_code : PeerFault → ℤ
fault_code faults.Argument = bad_argument
fault_code faults.Log = bad_log
fault_code faults.Memory = no_memory

-- the numbers and bytes are a far end's, and this is the end behind the payloads
pub record IsReplay (p : Peer) (offers general log : List ℕ) (a : Answered) : Type 0 where
  pub served : IsPeerAsked p offers
  pub spelled : IsPayloadLog log
  pub same : (os : List Offer) (payloads : List (List ℕ)) → SpellsOffers os offers → SpellsPayloads payloads log
      → a ≡ answered_all (unasked (begun_end p os general)) payloads

-- why there is none
abbrev pub IsRefusal : Peer → List ℕ → List ℕ → PeerFault → Type 0
IsRefusal p offers log faults.Argument = IsPeerAsked p offers → ⊥
IsRefusal p offers log faults.Log = IsPeerAsked p offers × (IsPayloadLog log → ⊥)
IsRefusal p offers log faults.Memory = IsPeerAsked p offers × IsPayloadLog log
