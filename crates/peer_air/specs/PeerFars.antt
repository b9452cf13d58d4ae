-- The far ends of peers: ends of a link whose service is a SNEP server (NFC Forum SNEP 1.0), and what stays of them.
use Rattle.std.specs.Prelude.{◌≡◌, ℕ, List}
use Rattle.llcp_link.specs.State.{LlcState}
use Rattle.snep_core.specs.Server.{ServerState, serving}
use Rattle.far_air.specs.FarEnds.{FarTable}
use Rattle.peer_air.specs.Ends.{ends}

abbrev pub peer_ends : FarTable (LlcState ServerState)
peer_ends = ends serving

-- What stays of a peer's end is what it accepted, with the SAPs that it came from, its table for get and its limit; its
-- MIU, its receive window, and what is bound.
pub record KeepsPeer (l k : LlcState ServerState) : Type 0 where
  pub accepted : k.service.accepted ≡ l.service.accepted
  pub table : k.service.table ≡ l.service.table
  pub limit : k.service.limit ≡ l.service.limit
  pub miu : k.miu ≡ l.miu
  pub window : k.window ≡ l.window
  pub bound : k.bound ≡ l.bound

abbrev pub RestsKeep : Type 0
RestsKeep = (l : LlcState ServerState) → KeepsPeer l (peer_ends.rested l)

-- a new link keeps it too
abbrev pub RestartsKeep : Type 0
RestartsKeep = (l : LlcState ServerState) (general : List ℕ) → KeepsPeer l (peer_ends.restarted l general)
