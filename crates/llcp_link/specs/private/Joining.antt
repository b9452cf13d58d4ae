-- PDUs that are joined to one that was given (NFC Forum LLCP 1.3, aggregation).
use Rattle.std.specs.Prelude.{◌≡◌, ◌<◌, ◌≤◌, ◌+◌, ℕ, List, [], ◌∷◌, length}
use Rattle.llcp_pdu.specs.declared.part.Part.{Part}
use Rattle.llcp_pdu.specs.Writing.{parts_bytes}
use Rattle.llcp_link.specs.Serving.{Serving}
use Rattle.llcp_link.specs.State.{LlcState}
use Rattle.llcp_link.specs.Giving.{gave, joined}
use Rattle.llcp_link.specs.Kept.{IsSent}
use Rattle.llcp_link.specs.Offering.{LeavesNext}

abbrev pub AreSent : List Part → Type 0
AreSent [] = Unit {0}
AreSent (p ∷ ps) = IsSent p × AreSent ps

-- These PDUs were joined to what has so many bytes: so many, or as many as fit where these are fewer.
pub record Joins {S : Type 0} (m : Serving S) (used most : ℕ) (old : LlcState S) (ps : List Part) (new : LlcState S)
    : Type 0 where
  pub all : joined m most used old ≡ record { llc = new; parts = ps }
  pub sent : AreSent ps
  pub size : 0 < length ps → used + length (parts_bytes ps) ≤ old.far_miu

-- Some PDUs were joined, and as the next was due memory was wanting, which left the service so.
pub record HaltsJoining {S : Type 0} (m : Serving S) (used : ℕ) (old : LlcState S) (s : S) : Type 0 where
  pub parts : List Part
  pub front : LlcState S
  pub all : joined m (length parts) used old ≡ record { llc = front; parts = parts }
  pub service : LeavesNext m (gave m front) front.service s
