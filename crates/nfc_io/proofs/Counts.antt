-- Counts that rise, over several calls.
use Rattle.std.proofs.Common.{ℕ, ◌≤◌, inl, inr, arith}
use Rattle.nfc_io.specs.Counts.{HasRisen}

-- what rose in the last of several calls rose in all of them
pub rises_at_last : (old mid new : ℕ) → old ≤ mid → HasRisen mid new → HasRisen old new
rises_at_last old mid new le risen = elim risen [ inl h ↦ inl (omega arith) | inr h ↦ inr h ]
