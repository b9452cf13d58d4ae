-- The form of a Type 3 tag's store (NFC Forum Type 3 Tag): what a reader finds on it. The first that applies counts.
use Rattle.std.specs.Prelude.{◌≡◌, ◌≢◌, ◌⊎◌, ℕ, ◌*◌, ◌<◌, List, take, drop, Bool, true, false, ◌==◌}
use Rattle.t3t_tag.specs.Attributes.{major_version, most_checked, most_updated, message_blocks, write_flag, access_flag}
use Rattle.t3t_tag.specs.Attributes.{message_length, is_summed}
use Rattle.t3t_tag.specs.Store.{block_size, most_message_blocks, attributes}

pub data T3Form : Type 0 where
  NotNdef : T3Form
  Version : T3Form
  BadSize : T3Form
  Unfinished : T3Form
  Message : List ℕ → T3Form

-- the major version that is understood
abbrev pub known_version : ℕ
known_version = 1

-- A number of the attribute block is out of range: one that may not be 0 is, or one is too large.
abbrev pub IsZeroSize : List ℕ → Type 0
IsZeroSize block = (most_checked block ≡ 0) ⊎ ((most_updated block ≡ 0) ⊎ (message_blocks block ≡ 0))

abbrev pub IsLargeSize : List ℕ → Type 0
IsLargeSize block =
    (most_message_blocks < message_blocks block) ⊎ (block_size * message_blocks block < message_length block)

abbrev pub IsBadSize : List ℕ → Type 0
IsBadSize block = IsZeroSize block ⊎ IsLargeSize block

-- the attribute block has the right sum and a version that is understood
pub record IsKnown (block : List ℕ) : Type 0 where
  pub summed : is_summed block ≡ true
  pub version : major_version block ≡ known_version

-- and its numbers are in range
pub record IsSized (block : List ℕ) : Type 0 where
  pub known : IsKnown block
  pub sized : IsBadSize block → ⊥

-- the bytes of the message, from block 1 on
abbrev pub message_of : List ℕ → List ℕ
message_of store = take (message_length (attributes store)) (drop block_size store)

abbrev pub IsT3Form : List ℕ → T3Form → Type 0
IsT3Form store NotNdef = is_summed (attributes store) ≡ false
IsT3Form store Version = (is_summed (attributes store) ≡ true) × (major_version (attributes store) ≢ known_version)
IsT3Form store BadSize = IsKnown (attributes store) × IsBadSize (attributes store)
IsT3Form store Unfinished = IsSized (attributes store) × (write_flag (attributes store) ≢ 0)
IsT3Form store (Message m) = IsSized (attributes store) × (write_flag (attributes store) ≡ 0) × (m ≡ message_of store)

-- a message may be written
abbrev pub is_writable : List ℕ → Bool
is_writable store = access_flag (attributes store) == 1

-- each store has exactly one form
pub record HasOneForm (store : List ℕ) : Type 0 where
  pub form : T3Form
  pub is : IsT3Form store form
  pub one : (other : T3Form) → IsT3Form store other → other ≡ form
