-- What a Type 2 tag holds (NFC Forum Type 2 Tag).
use Rattle.std.specs.Prelude.{◌≡◌, ℕ, ◌+◌, ◌*◌, ◌/◌, ◌%◌, ◌≤◌, List, length, take, get_or, slice_index, set, replicate}
use Rattle.std.specs.Prelude.{Bool, true, false}
use Rattle.t2t_tag.specs.declared.tag.StoreFault.{StoreFault}
use Rattle.t2t_tag.specs.declared.tag.StoreFault.TheVariants.{BadStore}

-- how many blocks of four bytes a store has
abbrev pub block_count : List ℕ → ℕ
block_count store = length store / 4

-- A store is 4 to 256 whole blocks. Where its capability container has the magic number E1h and names the area of a
-- tag of one sector, eight times at most 7Eh bytes, the store has that area behind its first four blocks.
pub record IsT2Store (store : List ℕ) : Type 0 where
  pub whole : length store % 4 ≡ 0
  pub least : 4 ≤ block_count store
  pub most : block_count store ≤ 256
  pub area : slice_index store 12 ≡ 0xE1 → slice_index store 14 ≤ 0x7E
      → 4 + 2 * slice_index store 14 ≤ block_count store

-- the first four blocks, with the container, which no command writes
abbrev pub fixed_size : ℕ
fixed_size = 16

-- What no frame changes of a store, so that it stays one.
pub record IsSameStore (old new : List ℕ) : Type 0 where
  pub size : length new ≡ length old
  pub fixed : take fixed_size new ≡ take fixed_size old

-- the store of a tag, and of each block number whether that block is locked
pub record T2Memory : Type 0 where
  pub store : List ℕ
  pub locked : List Bool

-- how many block numbers there are
abbrev pub lock_count : ℕ
lock_count = 256

-- what a tag can be
pub record IsT2Memory (m : T2Memory) : Type 0 where
  pub store : IsT2Store m.store
  pub locks : length m.locked ≡ lock_count

abbrev pub is_locked : T2Memory → ℕ → Bool
is_locked m block = get_or m.locked block false

-- the tag with one block more locked
abbrev pub locked_too : T2Memory → ℕ → T2Memory
locked_too m block = record m { locked = set m.locked block true }

-- what no frame changes of a tag
pub record IsSameTag (m n : T2Memory) : Type 0 where
  pub store : IsSameStore m.store n.store
  pub locked : n.locked ≡ m.locked

-- a tag that holds a store and has no locked block
abbrev pub unlocked : List ℕ → T2Memory
unlocked store = record { store = store; locked = replicate lock_count false }

abbrev pub store_fault_number : StoreFault → ℕ
store_fault_number BadStore = 1
