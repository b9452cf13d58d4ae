-- What a Type 3 tag holds (NFC Forum Type 3 Tag).
use Rattle.std.specs.Prelude.{◌≡◌, ℕ, ◌/◌, ◌%◌, ◌<◌, ◌≤◌, List, length, get_or, slice_index, set, replicate, Bool, true}
use Rattle.std.specs.Prelude.{false}
use Rattle.nfc_base.specs.Blocks.{with_block, block_of}
use Rattle.t3t_tag.specs.Attributes.{is_summed, message_blocks}
use Rattle.t3t_tag.specs.declared.tag.StoreFault.{StoreFault}
use Rattle.t3t_tag.specs.declared.tag.StoreFault.TheVariants.{BadStore}

-- how many bytes a block has, and how many blocks a tag has at most: as many as a number of one byte can name
abbrev pub block_size : ℕ
block_size = 16

abbrev pub most_blocks : ℕ
most_blocks = 256

abbrev pub block_count : List ℕ → ℕ
block_count store = length store / block_size

-- block 0, the attribute block
abbrev pub attributes : List ℕ → List ℕ
attributes store = block_of block_size store 0

-- 1 to 256 whole blocks
pub record IsBlocks (store : List ℕ) : Type 0 where
  pub whole : length store % block_size ≡ 0
  pub least : 1 ≤ block_count store
  pub most : block_count store ≤ most_blocks

-- the most message blocks that an attribute block can name in range
abbrev pub most_message_blocks : ℕ
most_message_blocks = 255

-- An attribute block with the right sum that names, in range, more message blocks than stand behind it among so many.
pub record IsOverlong (count : ℕ) (block : List ℕ) : Type 0 where
  pub summed : is_summed block ≡ true
  pub named : message_blocks block ≤ most_message_blocks
  pub lacking : count ≤ message_blocks block

-- A store is 1 to 256 whole blocks, and has those that its attribute block names.
pub record IsT3Store (store : List ℕ) : Type 0 where
  pub blocks : IsBlocks store
  pub room : IsOverlong (block_count store) (attributes store) → ⊥

-- A tag: its identifier, its store, and of each block number whether that block is locked.
pub record T3State : Type 0 where
  pub id : List ℕ
  pub store : List ℕ
  pub locked : List Bool

-- how many bytes an identifier has
abbrev pub id_size : ℕ
id_size = 8

-- The states that a tag can have. Its store is whole blocks; an Update of block 0 may make it one that no new tag has.
pub record IsT3State (t : T3State) : Type 0 where
  pub id : length t.id ≡ id_size
  pub bytes : (i : ℕ) → slice_index t.id i < 256
  pub store : IsBlocks t.store
  pub locks : length t.locked ≡ most_blocks

abbrev pub is_locked : T3State → ℕ → Bool
is_locked t block = get_or t.locked block false

-- the tag with one block more locked
abbrev pub locked_too : T3State → ℕ → T3State
locked_too t block = record t { locked = set t.locked block true }

-- the tag with one block changed
abbrev pub rewritten : T3State → ℕ → List ℕ → T3State
rewritten t block content = record t { store = with_block block_size t.store block content }

-- a tag that holds a store and has no locked block
abbrev pub unlocked : List ℕ → List ℕ → T3State
unlocked id store = record { id = id; store = store; locked = replicate most_blocks false }

-- what no frame changes of a tag
pub record IsSameTag (t u : T3State) : Type 0 where
  pub id : u.id ≡ t.id
  pub size : length u.store ≡ length t.store
  pub locked : u.locked ≡ t.locked

abbrev pub store_fault_number : StoreFault → ℕ
store_fault_number BadStore = 1
