-- What a Type 5 tag holds (NFC Forum Type 5 Tag; ISO/IEC 15693-3).
use Rattle.std.specs.Prelude.{◌≡◌, ◌⊎◌, ℕ, ◌/◌, ◌%◌, ◌<◌, ◌≤◌, List, length, get_or, slice_index, set, replicate, Bool}
use Rattle.std.specs.Prelude.{true, false, Option, None}
use Rattle.t5t_tag.specs.declared.round.Round.{Round}
use Rattle.t5t_tag.specs.declared.tag.StoreFault.{StoreFault}
use Rattle.t5t_tag.specs.declared.tag.StoreFault.TheVariants.{BadStore}

-- how many whole blocks of one size a store has
abbrev pub blocks_in : ℕ → List ℕ → ℕ
blocks_in size store = length store / size

-- the sizes that a block may have
abbrev pub IsBlockSize : ℕ → Type 0
IsBlockSize size = (size ≡ 4) ⊎ ((size ≡ 8) ⊎ ((size ≡ 16) ⊎ (size ≡ 32)))

-- how many bytes a store has at most
abbrev pub most_stored : ℕ
most_stored = 65536

-- A store is whole blocks of 4, 8, 16 or 32 bytes: at least one, and together at most 65,536 bytes.
pub record IsT5Store (size : ℕ) (store : List ℕ) : Type 0 where
  pub sized : IsBlockSize size
  pub whole : length store % size ≡ 0
  pub least : 1 ≤ blocks_in size store
  pub most : length store ≤ most_stored

-- A tag: its identifier, high byte first, the size of its blocks, its store, of each block number whether that block
-- is locked, whether it was told to stay quiet, and the round of sixteen slots in which it is, if it is in one.
pub record T5State : Type 0 where
  pub id : List ℕ
  pub size : ℕ
  pub store : List ℕ
  pub locked : List Bool
  pub quiet : Bool
  pub round : Option Round

-- how many block numbers a tag can have: those of a full store in blocks of four bytes
abbrev pub lock_count : ℕ
lock_count = 16384

-- how many bytes an identifier has
abbrev pub id_size : ℕ
id_size = 8

-- a tag of an identifier and a store that a tag may have
pub record IsT5Shape (t : T5State) : Type 0 where
  pub id : length t.id ≡ id_size
  pub bytes : (i : ℕ) → slice_index t.id i < 256
  pub store : IsT5Store t.size t.store

-- the states that a tag can have
pub record IsT5State (t : T5State) : Type 0 where
  pub shape : IsT5Shape t
  pub locks : length t.locked ≡ lock_count

-- how many blocks it has
abbrev pub block_count : T5State → ℕ
block_count t = blocks_in t.size t.store

abbrev pub is_locked : T5State → ℕ → Bool
is_locked t block = get_or t.locked block false

-- the tag with one block more locked
abbrev pub locked_too : T5State → ℕ → T5State
locked_too t block = record t { locked = set t.locked block true }

-- a tag that holds a store, has no locked block, isn't quiet and is in no round
abbrev pub fresh : List ℕ → ℕ → List ℕ → T5State
fresh id size store =
    record { id = id; size = size; store = store; locked = replicate lock_count false; quiet = false; round = None }

-- the tag behind the dark: it isn't quiet, and in no round
abbrev pub darkened : T5State → T5State
darkened t = record t { quiet = false; round = None }

-- the tag between two frames: told to stay quiet or not, and in this round or in none
abbrev pub resumed : T5State → Bool → Option Round → T5State
resumed t quiet round = record t { quiet = quiet; round = round }

abbrev pub store_fault_number : StoreFault → ℕ
store_fault_number BadStore = 1
