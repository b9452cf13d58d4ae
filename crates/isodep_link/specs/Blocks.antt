-- The blocks of ISO-DEP and how they stand in frames (ISO/IEC 14443-4; NFC Forum Digital Protocol): a block, a printer
-- of its bytes, and a fact that says which blocks are in range.
use Rattle.std.specs.Prelude.{◌↔◌, ◌≡◌, ℕ, ◌+◌, ◌-◌, ◌%◌, ◌<◌, ◌≤◌, ◌==◌, nat_lt, List, [], ◌∷◌, length, take, drop}
use Rattle.std.specs.Prelude.{slice_index, Bool, true, false, if◌then◌else◌, Option, Some, None}
use Rattle.nfc_base.specs.Signal.{Signal, whole_a, is_whole_a}
use Rattle.isodep_link.specs.declared.block.Block.{Block}
use Rattle.isodep_link.specs.declared.block.Block.TheVariants.{Info, Ack, Nak, Deselect, Extend}

-- the control bytes of an I-block, of one behind which the chain goes on, of R(ACK), R(NAK), S(DESELECT) and S(WTX),
-- each without the block number, which is bit 0
abbrev pub info_sort : ℕ
info_sort = 0x02

abbrev pub chained_sort : ℕ
chained_sort = 0x12

abbrev pub ack_sort : ℕ
ack_sort = 0xA2

abbrev pub nak_sort : ℕ
nak_sort = 0xB2

abbrev pub deselect_byte : ℕ
deselect_byte = 0xC2

abbrev pub extend_byte : ℕ
extend_byte = 0xF2

-- how many numbers there are, and the number after one
abbrev pub modulus : ℕ
modulus = 2

abbrev pub toggled : ℕ → ℕ
toggled n = (n + 1) % modulus

-- a control byte
abbrev pub pcb : ℕ → ℕ → ℕ
pcb sort n = sort + n % modulus

-- A block is its control byte and, for an I-block, its content; S(WTX) has how many times more time is meant.
abbrev pub block_bytes : Block → List ℕ
block_bytes (Info more n content) = pcb (if more then chained_sort else info_sort) n ∷ content.items
block_bytes (Ack n) = pcb ack_sort n ∷ []
block_bytes (Nak n) = pcb nak_sort n ∷ []
block_bytes Deselect = deselect_byte ∷ []
block_bytes (Extend times) = extend_byte ∷ times ∷ []

-- An NFC-A frame of whole bytes carries it.
abbrev pub block_frame : Block → Signal
block_frame b = whole_a (block_bytes b)

-- Which blocks are in range: a number is 0 or 1, and a frame has at most 288 bytes.
abbrev pub IsBlock : Block → Type 0
IsBlock (Info more n content) = (n < modulus) × (length content.items ≤ 287)
IsBlock (Ack n) = n < modulus
IsBlock (Nak n) = n < modulus
IsBlock Deselect = Unit {0}
IsBlock (Extend times) = Unit {0}

-- the frame spells the block
pub record BlockSpelling (b : Block) (f : Signal) : Type 0 where
  pub range : IsBlock b
  pub frame : f ≡ block_frame b

-- the frame spells some block, and is no longer than a frame may be
pub record IsSpelled (f : Signal) : Type 0 where
  pub block : Block
  pub spells : BlockSpelling block f
  pub fits : length f.bytes ≤ 288

-- a block of one byte, by its control byte without the number, and its number
abbrev pub short_block : ℕ → ℕ → Option Block
short_block sort n =
    if sort == ack_sort then Some (Ack n)
    else (if sort == nak_sort then Some (Nak n)
    else (if sort + n == deselect_byte then Some Deselect else None))

-- one of two bytes that is no I-block
abbrev pub long_block : ℕ → ℕ → ℕ → Option Block
long_block sort n times = if sort + n == extend_byte then Some (Extend times) else None

abbrev pub info_block : Bool → ℕ → List ℕ → Block
info_block more n content = Info more n (record { items = content })

-- the block that bytes spell, by the control byte
abbrev pub sort_block : ℕ → ℕ → List ℕ → Option Block
sort_block sort n bytes =
    if sort == info_sort then Some (info_block false n (drop 1 bytes))
    else (if sort == chained_sort then Some (info_block true n (drop 1 bytes))
    else (if length bytes == 1 then short_block sort n
    else (if length bytes == 2 then long_block sort n (slice_index bytes 1) else None)))

abbrev pub number_of : List ℕ → ℕ
number_of bytes = slice_index bytes 0 % modulus

abbrev pub block_of : List ℕ → Option Block
block_of bytes = if nat_lt 0 (length bytes) then sort_block (slice_index bytes 0 - number_of bytes) (number_of bytes)
    bytes else None

-- the block that a frame spells, none where it spells none
abbrev pub spelled_block : Signal → Option Block
spelled_block f = if is_whole_a f then block_of f.bytes else None

-- the I-block with the first piece of some bytes, of at most so many; where more are left it says so
abbrev pub piece : ℕ → ℕ → List ℕ → Block
piece most n xs = info_block (nat_lt most (length xs)) n (take most xs)

-- What is read from a frame is exactly the block that it spells.
abbrev pub ReadsBlocks : Type 0
ReadsBlocks = (f : Signal) → length f.bytes ≤ 288 → (b : Block) → (spelled_block f ≡ Some b) ↔ BlockSpelling b f

-- No frame spells two blocks.
abbrev pub SpellsOne : Type 0
SpellsOne = (a b : Block) (f : Signal) → BlockSpelling a f → BlockSpelling b f → a ≡ b
