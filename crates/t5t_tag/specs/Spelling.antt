-- How the commands of a reader and the answers of a tag stand in frames (NFC Forum Type 5 Tag; ISO/IEC 15693-3).
use Rattle.std.specs.Prelude.{◌≡◌, ◌≤◌, ℕ, ◌/◌, ◌%◌, List, [], ◌∷◌, ◌++◌, length, take, Option, Some, None}
use Rattle.nfc_base.specs.Signal.{Signal, whole_v}
use Rattle.t5t_tag.specs.declared.command.T5Command.{T5Command}
use Rattle.t5t_tag.specs.declared.command.T5Command.TheVariants.{Inventory, Slots, NextSlot, Quiet, Read, Write}
use Rattle.t5t_tag.specs.declared.command.T5Command.TheVariants.{ReadMany, ReadWide, WriteWide}
use Rattle.t5t_tag.specs.declared.answer.T5Answer.{T5Answer}
use Rattle.t5t_tag.specs.declared.answer.T5Answer.TheVariants.{Present, Content, Error}
use Rattle.t5t_tag.specs.Store.{id_size}
use Rattle.t5t_tag.specs.Mask.{low_first, most_bits, mask_size, kept}
use Rattle.t5t_tag.specs.Slots.{most_slot_bits}

-- The flags: of a command to one tag by its identifier, of a command to every tag that isn't quiet, and of an inventory
-- of one slot or of sixteen.
abbrev pub addressed_flags : ℕ
addressed_flags = 0x22

abbrev pub plain_flags : ℕ
plain_flags = 0x02

abbrev pub inventory_flags : ℕ
inventory_flags = 0x26

abbrev pub slots_flags : ℕ
slots_flags = 0x06

-- the codes of INVENTORY, STAY QUIET, READ SINGLE BLOCK, WRITE SINGLE BLOCK and READ MULTIPLE BLOCKS
abbrev pub inventory_code : ℕ
inventory_code = 0x01

abbrev pub quiet_code : ℕ
quiet_code = 0x02

abbrev pub read_code : ℕ
read_code = 0x20

abbrev pub write_code : ℕ
write_code = 0x21

abbrev pub read_many_code : ℕ
read_many_code = 0x23

-- the codes of READ SINGLE BLOCK and WRITE SINGLE BLOCK with a block number of two bytes
abbrev pub read_wide_code : ℕ
read_wide_code = 0x30

abbrev pub write_wide_code : ℕ
write_wide_code = 0x31

-- how many blocks numbers of one byte can name
abbrev pub short_numbers : ℕ
short_numbers = 256

-- a block number of two bytes, low byte first
abbrev pub wide : ℕ → List ℕ
wide block = block % 256 ∷ block / 256 ∷ []

-- how many bytes of a block a command holds at most, and an answer
abbrev pub most_written : ℕ
most_written = 32

abbrev pub most_content : ℕ
most_content = 256

-- flags and code, and of an addressed command the identifier, low byte first
abbrev pub head : Option (List ℕ) → ℕ → List ℕ
head None code = plain_flags ∷ code ∷ []
head (Some id) code = addressed_flags ∷ code ∷ low_first id

-- The mask of an inventory is sent in whole bytes. An empty frame moves a round to its next slot: it stands for a bare
-- end of frame (this project's own).
abbrev pub command_frame : T5Command → Signal
command_frame (Inventory bits mask) = whole_v (inventory_flags ∷ inventory_code ∷ bits ∷ take (mask_size bits) mask)
command_frame (Slots bits mask) = whole_v (slots_flags ∷ inventory_code ∷ bits ∷ take (mask_size bits) mask)
command_frame NextSlot = whole_v []
command_frame (Quiet id) = whole_v (head (Some id) quiet_code)
command_frame (Read id block) = whole_v (head id read_code ++ block ∷ [])
command_frame (Write id block content) = whole_v (head id write_code ++ block ∷ content.items)
command_frame (ReadMany id first more) = whole_v (head id read_many_code ++ first ∷ more ∷ [])
command_frame (ReadWide id block) = whole_v (head id read_wide_code ++ wide block)
command_frame (WriteWide id block content) = whole_v (head id write_wide_code ++ (wide block ++ content.items))

-- an identifier, where there is one, is eight bytes
abbrev pub IsAddress : Option (List ℕ) → Type 0
IsAddress None = Unit {0}
IsAddress (Some id) = length id ≡ id_size

-- a mask of at most so many bits: eight bytes, of which the unused bits are 0
abbrev pub IsMask : ℕ → ℕ → List ℕ → Type 0
IsMask most bits mask = (bits ≤ most) × (length mask ≡ id_size) × (kept bits mask ≡ mask)

-- Which commands are in range. A mask has at most 64 bits, and at most 60 where there are slots.
abbrev pub IsT5Command : T5Command → Type 0
IsT5Command (Inventory bits mask) = IsMask most_bits bits mask
IsT5Command (Slots bits mask) = IsMask most_slot_bits bits mask
IsT5Command NextSlot = Unit {0}
IsT5Command (Quiet id) = length id ≡ id_size
IsT5Command (Read id block) = IsAddress id
IsT5Command (Write id block content) = IsAddress id × (length content.items ≤ most_written)
IsT5Command (ReadMany id first more) = IsAddress id
IsT5Command (ReadWide id block) = IsAddress id
IsT5Command (WriteWide id block content) = IsAddress id × (length content.items ≤ most_written)

-- the frame spells the command
pub record T5Spelling (c : T5Command) (f : Signal) : Type 0 where
  pub range : IsT5Command c
  pub frame : f ≡ command_frame c

-- the first byte of an answer: whether it tells an error
abbrev pub no_error : ℕ
no_error = 0x00

abbrev pub error : ℕ
error = 0x01

-- the byte that says how the memory behind an identifier is used, which is 0 here
abbrev pub no_dsfid : ℕ
no_dsfid = 0x00

abbrev pub answer_frame : T5Answer → Signal
answer_frame (Present id) = whole_v (no_error ∷ no_dsfid ∷ low_first id)
answer_frame (Content content) = whole_v (no_error ∷ content.items)
answer_frame (Error code) = whole_v (error ∷ code ∷ [])

-- Which answers are in range. Content is 0 to 256 bytes, a multiple of four in number, so none looks like an
-- identifier.
abbrev pub IsT5Answer : T5Answer → Type 0
IsT5Answer (Present id) = length id ≡ id_size
IsT5Answer (Content content) = (length content.items ≤ most_content) × (length content.items % 4 ≡ 0)
IsT5Answer (Error code) = Unit {0}

-- the frame spells the answer
pub record T5AnswerSpelling (a : T5Answer) (f : Signal) : Type 0 where
  pub range : IsT5Answer a
  pub frame : f ≡ answer_frame a
