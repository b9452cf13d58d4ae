-- What a frame is read as, as a function: the command or the answer that it spells, where it spells one.
use Rattle.std.specs.Prelude.{ℕ, ◌+◌, ◌-◌, ◌*◌, ◌%◌, List, [], ◌∷◌, ◌++◌, length, take, drop, replicate, Bool, ◌==◌}
use Rattle.std.specs.Prelude.{◌&&◌, nat_eq, nat_le, if◌then◌else◌, Option, Some, None}
use Rattle.std.specs.Cmp.Lexicographic.{pointwise}
use Rattle.nfc_base.specs.Signal.{Signal}
use Rattle.t5t_tag.specs.declared.command.T5Command.{T5Command}
use Rattle.t5t_tag.specs.declared.command.T5Command.TheVariants.{Inventory, Slots, NextSlot, Quiet, Read, Write}
use Rattle.t5t_tag.specs.declared.command.T5Command.TheVariants.{ReadMany, ReadWide, WriteWide}
use Rattle.t5t_tag.specs.declared.answer.T5Answer.{T5Answer}
use Rattle.t5t_tag.specs.declared.answer.T5Answer.TheVariants.{Present, Content, Error}
use Rattle.t5t_tag.specs.Store.{id_size}
use Rattle.t5t_tag.specs.Mask.{low_first, most_bits, mask_size, kept}
use Rattle.t5t_tag.specs.Slots.{most_slot_bits}
use Rattle.t5t_tag.specs.Spelling.{addressed_flags, plain_flags, inventory_flags, slots_flags, inventory_code}
use Rattle.t5t_tag.specs.Spelling.{quiet_code, read_code, write_code, read_many_code, read_wide_code, write_wide_code}
use Rattle.t5t_tag.specs.Spelling.{most_written, most_content, no_error, no_dsfid, error}
use Rattle.t5t_tag.specs.Step.{is_nfc_v, wide_number}

-- a mask as it is sent, filled up with 0 to eight bytes
abbrev pub filled : List ℕ → List ℕ
filled mask = mask ++ replicate (id_size - length mask) 0

-- a mask of so many bits, and at most of so many: as many bytes as these bits need, and the unused bits 0
abbrev pub is_mask : ℕ → ℕ → List ℕ → Bool
is_mask most bits mask = nat_le bits most && (length mask == mask_size bits) && pointwise nat_eq (kept bits mask) mask

-- the inventory of one slot with a mask of so many bits, and that of sixteen
abbrev pub read_inventory : ℕ → List ℕ → Option T5Command
read_inventory bits mask = if is_mask most_bits bits mask then Some (Inventory bits (filled mask)) else None

abbrev pub read_slots : ℕ → List ℕ → Option T5Command
read_slots bits mask = if is_mask most_slot_bits bits mask then Some (Slots bits (filled mask)) else None

-- STAY QUIET, which is addressed
abbrev pub read_quiet : Option (List ℕ) → Option T5Command
read_quiet None = None
read_quiet (Some id) = Some (Quiet id)

abbrev pub read_write : Option (List ℕ) → ℕ → List ℕ → Option T5Command
read_write id block rest = if nat_le (length rest) most_written then Some (Write id block (record { items = rest }))
    else None

abbrev pub read_write_wide : Option (List ℕ) → ℕ → List ℕ → Option T5Command
read_write_wide id block rest = if nat_le (length rest) most_written
    then Some (WriteWide id block (record { items = rest })) else None

-- the command with a code and two bytes behind it
abbrev pub read_pair : Option (List ℕ) → ℕ → ℕ → ℕ → Option T5Command
read_pair id code a b =
    if code == read_many_code then Some (ReadMany id a b)
    else if code == read_wide_code then Some (ReadWide id (wide_number a b))
    else None

-- the command with a code and what follows it, of which an identifier was taken away
abbrev pub read_command : Option (List ℕ) → ℕ → List ℕ → Option T5Command
read_command id code [] = if code == quiet_code then read_quiet id else None
read_command id code (block ∷ []) =
    if code == read_code then Some (Read id block)
    else if code == write_code then read_write id block []
    else None
read_command id code (a ∷ b ∷ rest) =
    if code == write_code then read_write id a (b ∷ rest)
    else if code == write_wide_code then read_write_wide id (wide_number a b) rest
    else if length rest == 0 then read_pair id code a b
    else None

abbrev pub read_addressed : ℕ → List ℕ → Option T5Command
read_addressed code rest =
    if nat_le id_size (length rest) then read_command (Some (low_first (take id_size rest))) code (drop id_size rest)
    else None

-- behind the code of an inventory: how many bits the mask has, and the mask
abbrev pub read_bits : (ℕ → List ℕ → Option T5Command) → List ℕ → Option T5Command
read_bits reads [] = None
read_bits reads (bits ∷ mask) = reads bits mask

-- the command of the bytes of a whole NFC-V frame
abbrev pub command_of : List ℕ → Option T5Command
command_of [] = Some NextSlot
command_of (flags ∷ []) = None
command_of (flags ∷ code ∷ rest) =
    if flags == addressed_flags then read_addressed code rest
    else if flags == plain_flags then read_command None code rest
    else if (flags == inventory_flags) && (code == inventory_code) then read_bits read_inventory rest
    else if (flags == slots_flags) && (code == inventory_code) then read_bits read_slots rest
    else None

abbrev pub spelled_command : Signal → Option T5Command
spelled_command f = if is_nfc_v f.tech && (f.tail == 0) then command_of f.bytes else None

abbrev pub read_content : List ℕ → Option T5Answer
read_content bytes =
    if nat_le (length bytes) most_content && (length bytes % 4 == 0) then Some (Content (record { items = bytes }))
    else None

-- what follows the byte that tells of no error: nine bytes are an identifier
abbrev pub read_told : List ℕ → Option T5Answer
read_told (dsfid ∷ a ∷ b ∷ c ∷ d ∷ e ∷ f ∷ g ∷ h ∷ []) =
    if dsfid == no_dsfid then Some (Present (h ∷ g ∷ f ∷ e ∷ d ∷ c ∷ b ∷ a ∷ [])) else None
read_told bytes = read_content bytes

abbrev pub read_error : List ℕ → Option T5Answer
read_error (code ∷ []) = Some (Error code)
read_error _ = None

-- the answer of the bytes of a whole NFC-V frame
abbrev pub answer_of : List ℕ → Option T5Answer
answer_of [] = None
answer_of (first ∷ rest) =
    if first == error then read_error rest
    else if first == no_error then read_told rest
    else None

abbrev pub spelled_answer : Signal → Option T5Answer
spelled_answer f = if is_nfc_v f.tech && (f.tail == 0) then answer_of f.bytes else None
