-- The attribute block of a Type 3 tag, its block 0 (NFC Forum Type 3 Tag): what each of its bytes says.
use Rattle.std.specs.Prelude.{ℕ, ◌+◌, ◌*◌, ◌/◌, List, take, slice_index, sum, Bool, ◌==◌}
use Rattle.nfc_base.specs.Words.{word}

-- the version, whose high four bits are the major one
abbrev pub major_version : List ℕ → ℕ
major_version block = slice_index block 0 / 16

-- how many blocks one Check may name, and one Update (Nbr and Nbw)
abbrev pub most_checked : List ℕ → ℕ
most_checked block = slice_index block 1

abbrev pub most_updated : List ℕ → ℕ
most_updated block = slice_index block 2

-- how many blocks behind this one are for the message (Nmaxb)
abbrev pub message_blocks : List ℕ → ℕ
message_blocks block = word block 3

-- whether a write has begun and not ended (WriteFlag): 0 where it hasn't
abbrev pub write_flag : List ℕ → ℕ
write_flag block = slice_index block 9

-- whether a message may be written (RWFlag): 1 where it may
abbrev pub access_flag : List ℕ → ℕ
access_flag block = slice_index block 10

-- how many bytes the message has, by three bytes, high byte first
abbrev pub message_length : List ℕ → ℕ
message_length block = slice_index block 11 * 65536 + word block 12

-- how many bytes the sum is made of
abbrev pub summed_size : ℕ
summed_size = 14

-- the sum that a block has, and whether it is that of its bytes
abbrev pub told_sum : List ℕ → ℕ
told_sum block = word block 14

abbrev pub is_summed : List ℕ → Bool
is_summed block = sum (take summed_size block) == told_sum block
