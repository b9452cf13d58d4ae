-- Frames that are known by their length and their first byte (NFC Forum Type 2 Tag; ISO/IEC 14443-4).
use Rattle.std.specs.Prelude.{ℕ, length, slice_index, Bool, ◌==◌, ◌&&◌, ◌||◌}
use Rattle.nfc_base.specs.Signal.{Signal, is_whole_a}

-- an NFC-A frame of so many whole bytes that begins with this one
abbrev pub is_headed : ℕ → ℕ → Signal → Bool
is_headed size head f = is_whole_a f && (length f.bytes == size) && (slice_index f.bytes 0 == head)

-- READ of a Type 2 tag is its code and a block, WRITE its code, a block and four bytes.
abbrev pub t2_read_code : ℕ
t2_read_code = 0x30

abbrev pub t2_write_code : ℕ
t2_write_code = 0xA2

abbrev pub is_t2_frame : Signal → Bool
is_t2_frame f = is_headed 2 t2_read_code f || is_headed 6 t2_write_code f

-- RATS, which opens a link to a Type 4 tag, is its byte and one that has the reader's size code in its high nibble.
abbrev pub rats_byte : ℕ
rats_byte = 0xE0

abbrev pub is_rats : Signal → Bool
is_rats f = is_headed 2 rats_byte f
