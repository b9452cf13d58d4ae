-- How long the blocks of ISO-DEP are, and the two frames by which the ends tell it (ISO/IEC 14443-4; NFC Forum Digital
-- Protocol). That this card answers RATS by two bytes is this project's own.
use Rattle.std.specs.Prelude.{◌≡◌, ℕ, ◌-◌, ◌≤◌, ◌/◌, ◌==◌, [], ◌∷◌, slice_index, if◌then◌else◌, Option, Some, None}
use Rattle.nfc_base.specs.Signal.{Signal, whole_a}
use Rattle.nfc_base.specs.Headed.{is_rats}

-- how many bytes a block has at most, with the two check bytes behind it, by a size code; codes above 8 count as 8
abbrev pub block_size : ℕ → ℕ
block_size code =
    if code == 0 then 16
    else (if code == 1 then 24
    else (if code == 2 then 32
    else (if code == 3 then 40
    else (if code == 4 then 48
    else (if code == 5 then 64
    else (if code == 6 then 96
    else (if code == 7 then 128 else 256)))))))

-- the most content of a block, without its control byte and check bytes
abbrev pub piece_size : ℕ → ℕ
piece_size code = block_size code - 3

-- the code of the shortest blocks, which each end takes
abbrev pub least_code : ℕ
least_code = 0

-- the most bytes of a command, and of an answer
abbrev pub limit : ℕ
limit = 264

-- the reader's size code, where a frame is RATS
abbrev pub rats_code : Signal → Option ℕ
rats_code f = if is_rats f then Some (slice_index f.bytes 1 / 16) else None

-- the largest size code
abbrev pub most_code : ℕ
most_code = 8

-- ATS: its own length, and the card's size code in the low nibble
abbrev pub ats_frame : ℕ → Signal
ats_frame code = whole_a (2 ∷ code ∷ [])

-- the frame is ATS of a card with this code, which is a size code
pub record IsAts (code : ℕ) (f : Signal) : Type 0 where
  pub small : code ≤ most_code
  pub frame : f ≡ ats_frame code
