-- The requests by which a reader finds and selects NFC-A devices (NFC Forum Digital Protocol; ISO/IEC 14443-3).
use Rattle.std.specs.Prelude.{ℕ, ◌+◌, ◌-◌, ◌*◌, ◌/◌, ◌%◌, List, [], ◌∷◌, ◌++◌, length, drop, slice_index, Bool, ◌==◌}
use Rattle.std.specs.Prelude.{◌&&◌, nat_le, if◌then◌else◌}
use Rattle.nfc_base.specs.declared.frame.Tech.TheVariants.{A}
use Rattle.nfc_base.specs.Signal.{Signal, whole_a, part_a}
use Rattle.nfc_base.specs.Bits.{bits, bits_of, bit_count, of_bits}

-- SENS_REQ, ALL_REQ and SLP_REQ; SDD_REQ of a cascade level with the bits of it that are known; SEL_REQ of a level
-- with its five bytes. Levels count from 1.
pub data Call : Type 0 where
  Sens : Call
  All : Call
  Slp : Call
  Sdd : ℕ → List Bool → Call
  Sel : ℕ → List ℕ → Call

-- a frame of a reader: a call, or any other
pub data Reading : Type 0 where
  Calls : Call → Reading
  Other : Reading

-- SEL_CMD of a level: 93h, 95h, 97h
abbrev pub sel_cmd : ℕ → ℕ
sel_cmd k = 0x91 + 2 * k

-- SEL_PAR of so many known bits: whole bytes and two in the high nibble, bits in the low one
abbrev pub sel_par : ℕ → ℕ
sel_par n = 16 * (2 + n / 8) + n % 8

-- SEL_PAR of SEL_REQ
abbrev pub all_known : ℕ
all_known = 0x70

-- the frame of a call
abbrev pub call_frame : Call → Signal
call_frame Sens = part_a (0x26 ∷ []) 7
call_frame All = part_a (0x52 ∷ []) 7
call_frame Slp = whole_a (0x50 ∷ 0 ∷ [])
call_frame (Sdd k known) = of_bits A (bits_of (sel_cmd k ∷ sel_par (length known) ∷ []) ++ known)
call_frame (Sel k level) = whole_a (sel_cmd k ∷ all_known ∷ level)

-- one byte of which seven bits are sent
abbrev pub is_short : Signal → ℕ → Bool
is_short f byte = (f.tail == 7) && (length f.bytes == 1) && (slice_index f.bytes 0 == byte)

abbrev pub is_slp : Signal → Bool
is_slp f = (f.tail == 0) && (length f.bytes == 2) && (slice_index f.bytes 0 == 0x50) && (slice_index f.bytes 1 == 0)

abbrev pub is_sel_cmd : ℕ → Bool
is_sel_cmd byte = (byte % 2 == 1) && nat_le 0x93 byte && nat_le byte 0x97

-- the level of SEL_CMD
abbrev pub cmd_level : ℕ → ℕ
cmd_level byte = (byte - 0x91) / 2

-- the bits that SEL_PAR of SDD_REQ counts: its high nibble is 2 to 6, its low nibble 0 to 7
abbrev pub known_count : ℕ → ℕ
known_count par = 8 * (par / 16 - 2) + par % 16

abbrev pub is_sdd_par : ℕ → Bool
is_sdd_par par = nat_le 2 (par / 16) && nat_le (par / 16) 6 && nat_le (par % 16) 7

-- SDD_REQ has SEL_CMD, SEL_PAR, and exactly the bits that it counts
abbrev pub is_sdd : Signal → Bool
is_sdd f =
    nat_le 2 (length f.bytes) && is_sel_cmd (slice_index f.bytes 0) && is_sdd_par (slice_index f.bytes 1)
    && (bit_count f == 16 + known_count (slice_index f.bytes 1))

-- SEL_REQ has SEL_CMD, SEL_PAR and five bytes
abbrev pub is_sel : Signal → Bool
is_sel f = (f.tail == 0) && (length f.bytes == 7) && is_sel_cmd (slice_index f.bytes 0)
    && (slice_index f.bytes 1 == all_known)

-- the known bits of SDD_REQ, and the level of SEL_REQ
abbrev pub known_bits : Signal → List Bool
known_bits f = drop 16 (bits f)

abbrev pub named_level : Signal → List ℕ
named_level f = drop 2 f.bytes

-- what an NFC-A frame is to a listener
abbrev pub call_of : Signal → Reading
call_of f =
    if is_short f 0x26 then Calls Sens
    else if is_short f 0x52 then Calls All
    else if is_slp f then Calls Slp
    else if is_sdd f then Calls (Sdd (cmd_level (slice_index f.bytes 0)) (known_bits f))
    else if is_sel f then Calls (Sel (cmd_level (slice_index f.bytes 0)) (named_level f))
    else Other
