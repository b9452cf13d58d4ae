-- What a frame is on the air: a technology and some bits, packed into bytes (NFC Forum Digital Protocol; ISO/IEC
-- 14443-3).
use Rattle.std.specs.Prelude.{◌≡◌, ℕ, ◌-◌, ◌<◌, ◌≤◌, ◌^◌, ◌⊎◌, List, length, slice_index, Bool, true, false, ◌==◌, ◌&&◌}
use Rattle.nfc_base.specs.declared.frame.Tech.{Tech}
use Rattle.nfc_base.specs.declared.frame.Tech.TheVariants.{A, V, F}

-- a frame: its technology, its bytes, and how many low bits of the last byte are sent, 0 for all of them
pub record Signal : Type 0 where
  pub tech : Tech
  pub bytes : List ℕ
  pub tail : ℕ

abbrev pub signal : Tech → List ℕ → ℕ → Signal
signal tech bytes tail = record { tech = tech; bytes = bytes; tail = tail }

-- an NFC-A frame of whole bytes
abbrev pub whole_a : List ℕ → Signal
whole_a bytes = signal A bytes 0

-- an NFC-A frame that sends the low bits of its last byte
abbrev pub part_a : List ℕ → ℕ → Signal
part_a bytes tail = signal A bytes tail

-- an NFC-V frame of whole bytes
abbrev pub whole_v : List ℕ → Signal
whole_v bytes = signal V bytes 0

-- an NFC-F frame of whole bytes
abbrev pub whole_f : List ℕ → Signal
whole_f bytes = signal F bytes 0

abbrev pub is_nfc_a : Tech → Bool
is_nfc_a A = true
is_nfc_a V = false
is_nfc_a F = false

-- a frame is NFC-A, and of whole bytes
abbrev pub is_whole_a : Signal → Bool
is_whole_a f = is_nfc_a f.tech && (f.tail == 0)

-- the last byte, 0 where there is none
abbrev pub last_byte : List ℕ → ℕ
last_byte bytes = slice_index bytes (length bytes - 1)

-- A frame has at most 288 bytes; where its last byte is sent in part, there is one, and its other bits are 0.
pub record IsSignal (f : Signal) : Type 0 where
  pub fits : length f.bytes ≤ 288
  pub bytes : (i : ℕ) → slice_index f.bytes i < 256
  pub small : f.tail < 8
  pub held : 0 < f.tail → 0 < length f.bytes
  pub unused : 0 < f.tail → last_byte f.bytes < 2 ^ f.tail

-- a tail that these bytes can't have
abbrev pub IsBadTail : List ℕ → ℕ → Type 0
IsBadTail bytes tail = (7 < tail) ⊎ ((0 < tail) × ((length bytes ≡ 0) ⊎ (2 ^ tail ≤ last_byte bytes)))
