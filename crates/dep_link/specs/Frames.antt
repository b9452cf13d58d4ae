-- Frames of NFC-DEP on the air, and pieces of payloads (NFCIP-1, ISO/IEC 18092; NFC Forum Digital Protocol).
use Rattle.std.specs.Prelude.{◌≡◌, ℕ, ◌+◌, ◌%◌, ◌≤◌, nat_lt, List, length, take, Bool, true, false, if◌then◌else◌}
use Rattle.std.specs.Prelude.{Option, Some, None}
use Rattle.nfc_base.specs.Signal.{Signal, whole_a, is_whole_a}
use Rattle.dep_pdu.specs.declared.frame.DepFrame.{DepFrame}
use Rattle.dep_pdu.specs.declared.frame.DepFrame.TheVariants.{AtrReq, Info}
use Rattle.dep_pdu.specs.Spelling.{IsDepFrame, written}
use Rattle.dep_pdu.specs.Reading.{spelled_frame}

-- An NFC-A frame of whole bytes carries it.
abbrev pub air_frame : DepFrame → Signal
air_frame v = whole_a (written v)

-- the frame of NFC-DEP that one on the air spells, none where it spells none
abbrev pub spelled : Signal → Option DepFrame
spelled f = if is_whole_a f then spelled_frame f.bytes else None

-- whether a frame on the air is a well-formed ATR_REQ, which activates a target
abbrev pub names_atr : Option DepFrame → Bool
names_atr None = false
names_atr (Some (AtrReq id lr general)) = true
names_atr (Some _) = false

abbrev pub is_atr_req : Signal → Bool
is_atr_req f = names_atr (spelled f)

-- The frame on the air is that of a value in range, and is no longer than a frame may be.
pub record IsSpelled (f : Signal) : Type 0 where
  pub value : DepFrame
  pub range : IsDepFrame value
  pub frame : f ≡ air_frame value
  pub fits : length f.bytes ≤ 288

-- the number after a PNI, and the one before it
abbrev pub after : ℕ → ℕ
after p = (p + 1) % 4

abbrev pub before : ℕ → ℕ
before e = (e + 3) % 4

abbrev pub information : Bool → Bool → ℕ → List ℕ → DepFrame
information up more pni content = Info up more pni (record { items = content })

-- the information frame with the first piece of some bytes, of at most so many; where more are left it says so
abbrev pub piece : Bool → ℕ → ℕ → List ℕ → DepFrame
piece up most pni xs = information up (nat_lt most (length xs)) pni (take most xs)
