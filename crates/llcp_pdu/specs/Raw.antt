-- What the first bytes of a payload say, whether it is a PDU or not (NFC Forum LLCP 1.3).
use Rattle.std.specs.Prelude.{◌<◌, ℕ, ◌/◌, ◌%◌, List, [], ◌∷◌, Option, Some, None}
use Rattle.llcp_pdu.specs.declared.header.RawHeader.{RawHeader}
use Rattle.llcp_pdu.specs.Parts.{ptype_bits}

abbrev pub first_byte : List ℕ → Option ℕ
first_byte [] = None
first_byte (x ∷ xs) = Some x

-- the SAPs and the type of a header, and the byte behind it
abbrev pub raw : List ℕ → Option RawHeader
raw (x ∷ y ∷ rest) = Some (record { dsap = x / 4; ptype = ptype_bits x y; ssap = y % 64; third = first_byte rest })
raw _ = None

-- their ranges
pub record IsRaw (h : RawHeader) : Type 0 where
  pub dsap : h.dsap < 64
  pub ptype : h.ptype < 16
  pub ssap : h.ssap < 64
