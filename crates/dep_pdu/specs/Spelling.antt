-- How the frames of NFC-DEP stand in bytes (NFCIP-1, ISO/IEC 18092; NFC Forum Digital Protocol): a frame, a printer
-- of its bytes, and a fact that says which frames are in range.
use Rattle.std.specs.Prelude.{◌≡◌, ℕ, ◌+◌, ◌*◌, ◌%◌, ◌<◌, ◌≤◌, List, [], ◌∷◌, ◌++◌, length, Bool, true, false, nat_lt}
use Rattle.std.specs.Prelude.{if◌then◌else◌}
use Rattle.dep_pdu.specs.declared.frame.DepFrame.{DepFrame}
use Rattle.dep_pdu.specs.declared.frame.DepFrame.TheVariants.{AtrReq, AtrRes, Info, Ack, Nack, Attention, Extend}
use Rattle.dep_pdu.specs.declared.frame.DepFrame.TheVariants.{DslReq, DslRes, RlsReq, RlsRes}
use Rattle.dep_pdu.specs.Numbers.{start_byte, request, answer, atr_req, atr_res, dep_req, dep_res, dsl_req, dsl_res}
use Rattle.dep_pdu.specs.Numbers.{rls_req, rls_res, information, more_information, ack, nack, attention, extension}
use Rattle.dep_pdu.specs.Numbers.{no_did, general_follow, id_size, most_general_req, most_general_res, most_content}
use Rattle.dep_pdu.specs.Numbers.{most_times}

-- What a value leaves open in its bytes: the bit rates BS and BR, which this link doesn't use, and whether PP has 02h
-- where no general bytes follow.
pub record LeftOpen : Type 0 where
  pub bs : ℕ
  pub br : ℕ
  pub marked : Bool

-- PP: the LR code in bits 5 and 4, and 02h
abbrev pub pp_byte : ℕ → Bool → ℕ
pp_byte lr marked = 16 * (lr % 4) + (if marked then general_follow else 0)

-- a PFB of this sort: its PNI stands in bits 1 and 0
abbrev pub pfb_byte : ℕ → ℕ → ℕ
pfb_byte sort pni = sort + pni % 4

-- the direction and command bytes of a DEP frame; up is from target to initiator
abbrev pub dep_head : Bool → List ℕ
dep_head up = if up then answer ∷ dep_res ∷ [] else request ∷ dep_req ∷ []

-- the bytes behind LEN
abbrev pub body : LeftOpen → DepFrame → List ℕ
body o (AtrReq id lr general) = request ∷ atr_req ∷ id ++ no_did ∷ o.bs ∷ o.br ∷ pp_byte lr o.marked ∷ general.items
body o (AtrRes id timeout lr general) = answer ∷ atr_res ∷ id
    ++ no_did ∷ o.bs ∷ o.br ∷ timeout ∷ pp_byte lr o.marked ∷ general.items
body o (Info up more pni content) = dep_head up ++ pfb_byte (if more then more_information else information) pni
    ∷ content.items
body o (Ack up pni) = dep_head up ++ pfb_byte ack pni ∷ []
body o (Nack pni) = dep_head false ++ pfb_byte nack pni ∷ []
body o (Attention up) = dep_head up ++ attention ∷ []
body o (Extend up times) = dep_head up ++ extension ∷ times ∷ []
body o DslReq = request ∷ dsl_req ∷ []
body o DslRes = answer ∷ dsl_res ∷ []
body o RlsReq = request ∷ rls_req ∷ []
body o RlsRes = answer ∷ rls_res ∷ []

-- a frame is F0h, LEN, which counts itself, and the bytes behind it
abbrev pub framed : List ℕ → List ℕ
framed bytes = start_byte ∷ (length bytes + 1) ∷ bytes

-- Which values are in range.
abbrev pub IsDepFrame : DepFrame → Type 0
IsDepFrame (AtrReq id lr general) = (length id ≡ id_size) × (lr < 4) × (length general.items ≤ most_general_req)
IsDepFrame (AtrRes id timeout lr general) = (length id ≡ id_size) × (lr < 4) × (length general.items ≤ most_general_res)
IsDepFrame (Info up more pni content) = (pni < 4) × (length content.items ≤ most_content)
IsDepFrame (Ack up pni) = pni < 4
IsDepFrame (Nack pni) = pni < 4
IsDepFrame (Attention up) = Unit {0}
IsDepFrame (Extend up times) = (1 ≤ times) × (times ≤ most_times)
IsDepFrame DslReq = Unit {0}
IsDepFrame DslRes = Unit {0}
IsDepFrame RlsReq = Unit {0}
IsDepFrame RlsRes = Unit {0}

abbrev pub general_of : DepFrame → List ℕ
general_of (AtrReq id lr general) = general.items
general_of (AtrRes id timeout lr general) = general.items
general_of _ = []

-- The bytes spell the value. Where general bytes follow, PP says so.
pub record DepSpelling (v : DepFrame) (b : List ℕ) : Type 0 where
  pub range : IsDepFrame v
  pub open_bytes : LeftOpen
  pub announced : 0 < length (general_of v) → open_bytes.marked ≡ true
  pub bytes : b ≡ framed (body open_bytes v)

-- The bytes in which this project writes a value: BS and BR are 00h, and PP has 02h just where general bytes follow.
abbrev pub plain : DepFrame → LeftOpen
plain v = record { bs = 0; br = 0; marked = nat_lt 0 (length (general_of v)) }

abbrev pub written : DepFrame → List ℕ
written v = framed (body (plain v) v)
