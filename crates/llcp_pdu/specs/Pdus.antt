-- What a whole payload is read as (NFC Forum LLCP 1.3), or its first fault.
use Rattle.std.specs.Prelude.{ℕ, ◌+◌, ◌*◌, nat_lt, Bool, true, false, if◌then◌else◌, List, [], ◌∷◌, length, take, drop}
use Rattle.std.specs.Prelude.{Result, Ok, zero, suc}
use Rattle.llcp_pdu.specs.declared.fault.PduKind.TheVariants.{Short}
use Rattle.llcp_pdu.specs.declared.fault.Refusal.{Refusal}
use Rattle.llcp_pdu.specs.declared.header.Header.{Header}
use Rattle.llcp_pdu.specs.declared.header.Ptype.{Ptype}
use Rattle.llcp_pdu.specs.declared.header.Ptype.TheVariants.{Agf as AgfType}
use Rattle.llcp_pdu.specs.declared.part.Part.{Part}
use Rattle.llcp_pdu.specs.declared.pdu.Pdu.{Pdu}
use Rattle.llcp_pdu.specs.declared.pdu.Pdu.TheVariants.{Agf, One}
use Rattle.llcp_pdu.specs.Reading.{refused, gives, follows, onto}
use Rattle.llcp_pdu.specs.Parts.{header, between, body, part}

-- one more PDU in front of those that are read behind it
abbrev pub joined : Result Part Refusal → Result (List Part) Refusal → Result (List Part) Refusal
joined first behind = follows first (λ p. onto p behind)

-- The PDUs in an AGF, each behind two bytes with its length, high byte first: those of the bytes behind the first so
-- many, which stand at that place.
abbrev pub inner : List ℕ → ℕ → ℕ → Result (List Part) Refusal
inner [] zero at = Ok []
inner [] (suc m) at = Ok []
inner (h ∷ []) zero at = refused Short (at + 1)
inner (h ∷ l ∷ rest) zero at =
    if nat_lt (length rest) (256 * h + l) then refused Short (at + 2 + length rest)
    else joined (part (take (256 * h + l) rest) (at + 2)) (inner rest (256 * h + l) (at + 2))
inner (x ∷ rest) (suc m) at = inner rest m (at + 1)

-- a PDU behind its length at that place, and then those in the bytes behind it
abbrev pub inner_first : List ℕ → List ℕ → ℕ → Result (List Part) Refusal
inner_first one tail at = joined (part one (at + 2)) (inner tail 0 (at + 2 + length one))

abbrev pub is_agf : Ptype → Bool
is_agf AgfType = true
is_agf _ = false

abbrev pub whole : Header → List ℕ → Result Pdu Refusal
whole h rest =
    if is_agf h.ptype then between 0 h.dsap h.ssap 0 (gives (inner rest 0 2) Agf)
    else gives (body h.ptype h.dsap h.ssap rest 0) One

-- the PDU that some bytes are read as, or their first fault
abbrev pub pdu : List ℕ → Result Pdu Refusal
pdu b = follows (header 0 b) (λ h. whole h (drop 2 b))
