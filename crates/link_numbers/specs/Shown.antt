-- How many PDUs stand in each payload of a link, read off the events of a command: payloads are cut as at the ends
-- (NFCIP-1, ISO/IEC 18092), PDUs stand in them as LLCP joins them (NFC Forum LLCP 1.3); that their numbers are read off
-- is this project's own.
use Rattle.std.specs.Prelude.{◌≡◌, ℕ, zero, suc, ◌+◌, ◌*◌, ◌<◌, ◌≤◌, ◌==◌, ◌&&◌, ◌⊎◌, nat_le, nat_lt, Bool, true, false}
use Rattle.std.specs.Prelude.{if◌then◌else◌, List, [], ◌∷◌, ◌++◌, length, drop, map, Option, Some, None}
use Rattle.std.specs.List.{filter}
use Rattle.nfc_base.specs.Signal.{Signal}
use Rattle.nfc_base.specs.declared.event.Event.{Event}
use Rattle.nfc_base.specs.declared.event.Event.TheVariants.{Reset, Request, Answer, Clash}
use Rattle.dep_pdu.specs.declared.frame.DepFrame.{DepFrame}
use Rattle.dep_pdu.specs.declared.frame.DepFrame.TheVariants.{Info}
use Rattle.dep_link.specs.Sizes.{limit}
use Rattle.dep_link.specs.Exchange.{frames_of}
use Rattle.dep_link.specs.Payloads.{Cut, begins, cut_by}
use Rattle.dep_link.specs.Replies.{cut_up}
use Rattle.llcp_pdu.specs.declared.header.RawHeader.{RawHeader}
use Rattle.llcp_pdu.specs.declared.part.Part.{Part}
use Rattle.llcp_pdu.specs.declared.pdu.Pdu.{Pdu}
use Rattle.llcp_pdu.specs.declared.pdu.Pdu.TheVariants.{Agf, One}
use Rattle.llcp_pdu.specs.Raw.{raw}
use Rattle.llcp_pdu.specs.Spelling.{LlcpSpelling}
use Rattle.llcp_pdu.specs.Wire.{agf_type}
use Rattle.llcp_pdu.specs.Writing.{part_bytes, pdu_bytes}

-- The frames that an initiator sent, and those that a target sent, whatever became of them. Of a clash there are the
-- first bits of several answers, which nobody sent.
abbrev pub requests_of : List Event → List Signal
requests_of [] = []
requests_of (Reset ∷ es) = requests_of es
requests_of (Request f x ∷ es) = f ∷ requests_of es
requests_of (Answer g x ∷ es) = requests_of es
requests_of (Clash g x ∷ es) = requests_of es

abbrev pub answers_of : List Event → List Signal
answers_of [] = []
answers_of (Reset ∷ es) = answers_of es
answers_of (Request f x ∷ es) = answers_of es
answers_of (Answer g x ∷ es) = g ∷ answers_of es
answers_of (Clash g x ∷ es) = answers_of es

-- the header of an AGF, which goes from SAP 0 to SAP 0
abbrev pub heads_agf : Option RawHeader → Bool
heads_agf None = false
heads_agf (Some h) = (h.dsap == 0) && (h.ptype == agf_type) && (h.ssap == 0)

-- How many PDUs stand behind the header of an AGF, each behind two bytes with its length, high byte first: so many
-- before, and those in what follows the first so many bytes. None where the last one is cut short. Only lengths are
-- looked at.
abbrev pub counted : ℕ → List ℕ → ℕ → ℕ
counted n [] zero = n
counted n [] (suc m) = 0
counted n (h ∷ []) zero = 0
counted n (h ∷ l ∷ rest) zero = counted (n + 1) rest (256 * h + l)
counted n (x ∷ rest) (suc m) = counted n rest m

-- an AGF has two PDUs or more
abbrev pub several : ℕ → ℕ
several n = if n == 1 then 0 else n

-- how many PDUs stand in a payload: those of an AGF, else one
abbrev pub parts_of : List ℕ → ℕ
parts_of b = if heads_agf (raw b) then several (counted 0 (drop 2 b) 0) else 1

-- The number of a payload of which some came, where that wasn't all: as many as fit, which is 0, where it begins with
-- the header of an AGF, else one.
abbrev pub number_begun : List ℕ → ℕ
number_begun b = if heads_agf (raw b) then 0 else 1

-- The number of a whole payload. Of one that is longer than a payload may be it is as if not all of it came, and so it
-- is of an AGF that isn't one of several PDUs.
abbrev pub number : List ℕ → ℕ
number b = if nat_le (length b) limit then parts_of b else number_begun b

abbrev pub cut_off : List ℕ → List ℕ
cut_off [] = []
cut_off (x ∷ xs) = number_begun (x ∷ xs) ∷ []

-- A piece of a payload has some content: an information frame without any is no piece.
abbrev pub has_content : DepFrame → Bool
has_content (Info up more pni content) = nat_lt 0 (length content.items)
has_content _ = true

abbrev pub pieces_of : List Signal → List DepFrame
pieces_of fs = filter has_content (frames_of fs)

-- of each payload in turn
abbrev pub numbers : Cut → List ℕ
numbers c = map number c.payloads ++ cut_off c.chain

-- The numbers of the payloads that the initiator's frames carried, and of those that a target's did, counted from this
-- PNI.
abbrev pub own_shown : ℕ → List Event → List ℕ
own_shown first es = numbers (cut_by (begins first) (pieces_of (requests_of es)))

abbrev pub far_shown : ℕ → List Event → List ℕ
far_shown first es = numbers (cut_up (begins first) (pieces_of (answers_of es)))

-- the PDUs in a PDU
abbrev pub pdus_in : Pdu → ℕ
pdus_in (Agf ps) = several (length ps)
pdus_in (One p) = 1

-- So many PDUs stand in bytes that spell a PDU, and in those that are written of one, whatever stands in its fields.
abbrev pub CountsSpelled : Type 0
CountsSpelled = (b : List ℕ) (p : Pdu) → LlcpSpelling p b → parts_of b ≡ pdus_in p

abbrev pub CountsWritten : Type 0
CountsWritten = (p : Pdu) → parts_of (pdu_bytes p) ≡ pdus_in p

-- No PDU that goes alone begins as an AGF.
abbrev pub NoneHeadsAgf : Type 0
NoneHeadsAgf = (p : Part) → heads_agf (raw (part_bytes p)) ≡ false

-- Of an AGF with bytes behind it the number isn't that of its PDUs alone: they are as many as fit, or more.
abbrev pub CountsBehind : Type 0
CountsBehind = (ps : List Part) (x : ℕ) (xs : List ℕ) → 2 ≤ length ps
    → (number (pdu_bytes (Agf ps) ++ x ∷ xs) ≡ 0) ⊎ (length ps < number (pdu_bytes (Agf ps) ++ x ∷ xs))
