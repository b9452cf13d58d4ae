-- What is wrong with bytes that spell no frame: the table of faults, in its order, each at its place. Which of several
-- faults is told is this project's own.
use Rattle.std.specs.Prelude.{ℕ, ◌+◌, ◌-◌, ◌%◌, List, [], ◌∷◌, ◌++◌, length, slice_index, Bool, true, false, not, ◌==◌}
use Rattle.std.specs.Prelude.{◌&&◌, ◌||◌, nat_lt, nat_le, if◌then◌else◌, Option, Some, None, is_none}
use Rattle.dep_pdu.specs.declared.refusal.DepRefusal.{DepRefusal}
use Rattle.dep_pdu.specs.declared.refusal.DepKind.{DepKind}
use Rattle.dep_pdu.specs.declared.refusal.DepKind.TheVariants.{Start, Length, Short, Direction, Command, Field}
use Rattle.dep_pdu.specs.declared.refusal.DepKind.TheVariants.{Trailing}
use Rattle.dep_pdu.specs.declared.head.Head.{Head}
use Rattle.dep_pdu.specs.declared.head.Head.TheVariants.{Atr, Dep, Dsl, Rls}
use Rattle.dep_pdu.specs.declared.pfb.Pfb.{Pfb}
use Rattle.dep_pdu.specs.declared.pfb.Pfb.TheVariants.{Information, Ack as AckPfb, Nack as NackPfb}
use Rattle.dep_pdu.specs.declared.pfb.Pfb.TheVariants.{Attention as AttentionPfb, Extension as ExtensionPfb}
use Rattle.dep_pdu.specs.Numbers.{start_byte, request, answer, atr_req, atr_res, dep_req, dep_res, dsl_req, dsl_res}
use Rattle.dep_pdu.specs.Numbers.{rls_req, rls_res, information, more_information, ack, nack, attention, extension}
use Rattle.dep_pdu.specs.Numbers.{no_did, general_follow, most_general_req, most_general_res, most_content, most_times}
use Rattle.dep_pdu.specs.Numbers.{len_place, direction_place, command_place, head_end, did_place, pp_place, pfb_place}
use Rattle.dep_pdu.specs.Numbers.{times_place}

-- a row of the table: whether its fault stands, at which place, and its kind
pub record Fault : Type 0 where
  pub stands : Bool
  pub place : ℕ
  pub kind : DepKind

abbrev pub fault : Bool → ℕ → DepKind → Fault
fault stands place kind = record { stands = stands; place = place; kind = kind }

-- the first fault that stands
abbrev pub first : List Fault → Option DepRefusal
first [] = None
first (f ∷ fs) = if f.stands then Some (record { place = f.place; kind = f.kind }) else first fs

-- the byte at a place
abbrev pub byte : List ℕ → ℕ → ℕ
byte b i = slice_index b i

abbrev pub is_direction : ℕ → Bool
is_direction d = d == request || d == answer

-- the frame that a command byte names in a request, and in an answer
abbrev pub request_head : ℕ → Option Head
request_head c =
    if c == atr_req then Some (Atr false)
    else (if c == dep_req then Some (Dep false)
    else (if c == dsl_req then Some (Dsl false)
    else (if c == rls_req then Some (Rls false) else None)))

abbrev pub answer_head : ℕ → Option Head
answer_head c =
    if c == atr_res then Some (Atr true)
    else (if c == dep_res then Some (Dep true)
    else (if c == dsl_res then Some (Dsl true)
    else (if c == rls_res then Some (Rls true) else None)))

-- the frame that a direction byte and a command byte name
abbrev pub head_of : ℕ → ℕ → Option Head
head_of d c = if d == request then request_head c else (if d == answer then answer_head c else None)

abbrev pub head : List ℕ → Option Head
head b = head_of (byte b direction_place) (byte b command_place)

-- what a PFB says by the rest of it and its PNI, which stands in bits 1 and 0
abbrev pub numbered_pfb : ℕ → ℕ → Option Pfb
numbered_pfb sort pni =
    if sort == information then Some (Information false pni)
    else (if sort == more_information then Some (Information true pni)
    else (if sort == ack then Some (AckPfb pni)
    else (if sort == nack then Some (NackPfb pni) else None)))

-- what a PFB says; none where reserved bits stand in it
abbrev pub pfb_of : ℕ → Option Pfb
pfb_of x = if x == attention then Some AttentionPfb else (if x == extension then Some ExtensionPfb
    else numbered_pfb (x - x % 4) (x % 4))

abbrev pub pfb : List ℕ → Option Pfb
pfb b = pfb_of (byte b pfb_place)

-- PP has no other bits than those of 32h
abbrev pub is_pp : ℕ → Bool
is_pp x = nat_lt x 64 && (x % 16 == 0 || x % 16 == general_follow)

-- where the fixed bytes of a DEP frame end, behind its PFB or behind the byte of an extension, and how many bytes may
-- follow them
abbrev pub dep_end : Option Pfb → ℕ
dep_end (Some ExtensionPfb) = times_place + 1
dep_end _ = pfb_place + 1

abbrev pub dep_room : Option Pfb → ℕ
dep_room (Some (Information more pni)) = most_content
dep_room _ = 0

-- the same of each frame; the fixed bytes of ATR_REQ and ATR_RES end behind PP
abbrev pub fixed_end : Option Head → List ℕ → ℕ
fixed_end (Some (Atr up)) b = pp_place up + 1
fixed_end (Some (Dep up)) b = dep_end (pfb b)
fixed_end _ b = head_end

abbrev pub room : Option Head → List ℕ → ℕ
room (Some (Atr up)) b = if up then most_general_res else most_general_req
room (Some (Dep up)) b = dep_room (pfb b)
room _ b = 0

-- the place of the first surplus byte
abbrev pub surplus : Option Head → List ℕ → ℕ
surplus h b = fixed_end h b + room h b

-- The fields of ATR_REQ and ATR_RES, by the place of PP: DID isn't 00h; PP has other bits than those of 32h; general
-- bytes follow that it doesn't announce.
abbrev pub atr_fields : ℕ → List ℕ → List Fault
atr_fields at b =
    fault (not (byte b did_place == no_did)) did_place Field
    ∷ fault (not (is_pp (byte b at))) at Field
    ∷ fault (nat_lt (at + 1) (length b) && byte b at % 16 == 0) at Field
    ∷ []

-- The fields of a DEP frame: reserved bits stand in the PFB; a NACK in an answer; an extension of none or of more than
-- 59 times.
abbrev pub dep_fields : Bool → Option Pfb → List ℕ → List Fault
dep_fields up None b = fault true pfb_place Field ∷ []
dep_fields up (Some (NackPfb pni)) b = fault up pfb_place Field ∷ []
dep_fields up (Some ExtensionPfb) b =
    fault (not (nat_le 1 (byte b times_place) && nat_le (byte b times_place) most_times)) times_place Field ∷ []
dep_fields up _ b = []

abbrev pub fields : Option Head → List ℕ → List Fault
fields (Some (Atr up)) b = atr_fields (pp_place up) b
fields (Some (Dep up)) b = dep_fields up (pfb b) b
fields _ b = []

-- The rows on any bytes: byte 0 isn't F0h; LEN is missing, or isn't the number of bytes after F0h; the direction or the
-- command byte is missing.
abbrev pub frame_faults : List ℕ → List Fault
frame_faults b =
    fault (not (byte b 0 == start_byte)) 0 Start
    ∷ fault (nat_lt (length b) 2 || not (byte b len_place + 1 == length b)) len_place Length
    ∷ fault (nat_lt (length b) head_end) (length b) Short
    ∷ []

-- The rows behind them, by what these two name: a fixed byte of that frame is missing; the direction byte is neither
-- D4h nor D5h; the command byte is unknown or of the other direction; a field; a surplus byte.
abbrev pub named_faults : Option Head → List ℕ → List Fault
named_faults h b =
    fault (nat_lt (length b) (fixed_end h b)) (length b) Short
    ∷ fault (not (is_direction (byte b direction_place))) direction_place Direction
    ∷ fault (is_none h) command_place Command
    ∷ (fields h b ++ fault (nat_lt (surplus h b) (length b)) (surplus h b) Trailing ∷ [])

-- the whole table
abbrev pub dep_faults : List ℕ → List Fault
dep_faults b = frame_faults b ++ named_faults (head b) b

-- The refusal of some bytes: the place and kind of their first fault, none where they have none.
abbrev pub dep_refusal : List ℕ → Option DepRefusal
dep_refusal b = first (dep_faults b)
