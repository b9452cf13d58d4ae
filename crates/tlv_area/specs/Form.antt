-- The form of an area: what follows the TLVs of its layout.
use Rattle.std.specs.Prelude.{◌≡◌, ℕ, ◌+◌, ◌*◌, nat_lt, ◌==◌, if◌then◌else◌, List, [], ◌∷◌, ◌++◌, length, slice_index}
use Rattle.std.specs.Prelude.{take, Bool, true, false}
use Rattle.tlv_area.specs.declared.space.Space.{Space}
use Rattle.tlv_area.specs.declared.container.ContainerFault.{ContainerFault}
use Rattle.tlv_area.specs.Layout.{Tlv, Layout, LiesIn, is_known, bytes_at, null_tlv, ndef_message, terminator}
use Rattle.tlv_area.specs.Layout.{long_mark}

-- What stands at the addresses that are left: the end of the area or a terminator, a TLV whose length isn't whole
-- before the area's end, is FFFFh or passes that end, a TLV that needs a byte past those that are known, or a whole
-- TLV.
pub data Next : Type 0 where
  End : Next
  Fault : Next
  Unknown : Next
  Item : Tlv → Next

-- A value that passes the end needs none of its bytes, any other needs its last one.
abbrev pub value_next : List ℕ → ℕ → Bool → List ℕ → ℕ → List ℕ → Next
value_next memory kind long header n cells =
    if nat_lt (length cells) n then Fault
    else if is_known memory (take n cells)
    then Item (record { kind = kind; long = long; value = bytes_at memory (take n cells); at = header ++ take n cells })
    else Unknown

-- a length of two bytes may not be FFFFh
abbrev pub long_value_next : List ℕ → ℕ → List ℕ → ℕ → List ℕ → Next
long_value_next memory kind header n cells = if n == 0xFFFF then Fault else value_next memory kind true header n cells

-- FFh with fewer than two bytes behind it shows the fault by itself
abbrev pub long_next : List ℕ → ℕ → ℕ → ℕ → List ℕ → Next
long_next memory kind a b [] = Fault
long_next memory kind a b (h ∷ []) = Fault
long_next memory kind a b (h ∷ l ∷ cells) =
    if is_known memory (h ∷ l ∷ [])
    then long_value_next memory kind (a ∷ b ∷ h ∷ l ∷ []) (slice_index memory h * 256 + slice_index memory l) cells
    else Unknown

abbrev pub length_next : List ℕ → ℕ → ℕ → List ℕ → Next
length_next memory kind a [] = Fault
length_next memory kind a (b ∷ cells) =
    if nat_lt b (length memory)
    then if slice_index memory b == long_mark then long_next memory kind a b cells
    else value_next memory kind false (a ∷ b ∷ []) (slice_index memory b) cells
    else Unknown

unfoldable pub next : List ℕ → List ℕ → Next
next memory [] = End
next memory (a ∷ cells) =
    if nat_lt a (length memory)
    then if slice_index memory a == terminator then End
    else if slice_index memory a == null_tlv then Item (record { kind = 0; long = false; value = []; at = a ∷ [] })
    else length_next memory (slice_index memory a) a cells
    else Unknown

-- a layout is followed by this
abbrev pub Comes : Space → List ℕ → Next → Type 0
Comes space memory what = (ts : List Tlv) × (rest : List ℕ) × Layout space memory ts rest × (next memory rest ≡ what)

-- the walk needs a byte of the area that the memory, a front of the tag's, doesn't have
abbrev pub NeedsMore : Space → List ℕ → Type 0
NeedsMore space memory = Comes space memory Unknown

-- a layout is followed by an NDEF message TLV with this value
abbrev pub Holds : Space → List ℕ → List ℕ → Type 0
Holds space memory message =
    (ts : List Tlv) × (t : Tlv) × (after : List ℕ) × Layout space memory ts (t.at ++ after) × LiesIn memory t
    × (t.kind ≡ ndef_message) × (t.value ≡ message)

-- what a store holds: its container is faulty, or its area has a message, no message's TLV, or a faulty TLV before one
pub data Form : Type 0 where
  Faulty : ContainerFault → Form
  Message : List ℕ → Form
  NoMessageTlv : Form
  BadTlv : Form

-- the form of an area
abbrev pub IsForm : Space → List ℕ → Form → Type 0
IsForm space memory (Faulty fault) = ⊥
IsForm space memory (Message message) = Holds space memory message
IsForm space memory NoMessageTlv = Comes space memory End
IsForm space memory BadTlv = Comes space memory Fault

-- no further TLV stands there, or the message
abbrev pub Stops : Next → Type 0
Stops End = Unit {0}
Stops Fault = Unit {0}
Stops Unknown = Unit {0}
Stops (Item t) = t.kind ≡ ndef_message

-- a memory has one layout that is followed by no further TLV but a message
abbrev pub OneLayout : Space → List ℕ → Type 0
OneLayout space memory = (ts us : List Tlv) (rest rest' : List ℕ) →
    Layout space memory ts rest → Stops (next memory rest) → Layout space memory us rest' → Stops (next memory rest') →
    (ts ≡ us) × (rest ≡ rest')
