-- The map of an area: where its message lies, by what a walk over a front of the memory tells.
use Rattle.std.specs.Prelude.{◌≡◌, ℕ, ◌+◌, ◌<◌, ◌≤◌, Bool, ◌&&◌, nat_lt, nat_le, if◌then◌else◌, List, ◌++◌, length}
use Rattle.std.specs.Prelude.{slice_index, take, drop}
use Rattle.std.specs.List.{list_any, flat_map}
use Rattle.std.specs.List.Sorted.{IsNonDecreasingBy}
use Rattle.tlv_area.specs.declared.space.Space.{Space}
use Rattle.tlv_area.specs.declared.space.AreaMap.{AreaMap}
use Rattle.tlv_area.specs.declared.walk.Walk.{Walk}
use Rattle.tlv_area.specs.declared.walk.Walk.TheVariants as walk
use Rattle.tlv_area.specs.Layout.{free, reserved_by, Tlv, Layout, LiesIn, bytes_at, ndef_message}
use Rattle.tlv_area.specs.Form.{Comes, End, Fault, Unknown, IsForm, Message, NoMessageTlv, BadTlv}

-- whether one of the ranges, each from its first to before its second number, has the address
abbrev pub in_ranges : List (ℕ × ℕ) → ℕ → Bool
in_ranges rs a = list_any (λ r. nat_le r.0 a && nat_lt a r.1) rs

-- each range begins where the one before it does, or behind that
abbrev pub IsOrdered : List (ℕ × ℕ) → Type 0
IsOrdered rs = IsNonDecreasingBy (λ r. r.0) rs

-- The map of an area whose TLVs before the message are ts, the message's TLV being t and `after` the addresses behind
-- it.
pub record IsMap (memory : List ℕ) (map' : AreaMap) (ts : List Tlv) (t : Tlv) (after : List ℕ) : Type 0 where
  pub layout : Layout map'.space memory ts (t.at ++ after)
  pub lies : LiesIn memory t
  pub message : t.kind ≡ ndef_message
  pub ranges : (a : ℕ) → in_ranges map'.reserved.items a ≡ reserved_by map'.space.control ts a
  pub ordered : IsOrdered map'.reserved.items
  pub place : map'.tlv ≡ length (flat_map (λ u. u.at) ts)
  pub long' : map'.long ≡ t.long
  pub size : map'.length ≡ length t.value

-- the addresses of the area that aren't reserved
abbrev pub map_cells : AreaMap → List ℕ
map_cells m = free (in_ranges m.reserved.items) m.space.start m.space.end

-- how many bytes stand before the value
abbrev pub header_size : Bool → ℕ
header_size long = if long then 4 else 2

-- the logical place of the message's first byte
abbrev pub message_place : AreaMap → ℕ
message_place m = m.tlv + header_size m.long

-- the addresses of the message's bytes
abbrev pub message_cells : AreaMap → List ℕ
message_cells m = take m.length (drop (message_place m) (map_cells m))

-- the message's TLV lies in the area, and the ranges stand in ascending order
pub record IsPlaced (m : AreaMap) : Type 0 where
  pub order : m.space.start ≤ m.space.end
  pub ordered : IsOrdered m.reserved.items
  pub fits : message_place m + m.length ≤ length (map_cells m)

-- the message lies in the area and in the memory
pub record IsPlacedIn (memory : List ℕ) (m : AreaMap) : Type 0 where
  pub placed : IsPlaced m
  pub below : (i : ℕ) → i < m.length → slice_index (message_cells m) i < length memory

-- what a walk over a front of the memory says of that front
abbrev pub IsWalk : Space → List ℕ → Walk → Type 0
IsWalk space memory (walk.Held map') =
    (map'.space ≡ space) × (ts : List Tlv) × (t : Tlv) × (after : List ℕ) × IsMap memory map' ts t after
IsWalk space memory walk.NoMessageTlv = Comes space memory End
IsWalk space memory walk.BadTlv = Comes space memory Fault
IsWalk space memory walk.More = Comes space memory Unknown

abbrev pub IsSettled : Walk → Type 0
IsSettled (walk.Held map') = Unit {0}
IsSettled walk.NoMessageTlv = Unit {0}
IsSettled walk.BadTlv = Unit {0}
IsSettled walk.More = ⊥

-- the form of a memory is the one that a result tells
abbrev pub TellsForm : Space → List ℕ → Walk → Type 0
TellsForm space memory (walk.Held m) = IsForm space memory (Message (bytes_at memory (message_cells m)))
TellsForm space memory walk.NoMessageTlv = IsForm space memory NoMessageTlv
TellsForm space memory walk.BadTlv = IsForm space memory BadTlv
TellsForm space memory walk.More = ⊥

-- where a message is held, its places
abbrev pub HasPlaces : List ℕ → Walk → Type 0
HasPlaces memory (walk.Held m) = IsPlacedIn memory m
HasPlaces memory walk.NoMessageTlv = Unit {0}
HasPlaces memory walk.BadTlv = Unit {0}
HasPlaces memory walk.More = Unit {0}
