-- What the parts of the walk say. No public contract speaks of these.
use Rattle.std.specs.Prelude.{◌≡◌, ℕ, ◌+◌, ◌-◌, ◌<◌, ◌≤◌, Bool, false, not, ◌&&◌, ◌||◌, ◌==◌, nat_lt, nat_le}
use Rattle.std.specs.Prelude.{if◌then◌else◌, List, ◌∷◌, length, ◌++◌, Option, MatchOption, slice_index, []}
use Rattle.std.specs.List.{list_all}
use Rattle.tlv_area.specs.declared.ahead.Ahead.{Ahead}
use Rattle.tlv_area.specs.declared.ahead.Ahead.TheVariants as ahead
use Rattle.tlv_area.specs.declared.ahead.LengthAhead.{LengthAhead}
use Rattle.tlv_area.specs.declared.ahead.LengthAhead.TheVariants as of_length
use Rattle.tlv_area.specs.declared.ahead.Found.{Found}
use Rattle.tlv_area.specs.Layout.{free, reserves, Tlv, bytes_at}
use Rattle.tlv_area.specs.Form.{End, Fault, Unknown, Item, next, length_next, value_next}

-- p is just past the first n free addresses from `at` on
pub record IsPast (is_reserved : ℕ → Bool) (at end n p : ℕ) : Type 0 where
  pub above : at + n ≤ p
  pub below : p ≤ end
  pub count : length (free is_reserved at p) ≡ n
  pub last : 0 < n → is_reserved (p - 1) ≡ false
  pub none : n ≡ 0 → p ≡ at

-- the bytes of a value of three, and that the memory has them
abbrev pub three_bytes : List ℕ → Found → List ℕ
three_bytes memory found =
    slice_index memory (found.first - 1) ∷ slice_index memory (found.second - 1) ∷ slice_index memory (found.past - 1)
    ∷ []

pub record HasThree (memory : List ℕ) (found : Found) : Type 0 where
  pub first_low : 0 < found.first
  pub first_high : found.first ≤ length memory
  pub second_low : 0 < found.second
  pub second_high : found.second ≤ length memory
  pub past_low : 0 < found.past
  pub past_high : found.past ≤ length memory

-- a TLV that was read, from `at` on
pub record IsFound (is_reserved : ℕ → Bool) (memory : List ℕ) (at end : ℕ) (found : Found) (t : Tlv) : Type 0 where
  pub kind : t.kind ≡ found.kind
  pub long : t.long ≡ found.long
  pub size : length t.value ≡ found.length
  pub value : t.value ≡ bytes_at memory (free is_reserved found.from found.past)
  pub addresses : t.at ≡ free is_reserved at found.past
  pub from_above : at < found.from
  pub past_above : found.from + found.length ≤ found.past
  pub below : found.past ≤ end
  pub known : found.past ≤ length memory
  pub last : is_reserved (found.past - 1) ≡ false
  pub three : found.length ≡ 3 → HasThree memory found × (t.value ≡ three_bytes memory found)

-- what stands next from `at` on
abbrev pub IsAhead : (ℕ → Bool) → List ℕ → ℕ → ℕ → Ahead → Type 0
IsAhead is_reserved memory at end ahead.End = next memory (free is_reserved at end) ≡ End
IsAhead is_reserved memory at end ahead.Fault = next memory (free is_reserved at end) ≡ Fault
IsAhead is_reserved memory at end ahead.Unknown = next memory (free is_reserved at end) ≡ Unknown
IsAhead is_reserved memory at end (ahead.Item found) =
    (t : Tlv) × (next memory (free is_reserved at end) ≡ Item t) × IsFound is_reserved memory at end found t

-- what a value that is there says, whatever the addresses of the header are
pub record IsValue (is_reserved : ℕ → Bool) (memory : List ℕ) (from end kind : ℕ) (long : Bool) (n : ℕ) (found : Found)
    : Type 0 where
  pub kind' : found.kind ≡ kind
  pub long' : found.long ≡ long
  pub from' : found.from ≡ from
  pub size : found.length ≡ n
  pub value : IsPast is_reserved from end n found.past
  pub known : found.past ≤ length memory
  pub three : n ≡ 3
      → HasThree memory found × (bytes_at memory (free is_reserved from found.past) ≡ three_bytes memory found)
  pub next' : (header : List ℕ) → value_next memory kind long header n (free is_reserved from end)
      ≡ Item (record {
        kind = kind;
        long = long;
        value = bytes_at memory (free is_reserved from found.past);
        at = header ++ free is_reserved from found.past;
      })

-- the length that stands from `at` on leads to a value of so many bytes from `from` on
pub record IsLength (is_reserved : ℕ → Bool) (memory : List ℕ) (at end : ℕ) (long : Bool) (size from : ℕ) : Type 0 where
  pub above : at < from
  pub below : from ≤ end
  pub known : from ≤ length memory
  pub last : is_reserved (from - 1) ≡ false
  pub next' : (kind a : ℕ) → length_next memory kind a (free is_reserved at end)
      ≡ value_next memory kind long (a ∷ free is_reserved at from) size (free is_reserved from end)

abbrev pub IsLengthAhead : (ℕ → Bool) → List ℕ → ℕ → ℕ → LengthAhead → Type 0
IsLengthAhead is_reserved memory at end of_length.Fault =
    (kind a : ℕ) → length_next memory kind a (free is_reserved at end) ≡ Fault
IsLengthAhead is_reserved memory at end of_length.Unknown =
    (kind a : ℕ) → length_next memory kind a (free is_reserved at end) ≡ Unknown
IsLengthAhead is_reserved memory at end (of_length.Value long size from) =
    IsLength is_reserved memory at end long size from

-- what the value of a TLV is, from `from` on
abbrev pub IsValueAhead : (ℕ → Bool) → List ℕ → ℕ → ℕ → ℕ → Bool → ℕ → Ahead → Type 0
IsValueAhead is_reserved memory from end kind long n ahead.End = ⊥
IsValueAhead is_reserved memory from end kind long n ahead.Fault =
    (header : List ℕ) → value_next memory kind long header n (free is_reserved from end) ≡ Fault
IsValueAhead is_reserved memory from end kind long n ahead.Unknown =
    (header : List ℕ) → value_next memory kind long header n (free is_reserved from end) ≡ Unknown
IsValueAhead is_reserved memory from end kind long n (ahead.Item found) =
    IsValue is_reserved memory from end kind long n found

-- a TLV that was read: its kind, its length, its bytes where it has three, and the addresses past its own
pub record IsRead (memory : List ℕ) (found : Found) (t : Tlv) : Type 0 where
  pub kind : t.kind ≡ found.kind
  pub size : length t.value ≡ found.length
  pub three : found.length ≡ 3 → t.value ≡ three_bytes memory found
  pub own : (a : ℕ) → list_all (λ b. nat_lt b a) t.at ≡ not (nat_lt a found.past)

-- a range is what the TLV that was read reserves
abbrev pub IsRangeOf : List ℕ → Found → Option (ℕ × ℕ) → Type 0
IsRangeOf memory found range = (t : Tlv) → IsRead memory found t →
    MatchOption range ((a : ℕ) → reserves t a ≡ false) (λ r. (a : ℕ) → reserves t a ≡ (nat_le r.0 a && nat_lt a r.1))

-- how many bytes a TLV has
abbrev pub tlv_size : ℕ → Bool → ℕ → ℕ
tlv_size kind long n = if kind == 0 then 1 else if long then n + 4 else n + 2

-- after is before, with what the TLV that was read reserves where control TLVs count
abbrev pub Reserves : Bool → List ℕ → Found → (ℕ → Bool) → (ℕ → Bool) → Type 0
Reserves control memory found before after = (t : Tlv) → IsRead memory found t →
    (a : ℕ) → after a ≡ (before a || (control && reserves t a))
