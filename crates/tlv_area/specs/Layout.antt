-- The layouts of an area: its TLVs, and the addresses that they reserve (NFC Forum Type 2 Tag and Type 5 Tag).
--
-- The standard walks forward and reserves as it goes. Here all of the TLVs are there at once, each with the addresses
-- of its bytes, and what is reserved is the union of what they reserve: which TLVs lie in an area is one equation.
use Rattle.std.specs.Prelude.{◌≡◌, ◌≢◌, ℕ, ◌+◌, ◌-◌, ◌*◌, ◌/◌, ◌%◌, ◌^◌, ◌<◌, ◌≤◌, suc, zero, Bool, true, false, not}
use Rattle.std.specs.Prelude.{◌&&◌, ◌==◌, nat_lt, nat_le, if◌then◌else◌, List, [], ◌∷◌, ◌++◌, length, map, filter}
use Rattle.std.specs.Prelude.{slice_index}
use Rattle.std.specs.List.{list_any, list_all, flat_map, range_with_len, AllByRecursion}
use Rattle.tlv_area.specs.declared.space.Space.{Space}

-- the types of TLVs, and the first byte of a length that has three
abbrev pub null_tlv : ℕ
null_tlv = 0x00

abbrev pub lock_control : ℕ
lock_control = 0x01

abbrev pub memory_control : ℕ
memory_control = 0x02

abbrev pub ndef_message : ℕ
ndef_message = 0x03

abbrev pub terminator : ℕ
terminator = 0xFE

abbrev pub long_mark : ℕ
long_mark = 0xFF

-- What is asked of an area: its end isn't before its start, and where lock and memory control count it is one of a tag
-- of one sector, so that at most 201 TLVs reserve a range.
pub record IsArea (space : Space) : Type 0 where
  pub order : space.start ≤ space.end
  pub small : space.control ≡ true → space.end ≤ space.start + 1008

-- a TLV, and the addresses at which its bytes lie
pub record Tlv : Type 0 where
  pub kind : ℕ
  pub long : Bool
  pub value : List ℕ
  pub at : List ℕ

-- A length is one byte 00h to FEh, or FFh and two bytes, high byte first, 0000h to FFFEh.
abbrev pub length_bytes : Bool → ℕ → List ℕ
length_bytes false n = n ∷ []
length_bytes true n = long_mark ∷ n / 256 ∷ n % 256 ∷ []

abbrev pub length_limit : Bool → ℕ
length_limit long = if long then 0xFFFF else 0xFF

-- what follows the type: nothing at NULL, else the length and the value
abbrev pub after_kind : ℕ → Bool → List ℕ → List ℕ
after_kind zero long value = []
after_kind (suc k) long value = length_bytes long (length value) ++ value

-- the bytes of a TLV
abbrev pub spelling : Tlv → List ℕ
spelling t = t.kind ∷ after_kind t.kind t.long t.value

-- no terminator, a length that its form has, and no value at NULL
pub record IsTlv (t : Tlv) : Type 0 where
  pub no_end : t.kind ≢ terminator
  pub fits : length t.value < length_limit t.long
  pub null : t.kind ≡ 0 → (t.long ≡ false) × (t.value ≡ [])

-- whether a memory, which may be a front of the tag's, has all of these addresses
abbrev pub is_known : List ℕ → List ℕ → Bool
is_known memory cells = list_all (λ a. nat_lt a (length memory)) cells

abbrev pub bytes_at : List ℕ → List ℕ → List ℕ
bytes_at memory cells = map (λ a. slice_index memory a) cells

-- the bytes of the memory at the TLV's addresses are the TLV
pub record LiesIn (memory : List ℕ) (t : Tlv) : Type 0 where
  pub proper : IsTlv t
  pub known : is_known memory t.at ≡ true
  pub bytes : bytes_at memory t.at ≡ spelling t

-- What a lock or memory control TLV of length 3 names, by its value's bytes: a page number in the high nibble of the
-- first, a byte in that page in its low nibble, how many, with 256 for 0, and the size of a page in the low nibble of
-- the third, as a power of two. Lock control counts bits, eight to a byte, rounded up.
abbrev pub range_start : ℕ → ℕ → ℕ
range_start place control = place / 16 * 2 ^ (control % 16) + place % 16

abbrev pub range_count : ℕ → ℕ → ℕ
range_count kind size = let n = if size == 0 then 256 else size in if kind == lock_control then (n + 7) / 8 else n

abbrev pub range_has : ℕ → List ℕ → ℕ → Bool
range_has kind (place ∷ size ∷ control ∷ []) a =
    nat_le (range_start place control) a && nat_lt a (range_start place control + range_count kind size)
range_has kind _ a = false

abbrev pub is_control : ℕ → Bool
is_control kind = if kind == lock_control then true else kind == memory_control

-- whether a TLV reserves an address: a control TLV that names it, and only an address past all of the TLV's own bytes
abbrev pub reserves : Tlv → ℕ → Bool
reserves t a = is_control t.kind && range_has t.kind t.value a && list_all (λ b. nat_lt b a) t.at

-- whether one of the TLVs reserves an address, where lock and memory control count
abbrev pub reserved_by : Bool → List Tlv → ℕ → Bool
reserved_by control ts a = control && list_any (λ t. reserves t a) ts

-- the addresses from `at` to before `end` that aren't reserved, ascending
abbrev pub free : (ℕ → Bool) → ℕ → ℕ → List ℕ
free is_reserved at end = filter (λ a. not (is_reserved a)) (range_with_len at (end - at))

-- These TLVs, none of which is an NDEF message, lie at the first so many addresses of the area that none of them
-- reserves. `rest` is the addresses that are left, at which the message, a terminator, a faulty TLV or nothing may
-- stand.
pub record Layout (space : Space) (memory : List ℕ) (ts : List Tlv) (rest : List ℕ) : Type 0 where
  pub addresses : flat_map (λ t. t.at) ts ++ rest ≡ free (reserved_by space.control ts) space.start space.end
  pub lie : AllByRecursion (LiesIn memory) ts
  pub plain : AllByRecursion (λ t. t.kind ≢ ndef_message) ts
