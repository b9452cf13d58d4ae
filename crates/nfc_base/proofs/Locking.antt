-- One bit more in a table of bits.
use Rattle.std.proofs.Common.{◌≡◌, ◌≢◌, ℕ, zero, suc, ◌+◌, ◌*◌, ◌/◌, ◌%◌, ◌^◌, ◌<◌, w8, List, ◌++◌, length, get_or, set, replicate, Bool, true, false, ◌==◌, bit_or, refl, sym, ◌∙◌, ap, arith}
use Rattle.std.proofs.lemmas.List.{replicate-append-replicate, ext_get_or, get_or-set_same, get_or-set_other, length-set}
use Rattle.std.proofs.lemmas.Nat.Bits.{bit_at_set_same, bit_at_set_other}
use Rattle.nfc_base.specs.Bits.{bits_of}
use Rattle.nfc_base.proofs.Packing.{length_of_bits}
use Rattle.nfc_base.proofs.BitsOfBytes.{bit_of}

-- the bits of bytes that are 0
pub no_bits : (n : ℕ) → bits_of (replicate n 0) ≡ replicate (8 * n) false
unfolding bits_of
no_bits zero = refl
no_bits (suc n) =
    let e : 8 * suc n ≡ 8 + 8 * n = omega arith in
    ap (λ bs. replicate 8 false ++ bs) (no_bits n) ∙ replicate-append-replicate 8 (8 * n) false ∙ ap (λ k. replicate k false) (sym e)

-- a byte with one bit more, and a table with one
abbrev pub with_bit : ℕ → ℕ → ℕ
with_bit byte place = bit_or byte (1 * 2 ^ place % 2 ^ 8)

abbrev pub table_with : List ℕ → ℕ → List ℕ
table_with table b = set table (b / 8) (with_bit (get_or table (b / 8) 0) (b % 8))

abbrev is_set : List ℕ → ℕ → Bool
is_set table i = get_or table (i / 8) 0 / 2 ^ (i % 8) % 2 == 1

equal_of : (m n : ℕ) → (m == n) ≡ true → m ≡ n
equal_of m n h = grind arith

unequal_of : (m n : ℕ) → (m == n) ≡ false → m ≢ n
unequal_of m n h = grind arith

-- the bit itself
this_bit : (table : List ℕ) (b : ℕ) → b < 8 * length table → is_set (table_with table b) b ≡ true
this_bit table b within =
    let byte : ℕ = get_or table (b / 8) 0 in
    let inside : b / 8 < length table = omega arith in
    ap (λ x. x / 2 ^ (b % 8) % 2 == 1) (get_or-set_same table (b / 8) (with_bit byte (b % 8)) 0 inside)
    ∙ ap (λ x. x == 1) (bit_at_set_same w8 byte (b % 8) (omega arith))

-- every other bit
other_bit : (table : List ℕ) (b i : ℕ) → b < 8 * length table → i ≢ b → is_set (table_with table b) i ≡ is_set table i
other_bit table b i within other = by_byte (i / 8 == b / 8) refl
  where
    by_byte : (v : Bool) → (i / 8 == b / 8) ≡ v → is_set (table_with table b) i ≡ is_set table i
    by_byte true h =
        let byte : ℕ = get_or table (b / 8) 0 in
        let same : i / 8 ≡ b / 8 = equal_of (i / 8) (b / 8) h in
        let inside : b / 8 < length table = omega arith in
        let apart : i % 8 ≢ b % 8 = λ e. other (omega (arith, same, e)) in
        ap (λ n. get_or (table_with table b) n 0 / 2 ^ (i % 8) % 2 == 1) same
        ∙ ap (λ x. x / 2 ^ (i % 8) % 2 == 1) (get_or-set_same table (b / 8) (with_bit byte (b % 8)) 0 inside)
        ∙ ap (λ x. x == 1) (bit_at_set_other w8 byte (b % 8) (omega arith) (i % 8) apart)
        ∙ ap (λ n. get_or table n 0 / 2 ^ (i % 8) % 2 == 1) (sym same)
    by_byte false h =
        ap (λ x. x / 2 ^ (i % 8) % 2 == 1) (get_or-set_other table (b / 8) (i / 8) (with_bit (get_or table (b / 8) 0) (b % 8)) 0 (unequal_of (i / 8) (b / 8) h))

each_bit : (table : List ℕ) (b i : ℕ) → b < 8 * length table → i < 8 * length table → (v : Bool) → (i == b) ≡ v
    → get_or (bits_of (table_with table b)) i false ≡ get_or (set (bits_of table) b true) i false
each_bit table b i within inside v h =
    let long : length (table_with table b) ≡ length table = length-set table (b / 8) (with_bit (get_or table (b / 8) 0) (b % 8)) in
    bit_of (table_with table b) i (omega (arith, long)) ∙ by_place v h
  where
    by_place : (v : Bool) → (i == b) ≡ v → is_set (table_with table b) i ≡ get_or (set (bits_of table) b true) i false
    by_place true h =
        let same : i ≡ b = equal_of i b h in
        let room : b < length (bits_of table) = omega (arith, length_of_bits table) in
        ap (λ n. is_set (table_with table b) n) same
        ∙ this_bit table b within
        ∙ sym (get_or-set_same (bits_of table) b true false room)
        ∙ ap (λ n. get_or (set (bits_of table) b true) n false) (sym same)
    by_place false h =
        let apart : i ≢ b = unequal_of i b h in
        other_bit table b i within apart
        ∙ sym (bit_of table i inside)
        ∙ sym (get_or-set_other (bits_of table) b i true false apart)

-- the bits of a table in which one bit was set
pub bits_with : (table : List ℕ) (b : ℕ) → b < 8 * length table → bits_of (table_with table b) ≡ set (bits_of table) b true
bits_with table b within =
    let new : List ℕ = table_with table b in
    let same : length new ≡ length table = length-set table (b / 8) (with_bit (get_or table (b / 8) 0) (b % 8)) in
    let long : length (bits_of new) ≡ 8 * length table = length_of_bits new ∙ ap (λ n. 8 * n) same in
    ext_get_or false (bits_of new) (set (bits_of table) b true)
    (long ∙ sym (length_of_bits table) ∙ sym (length-set (bits_of table) b true))
    (λ i h. each_bit table b i within (omega (arith, h, long)) (i == b) refl)
