-- The single bits of bytes.
use Rattle.std.proofs.Common.{◌≡◌, ℕ, zero, suc, ◌-◌, ◌*◌, ◌/◌, ◌%◌, ◌^◌, ◌<◌, ◌≤◌, nat_lt, List, [], ◌∷◌, ◌++◌, length, get_or, Bool, true, false, ◌==◌, refl, sym, ◌∙◌, ap, arith}
use Rattle.std.proofs.Math.ListN.{get_or-append}
use Rattle.std.proofs.lemmas.List.{get_or-append_right}
use Rattle.nfc_base.specs.Bits.{low_bits, bits_of}
use Rattle.nfc_base.proofs.Packing.{length_low_bits}

-- a bit of a byte, and of bytes
pub byte_bit : (b i : ℕ) → i < 8 → get_or (low_bits 8 b) i false ≡ (b / 2 ^ i % 2 == 1)
byte_bit b zero h = ap (λ t. t % 2 == 1) (let e : b ≡ b / 2 ^ 0 = omega arith in e)
byte_bit b (suc zero) h = ap (λ t. t % 2 == 1) (let e : b / 2 ≡ b / 2 ^ 1 = omega arith in e)
byte_bit b (suc (suc zero)) h = ap (λ t. t % 2 == 1) (let e : b / 2 / 2 ≡ b / 2 ^ 2 = omega arith in e)
byte_bit b (suc (suc (suc zero))) h = ap (λ t. t % 2 == 1) (let e : b / 2 / 2 / 2 ≡ b / 2 ^ 3 = omega arith in e)
byte_bit b (suc (suc (suc (suc zero)))) h = ap (λ t. t % 2 == 1) (let e : b / 2 / 2 / 2 / 2 ≡ b / 2 ^ 4 = omega arith in e)
byte_bit b (suc (suc (suc (suc (suc zero))))) h = ap (λ t. t % 2 == 1) (let e : b / 2 / 2 / 2 / 2 / 2 ≡ b / 2 ^ 5 = omega arith in e)
byte_bit b (suc (suc (suc (suc (suc (suc zero)))))) h = ap (λ t. t % 2 == 1) (let e : b / 2 / 2 / 2 / 2 / 2 / 2 ≡ b / 2 ^ 6 = omega arith in e)
byte_bit b (suc (suc (suc (suc (suc (suc (suc zero))))))) h = ap (λ t. t % 2 == 1) (let e : b / 2 / 2 / 2 / 2 / 2 / 2 / 2 ≡ b / 2 ^ 7 = omega arith in e)
byte_bit b (suc (suc (suc (suc (suc (suc (suc (suc i)))))))) h = absurd (omega (arith, h))

lt_of : (n k : ℕ) → nat_lt n k ≡ true → n < k
lt_of n k h = grind arith

not_lt : (n k : ℕ) → nat_lt n k ≡ false → k ≤ n
not_lt n k h = grind arith

bit_in : (b : ℕ) (bytes : List ℕ) (i : ℕ) → ((k : ℕ) → k < 8 * length bytes → get_or (bits_of bytes) k false ≡ (get_or bytes (k / 8) 0 / 2 ^ (k % 8) % 2 == 1))
    → i < 8 * suc (length bytes) → (v : Bool) → nat_lt i 8 ≡ v → get_or (low_bits 8 b ++ bits_of bytes) i false ≡ (get_or (b ∷ bytes) (i / 8) 0 / 2 ^ (i % 8) % 2 == 1)
bit_in b bytes i f h true k =
    let less : i < 8 = lt_of i 8 k in
    let a : i / 8 ≡ 0 = omega (arith, less) in
    let c : i % 8 ≡ i = omega (arith, less) in
    get_or-append (low_bits 8 b) (bits_of bytes) false i (omega (arith, less, length_low_bits 8 b)) ∙ byte_bit b i less
    ∙ ap (λ t. get_or (b ∷ bytes) t 0 / 2 ^ i % 2 == 1) (sym a) ∙ ap (λ t. get_or (b ∷ bytes) (i / 8) 0 / 2 ^ t % 2 == 1) (sym c)
bit_in b bytes i f h false k =
    let more : 8 ≤ i = not_lt i 8 k in
    let a : i / 8 ≡ suc ((i - 8) / 8) = omega (arith, more) in
    let c : i % 8 ≡ (i - 8) % 8 = omega (arith, more) in
    get_or-append_right (low_bits 8 b) (bits_of bytes) 8 i false (length_low_bits 8 b) more
    ∙ f (i - 8) (omega (arith, more, h))
    ∙ ap (λ t. get_or (b ∷ bytes) t 0 / 2 ^ ((i - 8) % 8) % 2 == 1) (sym a) ∙ ap (λ t. get_or (b ∷ bytes) (i / 8) 0 / 2 ^ t % 2 == 1) (sym c)

pub bit_of : (bytes : List ℕ) (i : ℕ) → i < 8 * length bytes → get_or (bits_of bytes) i false ≡ (get_or bytes (i / 8) 0 / 2 ^ (i % 8) % 2 == 1)
unfolding bits_of
bit_of [] i h = absurd (omega (arith, h))
bit_of (b ∷ bytes) i h = bit_in b bytes i (bit_of bytes) (omega (arith, h)) (nat_lt i 8) refl
