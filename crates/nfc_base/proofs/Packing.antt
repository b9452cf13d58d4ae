-- Bits of bytes, put back into bytes.
use Rattle.std.proofs.Common.{◌≡◌, ℕ, zero, suc, ◌+◌, ◌*◌, ◌/◌, ◌%◌, ◌^◌, ◌<◌, ◌≤◌, List, [], ◌∷◌, length, take, get_or, Bool, true, false, ◌==◌, if◌then◌else◌, refl, sym, ◌∙◌, ap, arith}
use Rattle.std.proofs.lemmas.Nat.{pow_pos, mod-mul-add}
use Rattle.std.proofs.Math.Nat.{mod-one, mod-lt, mod-eq_of_lt, div-add-mod, mul_comm, mul_assoc}
use Rattle.nfc_base.specs.declared.frame.Tech.{Tech}
use Rattle.nfc_base.specs.Signal.{signal}
use Rattle.nfc_base.specs.Bits.{low_bits, bits_of, bits, number_of, packed, of_bits}

-- the number of one bit
lowest : (n : ℕ) → (if n % 2 == 1 then 1 else 0) ≡ n % 2
lowest n = by_case (n % 2 == 1) refl
  where
    is_one : (k : ℕ) → (k == 1) ≡ true → k ≡ 1
    is_one k h = grind arith

    not_one : (k : ℕ) → (k == 1) ≡ false → k < 2 → 0 ≡ k
    not_one k h l = grind arith

    by_case : (v : Bool) → (n % 2 == 1) ≡ v → (if v then 1 else 0) ≡ n % 2
    by_case true h = sym (is_one (n % 2) h)
    by_case false h = not_one (n % 2) h (omega arith)

-- the k lowest bits of a number are its remainder
pub low_number : (k n : ℕ) → number_of (low_bits k n) ≡ n % 2 ^ k
low_number zero n = sym (mod-one n)
low_number (suc k) n =
    let m : ℕ = 2 ^ k in
    let q : ℕ = n / 2 in
    let rest : number_of (low_bits k q) ≡ q % m = low_number k q in
    let parts : m * (q / m) + q % m ≡ q = div-add-mod q m in
    let double : q / m * (2 * m) ≡ 2 * (m * (q / m)) = rw (mul_comm (q / m) (2 * m), mul_assoc 2 m (q / m)) refl in
    let small : q % m < m = mod-lt q (pow_pos k) in
    let whole : q / m * (2 * m) + (2 * (q % m) + n % 2) ≡ n = omega (arith, parts, double) in
    let less : 2 * (q % m) + n % 2 < 2 * m = omega (arith, small) in
    let power : 2 ^ suc k ≡ 2 * m = omega arith in
    let sum : number_of (low_bits (suc k) n) ≡ 2 * (q % m) + n % 2 = omega (arith, lowest n, rest) in
    sum ∙ sym (mod-mul-add (q / m) (2 * m) (2 * (q % m) + n % 2) less) ∙ ap (λ x. x % (2 * m)) whole ∙ ap (λ x. n % x) (sym power)

pub number_of_low_bits : (k n : ℕ) → n < 2 ^ k → number_of (low_bits k n) ≡ n
number_of_low_bits k n h = low_number k n ∙ mod-eq_of_lt h

pub packed_bits_of : (bytes : List ℕ) → ((i : ℕ) → get_or bytes i 0 < 256) → packed (bits_of bytes) ≡ bytes
unfolding packed bits_of
packed_bits_of [] h = refl
packed_bits_of (b ∷ bytes) h =
    let first : b < 256 = h 0 in
    ap (λ t. t ∷ packed (bits_of bytes)) (number_of_low_bits 8 b first) ∙ ap (λ t. b ∷ t) (packed_bits_of bytes (λ i. h (suc i)))

pub length_low_bits : (k n : ℕ) → length (low_bits k n) ≡ k
length_low_bits zero n = refl
length_low_bits (suc k) n = omega (arith, length_low_bits k (n / 2))

pub length_of_bits : (bytes : List ℕ) → length (bits_of bytes) ≡ 8 * length bytes
unfolding bits_of
length_of_bits [] = refl
length_of_bits (b ∷ bytes) = omega (arith, length_of_bits bytes)

pub take_whole : (x : List Bool) (n : ℕ) → length x ≤ n → take n x ≡ x
take_whole [] zero h = refl
take_whole [] (suc n) h = refl
take_whole (a ∷ x) zero h = absurd (omega (arith, h))
take_whole (a ∷ x) (suc n) h = ap (λ t. a ∷ t) (take_whole x n (omega (arith, h)))

-- the bits of a frame of whole bytes are those of its bytes, and the frame of these bits is the frame again
pub bits_of_whole : (tech : Tech) (bytes : List ℕ) → bits (signal tech bytes 0) ≡ bits_of bytes
bits_of_whole tech bytes = take_whole (bits_of bytes) (8 * length bytes) (omega (arith, length_of_bits bytes))

pub whole_of_bits : (tech : Tech) (bytes : List ℕ) → ((i : ℕ) → get_or bytes i 0 < 256) → of_bits tech (bits_of bytes) ≡ signal tech bytes 0
whole_of_bits tech bytes h =
    let none : length (bits_of bytes) % 8 ≡ 0 = omega (arith, length_of_bits bytes) in
    ap (λ t. signal tech t (length (bits_of bytes) % 8)) (packed_bits_of bytes h) ∙ ap (signal tech bytes) none
