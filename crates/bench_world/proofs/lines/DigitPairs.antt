-- What a look into the digits of all bytes gives.
use Rattle.std.proofs.Common.{◌≡◌, ℕ, zero, suc, ◌+◌, ◌*◌, ◌/◌, ◌%◌, ◌<◌, List, [], ◌∷◌, length, slice_index, refl, ◌∙◌, ap, arith}
use Rattle.std.specs.List.{range_with_len}
use Rattle.std.proofs.lemmas.List.FromFn.{get_or-range_with_len, length-range_with_len}
use Rattle.hex.specs.Hex.{encode_with, upper_digits}
use Rattle.bench_world.specs.private.Digits.{all_pairs}

-- the two digits of the byte at a place
first_at : (t xs : List ℕ) (k : ℕ) → k < length xs → slice_index (encode_with t xs) (2 * k) ≡ slice_index t (slice_index xs k / 16)
unfolding encode_with
first_at t [] k h = absurd (omega (arith, h))
first_at t (x ∷ xs) zero h = refl
first_at t (x ∷ xs) (suc k) h =
    let two : 2 * suc k ≡ suc (suc (2 * k)) = omega arith in
    rw two (first_at t xs k (omega (arith, h)))

second_at : (t xs : List ℕ) (k : ℕ) → k < length xs → slice_index (encode_with t xs) (2 * k + 1) ≡ slice_index t (slice_index xs k % 16)
unfolding encode_with
second_at t [] k h = absurd (omega (arith, h))
second_at t (x ∷ xs) zero h = refl
second_at t (x ∷ xs) (suc k) h =
    let two : 2 * suc k + 1 ≡ suc (suc (2 * k + 1)) = omega arith in
    rw two (second_at t xs k (omega (arith, h)))

-- of all bytes the one at a place is its number
pub first_digit : (pairs : List ℕ) (b : ℕ) → pairs ≡ all_pairs → b < 256 → slice_index pairs (2 * b) ≡ slice_index upper_digits (b / 16)
first_digit pairs b is h =
    let every : List ℕ = range_with_len 0 256 in
    let own : slice_index every b ≡ b = get_or-range_with_len 0 256 b 0 h ∙ (let n : 0 + b ≡ b = omega arith in n) in
    ap (λ p. slice_index p (2 * b)) is ∙ first_at upper_digits every b (let n = length-range_with_len 0 256 in omega (arith, n, h)) ∙ ap (λ x. slice_index upper_digits (x / 16)) own

pub second_digit : (pairs : List ℕ) (b : ℕ) → pairs ≡ all_pairs → b < 256 → slice_index pairs (2 * b + 1) ≡ slice_index upper_digits (b % 16)
second_digit pairs b is h =
    let every : List ℕ = range_with_len 0 256 in
    let own : slice_index every b ≡ b = get_or-range_with_len 0 256 b 0 h ∙ (let n : 0 + b ≡ b = omega arith in n) in
    ap (λ p. slice_index p (2 * b + 1)) is ∙ second_at upper_digits every b (let n = length-range_with_len 0 256 in omega (arith, n, h)) ∙ ap (λ x. slice_index upper_digits (x % 16)) own
