-- Free addresses.
use Rattle.std.proofs.Common.{◌≡◌, ℕ, suc, zero, ◌+◌, ◌-◌, ◌≤◌, Bool, false, cond, [], ◌∷◌, ◌++◌, length, not, refl, ◌∙◌, ap, arith}
use Rattle.std.specs.Prelude.{filter}
use Rattle.std.specs.List.{range_with_len}
use Rattle.std.proofs.lemmas.List.{length-append}
use Rattle.std.proofs.lemmas.List.Elements.{filter-append}
use Rattle.tlv_area.specs.Layout.{free}

pub range-add : (a m n : ℕ) → range_with_len a (m + n) ≡ range_with_len a m ++ range_with_len (a + m) n
range-add a zero n = grind arith
range-add a (suc m) n =
    let step : suc m + n ≡ suc (m + n) = omega arith in
    let base : a + 1 + m ≡ a + suc m = omega arith in
    rw (step, range-add (a + 1) m n, base) refl

pub free_split : (r : ℕ → Bool) (at m end : ℕ) → at ≤ m → m ≤ end → free r at end ≡ free r at m ++ free r m end
free_split r at m end low high =
    let size : end - at ≡ (m - at) + (end - m) = omega arith in
    let base : at + (m - at) ≡ m = omega arith in
    let parts : range_with_len at (end - at) ≡ range_with_len at (m - at) ++ range_with_len m (end - m)
    = ap (λ n. range_with_len at n) size ∙ range-add at (m - at) (end - m) ∙ ap (λ b. range_with_len at (m - at) ++ range_with_len b (end - m)) base in
    ap (λ cells. filter (λ a. not (r a)) cells) parts ∙ filter-append (λ a. not (r a)) (range_with_len at (m - at)) (range_with_len m (end - m))

pub free_none : (r : ℕ → Bool) (at : ℕ) → free r at at ≡ []
free_none r at = let zero_left : at - at ≡ 0 = omega arith in rw zero_left refl

-- one address
pub free_at : (r : ℕ → Bool) (at : ℕ) → free r at (at + 1) ≡ cond (not (r at)) (at ∷ []) []
free_at r at = let one : at + 1 - at ≡ 1 = omega arith in rw one refl

pub length-free_more : (r : ℕ → Bool) (at m : ℕ) → at ≤ m →
    length (free r at (m + 1)) ≡ length (free r at m) + length (free r m (m + 1))
length-free_more r at m low = let within : m ≤ m + 1 = omega arith in
    ap length (free_split r at m (m + 1) low within) ∙ length-append (free r at m) (free r m (m + 1))

pub length-free_open : (r : ℕ → Bool) (at m : ℕ) → at ≤ m → r m ≡ false → length (free r at (m + 1)) ≡ length (free r at m) + 1
length-free_open r at m low taken =
    let one : length (free r m (m + 1)) ≡ 1 = ap length (free_at r m) ∙ ap (λ b. length (cond (not b) (m ∷ []) [])) taken in
    omega (arith, length-free_more r at m low)
