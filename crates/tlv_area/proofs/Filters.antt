-- Numbers of a range that pass a test.
use Rattle.std.proofs.Common.{◌≡◌, ℕ, suc, zero, ◌+◌, ◌<◌, ◌≤◌, Bool, true, false, cond, List, [], ◌∷◌, refl, ◌∙◌, ap, arith, inl, inr, eqb, ltb, leb}
use Rattle.std.specs.Prelude.{nat_lt, nat_le, filter}
use Rattle.std.specs.List.{range_with_len, list_all, AllByRecursion}
use Rattle.std.proofs.lemmas.Bool.{cases_Bool, cases_eq, ne_eqb, eq-eqb, lt-ltb, le-leb}
use Rattle.tlv_area.specs.Writing.{is_in}
use Rattle.tlv_area.proofs.Holding.{in_above}

-- numbers of a range stay below its end
pub filter_below : (p : ℕ → Bool) (a n top : ℕ) → a + n ≤ top → list_all (λ k. nat_lt k top) (filter p (range_with_len a n)) ≡ true
filter_below p a zero top high = refl
filter_below p a (suc n) top high =
    let rest = filter_below p (a + 1) n top (omega arith) in
    let here : ltb a top ≡ true = lt-ltb a top (omega arith) in
    elim (p a) as (λ v. list_all (λ k. nat_lt k top) (cond v (a ∷ filter p (range_with_len (a + 1) n)) (filter p (range_with_len (a + 1) n))) ≡ true)
    [ true ↦ rw here rest | false ↦ rest ]

-- a number that passes is among those that pass
pub filter_has : (p : ℕ → Bool) (a n k : ℕ) → a ≤ k → k < a + n → p k ≡ true → is_in (filter p (range_with_len a n)) k ≡ true
filter_has p a zero k low high passes = absurd (omega arith)
filter_has p a (suc n) k low high passes = elim (cases_eq a k) [
  | inl e ↦ (let here : p a ≡ true = ap p e ∙ passes in rw (here, eq-eqb a k e) refl)
  | inr e ↦
      (let rest = filter_has p (a + 1) n k (omega arith) (omega arith) passes in
      let other : eqb a k ≡ false = ne_eqb a k e in
      elim (cases_Bool (p a)) [ inl t ↦ rw (t, other) rest | inr f ↦ rw f rest ])
]

-- what a filter leaves, passes
pub filter_all : (p : ℕ → Bool) (xs : List ℕ) → list_all p (filter p xs) ≡ true
filter_all p [] = refl
filter_all p (x ∷ xs) = elim (cases_Bool (p x)) [
  | inl t ↦ rw (t, t) (filter_all p xs)
  | inr f ↦ rw f (filter_all p xs)
]

-- what holds of each number of a range that passes, holds of each that is left
pub filter_each : (p : ℕ → Bool) (P : ℕ → Type 0) (a n : ℕ) → ((k : ℕ) → a ≤ k → k < a + n → p k ≡ true → P k) → AllByRecursion P (filter p (range_with_len a n))
filter_each p P a zero each = tt
filter_each p P a (suc n) each =
    let rest = filter_each p P (a + 1) n (λ k low high passes. each k (omega arith) (omega arith) passes) in
    elim (cases_Bool (p a)) [
      | inl t ↦ rw t (each a (omega arith) (omega arith) t, rest)
      | inr f ↦ rw f rest
    ]

-- tests that agree on the range leave the same
pub filter_same : (p q : ℕ → Bool) (a n : ℕ) → ((k : ℕ) → k < a + n → p k ≡ q k) → filter p (range_with_len a n) ≡ filter q (range_with_len a n)
filter_same p q a zero same = refl
filter_same p q a (suc n) same =
    let rest = filter_same p q (a + 1) n (λ k high. same k (omega arith)) in
    let here : p a ≡ q a = same a (omega arith) in
    rw (here, rest) refl

-- each number comes once
abbrev pub Distinct : List ℕ → Type 0
Distinct [] = Unit {0}
Distinct (k ∷ ks) = (is_in ks k ≡ false) × Distinct ks

pub filter_above : (p : ℕ → Bool) (least a n : ℕ) → least ≤ a → list_all (λ b. nat_le least b) (filter p (range_with_len a n)) ≡ true
filter_above p least a zero low = refl
filter_above p least a (suc n) low =
    let rest = filter_above p least (a + 1) n (omega arith) in
    let here : leb least a ≡ true = le-leb least a low in
    elim (cases_Bool (p a)) [
      | inl t ↦ rw (t, here) rest
      | inr f ↦ rw f rest
    ]

pub filter_distinct : (p : ℕ → Bool) (a n : ℕ) → Distinct (filter p (range_with_len a n))
filter_distinct p a zero = tt
filter_distinct p a (suc n) =
    let rest = filter_distinct p (a + 1) n in
    let new : is_in (filter p (range_with_len (a + 1) n)) a ≡ false =
    in_above (filter p (range_with_len (a + 1) n)) (a + 1) a (filter_above p (a + 1) (a + 1) n (omega arith)) (omega arith) in
    elim (cases_Bool (p a)) [
      | inl t ↦ rw t (new, rest)
      | inr f ↦ rw f rest
    ]
