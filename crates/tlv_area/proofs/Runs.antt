-- Free addresses by the runs between ordered ranges.
use Rattle.std.proofs.Common.{◌≡◌, ℕ, suc, zero, ◌+◌, ◌-◌, ◌<◌, ◌≤◌, Bool, true, false, List, [], ◌∷◌, ◌++◌, length, not, refl, sym, ◌∙◌, ap, arith, min, max, inl, inr, leb, ltb, get_or, take, drop}
use Rattle.std.proofs.Common.{subst}
use Rattle.std.specs.Prelude.{filter, ◌&&◌, ◌||◌}
use Rattle.std.specs.List.{range_with_len}
use Rattle.std.proofs.lemmas.Bool.{cases_lt, lt-ltb, le-ltb, le-leb, and_right}
use Rattle.std.proofs.lemmas.Bool.Decides.{nat_tests}
use Rattle.std.proofs.lemmas.List.{length-append, drop_more, drop_all}
use Rattle.std.proofs.lemmas.List.Sorted.{IsNonDecreasingBy-drop}
use Rattle.std.proofs.lemmas.List.Folds.{list_any_none}
use Rattle.std.proofs.lemmas.List.FromFn.{length-range_with_len}
use Rattle.tlv_area.specs.Layout.{free, bytes_at}
use Rattle.tlv_area.specs.Map.{in_ranges, IsOrdered}
use Rattle.tlv_area.specs.Reading.{IsPast}
use Rattle.tlv_area.proofs.Free.{free_split}

over : (b a : ℕ) → a < b → leb b a ≡ false
over b a h = grind (arith, nat_tests)

-- no address before the first range is reserved
open_before : (x : ℕ × ℕ) (rs : List (ℕ × ℕ)) (a : ℕ) → IsOrdered (x ∷ rs) → a < x.0 → in_ranges (x ∷ rs) a ≡ false
open_before x rs a up below = list_any_none (λ r. leb r.0 a && ltb a r.1) (x ∷ rs) (λ k d low. later (get_or (x ∷ rs) k d) (up 0 k d (omega arith) low))
  where
    later : (y : ℕ × ℕ) → x.0 ≤ y.0 → (leb y.0 a && ltb a y.1) ≡ false
    later y h = rw (over y.0 a (omega arith)) refl

-- where no address is reserved, and where each is
all_open : (r : ℕ → Bool) (a n : ℕ) → ((b : ℕ) → a ≤ b → b < a + n → r b ≡ false) → filter (λ b. not (r b)) (range_with_len a n) ≡ range_with_len a n
all_open r a zero none = refl
all_open r a (suc n) none =
    let rest = all_open r (a + 1) n (λ b low high. none b (omega arith) (omega arith)) in
    rw (none a (omega arith) (omega arith), rest) refl

all_taken : (r : ℕ → Bool) (a n : ℕ) → ((b : ℕ) → a ≤ b → b < a + n → r b ≡ true) → filter (λ b. not (r b)) (range_with_len a n) ≡ []
all_taken r a zero each = refl
all_taken r a (suc n) each =
    let rest = all_taken r (a + 1) n (λ b low high. each b (omega arith) (omega arith)) in
    rw (each a (omega arith) (omega arith), rest) refl

all_agree : (r s : ℕ → Bool) (a n : ℕ) → ((b : ℕ) → a ≤ b → b < a + n → r b ≡ s b) →
    filter (λ b. not (r b)) (range_with_len a n) ≡ filter (λ b. not (s b)) (range_with_len a n)
all_agree r s a zero same = refl
all_agree r s a (suc n) same =
    let rest = all_agree r s (a + 1) n (λ b low high. same b (omega arith) (omega arith)) in
    rw (same a (omega arith) (omega arith), rest) refl

free_open : (r : ℕ → Bool) (at to : ℕ) → ((b : ℕ) → at ≤ b → b < to → r b ≡ false) → free r at to ≡ range_with_len at (to - at)
free_open r at to none = all_open r at (to - at) (λ b low high. none b low (omega arith))

free_taken : (r : ℕ → Bool) (at to : ℕ) → ((b : ℕ) → at ≤ b → b < to → r b ≡ true) → free r at to ≡ []
free_taken r at to each = all_taken r at (to - at) (λ b low high. each b low (omega arith))

pub free_same : (r s : ℕ → Bool) (at to : ℕ) → ((b : ℕ) → at ≤ b → b < to → r b ≡ s b) → free r at to ≡ free s at to
free_same r s at to same = all_agree r s at (to - at) (λ b low high. same b low (omega arith))

module _ (x : ℕ × ℕ) (rs : List (ℕ × ℕ)) (up : IsOrdered (x ∷ rs)) where
  abbrev all : ℕ → Bool
  all = in_ranges (x ∷ rs)

  in_first : (b : ℕ) → x.0 ≤ b → b < x.1 → all b ≡ true
  in_first b low high = rw (le-leb x.0 b low, lt-ltb b x.1 high) refl

  behind_first : (b : ℕ) → x.1 ≤ b → all b ≡ in_ranges rs b
  behind_first b low = ap (λ v. (leb x.0 b && v) || in_ranges rs b) (le-ltb b x.1 low) ∙ ap (λ v. v || in_ranges rs b) (and_right (leb x.0 b) false refl)

  -- a run, and what lies behind the range that ends it
  by_run : (at end to next : ℕ) → at ≤ end → to ≡ max at (min x.0 end) → next ≡ max to (min x.1 end) →
      free (in_ranges (x ∷ rs)) at end ≡ range_with_len at (to - at) ++ free (in_ranges rs) next end
  by_run at end to next low is_to is_next =
      let front : free all at to ≡ range_with_len at (to - at) = free_open all at to (λ b h k. open_before x rs b up (omega arith)) in
      let own : free all to next ≡ [] = free_taken all to next (λ b h k. in_first b (omega arith) (omega arith)) in
      let rest : free all next end ≡ free (in_ranges rs) next end = free_same all (in_ranges rs) next end (λ b h k. behind_first b (omega arith)) in
      free_split all at to end (omega arith) (omega arith)
      ∙ ap (λ cells. cells ++ free all to end) front
      ∙ ap (λ cells. range_with_len at (to - at) ++ cells) (free_split all to next end (omega arith) (omega arith)
      ∙ ap (λ cells. cells ++ free all next end) own ∙ rest)

  -- so many addresses end in this run
  past_here : (at end to n : ℕ) → at ≤ end → to ≡ max at (min x.0 end) → n ≤ to - at → IsPast (in_ranges (x ∷ rs)) at end n (at + n)
  past_here at end to n low is_to fits = record {
    above = omega arith;
    below = omega arith;
    count = ap length (free_open all at (at + n) (λ b h k. open_before x rs b up (omega arith))) ∙ length-range_with_len at (at + n - at) ∙ omega arith;
    last = λ some. open_before x rs (at + n - 1) up (omega arith);
    none = λ z. omega arith;
  }

  -- they end behind it
  past_on : (at end to next n p : ℕ) → at ≤ end → to ≡ max at (min x.0 end) → next ≡ max to (min x.1 end) → to - at < n →
      IsPast (in_ranges rs) next end (n - (to - at)) p → IsPast (in_ranges (x ∷ rs)) at end n p
  past_on at end to next n p low is_to is_next more is = record {
    above = omega (arith, is.above);
    below = is.below;
    count =
        let parts = by_run at p to next (omega (arith, is.above)) (omega (arith, is.above, is.below)) (omega (arith, is.above, is.below)) in
        omega (arith, ap length parts ∙ length-append (range_with_len at (to - at)) (free (in_ranges rs) next p), length-range_with_len at (to - at), is.count);
    last = λ some. behind_first (p - 1) (omega (arith, is.above, is.below)) ∙ is.last (omega arith);
    none = λ z. absurd (omega arith);
  }

-- the same at a range of a list
module _ (rs : List (ℕ × ℕ)) (up : IsOrdered rs) (i : ℕ) (there : i < length rs) where
  abbrev pub x : ℕ × ℕ
  x = get_or rs i (0, 0)

  rest : drop i rs ≡ x ∷ drop (i + 1) rs
  rest = drop_more rs i (0, 0) there

  up_from : IsOrdered (x ∷ drop (i + 1) rs)
  up_from = subst IsOrdered rest (IsNonDecreasingBy-drop (λ r. r.0) i rs up)

  module _ (at end to next : ℕ) (low : at ≤ end) (is_to : to ≡ max at (min x.0 end)) where
    pub past_in_run : (n : ℕ) → n ≤ to - at → IsPast (in_ranges (drop i rs)) at end n (at + n)
    past_in_run n fits = subst (λ ys. IsPast (in_ranges ys) at end n (at + n)) (sym rest) (past_here x (drop (i + 1) rs) up_from at end to n low is_to fits)

    module _ (is_next : next ≡ max to (min x.1 end)) where
      pub run_at : free (in_ranges (drop i rs)) at end ≡ range_with_len at (to - at) ++ free (in_ranges (drop (i + 1) rs)) next end
      run_at = ap (λ ys. free (in_ranges ys) at end) rest ∙ by_run x (drop (i + 1) rs) up_from at end to next low is_to is_next

      pub length-run_at : length (free (in_ranges (drop i rs)) at end) ≡ (to - at) + length (free (in_ranges (drop (i + 1) rs)) next end)
      length-run_at = ap length run_at ∙ length-append (range_with_len at (to - at)) (free (in_ranges (drop (i + 1) rs)) next end)
          ∙ ap (λ m. m + length (free (in_ranges (drop (i + 1) rs)) next end)) (length-range_with_len at (to - at))

      pub past_behind_run : (n p : ℕ) → to - at < n → IsPast (in_ranges (drop (i + 1) rs)) next end (n - (to - at)) p → IsPast (in_ranges (drop i rs)) at end n p
      past_behind_run n p more is = subst (λ ys. IsPast (in_ranges ys) at end n p) (sym rest) (past_on x (drop (i + 1) rs) up_from at end to next n p low is_to is_next more is)

-- behind the last range each address is free
module _ (rs : List (ℕ × ℕ)) (i : ℕ) (none : length rs ≤ i) where
  open_behind : (a : ℕ) → in_ranges (drop i rs) a ≡ false
  open_behind a = ap (λ ys. in_ranges ys a) (drop_all i rs none)

  pub run_behind : (at end : ℕ) → free (in_ranges (drop i rs)) at end ≡ range_with_len at (end - at)
  run_behind at end = free_open (in_ranges (drop i rs)) at end (λ b _ _. open_behind b)

  pub length-run_behind : (at end : ℕ) → length (free (in_ranges (drop i rs)) at end) ≡ end - at
  length-run_behind at end = ap length (run_behind at end) ∙ length-range_with_len at (end - at)

  pub past_behind : (at end n : ℕ) → at ≤ end → n ≤ end - at → IsPast (in_ranges (drop i rs)) at end n (at + n)
  past_behind at end n low fits = record {
    above = omega arith;
    below = omega arith;
    count = length-run_behind at (at + n) ∙ omega arith;
    last = λ _. open_behind (at + n - 1);
    none = λ z. omega arith;
  }

-- the bytes at addresses in a row
pub row_bytes : (memory : List ℕ) (a n : ℕ) → a + n ≤ length memory → bytes_at memory (range_with_len a n) ≡ take n (drop a memory)
row_bytes memory a zero within = refl
row_bytes memory a (suc n) within =
    let rest = row_bytes memory (a + 1) n (omega arith) in
    rw (drop_more memory a 0 (omega arith), rest) refl

pub run_bytes : (memory : List ℕ) (a b : ℕ) → b ≤ length memory → bytes_at memory (range_with_len a (b - a)) ≡ take (b - a) (drop a memory)
run_bytes memory a b within = elim (cases_lt a b) [
  | inl h ↦ row_bytes memory a (b - a) (omega arith)
  | inr h ↦ (let none : b - a ≡ 0 = omega arith in rw none refl)
]
