-- Writing bytes at free addresses, a run at a time.
use Rattle.std.proofs.Common.{◌≡◌, ℕ, suc, zero, ◌+◌, ◌-◌, ◌<◌, ◌≤◌, Bool, true, false, List, ◌++◌, length, refl, sym, ◌∙◌, ap, arith, rules, take, drop, inl, inr, ◌⊎◌}
use Rattle.std.specs.Prelude.{◌||◌, ◌==◌, slice_index}
use Rattle.std.specs.List.{range_with_len}
use Rattle.std.proofs.lemmas.List.{map-append, places}
use Rattle.std.proofs.lemmas.List.Folds.{list_any-append}
use Rattle.std.proofs.lemmas.Slice.{between-put_mid}
use Rattle.std.proofs.lemmas.Bool.{cases_lt, cases_eq, eq-eqb, ne_eqb}
use borrow.Rule.Slice.PartMut.{put_mid}
use Rattle.tlv_area.specs.Layout.{free, bytes_at}
use Rattle.tlv_area.specs.Writing.{is_in, IsPut}
use Rattle.tlv_area.proofs.Runs.{row_bytes}
use Rattle.tlv_area.proofs.Holding.{in_above}
use Rattle.tlv_area.proofs.OneForm.{range_above}
use Rattle.tlv_area.proofs.Stepping.{or_false}

-- addresses in a row
in_row : (at k a : ℕ) → at ≤ a → a < at + k → is_in (range_with_len at k) a ≡ true
in_row at zero a low high = absurd (omega arith)
in_row at (suc k) a low high = elim (cases_eq at a) [
  | inl e ↦ ap (λ b. b || is_in (range_with_len (at + 1) k) a) (eq-eqb at a e)
  | inr e ↦ ap (λ b. b || is_in (range_with_len (at + 1) k) a) (ne_eqb at a e) ∙ in_row (at + 1) k a (omega arith) (omega arith)
]

out_of_row : (at k a : ℕ) → is_in (range_with_len at k) a ≡ false → (a < at) ⊎ (at + k ≤ a)
out_of_row at k a away = elim (cases_lt a at) [
  | inl h ↦ inl h
  | inr h ↦ elim (cases_lt a (at + k)) [
    | inl l ↦ (let there = in_row at k a h l in cc)
    | inr l ↦ inr l
  ]
]

row_same : (old new : List ℕ) (at k : ℕ) → ((a : ℕ) → at ≤ a → a < at + k → slice_index new a ≡ slice_index old a) →
    bytes_at new (range_with_len at k) ≡ bytes_at old (range_with_len at k)
row_same old new at zero same = refl
row_same old new at (suc k) same =
    let rest = row_same old new (at + 1) k (λ a low high. same a (omega arith) (omega arith)) in
    rw (same at (omega arith) (omega arith), rest) refl

module _ (mem row : List ℕ) (at k : ℕ) (sized : length row ≡ k) (within : at + k ≤ length mem) where
  abbrev there : List ℕ
  there = put_mid at k mem row

  pub length-row : length there ≡ length mem
  length-row = search (rules, places)

  before : (a : ℕ) → a < at → slice_index there a ≡ slice_index mem a
  before a low = search (rules, places)

  behind : (a : ℕ) → at + k ≤ a → slice_index there a ≡ slice_index mem a
  behind a high = search (rules, places)

  inside : bytes_at there (range_with_len at k) ≡ row
  inside =
      let size : at + k - at ≡ k = omega arith in
      row_bytes there at k (omega (arith, length-row)) ∙ ap (λ n. take n (drop at there)) (sym size)
      ∙ between-put_mid at k mem row (at + k) (omega arith) (sized ∙ sym size)

  outside : (a : ℕ) → is_in (range_with_len at k) a ≡ false → slice_index there a ≡ slice_index mem a
  outside a away = elim (out_of_row at k a away) [ inl h ↦ before a h | inr h ↦ behind a h ]

  -- a row, and what is put behind it
  pub put_row : (r : ℕ → Bool) (next to : ℕ) (new later : List ℕ) → at + k ≤ next →
      IsPut (free r next to) there new later → IsPut (range_with_len at k ++ free r next to) mem new (row ++ later)
  put_row r next to new later low is = record {
    outside = record {
      size = is.outside.size ∙ length-row;
      same = λ a away.
          let parts = or_false (is_in (range_with_len at k) a) (is_in (free r next to) a)
          (sym (list_any-append (λ x. x == a) (range_with_len at k) (free r next to)) ∙ away) in
          is.outside.same a parts.1 ∙ outside a parts.0;
    };
    inside = map-append (λ x. slice_index new x) (range_with_len at k) (free r next to)
        ∙ ap (λ bs. bs ++ bytes_at new (free r next to))
        (row_same there new at k (λ a _ high. is.outside.same a (in_above (free r next to) next a (range_above r next next (to - next) (omega arith)) (omega arith))) ∙ inside)
        ∙ ap (λ bs. row ++ bs) is.inside;
  }

  -- the last row
  pub put_last : IsPut (range_with_len at k) mem there row
  put_last = record { outside = record { size = length-row; same = outside }; inside = inside }
