-- What stands next, by the addresses that `past` finds.
use Rattle.std.proofs.Common.{◌≡◌, ℕ, suc, zero, ◌+◌, ◌-◌, ◌<◌, ◌≤◌, Bool, true, false, cond, List, [], ◌∷◌, ◌++◌, length, not, refl, sym, ◌∙◌, ap, arith, ltb, take, drop, inl, inr, ◌≢◌, ◌*◌}
use Rattle.std.specs.Prelude.{filter, ◌&&◌, nat_lt, slice_index}
use Rattle.std.specs.List.{range_with_len, list_all}
use Rattle.std.proofs.lemmas.List.{length-append, length-map, take_at, nil_from_length, append_assoc, get_or_at, drop_at}
use Rattle.std.proofs.lemmas.List.Folds.{list_all-append}
use Rattle.std.proofs.lemmas.Bool.{lt-ltb, le-ltb, cases_lt, and_right, ne_eqb, eq-eqb}
use Rattle.tlv_area.specs.Layout.{free, is_known, bytes_at}
use Rattle.tlv_area.specs.Form.{next, length_next, long_next, long_value_next, value_next, End, Fault, Unknown, Item}
use Rattle.tlv_area.specs.Reading.{IsPast, IsValueAhead, IsAhead}
use Rattle.tlv_area.specs.declared.ahead.Ahead.{Ahead}
use Rattle.tlv_area.specs.declared.ahead.Ahead.TheVariants as ahead
use Rattle.tlv_area.proofs.Free.{free_split, free_at}

-- all of the addresses are below L
range_below : (r : ℕ → Bool) (a n L : ℕ) → a + n ≤ L → list_all (λ b. nat_lt b L) (filter (λ b. not (r b)) (range_with_len a n)) ≡ true
range_below r a zero L within = refl
range_below r a (suc n) L within =
    let rest = range_below r (a + 1) n L (omega arith) in
    let here : ltb a L ≡ true = lt-ltb a L (omega arith) in
    elim (r a) as (λ v. list_all (λ b. nat_lt b L) (cond (not v) (a ∷ filter (λ b. not (r b)) (range_with_len (a + 1) n)) (filter (λ b. not (r b)) (range_with_len (a + 1) n))) ≡ true)
    [ true ↦ rest | false ↦ rw here rest ]

pub free_below : (r : ℕ → Bool) (a p L : ℕ) → a ≤ p → p ≤ L → list_all (λ b. nat_lt b L) (free r a p) ≡ true
free_below r a p L low high = range_below r a (p - a) L (omega arith)

-- the last address stands last
pub free_last : (r : ℕ → Bool) (at p : ℕ) → at < p → r (p - 1) ≡ false → free r at p ≡ free r at (p - 1) ++ (p - 1) ∷ []
free_last r at p low open_cell =
    let up : p - 1 + 1 ≡ p = omega arith in
    let one : free r (p - 1) p ≡ (p - 1) ∷ [] =
    ap (λ e. free r (p - 1) e) (sym up) ∙ free_at r (p - 1) ∙ ap (λ b. cond (not b) ((p - 1) ∷ []) []) open_cell in
    free_split r at (p - 1) p (omega arith) (omega arith) ∙ ap (λ cells. free r at (p - 1) ++ cells) one

pub free_past : (r : ℕ → Bool) (at p L : ℕ) → at < p → r (p - 1) ≡ false → L < p → list_all (λ b. nat_lt b L) (free r at p) ≡ false
free_past r at p L low open_cell beyond =
    let over : ltb (p - 1) L ≡ false = le-ltb (p - 1) L (omega arith) in
    ap (λ cells. list_all (λ b. nat_lt b L) cells) (free_last r at p low open_cell)
    ∙ list_all-append (λ b. nat_lt b L) (free r at (p - 1)) ((p - 1) ∷ [])
    ∙ ap (λ v. list_all (λ b. nat_lt b L) (free r at (p - 1)) && (v && true)) over
    ∙ and_right (list_all (λ b. nat_lt b L) (free r at (p - 1))) false refl

-- one address
pub one_cell : (r : ℕ → Bool) (at end p : ℕ) → at ≤ end → IsPast r at end 1 p → free r at end ≡ (p - 1) ∷ free r p end
one_cell r at end p low is =
    let last_cell = free_last r at p (omega (arith, is.above)) (is.last (omega arith)) in
    let sizes : length (free r at (p - 1)) + 1 ≡ 1 = sym (length-append (free r at (p - 1)) ((p - 1) ∷ [])) ∙ sym (ap length last_cell) ∙ is.count in
    let none : free r at (p - 1) ≡ [] = nil_from_length (free r at (p - 1)) (omega (arith, sizes)) in
    let one : free r at p ≡ (p - 1) ∷ [] = last_cell ∙ ap (λ cells. cells ++ (p - 1) ∷ []) none in
    free_split r at p end (omega (arith, is.above)) is.below ∙ ap (λ cells. cells ++ free r p end) one

pub value_fault : (memory : List ℕ) (kind : ℕ) (long : Bool) (header : List ℕ) (n : ℕ) (cells : List ℕ) → length cells < n →
    value_next memory kind long header n cells ≡ Fault
value_fault memory kind long header n cells short = let over : ltb (length cells) n ≡ true = lt-ltb (length cells) n short in rw over refl

module _ (r : ℕ → Bool) (memory : List ℕ) (from end n p : ℕ) (low : from ≤ end) (is : IsPast r from end n p) where
  taken : take n (free r from end) ≡ free r from p
  taken = ap (λ cells. take n cells) (free_split r from p end (omega (arith, is.above)) is.below) ∙ take_at (free r from p) (free r p end) n is.count

  enough : ltb (length (free r from end)) n ≡ false
  enough =
      let sizes : length (free r from end) ≡ length (free r from p) + length (free r p end) =
      ap length (free_split r from p end (omega (arith, is.above)) is.below) ∙ length-append (free r from p) (free r p end) in
      le-ltb (length (free r from end)) n (omega (arith, sizes, is.count))

  pub value_item : p ≤ length memory → (kind : ℕ) (long : Bool) (header : List ℕ) →
      value_next memory kind long header n (free r from end)
      ≡ Item (record { kind = kind; long = long; value = bytes_at memory (free r from p); at = header ++ free r from p })
  value_item within kind long header =
      let known : is_known memory (free r from p) ≡ true = free_below r from p (length memory) (omega (arith, is.above)) within in
      rw (enough, taken, known) refl

  pub value_unknown : length memory < p → from ≤ length memory → (kind : ℕ) (long : Bool) (header : List ℕ) →
      value_next memory kind long header n (free r from end) ≡ Unknown
  value_unknown beyond front kind long header =
      let some : 0 < n = elim (cases_lt 0 n) [ inl h ↦ h | inr h ↦ absurd (let z : n ≡ 0 = omega arith in omega (arith, is.none z)) ] in
      let known : is_known memory (free r from p) ≡ false = free_past r from p (length memory) (omega (arith, is.above)) (is.last some) beyond in
      rw (enough, taken, known) refl

-- the one address, alone
pub one_taken : (r : ℕ → Bool) (at end p : ℕ) → IsPast r at end 1 p → free r at p ≡ (p - 1) ∷ []
one_taken r at end p is =
    let last_cell = free_last r at p (omega (arith, is.above)) (is.last (omega arith)) in
    let sizes : length (free r at (p - 1)) + 1 ≡ 1 = sym (length-append (free r at (p - 1)) ((p - 1) ∷ [])) ∙ sym (ap length last_cell) ∙ is.count in
    let none : free r at (p - 1) ≡ [] = nil_from_length (free r at (p - 1)) (omega (arith, sizes)) in
    last_cell ∙ ap (λ cells. cells ++ (p - 1) ∷ []) none

known_there : (memory : List ℕ) (p : ℕ) → 0 < p → p ≤ length memory → ltb (p - 1) (length memory) ≡ true
known_there memory p some within = lt-ltb (p - 1) (length memory) (omega arith)

known_not : (memory : List ℕ) (p : ℕ) → length memory < p → ltb (p - 1) (length memory) ≡ false
known_not memory p beyond = le-ltb (p - 1) (length memory) (omega arith)

module _ (r : ℕ → Bool) (memory : List ℕ) (at end : ℕ) where
  none_free : length (free r at end) < 1 → free r at end ≡ []
  none_free none = nil_from_length (free r at end) (omega arith)

  pub next_none : length (free r at end) < 1 → next memory (free r at end) ≡ End
  unfolding next
  next_none none = rw (none_free none) refl

  pub length_none : length (free r at end) < 1 → (kind a : ℕ) → length_next memory kind a (free r at end) ≡ Fault
  length_none none kind a = rw (none_free none) refl

  pub long_none : length (free r at end) < 1 → (kind a b : ℕ) → long_next memory kind a b (free r at end) ≡ Fault
  long_none none kind a b = rw (none_free none) refl

  module _ (p : ℕ) (low : at ≤ end) (is : IsPast r at end 1 p) where
    some : 0 < p
    some = omega (arith, is.above)

    pub next_unknown : length memory < p → next memory (free r at end) ≡ Unknown
    unfolding next
    next_unknown beyond = let not_known = known_not memory p beyond in rw (one_cell r at end p low is, not_known) refl

    pub next_end : p ≤ length memory → slice_index memory (p - 1) ≡ 254 → next memory (free r at end) ≡ End
    unfolding next
    next_end within is_end = rw (one_cell r at end p low is, known_there memory p some within, is_end) refl

    pub next_null : p ≤ length memory → slice_index memory (p - 1) ≡ 0 →
        next memory (free r at end) ≡ Item (record { kind = 0; long = false; value = []; at = (p - 1) ∷ [] })
    unfolding next
    next_null within is_null = rw (one_cell r at end p low is, known_there memory p some within, is_null) refl

    pub next_more : p ≤ length memory → slice_index memory (p - 1) ≢ 254 → slice_index memory (p - 1) ≢ 0 →
        next memory (free r at end) ≡ length_next memory (slice_index memory (p - 1)) (p - 1) (free r p end)
    unfolding next
    next_more within no_end no_null =
        let not_end = ne_eqb (slice_index memory (p - 1)) 254 no_end in
        let not_null = ne_eqb (slice_index memory (p - 1)) 0 no_null in
        rw (one_cell r at end p low is, known_there memory p some within, not_end, not_null) refl

    pub length_unknown : length memory < p → (kind a : ℕ) → length_next memory kind a (free r at end) ≡ Unknown
    length_unknown beyond kind a = rw (one_cell r at end p low is, known_not memory p beyond) refl

    pub length_short : p ≤ length memory → slice_index memory (p - 1) ≢ 255 → (kind a : ℕ) →
        length_next memory kind a (free r at end)
        ≡ value_next memory kind false (a ∷ (p - 1) ∷ []) (slice_index memory (p - 1)) (free r p end)
    length_short within short kind a =
        let not_long = ne_eqb (slice_index memory (p - 1)) 255 short in
        rw (one_cell r at end p low is, known_there memory p some within, not_long) refl

    pub length_long : p ≤ length memory → slice_index memory (p - 1) ≡ 255 → (kind a : ℕ) →
        length_next memory kind a (free r at end) ≡ long_next memory kind a (p - 1) (free r p end)
    length_long within is_long kind a = rw (one_cell r at end p low is, known_there memory p some within, is_long) refl

    pub long_one : length (free r p end) < 1 → (kind a b : ℕ) → long_next memory kind a b (free r at end) ≡ Fault
    long_one none kind a b =
        let one = one_cell r at end p low is in
        let rest : free r p end ≡ [] = nil_from_length (free r p end) (omega arith) in
        rw (one, rest) refl

    module _ (q : ℕ) (under : p ≤ end) (is_low : IsPast r p end 1 q) where
      two : free r at end ≡ (p - 1) ∷ (q - 1) ∷ free r q end
      two = one_cell r at end p low is ∙ ap (λ cells. (p - 1) ∷ cells) (one_cell r p end q under is_low)

      pub long_unknown : length memory < q → (kind a b : ℕ) → long_next memory kind a b (free r at end) ≡ Unknown
      long_unknown beyond kind a b =
          let no : is_known memory ((p - 1) ∷ (q - 1) ∷ []) ≡ false = rw (known_not memory q beyond) (and_right (ltb (p - 1) (length memory)) false refl) in
          rw (two, no) refl

      pub long_known : q ≤ length memory → (kind a b : ℕ) → long_next memory kind a b (free r at end)
          ≡ long_value_next memory kind (a ∷ b ∷ (p - 1) ∷ (q - 1) ∷ []) (slice_index memory (p - 1) * 256 + slice_index memory (q - 1)) (free r q end)
      long_known within kind a b =
          let yes : is_known memory ((p - 1) ∷ (q - 1) ∷ []) ≡ true =
          rw (known_there memory p some (omega (arith, is_low.above)), known_there memory q (omega (arith, is_low.above)) within) refl in
          rw (two, yes) refl

-- from the value to the whole TLV
pub whole : (r : ℕ → Bool) (memory : List ℕ) (at end from kind : ℕ) (long : Bool) (n : ℕ) (header : List ℕ) (result : Ahead) →
    next memory (free r at end) ≡ value_next memory kind long header n (free r from end) →
    IsValueAhead r memory from end kind long n result →
    header ≡ free r at from → at < from → from ≤ end → r (from - 1) ≡ false →
    IsAhead r memory at end result
whole r memory at end from kind long n header ahead.End same is head up low open_cell = absurd is
whole r memory at end from kind long n header ahead.Fault same is head up low open_cell = same ∙ is header
whole r memory at end from kind long n header ahead.Unknown same is head up low open_cell = same ∙ is header
whole r memory at end from kind long n header (ahead.Item found) same is head up low open_cell =
    let there : IsPast r from end n found.past = is.value in
    let low_past : from ≤ found.past = omega (arith, there.above) in
    let last_open : r (found.past - 1) ≡ false = elim (cases_lt 0 n) [
      | inl h ↦ there.last h
      | inr h ↦ (let z : n ≡ 0 = omega arith in rw (there.none z) open_cell)
    ] in (
      record { kind = kind; long = long; value = bytes_at memory (free r from found.past); at = header ++ free r from found.past },
      same ∙ is.next' header,
      record {
        kind = sym is.kind';
        long = sym is.long';
        size = length-map (free r from found.past) (λ a. slice_index memory a) ∙ there.count ∙ sym is.size;
        value = ap (λ f. bytes_at memory (free r f found.past)) (sym is.from');
        addresses = ap (λ cells. cells ++ free r from found.past) head ∙ sym (free_split r at from found.past (omega arith) low_past);
        from_above = omega (arith, is.from');
        past_above = omega (arith, is.from', is.size, there.above);
        below = there.below;
        known = is.known;
        last = last_open;
        three = λ e. (is.three (sym is.size ∙ e));
      },
    )

pub two_taken : (r : ℕ → Bool) (at p end q : ℕ) → IsPast r at end 1 p → IsPast r p end 1 q → (p - 1) ∷ (q - 1) ∷ [] ≡ free r at q
two_taken r at p end q is is_low =
    sym (free_split r at p q (omega (arith, is.above)) (omega (arith, is_low.above))
    ∙ ap (λ cells. cells ++ free r p q) (one_taken r at end p is)
    ∙ ap (λ cells. (p - 1) ∷ cells) (one_taken r p end q is_low))

pub three_taken : (r : ℕ → Bool) (at f end h l : ℕ) → IsPast r at end 1 f → IsPast r f end 1 h → IsPast r h end 1 l →
    (f - 1) ∷ (h - 1) ∷ (l - 1) ∷ [] ≡ free r at l
three_taken r at f end h l is_f is_h is_l =
    ap (λ cells. (f - 1) ∷ cells) (two_taken r f h end l is_h is_l)
    ∙ ap (λ cells. cells ++ free r f l) (sym (one_taken r at end f is_f))
    ∙ sym (free_split r at f l (omega (arith, is_f.above)) (omega (arith, is_h.above, is_l.above)))

pub all_ones : (memory : List ℕ) (kind : ℕ) (header : List ℕ) (n : ℕ) (cells : List ℕ) → n ≡ 65535 →
    long_value_next memory kind header n cells ≡ Fault
all_ones memory kind header n cells is = rw (eq-eqb n 65535 is) refl

pub no_ones : (memory : List ℕ) (kind : ℕ) (header : List ℕ) (n : ℕ) (cells : List ℕ) → (n ≡ 65535 → ⊥) →
    long_value_next memory kind header n cells ≡ value_next memory kind true header n cells
no_ones memory kind header n cells is = rw (ne_eqb n 65535 is) refl

-- three addresses
module _ (r : ℕ → Bool) (from end p : ℕ) (low : from ≤ end) (is_p : IsPast r from end 1 p) where
  pub no_second : length (free r p end) < 1 → length (free r from end) < 3
  no_second none = omega (arith, ap length (one_cell r from end p low is_p))

  module _ (q : ℕ) (low_p : p ≤ end) (is_q : IsPast r p end 1 q) where
    pub no_third : length (free r q end) < 1 → length (free r from end) < 3
    no_third none = omega (arith, ap length (one_cell r from end p low is_p), ap length (one_cell r p end q low_p is_q))

    module _ (s : ℕ) (low_q : q ≤ end) (is_s : IsPast r q end 1 s) where
      pub three_cells : free r from s ≡ (p - 1) ∷ (q - 1) ∷ (s - 1) ∷ []
      three_cells = sym (three_taken r from p end q s is_p is_q is_s)

      pub three_past : IsPast r from end 3 s
      three_past = record {
        above = omega (arith, is_p.above, is_q.above, is_s.above);
        below = is_s.below;
        count = ap length three_cells;
        last = λ _. is_s.last (omega arith);
        none = λ e. absurd (omega arith);
      }

-- the address just before is the one at this place
pub cell_at : (r : ℕ → Bool) (at end k p : ℕ) → at ≤ end → IsPast r at end (k + 1) p → slice_index (free r at end) k ≡ p - 1
cell_at r at end k p order is =
    let low : at < p = omega (arith, is.above) in
    let last_cell = free_last r at p low (is.last (omega arith)) in
    let size : length (free r at (p - 1)) ≡ k = omega (arith, is.count, ap length last_cell ∙ length-append (free r at (p - 1)) ((p - 1) ∷ [])) in
    let whole_list : free r at end ≡ free r at (p - 1) ++ (p - 1) ∷ free r p end =
    free_split r at p end (omega arith) is.below ∙ ap (λ cells. cells ++ free r p end) last_cell ∙ append_assoc (free r at (p - 1)) ((p - 1) ∷ []) (free r p end) in
    ap (λ cells. slice_index cells k) whole_list ∙ get_or_at (free r at (p - 1)) (p - 1) (free r p end) 0 k size

-- the addresses from there on
pub cells_past : (r : ℕ → Bool) (at end n p : ℕ) → IsPast r at end n p → free r p end ≡ drop n (free r at end)
cells_past r at end n p is = sym (ap (λ cells. drop n cells) (free_split r at p end (omega (arith, is.above)) is.below) ∙ drop_at (free r at p) (free r p end) n is.count)

pub cells_front : (r : ℕ → Bool) (at end n p : ℕ) → IsPast r at end n p → free r at p ≡ take n (free r at end)
cells_front r at end n p is = sym (ap (λ cells. take n cells) (free_split r at p end (omega (arith, is.above)) is.below) ∙ take_at (free r at p) (free r p end) n is.count)
