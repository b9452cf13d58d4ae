-- How far a walk has come, in the words of layouts.
use Rattle.std.proofs.Common.{◌≡◌, ◌≢◌, ℕ, suc, zero, ◌+◌, ◌-◌, ◌*◌, ◌/◌, ◌%◌, ◌<◌, ◌≤◌, Bool, true, false, cond, List, [], ◌∷◌, ◌++◌, length, not, refl, sym, ◌∙◌, ap, arith, subst, ltb, eqb, take}
use Rattle.std.proofs.Common.{inl, inr, ◌⊎◌}
use Rattle.std.specs.Prelude.{filter, ◌&&◌, ◌||◌, nat_lt, slice_index}
use Rattle.std.specs.List.{range_with_len, list_all, list_any, flat_map, AllByRecursion}
use Rattle.std.proofs.lemmas.List.{length-map, append-nil, length-take-le, map-append, append_assoc}
use Rattle.std.proofs.lemmas.List.Folds.{list_all-append, list_any-append}
use Rattle.std.proofs.lemmas.Bool.{lt-ltb, le-ltb, ltb-false, eqb-false, eqb-true, cases_lt, cases_eq, and_right, cases_Bool, ne_eqb, eq-eqb}
use Rattle.tlv_area.specs.declared.space.Space.{Space}
use Rattle.tlv_area.specs.Layout.{free, is_known, bytes_at, Tlv, LiesIn, Layout, length_bytes, after_kind, reserved_by, reserves, range_has}
use Rattle.tlv_area.specs.Form.{next, length_next, long_next, value_next, End, Fault, Unknown, Item}
use Rattle.tlv_area.specs.Reading.{IsFound, HasThree, Reserves, tlv_size}
use Rattle.tlv_area.specs.Walking.{Trail}
use Rattle.tlv_area.specs.declared.ahead.Found.{Found}
use Rattle.tlv_area.proofs.Free.{free_split, free_none}
use Rattle.tlv_area.proofs.Steps.{free_below, free_past}

-- two tests that agree below the end
range_agree : (r s : ℕ → Bool) (a n : ℕ) → ((b : ℕ) → b < a + n → r b ≡ s b) →
    filter (λ b. not (r b)) (range_with_len a n) ≡ filter (λ b. not (s b)) (range_with_len a n)
range_agree r s a zero same = refl
range_agree r s a (suc n) same =
    let rest = range_agree r s (a + 1) n (λ b h. same b (omega arith)) in
    rw (same a (omega arith), rest) refl

pub free_agree : (r s : ℕ → Bool) (at end : ℕ) → ((b : ℕ) → b < end → r b ≡ s b) → free r at end ≡ free s at end
free_agree r s at end same = elim (cases_lt at end) [
  | inl h ↦ range_agree r s at (end - at) (λ b k. same b (omega arith))
  | inr h ↦ (let none : end - at ≡ 0 = omega arith in rw none refl)
]

all_push : {X : Type 0} (P : X → Type 0) (xs : List X) (x : X) → AllByRecursion P xs → P x → AllByRecursion P (xs ++ x ∷ [])
all_push P [] x each one = (one, tt)
all_push P (y ∷ ys) x each one = (each.0, all_push P ys x each.1 one)

pub flat_push : (ts : List Tlv) (t : Tlv) → flat_map (λ u. u.at) (ts ++ t ∷ []) ≡ flat_map (λ u. u.at) ts ++ t.at
flat_push [] t = append-nil t.at
flat_push (u ∷ us) t = ap (λ cells. u.at ++ cells) (flat_push us t) ∙ sym (append_assoc u.at (flat_map (λ u. u.at) us) t.at)

reserved_push : (control : Bool) (ts : List Tlv) (t : Tlv) (a : ℕ) →
    reserved_by control (ts ++ t ∷ []) a ≡ (reserved_by control ts a || (control && reserves t a))
reserved_push false ts t a = refl
reserved_push true ts t a = list_any-append (λ u. reserves u a) ts (t ∷ []) ∙ ap (λ b. list_any (λ u. reserves u a) ts || b) (or_false (reserves t a))
  where
    or_false : (b : Bool) → (b || false) ≡ b
    or_false true = refl
    or_false false = refl

pub trail_layout : (space : Space) (memory : List ℕ) (ts : List Tlv) (at : ℕ) (r : ℕ → Bool) →
    Trail space memory ts at r → space.start ≤ at → at ≤ space.end → Layout space memory ts (free r at space.end)
trail_layout space memory ts at r trail low high = record {
  addresses = ap (λ cells. cells ++ free r at space.end) trail.joined ∙ sym (free_split r space.start at space.end low high)
      ∙ free_agree r (reserved_by space.control ts) space.start space.end (λ b _. trail.same b);
  lie = trail.lie;
  plain = trail.plain;
}

pub trail_none : (space : Space) (memory : List ℕ) (r : ℕ → Bool) → ((a : ℕ) → r a ≡ false) → Trail space memory [] space.start r
trail_none space memory r never = record {
  joined = sym (free_none r space.start);
  same = λ a. never a ∙ no_ranges space.control;
  lie = tt;
  plain = tt;
}
  where
    no_ranges : (control : Bool) → false ≡ (control && false)
    no_ranges true = refl
    no_ranges false = refl

-- a TLV reserves just past its own last byte
pub reserves_past : (r : ℕ → Bool) (at p a : ℕ) (cells : List ℕ) → cells ≡ free r at p → at < p → r (p - 1) ≡ false →
    list_all (λ b. nat_lt b a) cells ≡ not (ltb a p)
reserves_past r at p a cells are low open_cell = elim (cases_lt a p) [
  | inl h ↦ ap (λ c. list_all (λ b. nat_lt b a) c) are ∙ free_past r at p a low open_cell h ∙ sym (ap not (lt-ltb a p h))
  | inr h ↦ ap (λ c. list_all (λ b. nat_lt b a) c) are ∙ free_below r at p a (omega arith) h ∙ sym (ap not (le-ltb a p h))
]

pub trail_more : (space : Space) (memory : List ℕ) (ts : List Tlv) (t : Tlv) (at p : ℕ) (r s : ℕ → Bool) →
    Trail space memory ts at r → space.start ≤ at → at < p → t.at ≡ free r at p → r (p - 1) ≡ false →
    LiesIn memory t → t.kind ≢ 3 → ((a : ℕ) → s a ≡ (r a || (space.control && reserves t a))) →
    Trail space memory (ts ++ t ∷ []) p s
trail_more space memory ts t at p r s trail low up are open_cell lies no_message same =
    let stays : (a : ℕ) → a < p → r a ≡ s a = λ a below.
    let own : list_all (λ b. nat_lt b a) t.at ≡ false = reserves_past r at p a t.at are up open_cell ∙ ap not (lt-ltb a p below) in
    let none : reserves t a ≡ false = and_right _ (list_all (λ b. nat_lt b a) t.at) own in
    sym (same a ∙ ap (λ b. r a || (space.control && b)) none ∙ or_none (r a) space.control) in
    record {
      joined = flat_push ts t ∙ ap (λ cells. cells ++ t.at) trail.joined ∙ ap (λ cells. free r space.start at ++ cells) are
          ∙ sym (free_split r space.start at p low (omega arith)) ∙ free_agree r s space.start p stays;
      same = λ a. same a ∙ ap (λ b. b || (space.control && reserves t a)) (trail.same a) ∙ sym (reserved_push space.control ts t a);
      lie = all_push (LiesIn memory) ts t trail.lie lies;
      plain = all_push (λ u. u.kind ≢ 3) ts t trail.plain no_message;
    }
  where
    or_none : (b c : Bool) → (b || (c && false)) ≡ b
    or_none true c = refl
    or_none false true = refl
    or_none false false = refl

-- what is read is spelled
pub chosen : {X : Type 0} (b : Bool) (x y z : X) → cond b x y ≡ z → ((b ≡ true) × (x ≡ z)) ⊎ ((b ≡ false) × (y ≡ z))
chosen true x y z e = inl (refl, e)
chosen false x y z e = inr (refl, e)

spelled : (kind : ℕ) (long : Bool) (value : List ℕ) → kind ≢ 0 → kind ∷ after_kind kind long value ≡ kind ∷ length_bytes long (length value) ++ value
spelled zero long value some = absurd (some refl)
spelled (suc k) long value some = refl

value_lies : (memory : List ℕ) (kind : ℕ) (long : Bool) (header : List ℕ) (n : ℕ) (cells : List ℕ) (t : Tlv) →
    value_next memory kind long header n cells ≡ Item t → kind ≢ 0 → kind ≢ 254 → n < cond long 65535 255 →
    bytes_at memory header ≡ kind ∷ length_bytes long n → is_known memory header ≡ true → LiesIn memory t
value_lies memory kind long header n cells t is some no_end fits head known_head =
    elim (chosen (ltb (length cells) n) Fault _ (Item t) is) [
      | inl h ↦ (cc h.1)
      | inr h ↦ elim (chosen (is_known memory (take n cells)) _ Unknown (Item t) h.1) [
        | inr k ↦ (cc k.1)
        | inl k ↦
            (let u : Tlv = record { kind = kind; long = long; value = bytes_at memory (take n cells); at = header ++ take n cells } in
            let same : u ≡ t = item_same u t k.1 in
            let enough : n ≤ length cells = ltb-false (length cells) n h.0 in
            let size : length (bytes_at memory (take n cells)) ≡ n = length-map (take n cells) (λ a. slice_index memory a) ∙ length-take-le n cells enough in
            let lies : LiesIn memory u = record {
              proper = record {
                no_end = no_end;
                fits = let P : ℕ → Type 0 = λ m. m < cond long 65535 255 in subst P (sym size) fits;
                null = λ z. absurd (some z);
              };
              known = list_all-append (λ a. nat_lt a (length memory)) header (take n cells)
                  ∙ ap (λ b. b && is_known memory (take n cells)) known_head ∙ k.0;
              bytes = map-append (λ a. slice_index memory a) header (take n cells)
                  ∙ ap (λ bs. bs ++ bytes_at memory (take n cells)) head
                  ∙ sym (spelled kind long (bytes_at memory (take n cells)) some
                  ∙ ap (λ m. kind ∷ length_bytes long m ++ bytes_at memory (take n cells)) size);
            } in
            subst (LiesIn memory) same lies)
      ]
    ]
  where
    item_same : (u t : Tlv) → Item u ≡ Item t → u ≡ t
    item_same u t e = cc

-- a length below 2 ^ 16 from its two bytes
two_bytes : (h l : ℕ) → l < 256 → ((h * 256 + l) / 256 ≡ h) × ((h * 256 + l) % 256 ≡ l)
two_bytes h l fits = (omega arith, omega arith)

long_lies : (memory : List ℕ) (kind a b : ℕ) (cells : List ℕ) (t : Tlv) → ((i : ℕ) → slice_index memory i < 256) →
    long_next memory kind a b cells ≡ Item t → kind ≢ 0 → kind ≢ 254 →
    slice_index memory a ≡ kind → slice_index memory b ≡ 255 → ltb a (length memory) ≡ true → ltb b (length memory) ≡ true → LiesIn memory t
long_lies memory kind a b [] t bytes is some no_end kind_is first_is known_a known_b = cc is
long_lies memory kind a b (h ∷ []) t bytes is some no_end kind_is first_is known_a known_b = cc is
long_lies memory kind a b (h ∷ l ∷ cells) t bytes is some no_end kind_is first_is known_a known_b =
    let n : ℕ = slice_index memory h * 256 + slice_index memory l in
    elim (chosen (is_known memory (h ∷ l ∷ [])) _ Unknown (Item t) is) [
      | inr k ↦ (cc k.1)
      | inl k ↦ elim (chosen (eqb n 65535) Fault _ (Item t) k.1) [
        | inl e ↦ (cc e.1)
        | inr e ↦
            (let low_fits : slice_index memory l < 256 = bytes l in
            let high_fits : slice_index memory h < 256 = bytes h in
            let parts = two_bytes (slice_index memory h) (slice_index memory l) low_fits in
            let no_ones : n ≡ 65535 → ⊥ = eqb-false n 65535 e.0 in
            let fits : n < 65535 = omega arith in
            let head : bytes_at memory (a ∷ b ∷ h ∷ l ∷ []) ≡ kind ∷ 255 ∷ n / 256 ∷ n % 256 ∷ [] =
            rw (kind_is, first_is, parts.0, parts.1) refl in
            let known_head : is_known memory (a ∷ b ∷ h ∷ l ∷ []) ≡ true = rw (known_a, known_b) k.0 in
            value_lies memory kind true (a ∷ b ∷ h ∷ l ∷ []) n cells t e.1 some no_end fits head known_head)
      ]
    ]

length_lies : (memory : List ℕ) (kind a : ℕ) (cells : List ℕ) (t : Tlv) → ((i : ℕ) → slice_index memory i < 256) →
    length_next memory kind a cells ≡ Item t → kind ≢ 0 → kind ≢ 254 → slice_index memory a ≡ kind → ltb a (length memory) ≡ true → LiesIn memory t
length_lies memory kind a [] t bytes is some no_end kind_is known_a = cc is
length_lies memory kind a (b ∷ cells) t bytes is some no_end kind_is known_a =
    elim (chosen (ltb b (length memory)) _ Unknown (Item t) is) [
      | inr k ↦ (cc k.1)
      | inl k ↦ elim (chosen (eqb (slice_index memory b) 255) _ _ (Item t) k.1) [
        | inl e ↦ long_lies memory kind a b cells t bytes e.1 some no_end kind_is (eqb-true (slice_index memory b) 255 e.0) known_a k.0
        | inr e ↦
            (let short : slice_index memory b ≡ 255 → ⊥ = eqb-false (slice_index memory b) 255 e.0 in
            let byte : slice_index memory b < 256 = bytes b in
            let fits : slice_index memory b < 255 = omega arith in
            let head : bytes_at memory (a ∷ b ∷ []) ≡ kind ∷ slice_index memory b ∷ [] = rw kind_is refl in
            let known_head : is_known memory (a ∷ b ∷ []) ≡ true = rw (known_a, k.0) refl in
            value_lies memory kind false (a ∷ b ∷ []) (slice_index memory b) cells t e.1 some no_end fits head known_head)
      ]
    ]

pub next_lies : (memory : List ℕ) (cells : List ℕ) (t : Tlv) → ((i : ℕ) → slice_index memory i < 256) → next memory cells ≡ Item t → LiesIn memory t
unfolding next
next_lies memory [] t bytes is = cc is
next_lies memory (a ∷ cells) t bytes is =
    elim (chosen (ltb a (length memory)) _ Unknown (Item t) is) [
      | inr k ↦ (cc k.1)
      | inl k ↦ elim (chosen (eqb (slice_index memory a) 254) End _ (Item t) k.1) [
        | inl e ↦ (cc e.1)
        | inr e ↦ elim (chosen (eqb (slice_index memory a) 0) _ _ (Item t) e.1) [
          | inl z ↦
              (let u : Tlv = record { kind = 0; long = false; value = []; at = a ∷ [] } in
              let same : u ≡ t = null_same u t z.1 in
              let null_byte : slice_index memory a ≡ 0 = eqb-true (slice_index memory a) 0 z.0 in
              let lies : LiesIn memory u = record {
                proper = record { no_end = λ x. absurd (omega arith); fits = omega arith; null = λ _. (refl, refl) };
                known = rw k.0 refl;
                bytes = rw null_byte refl;
              } in
              subst (LiesIn memory) same lies)
          | inr z ↦ length_lies memory (slice_index memory a) a cells t bytes z.1
              (eqb-false (slice_index memory a) 0 z.0) (eqb-false (slice_index memory a) 254 e.0) refl k.0
        ]
      ]
    ]
  where
    null_same : (u t : Tlv) → Item u ≡ Item t → u ≡ t
    null_same u t e = cc

control_kind : (kind : ℕ) → kind ≢ 0 → kind ≤ 2 → cond (eqb kind 1) true (eqb kind 2) ≡ true
control_kind kind some low = elim (cases_eq kind 1) [
  | inl h ↦ rw (eq-eqb kind 1 h) refl
  | inr h ↦ (let two : kind ≡ 2 = omega arith in rw (ne_eqb kind 1 h, eq-eqb kind 2 two) refl)
]

-- what a control TLV reserves, by its three bytes
pub reserves_named : (t : Tlv) (kind p s c past' a : ℕ) → kind ≢ 0 → kind ≤ 2 → t.kind ≡ kind → t.value ≡ p ∷ s ∷ c ∷ [] →
    ((b : ℕ) → list_all (λ x. nat_lt x b) t.at ≡ not (nat_lt b past')) →
    reserves t a ≡ (range_has kind (p ∷ s ∷ c ∷ []) a && not (nat_lt a past'))
reserves_named t kind p s c past' a some low kind_is value_is own =
    ap (λ k. cond (eqb k 1) true (eqb k 2) && range_has k t.value a && list_all (λ x. nat_lt x a) t.at) kind_is
    ∙ ap (λ v. cond (eqb kind 1) true (eqb kind 2) && range_has kind v a && list_all (λ x. nat_lt x a) t.at) value_is
    ∙ ap (λ b. b && range_has kind (p ∷ s ∷ c ∷ []) a && list_all (λ x. nat_lt x a) t.at) (control_kind kind some low)
    ∙ ap (λ b. range_has kind (p ∷ s ∷ c ∷ []) a && b) (own a)

-- the size of a TLV is the number of its addresses
pub length-at : (memory : List ℕ) (t : Tlv) → LiesIn memory t → length t.at ≡ tlv_size t.kind t.long (length t.value)
length-at memory t lies =
    sym (length-map t.at (λ a. slice_index memory a)) ∙ ap length lies.bytes ∙ sizes t.kind t.long t.value
  where
    forms : (long : Bool) (value : List ℕ) → suc (length (length_bytes long (length value) ++ value)) ≡ cond long (length value + 4) (length value + 2)
    forms true value = omega arith
    forms false value = omega arith

    sizes : (kind : ℕ) (long : Bool) (value : List ℕ) → length (kind ∷ after_kind kind long value) ≡ tlv_size kind long (length value)
    sizes zero long value = refl
    sizes (suc k) long value = let not_null : eqb (suc k) 0 ≡ false = ne_eqb (suc k) 0 (λ e. omega arith) in rw not_null (forms long value)

length-range_filter : (r : ℕ → Bool) (a n : ℕ) → length (filter (λ b. not (r b)) (range_with_len a n)) ≤ n
length-range_filter r a zero = omega arith
length-range_filter r a (suc n) = let rest = length-range_filter r (a + 1) n in
    elim (r a) as (λ v. length (cond (not v) (a ∷ filter (λ b. not (r b)) (range_with_len (a + 1) n)) (filter (λ b. not (r b)) (range_with_len (a + 1) n))) ≤ suc n)
    [ true ↦ omega arith | false ↦ omega arith ]

pub length-free_le : (r : ℕ → Bool) (at p : ℕ) → length (free r at p) ≤ p - at
length-free_le r at p = length-range_filter r at (p - at)

module _ (space : Space) (memory : List ℕ) (at : ℕ) (r : ℕ → Bool) (found : Found) (t : Tlv)
    (is : IsFound r memory at space.end found t) (comes : next memory (free r at space.end) ≡ Item t) (bytes : (i : ℕ) → slice_index memory i < 256) where
  lies : LiesIn memory t
  lies = next_lies memory (free r at space.end) t bytes comes

  pub found_three : found.length ≡ 3 → HasThree memory found
  found_three three = (is.three three).0

  sized : tlv_size found.kind found.long found.length ≡ length t.at
  sized = sym (length-at memory t lies ∙ ap (λ k. tlv_size k t.long (length t.value)) is.kind
      ∙ ap (λ b. tlv_size found.kind b (length t.value)) is.long ∙ ap (λ n. tlv_size found.kind found.long n) is.size)

  pub found_size : tlv_size found.kind found.long found.length ≡ length t.at
  found_size = sized

  pub found_within : length t.at + at ≤ found.past
  found_within = omega (arith, ap length is.addresses, length-free_le r at found.past, is.from_above, is.past_above)

  pub found_fits : found.length ≤ 65535
  found_fits = fits t.long (length t.value) lies.proper.fits is.size
    where
      fits : (long : Bool) (n : ℕ) → n < cond long 65535 255 → n ≡ found.length → found.length ≤ 65535
      fits true n h e = omega arith
      fits false n h e = omega arith

  pub found_control : found.length ≡ 3 → 0 < found.kind → 5 ≤ length t.at
  found_control three some = at_least found.kind found.long (sym three) sized some
    where
      at_least : (k : ℕ) (b : Bool) → 3 ≡ found.length → tlv_size k b found.length ≡ length t.at → 0 < k → 5 ≤ length t.at
      at_least k b e s h =
          let not_null : eqb k 0 ≡ false = ne_eqb k 0 (λ z. omega arith) in
          let large : cond b (found.length + 4) (found.length + 2) ≡ length t.at = rw not_null at s in
          elim (cases_Bool b) [
            | inl x ↦ (let four : found.length + 4 ≡ length t.at = rw x at large in omega arith)
            | inr x ↦ (let two : found.length + 2 ≡ length t.at = rw x at large in omega arith)
          ]

  pub walk_more : (ts : List Tlv) (s : ℕ → Bool) → Trail space memory ts at r → space.start ≤ at → found.kind ≢ 3 →
      Reserves space.control memory found r s → Trail space memory (ts ++ t ∷ []) found.past s
  walk_more ts s trail low no_message adds =
      let up : at < found.past = omega (arith, is.from_above, is.past_above) in
      trail_more space memory ts t at found.past r s trail low up is.addresses is.last lies
      (λ e. no_message (sym is.kind ∙ e))
      (adds t (record { kind = is.kind; size = is.size; three = λ e. (is.three e).1; own = λ a. reserves_past r at found.past a t.at is.addresses up is.last }))
