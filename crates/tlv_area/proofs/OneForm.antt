-- Each memory has one form.
use Rattle.std.proofs.Common.{◌≡◌, ◌≢◌, ℕ, suc, zero, ◌+◌, ◌-◌, ◌*◌, ◌/◌, ◌%◌, ◌<◌, ◌≤◌, Bool, true, false, cond, List, [], ◌∷◌, ◌++◌, length, not, refl, sym, ◌∙◌, ap, arith, subst, ltb, leb, eqb}
use Rattle.std.proofs.Common.{take, inl, inr}
use Rattle.std.specs.Prelude.{filter, ◌&&◌, ◌||◌, nat_lt, nat_le, slice_index}
use Rattle.std.specs.List.{range_with_len, list_all, list_any, flat_map, AllByRecursion}
use Rattle.std.proofs.lemmas.List.{length-append, length-map, take_at, nil_from_length, append_assoc}
use Rattle.std.proofs.lemmas.List.Folds.{list_all-append}
use Rattle.std.proofs.lemmas.Bool.{le-ltb, le-leb, leb-true, cases_order, and_right, and_left, and_parts, cases_Bool, ne_eqb}
use Rattle.tlv_area.specs.declared.space.Space.{Space}
use Rattle.tlv_area.specs.Layout.{free, is_known, bytes_at, Tlv, IsTlv, LiesIn, spelling, length_bytes, after_kind, reserved_by, reserves}
use Rattle.tlv_area.specs.Form.{next, length_next, long_next, value_next, Item, Stops, OneLayout}
use Rattle.tlv_area.proofs.Free.{free_split, free_at}
use Rattle.tlv_area.proofs.Steps.{free_past, free_last}
use Rattle.tlv_area.proofs.Trails.{free_agree}

-- What is spelled is read.
value_there : (memory : List ℕ) (kind : ℕ) (long : Bool) (header cells more value : List ℕ) (n : ℕ) →
    bytes_at memory cells ≡ value → is_known memory cells ≡ true → length value ≡ n →
    value_next memory kind long header n (cells ++ more) ≡ Item (record { kind = kind; long = long; value = value; at = header ++ cells })
value_there memory kind long header cells more value n bytes known size =
    let count : length cells ≡ n = sym (length-map cells (λ a. slice_index memory a)) ∙ ap length bytes ∙ size in
    let enough : ltb (length (cells ++ more)) n ≡ false = le-ltb (length (cells ++ more)) n (omega (arith, length-append cells more)) in
    let taken : take n (cells ++ more) ≡ cells = take_at cells more n count in
    rw (enough, taken, known, bytes) refl

long_there : (memory : List ℕ) (kind a b : ℕ) (cells more value : List ℕ) →
    bytes_at memory cells ≡ length value / 256 ∷ length value % 256 ∷ value → is_known memory cells ≡ true → length value < 65535 →
    long_next memory kind a b (cells ++ more) ≡ Item (record { kind = kind; long = true; value = value; at = a ∷ b ∷ cells })
long_there memory kind a b [] more value bytes known fits = cc
long_there memory kind a b (h ∷ []) more value bytes known fits = absurd (omega (arith, ap length bytes))
long_there memory kind a b (h ∷ l ∷ cells) more value bytes known fits =
    let high : slice_index memory h ≡ length value / 256 = cc in
    let rest : slice_index memory l ∷ bytes_at memory cells ≡ length value % 256 ∷ value = cc in
    let low : slice_index memory l ≡ length value % 256 = cc in
    let value_is : bytes_at memory cells ≡ value = cc in
    let known_parts = and_parts (ltb h (length memory)) (ltb l (length memory) && is_known memory cells) known in
    let low_parts = and_parts (ltb l (length memory)) (is_known memory cells) known_parts.1 in
    let size : slice_index memory h * 256 + slice_index memory l ≡ length value = omega arith in
    let no_ones : eqb (slice_index memory h * 256 + slice_index memory l) 65535 ≡ false = ne_eqb _ 65535 (λ e. omega arith) in
    let both : is_known memory (h ∷ l ∷ []) ≡ true = rw (known_parts.0, low_parts.0) refl in
    rw (both, no_ones)
    (value_there memory kind true (a ∷ b ∷ h ∷ l ∷ []) cells more value _ value_is low_parts.1 (sym size))

length_there : (memory : List ℕ) (kind a : ℕ) (long : Bool) (cells more value : List ℕ) →
    bytes_at memory cells ≡ length_bytes long (length value) ++ value → is_known memory cells ≡ true → length value < cond long 65535 255 →
    length_next memory kind a (cells ++ more) ≡ Item (record { kind = kind; long = long; value = value; at = a ∷ cells })
length_there memory kind a true [] more value bytes known fits = cc
length_there memory kind a false [] more value bytes known fits = cc
length_there memory kind a true (b ∷ cells) more value bytes known fits =
    let first : slice_index memory b ≡ 255 = cc in
    let rest : bytes_at memory cells ≡ length value / 256 ∷ length value % 256 ∷ value = cc in
    let known_parts = and_parts (ltb b (length memory)) (is_known memory cells) known in
    rw (known_parts.0, first) (long_there memory kind a b cells more value rest known_parts.1 fits)
length_there memory kind a false (b ∷ cells) more value bytes known fits =
    let first : slice_index memory b ≡ length value = cc in
    let rest : bytes_at memory cells ≡ value = cc in
    let known_parts = and_parts (ltb b (length memory)) (is_known memory cells) known in
    let short : eqb (slice_index memory b) 255 ≡ false = ne_eqb (slice_index memory b) 255 (λ e. omega arith) in
    rw (known_parts.0, short) (value_there memory kind false (a ∷ b ∷ []) cells more value (slice_index memory b) rest known_parts.1 (sym first))

next_spelled : (memory : List ℕ) (kind : ℕ) (long : Bool) (value cells more : List ℕ) →
    IsTlv (record { kind = kind; long = long; value = value; at = cells }) →
    is_known memory cells ≡ true → bytes_at memory cells ≡ kind ∷ after_kind kind long value →
    next memory (cells ++ more) ≡ Item (record { kind = kind; long = long; value = value; at = cells })
unfolding next
next_spelled memory kind long value [] more proper known bytes = cc
next_spelled memory zero long value (a ∷ cells) more proper known bytes =
    let first : slice_index memory a ≡ 0 = cc in
    let rest : bytes_at memory cells ≡ [] = cc in
    let none : cells ≡ [] = nil_from_length cells (sym (length-map cells (λ b. slice_index memory b)) ∙ ap length rest) in
    let known_parts = and_parts (ltb a (length memory)) (is_known memory cells) known in
    let short : long ≡ false = (proper.null refl).0 in
    let empty : value ≡ [] = (proper.null refl).1 in
    rw (known_parts.0, first, none, short, empty) refl
next_spelled memory (suc k) long value (a ∷ cells) more proper known bytes =
    let first : slice_index memory a ≡ suc k = cc in
    let rest : bytes_at memory cells ≡ length_bytes long (length value) ++ value = cc in
    let known_parts = and_parts (ltb a (length memory)) (is_known memory cells) known in
    let no_end : eqb (suc k) 254 ≡ false = ne_eqb (suc k) 254 proper.no_end in
    let no_null : eqb (suc k) 0 ≡ false = ne_eqb (suc k) 0 (λ e. omega arith) in
    rw (known_parts.0, first, no_end, no_null) (length_there memory (suc k) a long cells more value rest known_parts.1 proper.fits)

pub next_there : (memory : List ℕ) (t : Tlv) (more : List ℕ) → LiesIn memory t → next memory (t.at ++ more) ≡ Item t
next_there memory t more lies = next_spelled memory t.kind t.long t.value t.at more lies.proper lies.known lies.bytes

-- the front of the free addresses ends just past one of them
pub record IsSplit (r : ℕ → Bool) (at end : ℕ) (front back : List ℕ) (p : ℕ) : Type 0 where
  pub front_is : front ≡ free r at p
  pub back_is : back ≡ free r p end
  pub up : at < p
  pub below : p ≤ end
  pub last : r (p - 1) ≡ false

back_one : (r : ℕ → Bool) (a : ℕ) → r a ≡ false → r (a + 1 - 1) ≡ false
back_one r a e = let same : a + 1 - 1 ≡ a = omega arith in rw same e

split_range : (r : ℕ → Bool) (a n x : ℕ) (front back : List ℕ) → x ∷ (front ++ back) ≡ filter (λ b. not (r b)) (range_with_len a n) →
    (p : ℕ) × IsSplit r a (a + n) (x ∷ front) back p
split_range r a zero x front back is = cc
split_range r a (suc n) x front back is =
    let over : a + 1 + n ≡ a + suc n = omega arith in
    let whole : free r (a + 1) (a + suc n) ≡ filter (λ b. not (r b)) (range_with_len (a + 1) n) =
    (let size : a + suc n - (a + 1) ≡ n = omega arith in rw size refl) in
    elim (cases_Bool (r a)) [
      | inl taken ↦
          (let rest : x ∷ (front ++ back) ≡ filter (λ b. not (r b)) (range_with_len (a + 1) n) = rw taken at is in
          let tail = split_range r (a + 1) n x front back rest in (
            tail.0,
            record {
              front_is = tail.1.front_is ∙ sym (free_split r a (a + 1) tail.0 (omega arith) (omega (arith, tail.1.up))
                  ∙ ap (λ cells. cells ++ free r (a + 1) tail.0) (free_at r a ∙ ap (λ b. cond (not b) (a ∷ []) []) taken));
              back_is = tail.1.back_is ∙ ap (λ e. free r tail.0 e) over;
              up = omega (arith, tail.1.up);
              below = omega (arith, tail.1.below);
              last = tail.1.last;
            },
          ))
      | inr open_cell ↦
          (let here : x ∷ (front ++ back) ≡ a ∷ filter (λ b. not (r b)) (range_with_len (a + 1) n) = rw open_cell at is in
          let first : x ≡ a = cc in
          let rest : front ++ back ≡ filter (λ b. not (r b)) (range_with_len (a + 1) n) = cc in
          let one : free r a (a + 1) ≡ a ∷ [] = free_at r a ∙ ap (λ b. cond (not b) (a ∷ []) []) open_cell in
          after r a n x front back first rest one whole open_cell (λ y ys e. split_range r (a + 1) n y ys back e))
    ]
  where
    after : (r : ℕ → Bool) (a n x : ℕ) (front back : List ℕ) → x ≡ a → front ++ back ≡ filter (λ b. not (r b)) (range_with_len (a + 1) n) →
        free r a (a + 1) ≡ a ∷ [] → free r (a + 1) (a + suc n) ≡ filter (λ b. not (r b)) (range_with_len (a + 1) n) → r a ≡ false →
        ((y : ℕ) (ys : List ℕ) → y ∷ (ys ++ back) ≡ filter (λ b. not (r b)) (range_with_len (a + 1) n) → (p : ℕ) × IsSplit r (a + 1) (a + 1 + n) (y ∷ ys) back p) →
        (p : ℕ) × IsSplit r a (a + suc n) (x ∷ front) back p
    after r a n x [] back first rest one whole open_cell more = (
      a + 1,
      record {
        front_is = ap (λ y. y ∷ []) first ∙ sym one;
        back_is = rest ∙ sym whole;
        up = omega arith;
        below = omega arith;
        last = back_one r a open_cell;
      },
    )
    after r a n x (y ∷ ys) back first rest one whole open_cell more =
        let tail = more y ys rest in
        let over : a + 1 + n ≡ a + suc n = omega arith in (
          tail.0,
          record {
            front_is = ap (λ z. z ∷ y ∷ ys) first ∙ ap (λ cells. a ∷ cells) tail.1.front_is
                ∙ ap (λ cells. cells ++ free r (a + 1) tail.0) (sym one)
                ∙ sym (free_split r a (a + 1) tail.0 (omega arith) (omega (arith, tail.1.up)));
            back_is = tail.1.back_is ∙ ap (λ e. free r tail.0 e) over;
            up = omega (arith, tail.1.up);
            below = omega (arith, tail.1.below);
            last = tail.1.last;
          },
        )

pub split : (r : ℕ → Bool) (at end x : ℕ) (front back : List ℕ) → at ≤ end → x ∷ (front ++ back) ≡ free r at end →
    (p : ℕ) × IsSplit r at end (x ∷ front) back p
split r at end x front back order is =
    let e : at + (end - at) ≡ end = omega arith in
    let found = split_range r at (end - at) x front back is in
    (found.0, subst (λ n. IsSplit r at n (x ∷ front) back found.0) e found.1)

-- one TLV after the other, each reserving for those behind it
abbrev pub Steps : List ℕ → Bool → ℕ → (ℕ → Bool) → ℕ → List Tlv → List ℕ → Type 0
Steps memory control end r at [] rest = rest ≡ free r at end
Steps memory control end r at (t ∷ ts) rest =
    (p : ℕ) × (at < p) × (p ≤ end) × (t.at ≡ free r at p) × (r (p - 1) ≡ false) × LiesIn memory t × (t.kind ≢ 3)
    × Steps memory control end (λ a. r a || (control && reserves t a)) p ts rest

pub nonempty : (memory : List ℕ) (t : Tlv) → LiesIn memory t → (x : ℕ) × (front : List ℕ) × (t.at ≡ x ∷ front)
nonempty memory t lies = first t.at lies.bytes
  where
    first : (cells : List ℕ) → bytes_at memory cells ≡ spelling t → (x : ℕ) × (front : List ℕ) × (cells ≡ x ∷ front)
    first [] e = cc
    first (x ∷ front) e = (x, front, refl)

pub range_above : (r : ℕ → Bool) (p a n : ℕ) → p ≤ a → list_all (λ b. nat_le p b) (filter (λ b. not (r b)) (range_with_len a n)) ≡ true
range_above r p a zero low = refl
range_above r p a (suc n) low =
    let rest = range_above r p (a + 1) n (omega arith) in
    let here : leb p a ≡ true = le-leb p a low in
    elim (r a) as (λ v. list_all (λ b. nat_le p b) (cond (not v) (a ∷ filter (λ b. not (r b)) (range_with_len (a + 1) n)) (filter (λ b. not (r b)) (range_with_len (a + 1) n))) ≡ true)
    [ true ↦ rest | false ↦ rw here rest ]

none_below : (memory : List ℕ) (ts : List Tlv) (p a : ℕ) → a < p → AllByRecursion (LiesIn memory) ts →
    list_all (λ b. nat_le p b) (flat_map (λ t. t.at) ts) ≡ true → list_any (λ t. reserves t a) ts ≡ false
none_below memory [] p a low lie above = refl
none_below memory (t ∷ ts) p a low lie above =
    let parts = and_parts (list_all (λ b. nat_le p b) t.at) (list_all (λ b. nat_le p b) (flat_map (λ u. u.at) ts))
    (sym (list_all-append (λ b. nat_le p b) t.at (flat_map (λ u. u.at) ts)) ∙ above) in
    let some = nonempty memory t lie.0 in
    let first_above : (leb p some.0 && list_all (λ b. nat_le p b) some.1) ≡ true = sym (ap (λ cells. list_all (λ b. nat_le p b) cells) some.2) ∙ parts.0 in
    let head : p ≤ some.0 = leb-true p some.0 (and_parts (leb p some.0) (list_all (λ b. nat_le p b) some.1) first_above).0 in
    let not_before : ltb some.0 a ≡ false = le-ltb some.0 a (omega arith) in
    let own : list_all (λ b. nat_lt b a) t.at ≡ false = ap (λ cells. list_all (λ b. nat_lt b a) cells) some.2 ∙ and_left (ltb some.0 a) (list_all (λ b. nat_lt b a) some.1) not_before in
    let none : reserves t a ≡ false = and_right _ (list_all (λ b. nat_lt b a) t.at) own in
    let rest = none_below memory ts p a low lie.1 parts.1 in
    rw none rest

pub layout_steps : (memory : List ℕ) (control : Bool) (end : ℕ) (r q : ℕ → Bool) (at : ℕ) (ts : List Tlv) (rest : List ℕ) →
    ((a : ℕ) → q a ≡ (r a || reserved_by control ts a)) → flat_map (λ t. t.at) ts ++ rest ≡ free q at end → at ≤ end →
    AllByRecursion (LiesIn memory) ts → AllByRecursion (λ t. t.kind ≢ 3) ts → Steps memory control end r at ts rest
layout_steps memory control end r q at [] rest same cells order lie plain =
    cells ∙ free_agree q r at end (λ a _. same a ∙ none (r a) control)
  where
    none : (b c : Bool) → (b || (c && false)) ≡ b
    none true c = refl
    none false true = refl
    none false false = refl
layout_steps memory control end r q at (t ∷ ts) rest same cells order lie plain =
    let some = nonempty memory t lie.0 in
    let regroup : some.0 ∷ (some.1 ++ (flat_map (λ u. u.at) ts ++ rest)) ≡ free q at end =
    sym (ap (λ c. c ++ (flat_map (λ u. u.at) ts ++ rest)) some.2) ∙ sym (append_assoc t.at (flat_map (λ u. u.at) ts) rest) ∙ cells in
    let parts = split q at end some.0 some.1 (flat_map (λ u. u.at) ts ++ rest) order regroup in
    let p : ℕ = parts.0 in
    let own_cells : t.at ≡ free q at p = some.2 ∙ parts.1.front_is in
    let all_above : list_all (λ b. nat_le p b) (flat_map (λ u. u.at) ts) ≡ true =
    (and_parts (list_all (λ b. nat_le p b) (flat_map (λ u. u.at) ts)) (list_all (λ b. nat_le p b) rest)
    (sym (list_all-append (λ b. nat_le p b) (flat_map (λ u. u.at) ts) rest)
    ∙ ap (λ c. list_all (λ b. nat_le p b) c) parts.1.back_is ∙ range_above q p p (end - p) (omega arith))).0 in
    let agree : (a : ℕ) → a < p → q a ≡ r a = λ a low.
    let own : list_all (λ b. nat_lt b a) t.at ≡ false = ap (λ c. list_all (λ b. nat_lt b a) c) own_cells ∙ free_past q at p a parts.1.up parts.1.last low in
    let none : reserves t a ≡ false = and_right _ (list_all (λ b. nat_lt b a) t.at) own in
    let later = none_below memory ts p a low lie.1 all_above in
    same a ∙ ap (λ b. r a || (control && (b || list_any (λ u. reserves u a) ts))) none
    ∙ ap (λ b. r a || (control && b)) later ∙ nothing (r a) control in (
      p,
      parts.1.up,
      parts.1.below,
      own_cells ∙ free_agree q r at p agree,
      sym (agree (p - 1) (omega (arith, parts.1.up))) ∙ parts.1.last,
      lie.0,
      plain.0,
      layout_steps memory control end (λ a. r a || (control && reserves t a)) q p ts rest
          (λ a. same a ∙ regroup_or (r a) control (reserves t a) (list_any (λ u. reserves u a) ts))
          parts.1.back_is parts.1.below lie.1 plain.1,
    )
  where
    nothing : (b c : Bool) → (b || (c && false)) ≡ b
    nothing true c = refl
    nothing false true = refl
    nothing false false = refl

    regroup_or : (b c x y : Bool) → (b || (c && (x || y))) ≡ ((b || (c && x)) || (c && y))
    regroup_or true c x y = refl
    regroup_or false false x y = refl
    regroup_or false true x y = refl

-- where a TLV that is no message lies, the walk doesn't stop
goes_on : (memory : List ℕ) (t : Tlv) (more : List ℕ) → LiesIn memory t → t.kind ≢ 3 → Stops (next memory (t.at ++ more)) → ⊥
goes_on memory t more lies plain stops =
    let is : next memory (t.at ++ more) ≡ Item t = next_there memory t more lies in
    plain (subst Stops is stops)

pub same_past : (r : ℕ → Bool) (at p q : ℕ) → at < p → at < q → r (p - 1) ≡ false → r (q - 1) ≡ false → free r at p ≡ free r at q → p ≡ q
same_past r at p q up_p up_q open_p open_q same = elim (cases_order p q) [
  | inl e ↦ e
  | inr o ↦ elim o [
    | inl l ↦ absurd (longer r at p q up_p l open_q same)
    | inr g ↦ absurd (longer r at q p up_q g open_p (sym same))
  ]
]
  where
    longer : (r : ℕ → Bool) (at p q : ℕ) → at < p → p < q → r (q - 1) ≡ false → free r at p ≡ free r at q → ⊥
    longer r at p q up l open_cell same =
        let rest = free_last r p q l open_cell in
        let sizes : length (free r at q) ≡ length (free r at p) + length (free r p q) =
        ap length (free_split r at p q (omega arith) (omega arith)) ∙ length-append (free r at p) (free r p q) in
        let more : length (free r p q) ≡ length (free r p (q - 1)) + 1 = ap length rest ∙ length-append (free r p (q - 1)) ((q - 1) ∷ []) in
        omega (arith, sizes, more, ap length same)

steps_same : (memory : List ℕ) (control : Bool) (end : ℕ) (r : ℕ → Bool) (at : ℕ) (ts us : List Tlv) (rest rest' : List ℕ) →
    Steps memory control end r at ts rest → Steps memory control end r at us rest' →
    Stops (next memory rest) → Stops (next memory rest') → (ts ≡ us) × (rest ≡ rest')
steps_same memory control end r at [] [] rest rest' one two stop stop' = (refl, one ∙ sym two)
steps_same memory control end r at [] (u ∷ us) rest rest' one two stop stop' =
    let p : ℕ = two.0 in
    let order : at ≤ p = omega (arith, two.1) in
    let all_of : rest ≡ u.at ++ free r p end = one ∙ free_split r at p end order two.2 ∙ ap (λ c. c ++ free r p end) (sym two.3) in
    absurd (goes_on memory u (free r p end) two.5 two.6 (subst (λ c. Stops (next memory c)) all_of stop))
steps_same memory control end r at (t ∷ ts) [] rest rest' one two stop stop' =
    let p : ℕ = one.0 in
    let order : at ≤ p = omega (arith, one.1) in
    let all_of : rest' ≡ t.at ++ free r p end = two ∙ free_split r at p end order one.2 ∙ ap (λ c. c ++ free r p end) (sym one.3) in
    absurd (goes_on memory t (free r p end) one.5 one.6 (subst (λ c. Stops (next memory c)) all_of stop'))
steps_same memory control end r at (t ∷ ts) (u ∷ us) rest rest' one two stop stop' =
    let p : ℕ = one.0 in
    let q : ℕ = two.0 in
    let order_p : at ≤ p = omega (arith, one.1) in
    let order_q : at ≤ q = omega (arith, two.1) in
    let ahead_t : next memory (free r at end) ≡ Item t =
    ap (λ c. next memory c) (free_split r at p end order_p one.2 ∙ ap (λ c. c ++ free r p end) (sym one.3)) ∙ next_there memory t (free r p end) one.5 in
    let ahead_u : next memory (free r at end) ≡ Item u =
    ap (λ c. next memory c) (free_split r at q end order_q two.2 ∙ ap (λ c. c ++ free r q end) (sym two.3)) ∙ next_there memory u (free r q end) two.5 in
    let same : t ≡ u = item_same t u (sym ahead_t ∙ ahead_u) in
    let same_p : p ≡ q = same_past r at p q one.1 two.1 one.4 two.4 (sym one.3 ∙ ap (λ v. v.at) same ∙ two.3) in
    let moved : Steps memory control end (λ a. r a || (control && reserves t a)) p us rest' =
    subst (λ v. Steps memory control end (λ a. r a || (control && reserves v a)) p us rest') (sym same)
    (subst (λ n. Steps memory control end (λ a. r a || (control && reserves u a)) n us rest') (sym same_p) two.7) in
    let both = steps_same memory control end (λ a. r a || (control && reserves t a)) p ts us rest rest' one.7 moved stop stop' in
    (ap (λ v. v ∷ ts) same ∙ ap (λ vs. u ∷ vs) both.0, both.1)
  where
    item_same : (u t : Tlv) → Item u ≡ Item t → u ≡ t
    item_same u t e = cc

pub one_layout : (space : Space) (memory : List ℕ) → space.start ≤ space.end → OneLayout space memory
one_layout space memory order ts us rest rest' first stop second stop' =
    steps_same memory space.control space.end (λ _. false) space.start ts us rest rest'
    (layout_steps memory space.control space.end (λ _. false) (reserved_by space.control ts) space.start ts rest (λ a. refl) first.addresses order first.lie first.plain)
    (layout_steps memory space.control space.end (λ _. false) (reserved_by space.control us) space.start us rest' (λ a. refl) second.addresses order second.lie second.plain)
    stop stop'
