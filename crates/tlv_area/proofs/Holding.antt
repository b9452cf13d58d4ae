-- A written tail is a message.
use Rattle.std.proofs.Common.{◌≡◌, ℕ, ◌+◌, ◌-◌, ◌<◌, ◌≤◌, Bool, true, false, cond, List, [], ◌∷◌, ◌++◌, length, refl, sym, ◌∙◌, ap, arith, subst, ltb, leb, eqb, take, drop, inl, inr}
use Rattle.std.specs.Prelude.{◌||◌, ◌==◌, nat_lt, nat_le, slice_index}
use Rattle.std.specs.List.{list_all, flat_map, AllByRecursion}
use Rattle.std.proofs.lemmas.List.{append_assoc, take-append-drop}
use Rattle.std.proofs.lemmas.List.Folds.{list_all-append, list_any-append}
use Rattle.std.proofs.lemmas.Bool.{ltb-true, ltb-false, leb-true, and_parts, cases_Bool, eqb-true, ne_eqb, eq-eqb}
use Rattle.tlv_area.specs.declared.space.AreaMap.{AreaMap}
use Rattle.tlv_area.specs.Form.{Holds}
use Rattle.tlv_area.specs.Writing.{SameOutside}
use Rattle.tlv_area.specs.Layout.{free, is_known, bytes_at, Tlv, LiesIn, Layout, spelling}
use Rattle.tlv_area.specs.Map.{in_ranges, IsMap, map_cells}
use Rattle.tlv_area.specs.Tail.{map_tail, is_long, new_tail}
use Rattle.tlv_area.specs.Writing.{is_in}
use Rattle.tlv_area.proofs.Steps.{free_below}
use Rattle.tlv_area.proofs.Places.{map_parts, drop_past}
use Rattle.tlv_area.proofs.OneForm.{split, range_above}

-- bytes that stay at each of some addresses are the same bytes
pub all_bytes_same : (old new cells : List ℕ) → ((a : ℕ) → is_in cells a ≡ true → slice_index new a ≡ slice_index old a) → bytes_at new cells ≡ bytes_at old cells
all_bytes_same old new [] same = refl
all_bytes_same old new (a ∷ cells) same =
    let here : is_in (a ∷ cells) a ≡ true = rw (eq-eqb a a refl) refl in
    let rest = all_bytes_same old new cells (λ b e. same b (or_right (eqb a b) (is_in cells b) e)) in
    rw (same a here, rest) refl
  where
    or_right : (x y : Bool) → y ≡ true → (x || y) ≡ true
    or_right true y e = refl
    or_right false y e = e

-- an element of a list of numbers from p on isn't below p
pub in_above : (cells : List ℕ) (p a : ℕ) → list_all (λ b. nat_le p b) cells ≡ true → a < p → is_in cells a ≡ false
in_above [] p a above low = refl
in_above (b ∷ cells) p a above low =
    let parts = and_parts (leb p b) (list_all (λ x. nat_le p x) cells) above in
    let large : p ≤ b = leb-true p b parts.0 in
    let other : eqb b a ≡ false = ne_eqb b a (λ e. omega arith) in
    rw other (in_above cells p a parts.1 low)

-- an element of a list of numbers below p is below p
pub in_below : (cells : List ℕ) (p a : ℕ) → list_all (λ b. nat_lt b p) cells ≡ true → is_in cells a ≡ true → a < p
in_below [] p a below there = cc
in_below (b ∷ cells) p a below there =
    let parts = and_parts (ltb b p) (list_all (λ x. nat_lt x p) cells) below in
    elim (cases_Bool (eqb b a)) [
      | inl e ↦ (let same : b ≡ a = eqb-true b a e in let small : b < p = ltb-true b p parts.0 in omega arith)
      | inr e ↦ (let rest : is_in cells a ≡ true = rw e at there in in_below cells p a parts.1 rest)
    ]

-- of free addresses, those in front aren't behind
pub apart : (r : ℕ → Bool) (at end : ℕ) (front back : List ℕ) → at ≤ end → front ++ back ≡ free r at end →
    (a : ℕ) → is_in front a ≡ true → is_in back a ≡ false
apart r at end [] back order is a there = cc
apart r at end (x ∷ front) back order is a there =
    let parts = split r at end x front back order is in
    let p : ℕ = parts.0 in
    let below : list_all (λ b. nat_lt b p) (x ∷ front) ≡ true =
    ap (λ cells. list_all (λ b. nat_lt b p) cells) parts.1.front_is ∙ free_below r at p p (omega (arith, parts.1.up)) (omega arith) in
    let above : list_all (λ b. nat_le p b) back ≡ true =
    ap (λ cells. list_all (λ b. nat_le p b) cells) parts.1.back_is ∙ range_above r p p (end - p) (omega arith) in
    in_above back p a above (in_below (x ∷ front) p a below there)

-- a TLV's first byte is its kind
pub first_kind : (memory : List ℕ) (t : Tlv) → LiesIn memory t → (x : ℕ) × (tail : List ℕ) × (t.at ≡ x ∷ tail) × (slice_index memory x ≡ t.kind)
first_kind memory t lies = first t.at lies.bytes
  where
    first : (cells : List ℕ) → bytes_at memory cells ≡ spelling t → (x : ℕ) × (tail : List ℕ) × (cells ≡ x ∷ tail) × (slice_index memory x ≡ t.kind)
    first [] e = cc
    first (x ∷ tail) e = (x, tail, refl, (cc))

-- TLVs stay where their bytes do
lie_kept : (old new : List ℕ) (ts : List Tlv) → length new ≡ length old →
    ((a : ℕ) → is_in (flat_map (λ t. t.at) ts) a ≡ true → slice_index new a ≡ slice_index old a) →
    AllByRecursion (LiesIn old) ts → AllByRecursion (LiesIn new) ts
lie_kept old new [] size same lie = tt
lie_kept old new (t ∷ ts) size same lie =
    let here : (a : ℕ) → is_in t.at a ≡ true → slice_index new a ≡ slice_index old a = λ a e.
    same a (list_any-append (λ b. b == a) t.at (flat_map (λ u. u.at) ts) ∙ ap (λ v. v || is_in (flat_map (λ u. u.at) ts) a) e) in
    let there : (a : ℕ) → is_in (flat_map (λ u. u.at) ts) a ≡ true → slice_index new a ≡ slice_index old a = λ a e.
    same a (list_any-append (λ b. b == a) t.at (flat_map (λ u. u.at) ts) ∙ ap (λ v. is_in t.at a || v) e ∙ or_true (is_in t.at a)) in (
      record {
        proper = lie.0.proper;
        known = ap (λ n. list_all (λ a. nat_lt a n) t.at) size ∙ lie.0.known;
        bytes = all_bytes_same old new t.at here ∙ lie.0.bytes;
      },
      lie_kept old new ts size there lie.1,
    )
  where
    or_true : (x : Bool) → (x || true) ≡ true
    or_true true = refl
    or_true false = refl

-- a store with the map's layout but for the tail of the message's TLV, which is that of a message, holds it
pub tail_holds : (m : AreaMap) (old new message : List ℕ) (ts : List Tlv) (t : Tlv) (after : List ℕ) →
    m.space.start ≤ m.space.end → m.space.end ≤ length old → IsMap old m ts t after →
    SameOutside (map_tail m) old new → length message < 65535 →
    length (new_tail message) ≤ length (map_tail m) →
    bytes_at new (take (length (new_tail message)) (map_tail m)) ≡ new_tail message →
    Holds m.space new message
tail_holds m old new message ts t after order within is same small fits bytes =
    let first = first_kind old t is.lies in
    let x : ℕ = first.0 in
    let tail : List ℕ = first.1 ++ after in
    let rest_is : t.at ++ after ≡ x ∷ tail = ap (λ c. c ++ after) first.2 in
    let joined : List ℕ = flat_map (λ u. u.at) ts in
    let cells : joined ++ x ∷ tail ≡ map_cells m = ap (λ c. joined ++ c) (sym rest_is) ∙ map_parts m old ts t after is in
    let tail_is : map_tail m ≡ tail = ap (λ c. drop (m.tlv + 1) c) (sym cells) ∙ drop_past joined x tail m.tlv is.place in
    let regrouped : (joined ++ x ∷ []) ++ tail ≡ map_cells m = append_assoc joined (x ∷ []) tail ∙ cells in
    let away : (a : ℕ) → is_in (joined ++ x ∷ []) a ≡ true → slice_index new a ≡ slice_index old a = λ a e.
    same.same a (ap (λ c. is_in c a) tail_is ∙ apart (in_ranges m.reserved.items) m.space.start m.space.end (joined ++ x ∷ []) tail order regrouped a e) in
    let away_joined : (a : ℕ) → is_in joined a ≡ true → slice_index new a ≡ slice_index old a = λ a e.
    away a (list_any-append (λ b. b == a) joined (x ∷ []) ∙ ap (λ v. v || is_in (x ∷ []) a) e) in
    let x_in : is_in (joined ++ x ∷ []) x ≡ true = list_any-append (λ b. b == x) joined (x ∷ []) ∙ ap (λ v. is_in joined x || (v || false)) (eq-eqb x x refl) ∙ or_true (is_in joined x) in
    let kind : slice_index new x ≡ 3 = away x x_in ∙ first.3 ∙ is.message in
    let k : ℕ = length (new_tail message) in
    let whole_known : list_all (λ a. nat_lt a (length new)) (joined ++ x ∷ tail) ≡ true =
    ap (λ c. list_all (λ a. nat_lt a (length new)) c) cells ∙ free_below (in_ranges m.reserved.items) m.space.start m.space.end (length new) order (omega (arith, same.size)) in
    let rest_known = and_parts (list_all (λ a. nat_lt a (length new)) joined) (list_all (λ a. nat_lt a (length new)) (x ∷ tail))
    (sym (list_all-append (λ a. nat_lt a (length new)) joined (x ∷ tail)) ∙ whole_known) in
    let x_known = and_parts (ltb x (length new)) (list_all (λ a. nat_lt a (length new)) tail) rest_known.1 in
    let front_known = and_parts (is_known new (take k tail)) (is_known new (drop k tail))
    (sym (list_all-append (λ a. nat_lt a (length new)) (take k tail) (drop k tail))
    ∙ ap (λ c. is_known new c) (take-append-drop k tail) ∙ x_known.1) in
    let u : Tlv = record { kind = 3; long = is_long message; value = message; at = x ∷ take k tail } in
    let lies : LiesIn new u = record {
      proper = record { no_end = λ e. absurd (omega arith); fits = form_fits message small; null = λ e. absurd (omega arith) };
      known = rw x_known.0 front_known.0;
      bytes = ap (λ b. b ∷ bytes_at new (take k tail)) kind ∙ ap (λ bs. 3 ∷ bs) (ap (λ c. bytes_at new (take k c)) (sym tail_is) ∙ bytes);
    } in
    let rest_split : t.at ++ after ≡ u.at ++ drop k tail = rest_is ∙ ap (λ c. x ∷ c) (sym (take-append-drop k tail)) in
    let layout : Layout m.space new ts (t.at ++ after) = record { addresses = is.layout.addresses; lie = lie_kept old new ts same.size away_joined is.layout.lie; plain = is.layout.plain } in
    (ts, u, drop k tail, subst (λ c. Layout m.space new ts c) rest_split layout, lies, refl, refl)
  where
    or_true : (x : Bool) → (x || true) ≡ true
    or_true true = refl
    or_true false = refl

    form_fits : (message : List ℕ) → length message < 65535 → length message < cond (is_long message) 65535 255
    form_fits message small = elim (cases_Bool (ltb 254 (length message))) [
      | inl e ↦ rw e small
      | inr e ↦ (let short : length message ≤ 254 = ltb-false 254 (length message) e in rw e (omega arith))
    ]
