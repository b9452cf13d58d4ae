-- An area cut at the memory's end.
use Rattle.std.proofs.Common.{◌≡◌, ℕ, suc, zero, ◌+◌, ◌-◌, ◌*◌, ◌<◌, ◌≤◌, Bool, true, false, List, [], ◌∷◌, ◌++◌, length, refl, sym, ◌∙◌, ap, arith, subst, ltb, leb, eqb, take, inl, inr, ◌⊎◌, drop}
use Rattle.std.proofs.Common.{min}
use Rattle.std.specs.Prelude.{◌&&◌, nat_lt, nat_le, slice_index}
use Rattle.std.specs.List.{list_all, flat_map, AllByRecursion}
use Rattle.std.proofs.lemmas.List.{length-append, take-append-le, append_assoc, take-append-drop}
use Rattle.std.proofs.lemmas.List.Folds.{list_all-append}
use Rattle.std.proofs.lemmas.Bool.{lt-ltb, le-ltb, leb-true, ltb-true, ltb-false, and_parts, and_left, and_right, cases_Bool, cases_lt}
use Rattle.tlv_area.specs.Layout.{free, is_known, Tlv, LiesIn, Layout, reserved_by, bytes_at}
use Rattle.tlv_area.specs.Form.{next, length_next, long_next, value_next, Next, End, Fault, Unknown, Item, Comes, Message, NoMessageTlv, BadTlv, Form, IsForm}
use Rattle.tlv_area.specs.Map.{IsWalk, IsSettled, TellsForm, HasPlaces, message_cells}
use Rattle.tlv_area.specs.Stores.{cut}
use Rattle.tlv_area.proofs.Free.{free_split}
use Rattle.tlv_area.proofs.Steps.{free_last}
use Rattle.tlv_area.proofs.Places.{message_there, message_placed}
use Rattle.tlv_area.proofs.Steps.{free_below}
use Rattle.tlv_area.specs.declared.walk.Walk.{Walk}
use Rattle.tlv_area.specs.declared.space.Space.{Space}
use Rattle.tlv_area.specs.declared.walk.Walk.TheVariants as walk
use Rattle.tlv_area.proofs.OneForm.{split, range_above}

-- the area with another end
abbrev ended : Space → ℕ → Space
ended space end = record space { end = end }

-- each of these addresses is past the memory
abbrev Beyond : List ℕ → List ℕ → Type 0
Beyond memory back = list_all (λ b. nat_le (length memory) b) back ≡ true

module _ (memory back : List ℕ) (beyond : Beyond memory back) where
  unknown_head : (x : ℕ) (xs : List ℕ) → back ≡ x ∷ xs → ltb x (length memory) ≡ false
  unknown_head x xs is = let parts = and_parts (leb (length memory) x) (list_all (λ b. nat_le (length memory) b) xs) (sym (ap (λ c. list_all (λ b. nat_le (length memory) b) c) is) ∙ beyond) in
      le-ltb x (length memory) (leb-true (length memory) x parts.0)

  -- more than the front has, taken: an address past the memory is among it
  taken_unknown : (n : ℕ) (front : List ℕ) → length front < n → n ≤ length (front ++ back) → is_known memory (take n (front ++ back)) ≡ false
  taken_unknown zero front short enough = absurd (omega arith)
  taken_unknown (suc n) [] short enough = head_unknown back refl enough
    where
      head_unknown : (cells : List ℕ) → back ≡ cells → suc n ≤ length cells → is_known memory (take (suc n) cells) ≡ false
      head_unknown [] is large = absurd (omega arith)
      head_unknown (x ∷ xs) is large = and_left (ltb x (length memory)) (is_known memory (take n xs)) (unknown_head x xs is)
  taken_unknown (suc n) (x ∷ front) short enough =
      and_right (ltb x (length memory)) (is_known memory (take n (front ++ back))) (taken_unknown n front (omega arith) (omega arith))

  value_cut : (kind : ℕ) (long : Bool) (header : List ℕ) (n : ℕ) (front : List ℕ) →
      (value_next memory kind long header n (front ++ back) ≡ Unknown)
      ⊎ (value_next memory kind long header n front ≡ value_next memory kind long header n (front ++ back))
  value_cut kind long header n front = elim (cases_Bool (ltb (length (front ++ back)) n)) [
    | inl short ↦
        (let all_short : length (front ++ back) < n = ltb-true (length (front ++ back)) n short in
        let front_short : ltb (length front) n ≡ true = lt-ltb (length front) n (omega (arith, length-append front back)) in
        inr (rw (short, front_short) refl))
    | inr enough ↦ elim (cases_lt (length front) n) [
      | inl less ↦
          (let unknown : is_known memory (take n (front ++ back)) ≡ false = taken_unknown n front less (ltb-false (length (front ++ back)) n enough) in
          inl (rw (enough, unknown) refl))
      | inr more ↦
          (let front_enough : ltb (length front) n ≡ false = le-ltb (length front) n more in
          let same : take n (front ++ back) ≡ take n front = take-append-le n front back more in
          inr (rw (enough, front_enough, same) refl))
    ]
  ]

  -- the back alone
  long_back : (kind a b : ℕ) (cells : List ℕ) → back ≡ cells → (long_next memory kind a b cells ≡ Unknown) ⊎ (Fault ≡ long_next memory kind a b cells)
  long_back kind a b [] is = inr refl
  long_back kind a b (h ∷ []) is = inr refl
  long_back kind a b (h ∷ l ∷ cells) is =
      let no : is_known memory (h ∷ l ∷ []) ≡ false = and_left (ltb h (length memory)) (ltb l (length memory) && true) (unknown_head h (l ∷ cells) is) in
      inl (rw no refl)

  long_cut : (kind a b : ℕ) (front : List ℕ) →
      (long_next memory kind a b (front ++ back) ≡ Unknown) ⊎ (long_next memory kind a b front ≡ long_next memory kind a b (front ++ back))
  long_cut kind a b [] = long_back kind a b back refl
  long_cut kind a b (h ∷ []) = one back refl
    where
      one : (cells : List ℕ) → back ≡ cells → (long_next memory kind a b (h ∷ cells) ≡ Unknown) ⊎ (Fault ≡ long_next memory kind a b (h ∷ cells))
      one [] is = inr refl
      one (l ∷ cells) is =
          let low : (ltb l (length memory) && true) ≡ false = and_left (ltb l (length memory)) true (unknown_head l cells is) in
          let no : is_known memory (h ∷ l ∷ []) ≡ false = and_right (ltb h (length memory)) (ltb l (length memory) && true) low in
          inl (rw no refl)
  long_cut kind a b (h ∷ l ∷ front) = elim (cases_Bool (is_known memory (h ∷ l ∷ []))) [
    | inr unknown ↦ inl (rw unknown refl)
    | inl known ↦ elim (cases_Bool (eqb (slice_index memory h * 256 + slice_index memory l) 65535)) [
      | inl ones ↦ inr (rw (known, ones) refl)
      | inr other ↦ elim (value_cut kind true (a ∷ b ∷ h ∷ l ∷ []) (slice_index memory h * 256 + slice_index memory l) front) [
        | inl u ↦ inl (rw (known, other) u)
        | inr s ↦ inr (rw (known, other) s)
      ]
    ]
  ]

  length_cut : (kind a : ℕ) (front : List ℕ) →
      (length_next memory kind a (front ++ back) ≡ Unknown) ⊎ (length_next memory kind a front ≡ length_next memory kind a (front ++ back))
  length_cut kind a [] = none back refl
    where
      none : (cells : List ℕ) → back ≡ cells → (length_next memory kind a cells ≡ Unknown) ⊎ (Fault ≡ length_next memory kind a cells)
      none [] is = inr refl
      none (b ∷ cells) is = inl (rw (unknown_head b cells is) refl)
  length_cut kind a (b ∷ front) = elim (cases_Bool (ltb b (length memory))) [
    | inr unknown ↦ inl (rw unknown refl)
    | inl known ↦ elim (cases_Bool (eqb (slice_index memory b) 255)) [
      | inl is_long ↦ elim (long_cut kind a b front) [ inl u ↦ inl (rw (known, is_long) u) | inr s ↦ inr (rw (known, is_long) s) ]
      | inr short ↦ elim (value_cut kind false (a ∷ b ∷ []) (slice_index memory b) front) [
        | inl u ↦ inl (rw (known, short) u)
        | inr s ↦ inr (rw (known, short) s)
      ]
    ]
  ]

  pub next_cut : (front : List ℕ) → (next memory (front ++ back) ≡ Unknown) ⊎ (next memory front ≡ next memory (front ++ back))
  unfolding next
  next_cut [] = none back refl
    where
      none : (cells : List ℕ) → back ≡ cells → (next memory cells ≡ Unknown) ⊎ (End ≡ next memory cells)
      none [] is = inr refl
      none (b ∷ cells) is = inl (rw (unknown_head b cells is) refl)
  next_cut (a ∷ front) = elim (cases_Bool (ltb a (length memory))) [
    | inr unknown ↦ inl (rw unknown refl)
    | inl known ↦ elim (cases_Bool (eqb (slice_index memory a) 254)) [
      | inl ends ↦ inr (rw (known, ends) refl)
      | inr no_end ↦ elim (cases_Bool (eqb (slice_index memory a) 0)) [
        | inl null ↦ inr (rw (known, no_end, null) refl)
        | inr no_null ↦ elim (length_cut (slice_index memory a) a front) [
          | inl u ↦ inl (rw (known, no_end, no_null) u)
          | inr s ↦ inr (rw (known, no_end, no_null) s)
        ]
      ]
    ]
  ]

all_known : (memory : List ℕ) (ts : List Tlv) → AllByRecursion (LiesIn memory) ts → is_known memory (flat_map (λ t. t.at) ts) ≡ true
all_known memory [] lie = refl
all_known memory (t ∷ ts) lie =
    list_all-append (λ a. nat_lt a (length memory)) t.at (flat_map (λ u. u.at) ts)
    ∙ ap (λ b. b && is_known memory (flat_map (λ u. u.at) ts)) lie.0.known ∙ all_known memory ts lie.1

cells_cut : (memory : List ℕ) (r : ℕ → Bool) (start end : ℕ) (front rest : List ℕ) → start ≤ length memory → length memory ≤ end →
    front ++ rest ≡ free r start end → is_known memory front ≡ true →
    (near : List ℕ) × (rest ≡ near ++ free r (length memory) end) × (front ++ near ≡ free r start (length memory))
cells_cut memory r start end [] rest low high is known =
    (free r start (length memory), is ∙ free_split r start (length memory) end low high, refl)
cells_cut memory r start end (x ∷ front) rest low high is known =
    let parts = split r start end x front rest (omega arith) is in
    let p : ℕ = parts.0 in
    let last = free_last r start p parts.1.up parts.1.last in
    let whole : x ∷ front ≡ free r start (p - 1) ++ (p - 1) ∷ [] = parts.1.front_is ∙ last in
    let known_parts = and_parts (is_known memory (free r start (p - 1))) (is_known memory ((p - 1) ∷ []))
    (sym (list_all-append (λ a. nat_lt a (length memory)) (free r start (p - 1)) ((p - 1) ∷ [])) ∙ sym (ap (λ c. is_known memory c) whole) ∙ known) in
    let last_known = and_parts (ltb (p - 1) (length memory)) true known_parts.1 in
    let below : p ≤ length memory = omega (arith, ltb-true (p - 1) (length memory) last_known.0) in
    let order : start ≤ p = omega (arith, parts.1.up) in (
      free r p (length memory),
      parts.1.back_is ∙ free_split r p (length memory) end below high,
      ap (λ c. c ++ free r p (length memory)) parts.1.front_is ∙ sym (free_split r start p (length memory) order below),
    )

layout_cut : (space : Space) (memory : List ℕ) (ts : List Tlv) (rest : List ℕ) → space.start ≤ length memory → length memory ≤ space.end →
    Layout space memory ts rest →
    (near : List ℕ) × (back : List ℕ) × Beyond memory back × (rest ≡ near ++ back) × Layout (ended space (length memory)) memory ts near
layout_cut space memory ts rest low high layout =
    let r : ℕ → Bool = reserved_by space.control ts in
    let parts = cells_cut memory r space.start space.end (flat_map (λ t. t.at) ts) rest low high layout.addresses (all_known memory ts layout.lie) in (
      parts.0,
      free r (length memory) space.end,
      range_above r (length memory) (length memory) (space.end - length memory) (omega arith),
      parts.1,
      record { addresses = parts.2; lie = layout.lie; plain = layout.plain },
    )

comes_cut : (space : Space) (memory : List ℕ) (what : Next) → space.start ≤ length memory → length memory ≤ space.end → (what ≡ Unknown → ⊥) →
    Comes space memory what → Comes (ended space (length memory)) memory what
comes_cut space memory what low high settled is =
    let parts = layout_cut space memory is.0 is.1 low high is.2 in
    let at : next memory (parts.0 ++ parts.1) ≡ what = ap (λ c. next memory c) (sym parts.3) ∙ is.3 in (
      is.0,
      parts.0,
      parts.4,
      elim (next_cut memory parts.1 parts.2 parts.0) [
        | inl u ↦ absurd (settled (sym at ∙ u))
        | inr s ↦ s ∙ at
      ],
    )

-- the message's own addresses are known, so it lies before the cut
held_cut : (space : Space) (memory : List ℕ) (ts : List Tlv) (t : Tlv) (after : List ℕ) → space.start ≤ length memory → length memory ≤ space.end →
    Layout space memory ts (t.at ++ after) → LiesIn memory t →
    (near : List ℕ) × Layout (ended space (length memory)) memory ts (t.at ++ near)
held_cut space memory ts t after low high layout lies =
    let r : ℕ → Bool = reserved_by space.control ts in
    let joined : List ℕ = flat_map (λ u. u.at) ts in
    let known : is_known memory (joined ++ t.at) ≡ true = list_all-append (λ a. nat_lt a (length memory)) joined t.at
    ∙ ap (λ b. b && is_known memory t.at) (all_known memory ts layout.lie) ∙ lies.known in
    let parts = cells_cut memory r space.start space.end (joined ++ t.at) after low high (append_assoc joined t.at after ∙ layout.addresses) known in
    (parts.0, record { addresses = sym (append_assoc joined t.at parts.0) ∙ parts.2; lie = layout.lie; plain = layout.plain })

-- what is settled of a memory that ends before the area is so of the area that ends there
cuts_before : (space : Space) (memory : List ℕ) (result : Walk) → space.start ≤ length memory → length memory ≤ space.end →
    IsSettled result → IsWalk space memory result → TellsForm (ended space (length memory)) memory result
cuts_before space memory (walk.Held m) low high settled is =
    let layout : Layout space memory is.1 ((is.2).at ++ is.3) = subst (λ s. Layout s memory is.1 ((is.2).at ++ is.3)) is.0 is.4.layout in
    let parts = held_cut space memory is.1 is.2 is.3 low high layout is.4.lies in
    (is.1, is.2, parts.0, parts.1, is.4.lies, is.4.message, sym (message_there m memory is.1 is.2 is.3 is.4))
cuts_before space memory walk.NoMessageTlv low high settled is = comes_cut space memory End low high (λ e. cc) is
cuts_before space memory walk.BadTlv low high settled is = comes_cut space memory Fault low high (λ e. cc) is
cuts_before space memory walk.More low high settled is = absurd settled

known_take : (memory : List ℕ) (n : ℕ) (cells : List ℕ) → is_known memory cells ≡ true → is_known memory (take n cells) ≡ true
known_take memory n cells known = (and_parts (is_known memory (take n cells)) (is_known memory (drop n cells))
    (sym (list_all-append (λ a. nat_lt a (length memory)) (take n cells) (drop n cells)) ∙ ap (λ c. is_known memory c) (take-append-drop n cells) ∙ known)).0

value_told : (memory : List ℕ) (kind : ℕ) (long : Bool) (header : List ℕ) (n : ℕ) (cells : List ℕ) → is_known memory cells ≡ true →
    value_next memory kind long header n cells ≡ Unknown → ⊥
value_told memory kind long header n cells known is = elim (cases_Bool (ltb (length cells) n)) [
  | inl short ↦ (let clash : Fault ≡ Unknown = rw short at is in cc)
  | inr enough ↦
      (let u : Tlv = record { kind = kind; long = long; value = bytes_at memory (take n cells); at = header ++ take n cells } in
      let clash : Item u ≡ Unknown = rw (enough, known_take memory n cells known) at is in cc)
]

long_told : (memory : List ℕ) (kind a b : ℕ) (cells : List ℕ) → is_known memory cells ≡ true → long_next memory kind a b cells ≡ Unknown → ⊥
long_told memory kind a b [] known is = cc
long_told memory kind a b (h ∷ []) known is = cc
long_told memory kind a b (h ∷ l ∷ cells) known is =
    let parts = and_parts (ltb h (length memory)) (is_known memory (l ∷ cells)) known in
    let low = and_parts (ltb l (length memory)) (is_known memory cells) parts.1 in
    elim (cases_Bool (eqb (slice_index memory h * 256 + slice_index memory l) 65535)) [
      | inl ones ↦ (let clash : Fault ≡ Unknown = rw (parts.0, low.0, ones) at is in cc)
      | inr other ↦ value_told memory kind true (a ∷ b ∷ h ∷ l ∷ []) (slice_index memory h * 256 + slice_index memory l) cells low.1 (rw (parts.0, low.0, other) at is)
    ]

length_told : (memory : List ℕ) (kind a : ℕ) (cells : List ℕ) → is_known memory cells ≡ true → length_next memory kind a cells ≡ Unknown → ⊥
length_told memory kind a [] known is = cc
length_told memory kind a (b ∷ cells) known is =
    let parts = and_parts (ltb b (length memory)) (is_known memory cells) known in
    elim (cases_Bool (eqb (slice_index memory b) 255)) [
      | inl is_long ↦ long_told memory kind a b cells parts.1 (rw (parts.0, is_long) at is)
      | inr short ↦ value_told memory kind false (a ∷ b ∷ []) (slice_index memory b) cells parts.1 (rw (parts.0, short) at is)
    ]

next_told : (memory cells : List ℕ) → is_known memory cells ≡ true → next memory cells ≡ Unknown → ⊥
unfolding next
next_told memory [] known is = cc
next_told memory (a ∷ cells) known is =
    let parts = and_parts (ltb a (length memory)) (is_known memory cells) known in
    elim (cases_Bool (eqb (slice_index memory a) 254)) [
      | inl ends ↦ (let clash : End ≡ Unknown = rw (parts.0, ends) at is in cc)
      | inr no_end ↦ elim (cases_Bool (eqb (slice_index memory a) 0)) [
        | inl null ↦ (let clash : Item (record { kind = 0; long = false; value = []; at = a ∷ [] }) ≡ Unknown = rw (parts.0, no_end, null) at is in cc)
        | inr no_null ↦ length_told memory (slice_index memory a) a cells parts.1 (rw (parts.0, no_end, no_null) at is)
      ]
    ]

-- in an area that lies whole in the memory nothing is unknown
pub none_unknown : (space : Space) (memory : List ℕ) → space.start ≤ space.end → space.end ≤ length memory → Comes space memory Unknown → ⊥
none_unknown space memory order within is =
    let r : ℕ → Bool = reserved_by space.control is.0 in
    let known : is_known memory (flat_map (λ t. t.at) is.0 ++ is.1) ≡ true =
    ap (λ c. is_known memory c) is.2.addresses ∙ free_below r space.start space.end (length memory) order within in
    let rest = and_parts (is_known memory (flat_map (λ t. t.at) is.0)) (is_known memory is.1)
    (sym (list_all-append (λ a. nat_lt a (length memory)) (flat_map (λ t. t.at) is.0) is.1) ∙ known) in
    next_told memory is.1 rest.1 is.3

-- what is settled is the form
pub settled_form : (space : Space) (memory : List ℕ) (result : Walk) → IsSettled result → IsWalk space memory result → TellsForm space memory result
settled_form space memory (walk.Held m) settled is =
    let layout : Layout space memory is.1 ((is.2).at ++ is.3) = subst (λ s. Layout s memory is.1 ((is.2).at ++ is.3)) is.0 is.4.layout in
    (is.1, is.2, is.3, layout, is.4.lies, is.4.message, sym (message_there m memory is.1 is.2 is.3 is.4))
settled_form space memory walk.NoMessageTlv settled is = is
settled_form space memory walk.BadTlv settled is = is
settled_form space memory walk.More settled is = absurd settled

-- where the area lies whole in the memory, all is settled
pub whole_settled : (space : Space) (memory : List ℕ) (result : Walk) → space.start ≤ space.end → space.end ≤ length memory → IsWalk space memory result →
    IsSettled result
whole_settled space memory (walk.Held m) order within is = tt
whole_settled space memory walk.NoMessageTlv order within is = tt
whole_settled space memory walk.BadTlv order within is = tt
whole_settled space memory walk.More order within is = absurd (none_unknown space memory order within is)

-- a held message lies in the area and in the memory
pub held_places : (space : Space) (memory : List ℕ) (result : Walk) → space.start ≤ space.end → IsWalk space memory result → HasPlaces memory result
held_places space memory (walk.Held m) order is =
    message_placed m memory is.1 is.2 is.3 is.4 (subst (λ s. s.start ≤ s.end) (sym is.0) order)
held_places space memory walk.NoMessageTlv order is = tt
held_places space memory walk.BadTlv order is = tt
held_places space memory walk.More order is = tt

-- a form that a result tells is one
pub told : (space : Space) (memory : List ℕ) (result : Walk) → TellsForm space memory result → (f : Form) × IsForm space memory f
told space memory (walk.Held m) is = (Message (bytes_at memory (message_cells m)), is)
told space memory walk.NoMessageTlv is = (NoMessageTlv, is)
told space memory walk.BadTlv is = (BadTlv, is)
told space memory walk.More is = absurd is

-- what is settled of a memory is so of the area cut at the memory's end
pub cuts_settle : (space : Space) (memory : List ℕ) (result : Walk) → space.start ≤ length memory →
    IsSettled result → IsWalk space memory result → TellsForm (cut space (length memory)) memory result
cuts_settle space memory result low settled is = elim (cases_lt (length memory) space.end) [
  | inl h ↦
      (let least : min space.end (length memory) ≡ length memory = omega arith in
      subst (λ n. TellsForm (ended space n) memory result) (sym least) (cuts_before space memory result low (omega arith) settled is))
  | inr h ↦
      (let least : min space.end (length memory) ≡ space.end = omega arith in
      subst (λ n. TellsForm (ended space n) memory result) (sym least) (settled_form space memory result settled is))
]
