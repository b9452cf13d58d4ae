-- What a front of a memory shows, the whole shows.
use Rattle.std.proofs.Common.{◌≡◌, ℕ, ◌+◌, ◌*◌, ◌<◌, Bool, true, false, List, [], ◌∷◌, ◌++◌, length, refl, sym, ◌∙◌, arith, ltb, eqb, take, inl, inr, ◌⊎◌}
use Rattle.std.specs.Prelude.{◌&&◌, slice_index}
use Rattle.std.specs.List.{AllByRecursion}
use Rattle.std.proofs.lemmas.List.{length-append, get_or_append_left}
use Rattle.std.proofs.lemmas.Bool.{lt-ltb, ltb-true, and_parts, cases_Bool}
use Rattle.tlv_area.specs.declared.space.Space.{Space}
use Rattle.tlv_area.specs.declared.walk.Walk.TheVariants as walk
use Rattle.tlv_area.specs.Layout.{is_known, bytes_at, Tlv, LiesIn, Layout}
use Rattle.tlv_area.specs.Form.{next, length_next, long_next, value_next, Next, End, Fault, Unknown}
use Rattle.tlv_area.specs.declared.walk.Walk.{Walk}
use Rattle.tlv_area.specs.Map.{IsSettled, IsWalk}

module _ (memory more : List ℕ) where
  known_one : (a : ℕ) → ltb a (length memory) ≡ true → ltb a (length (memory ++ more)) ≡ true
  known_one a known = let below : a < length memory = ltb-true a (length memory) known in
      lt-ltb a (length (memory ++ more)) (omega (arith, length-append memory more))

  byte_one : (a : ℕ) → ltb a (length memory) ≡ true → slice_index (memory ++ more) a ≡ slice_index memory a
  byte_one a known = get_or_append_left memory more 0 a (ltb-true a (length memory) known)

  known_all : (cells : List ℕ) → is_known memory cells ≡ true → is_known (memory ++ more) cells ≡ true
  known_all [] known = refl
  known_all (a ∷ cells) known =
      let parts = and_parts (ltb a (length memory)) (is_known memory cells) known in
      let here = known_one a parts.0 in
      rw here (known_all cells parts.1)

  byte_all : (cells : List ℕ) → is_known memory cells ≡ true → bytes_at (memory ++ more) cells ≡ bytes_at memory cells
  byte_all [] known = refl
  byte_all (a ∷ cells) known =
      let parts = and_parts (ltb a (length memory)) (is_known memory cells) known in
      rw (byte_one a parts.0, byte_all cells parts.1) refl

  value_grows : (kind : ℕ) (long : Bool) (header : List ℕ) (n : ℕ) (cells : List ℕ) →
      (value_next memory kind long header n cells ≡ Unknown)
      ⊎ (value_next (memory ++ more) kind long header n cells ≡ value_next memory kind long header n cells)
  value_grows kind long header n cells = elim (cases_Bool (ltb (length cells) n)) [
    | inl short ↦ inr (rw short refl)
    | inr enough ↦ elim (cases_Bool (is_known memory (take n cells))) [
      | inr unknown ↦ inl (rw (enough, unknown) refl)
      | inl known ↦ inr (rw (enough, known, known_all (take n cells) known, byte_all (take n cells) known) refl)
    ]
  ]

  long_grows : (kind a b : ℕ) (cells : List ℕ) →
      (long_next memory kind a b cells ≡ Unknown) ⊎ (long_next (memory ++ more) kind a b cells ≡ long_next memory kind a b cells)
  long_grows kind a b [] = inr refl
  long_grows kind a b (h ∷ []) = inr refl
  long_grows kind a b (h ∷ l ∷ cells) = elim (cases_Bool (is_known memory (h ∷ l ∷ []))) [
    | inr unknown ↦ inl (rw unknown refl)
    | inl known ↦
        (let parts = and_parts (ltb h (length memory)) (ltb l (length memory) && true) known in
        let low = and_parts (ltb l (length memory)) true parts.1 in
        let n : ℕ = slice_index memory h * 256 + slice_index memory l in
        let whole_known : is_known (memory ++ more) (h ∷ l ∷ []) ≡ true = known_all (h ∷ l ∷ []) known in
        elim (cases_Bool (eqb n 65535)) [
          | inl ones ↦ inr (rw (known, whole_known, byte_one h parts.0, byte_one l low.0, ones) refl)
          | inr no_ones ↦ elim (value_grows kind true (a ∷ b ∷ h ∷ l ∷ []) n cells) [
            | inl u ↦ inl (rw (known, no_ones) u)
            | inr s ↦ inr (rw (known, whole_known, byte_one h parts.0, byte_one l low.0, no_ones) s)
          ]
        ])
  ]

  length_grows : (kind a : ℕ) (cells : List ℕ) →
      (length_next memory kind a cells ≡ Unknown) ⊎ (length_next (memory ++ more) kind a cells ≡ length_next memory kind a cells)
  length_grows kind a [] = inr refl
  length_grows kind a (b ∷ cells) = elim (cases_Bool (ltb b (length memory))) [
    | inr unknown ↦ inl (rw unknown refl)
    | inl known ↦ elim (cases_Bool (eqb (slice_index memory b) 255)) [
      | inl is_long ↦ elim (long_grows kind a b cells) [
        | inl u ↦ inl (rw (known, is_long) u)
        | inr s ↦ inr (rw (known, known_one b known, byte_one b known, is_long) s)
      ]
      | inr short ↦ elim (value_grows kind false (a ∷ b ∷ []) (slice_index memory b) cells) [
        | inl u ↦ inl (rw (known, short) u)
        | inr s ↦ inr (rw (known, known_one b known, byte_one b known, short) s)
      ]
    ]
  ]

  pub next_grows : (cells : List ℕ) → (next memory cells ≡ Unknown) ⊎ (next (memory ++ more) cells ≡ next memory cells)
  unfolding next
  next_grows [] = inr refl
  next_grows (a ∷ cells) = elim (cases_Bool (ltb a (length memory))) [
    | inr unknown ↦ inl (rw unknown refl)
    | inl known ↦ elim (cases_Bool (eqb (slice_index memory a) 254)) [
      | inl ends ↦ inr (rw (known, known_one a known, byte_one a known, ends) refl)
      | inr no_end ↦ elim (cases_Bool (eqb (slice_index memory a) 0)) [
        | inl null ↦ inr (rw (known, known_one a known, byte_one a known, no_end, null) refl)
        | inr no_null ↦ elim (length_grows (slice_index memory a) a cells) [
          | inl u ↦ inl (rw (known, no_end, no_null) u)
          | inr s ↦ inr (rw (known, known_one a known, byte_one a known, no_end, no_null) s)
        ]
      ]
    ]
  ]

  lies_grows : (t : Tlv) → LiesIn memory t → LiesIn (memory ++ more) t
  lies_grows t lies = record {
    proper = lies.proper;
    known = known_all t.at lies.known;
    bytes = byte_all t.at lies.known ∙ lies.bytes;
  }

  pub all_grow : (ts : List Tlv) → AllByRecursion (LiesIn memory) ts → AllByRecursion (LiesIn (memory ++ more)) ts
  all_grow [] each = tt
  all_grow (t ∷ ts) each = (lies_grows t each.0, all_grow ts each.1)

  layout_grows : (space : Space) (ts : List Tlv) (rest : List ℕ) → Layout space memory ts rest → Layout space (memory ++ more) ts rest
  layout_grows space ts rest layout = record {
    addresses = layout.addresses;
    lie = all_grow ts layout.lie;
    plain = layout.plain;
  }

  next_settled : (cells : List ℕ) (what : Next) → (what ≡ Unknown → ⊥) → next memory cells ≡ what → next (memory ++ more) cells ≡ what
  next_settled cells what settled is = elim (next_grows cells) [ inl u ↦ absurd (settled (sym is ∙ u)) | inr s ↦ s ∙ is ]

-- a result over a front that is settled is so over the whole memory
pub fronts_settle : (space : Space) (memory more : List ℕ) (result : Walk) → IsSettled result →
    IsWalk space memory result → IsWalk space (memory ++ more) result
fronts_settle space memory more (walk.Held map') settled is = (
  is.0,
  is.1,
  is.2,
  is.3,
  record {
    layout = layout_grows memory more map'.space is.1 ((is.2).at ++ is.3) is.4.layout;
    lies = lies_grows memory more is.2 is.4.lies;
    message = is.4.message;
    ranges = is.4.ranges;
    ordered = is.4.ordered;
    place = is.4.place;
    long' = is.4.long';
    size = is.4.size;
  },
)
fronts_settle space memory more walk.NoMessageTlv settled is =
    (is.0, is.1, layout_grows memory more space is.0 is.1 is.2, next_settled memory more is.1 End (λ e. cc) is.3)
fronts_settle space memory more walk.BadTlv settled is =
    (is.0, is.1, layout_grows memory more space is.0 is.1 is.2, next_settled memory more is.1 Fault (λ e. cc) is.3)
fronts_settle space memory more walk.More settled is = absurd settled
