-- Each message that fits has a store that holds it in the place of another, and a plan.
use Rattle.std.proofs.Common.{◌≡◌, ◌≢◌, ℕ, suc, zero, ◌+◌, ◌-◌, ◌/◌, ◌<◌, ◌≤◌, Bool, true, false, List, [], ◌∷◌, ◌++◌, length, map, refl, sym, ◌∙◌, ap, arith, subst, ltb, eqb, leb, take, drop, inl}
use Rattle.std.proofs.Common.{inr, ◌⊎◌, append_assoc}
use Rattle.std.specs.Prelude.{◌||◌, ◌&&◌, if◌then◌else◌, slice_index, slice_set, nat_lt, Option, Some, None}
use Rattle.std.specs.List.{list_all, flat_map}
use Rattle.std.proofs.lemmas.Bool.{cases_Bool, cases_lt, cases_eq, eqb-true, eq-eqb, ne_eqb, and_parts, ltb-true, le-ltb}
use Rattle.std.proofs.lemmas.List.{get_or-set_same, get_or-set_other, length-set, take-append-drop, length-take-le, length-append}
use Rattle.std.proofs.lemmas.List.Folds.{list_any-append, list_all-append}
use Rattle.tlv_area.specs.declared.step.Step.{Step}
use Rattle.tlv_area.specs.declared.step.Plan.{Plan}
use Rattle.tlv_area.specs.Layout.{free, bytes_at}
use Rattle.tlv_area.specs.Tail.{written, span, new_tail, capacity_of, end_mark}
use Rattle.tlv_area.specs.Writing.{is_in, SameOutside, IsPut, IsNew, IsPlan, IsStepTo, write_of, block_in, home, closed_block, fill_blocks}
use Rattle.nfc_base.specs.Blocks.{block_of}
use Rattle.tlv_area.proofs.Steps.{free_below}
use Rattle.tlv_area.proofs.Holding.{apart, all_bytes_same}
use Rattle.tlv_area.proofs.Needing.{bytes_decided}
use Rattle.tlv_area.proofs.Images.{fits_in}

-- bytes put at some addresses, one by one
put_at : List ℕ → List ℕ → List ℕ → List ℕ
put_at [] bytes store = store
put_at (a ∷ cells) [] store = store
put_at (a ∷ cells) (b ∷ bytes) store = slice_set (put_at cells bytes store) a b

put_long : (cells bytes store : List ℕ) → length (put_at cells bytes store) ≡ length store
unfolding put_at
put_long [] bytes store = refl
put_long (a ∷ cells) [] store = refl
put_long (a ∷ cells) (b ∷ bytes) store = length-set (put_at cells bytes store) a b ∙ put_long cells bytes store

or_both : (x y : Bool) → (x || y) ≡ false → (x ≡ false) × (y ≡ false)
or_both true y e = cc
or_both false y e = (refl, e)

not_same : (a b : ℕ) → eqb a b ≡ false → b ≢ a
not_same a b e same = (let k : eqb a b ≡ true = eq-eqb a b (sym same) in let clash : true ≡ false = sym k ∙ e in cc)

put_outside : (cells bytes store : List ℕ) (a : ℕ) → is_in cells a ≡ false → slice_index (put_at cells bytes store) a ≡ slice_index store a
unfolding put_at
put_outside [] bytes store a away = refl
put_outside (c ∷ cells) [] store a away = refl
put_outside (c ∷ cells) (b ∷ bytes) store a away =
    let parts = or_both (eqb c a) (is_in cells a) away in
    get_or-set_other (put_at cells bytes store) c a b 0 (not_same c a parts.0) ∙ put_outside cells bytes store a parts.1

-- addresses of which none comes twice, all below an end
abbrev Apart : ℕ → List ℕ → Type 0
Apart end [] = Unit {0}
Apart end (a ∷ cells) = (a < end) × (is_in cells a ≡ false) × Apart end cells

put_inside : (cells bytes store : List ℕ) → Apart (length store) cells → length cells ≡ length bytes → bytes_at (put_at cells bytes store) cells ≡ bytes
unfolding put_at
put_inside [] [] store ap' long = refl
put_inside [] (b ∷ bytes) store ap' long = absurd (omega (arith, long))
put_inside (a ∷ cells) [] store ap' long = absurd (omega (arith, long))
put_inside (a ∷ cells) (b ∷ bytes) store ap' long =
    let mid : List ℕ = put_at cells bytes store in
    let here : slice_index (slice_set mid a b) a ≡ b = get_or-set_same mid a b 0 (omega (arith, put_long cells bytes store, ap'.0)) in
    let later : bytes_at (slice_set mid a b) cells ≡ bytes_at mid cells =
    all_bytes_same mid (slice_set mid a b) cells
    (λ x there. get_or-set_other mid a x b 0 (λ e. (let k : is_in cells a ≡ true = subst (λ n. is_in cells n ≡ true) e there in let clash : true ≡ false = sym k ∙ ap'.1 in cc))) in
    ap (λ x. x ∷ bytes_at (slice_set mid a b) cells) here ∙ ap (λ xs. b ∷ xs) (later ∙ put_inside cells bytes store ap'.2 (omega (arith, long)))

pub some_put : (cells bytes store : List ℕ) → Apart (length store) cells → length cells ≡ length bytes → (new : List ℕ) × IsPut cells store new bytes
some_put cells bytes store ap' long = (
  put_at cells bytes store,
  record { outside = record { size = put_long cells bytes store; same = λ a away. put_outside cells bytes store a away }; inside = put_inside cells bytes store ap' long },
)

-- so the free addresses are
below_all : (end : ℕ) (pre : List ℕ) (a : ℕ) (cells : List ℕ) → list_all (λ b. nat_lt b end) (pre ++ a ∷ cells) ≡ true → a < end
below_all end pre a cells e =
    let parts = and_parts (list_all (λ b. nat_lt b end) pre) (list_all (λ b. nat_lt b end) (a ∷ cells)) (sym (list_all-append (λ b. nat_lt b end) pre (a ∷ cells)) ∙ e) in
    ltb-true a end (and_parts (ltb a end) (list_all (λ b. nat_lt b end) cells) parts.1).0

in_it : (pre : List ℕ) (a : ℕ) → is_in (pre ++ a ∷ []) a ≡ true
in_it [] a = ap (λ v. v || false) (eq-eqb a a refl)
in_it (b ∷ pre) a = or_later (eqb b a) (is_in (pre ++ a ∷ []) a) (in_it pre a)
  where
    or_later : (x y : Bool) → y ≡ true → (x || y) ≡ true
    or_later true y e = refl
    or_later false y e = e

pub free_apart : (r : ℕ → Bool) (at end : ℕ) (pre cells rest : List ℕ) → at ≤ end → pre ++ (cells ++ rest) ≡ free r at end → Apart end cells
free_apart r at end pre [] rest order is = tt
free_apart r at end pre (a ∷ cells) rest order is =
    let joined : (pre ++ a ∷ []) ++ (cells ++ rest) ≡ free r at end = append_assoc pre (a ∷ []) (cells ++ rest) ∙ is in
    let below : list_all (λ b. nat_lt b end) (pre ++ a ∷ (cells ++ rest)) ≡ true = ap (λ xs. list_all (λ b. nat_lt b end) xs) is ∙ free_below r at end end order (omega arith) in
    let behind : is_in (cells ++ rest) a ≡ false = apart r at end (pre ++ a ∷ []) (cells ++ rest) order joined a (in_it pre a) in
    let here = or_both (is_in cells a) (is_in rest a) (sym (list_any-append (λ b. eqb b a) cells rest) ∙ behind) in
    (below_all end pre a (cells ++ rest) below, here.0, free_apart r at end (pre ++ a ∷ []) cells rest order joined)

lower : (end more : ℕ) (cells : List ℕ) → end ≤ more → Apart end cells → Apart more cells
lower end more [] up h = tt
lower end more (a ∷ cells) up h = (omega (arith, h.0, up), h.1, lower end more cells up h.2)

-- what is written fits in a tail that has room for it
written_fits : (tail message : List ℕ) → 1 ≤ length tail → length message ≤ capacity_of (1 + length tail) → length (written (length tail) message) ≤ length tail
written_fits tail message some fits =
    let short : length (new_tail message) + 1 ≤ 1 + length tail = (fits_in message (1 + length tail) (omega (arith, some)) fits).1 in
    elim (cases_lt (length (new_tail message)) (length tail)) [
      | inl room ↦ (let mark : length (end_mark (length tail) (new_tail message)) ≤ 1 = one_mark (nat_lt (length (new_tail message)) (length tail)) in
          let all = length-append (new_tail message) (end_mark (length tail) (new_tail message)) in omega (arith, all, mark, room))
      | inr full ↦ (let none : end_mark (length tail) (new_tail message) ≡ [] = no_mark (nat_lt (length (new_tail message)) (length tail)) (le-ltb (length (new_tail message)) (length tail) full) in
          let all = length-append (new_tail message) (end_mark (length tail) (new_tail message)) in omega (arith, all, ap length none, short))
    ]
  where
    one_mark : (v : Bool) → length {A = ℕ} (if v then 0xFE ∷ [] else []) ≤ 1
    one_mark true = omega arith
    one_mark false = omega arith

    no_mark : (v : Bool) → v ≡ false → ◌≡◌ {A = List ℕ} (if v then 0xFE ∷ [] else []) []
    no_mark true e = cc
    no_mark false e = refl

-- The store that has the message.
pub some_new : (r : ℕ → Bool) (at end : ℕ) (pre tail store message : List ℕ) → at ≤ end → end ≤ length store → pre ++ tail ≡ free r at end → 1 ≤ length tail
    → length message ≤ capacity_of (1 + length tail) → (new : List ℕ) × IsNew tail store message new
some_new r at end pre tail store message order within is some fits =
    let n : ℕ = length (written (length tail) message) in
    let low : n ≤ length tail = written_fits tail message some fits in
    let joined : pre ++ (take n tail ++ drop n tail) ≡ free r at end = ap (λ xs. pre ++ xs) (take-append-drop n tail) ∙ is in
    some_put (span tail message) (written (length tail) message) store (lower end (length store) (span tail message) within (free_apart r at end pre (take n tail) (drop n tail) order joined))
    (length-take-le n tail low)

-- And the plan.
some_step : (block : ℕ) (now content : List ℕ) → (o : Option Step) × IsStepTo block now content o
some_step block now content = elim (bytes_decided now content) [
  | inl same ↦ (None, same)
  | inr other ↦ (Some (record { block = block; content = record { items = content } }), (refl, other))
]

some_steps : (size : ℕ) (new : List ℕ) (ks : List ℕ) → (ss : List Step) × (map write_of ss ≡ map (λ k. block_in size new k) ks)
some_steps size new [] = ([], refl)
some_steps size new (k ∷ ks) =
    let rest = some_steps size new ks in
    (record { block = k; content = record { items = block_of size new k } } ∷ rest.0, ap (λ xs. (k, block_of size new k) ∷ xs) rest.1)

pub some_plan : (size end : ℕ) (tail old message new : List ℕ) → (plan : Plan) × IsPlan size end tail old message new plan
some_plan size end tail old message new =
    let close = some_step (home size tail) (block_of size old (home size tail)) (closed_block size tail old) in
    let fill = some_steps size new (fill_blocks size end tail old message new) in
    let last = some_step (home size tail) (closed_block size tail old) (block_of size new (home size tail)) in
    (record { close = close.0; fill = fill.0; last = last.0 }, record { close = close.1; fill = fill.1; last = last.1 })
