-- What a plan's steps leave.
use Rattle.std.proofs.Common.{◌≡◌, ℕ, suc, zero, ◌+◌, ◌-◌, ◌*◌, ◌/◌, ◌%◌, ◌<◌, ◌≤◌, Bool, true, false, cond, List, [], ◌∷◌, ◌++◌, length, not, refl, sym, ◌∙◌, ap, arith, subst, take, drop, map, inl}
use Rattle.std.proofs.Common.{inr, eqb, ltb, leb}
use Rattle.std.specs.Prelude.{◌≢◌, slice_index, ◌||◌, ◌&&◌, ◌==◌, nat_lt, nat_le, filter, min}
use Rattle.std.specs.List.{range_with_len, list_any, list_all, flat_map, AllByRecursion}
use Rattle.std.proofs.Math.Nat.{mul-le-mul_right, min-le_left, min-le_right}
use Rattle.std.proofs.lemmas.List.{length-append, length-drop, length-set, get_or-set_same, get_or-set_other, append_assoc, append-nil, take-append-drop, take-map, take-take, take_at, ext_get_or}
use Rattle.std.proofs.lemmas.List.Folds.{list_any-append, list_all-append}
use Rattle.std.proofs.lemmas.Bool.{cases_Bool, cases_eq, eqb-true, ne_eqb, eq-eqb, ltb-true, ltb-false, leb-true, leb-false, le-ltb, and_parts}
use Rattle.std.proofs.lemmas.Nat.{div-add-mod', le-div}
use Rattle.std.specs.Str.{bytes_eq}
use Rattle.std.proofs.lemmas.Slice.Eq.{bytes_eq-Decides}
use Rattle.nfc_base.specs.Blocks.{with_block, block_of}
use Rattle.tlv_area.specs.declared.space.AreaMap.{AreaMap}
use Rattle.tlv_area.specs.declared.step.Step.{Step}
use Rattle.tlv_area.specs.declared.step.Plan.{Plan}
use Rattle.tlv_area.specs.Layout.{Tlv, bytes_at, reserved_by}
use Rattle.tlv_area.specs.Form.{Holds}
use Rattle.tlv_area.specs.Map.{IsMap, map_cells, in_ranges}
use Rattle.tlv_area.specs.Tail.{map_tail, message_tail, new_tail, written, span, map_room, capacity_of}
use Rattle.tlv_area.specs.Writing.{is_in, SameOutside, IsNew, blocks_below, fill_blocks, home, touches, changes, closed_block, IsStepTo, write_of, block_in, IsPlan, IsWhole, PlanKeeps, EachChanges}
use Rattle.tlv_area.specs.Writing.{writes_of, after_steps, made, steps_of, image}
use Rattle.tlv_area.proofs.Steps.{free_below}
use Rattle.tlv_area.proofs.Places.{message_fits, map_parts, tail_same}
use Rattle.tlv_area.proofs.Holding.{tail_holds, apart}
use Rattle.tlv_area.proofs.OneForm.{range_above}
use Rattle.tlv_area.proofs.Blocks.{block_is, block_bounds, block_within}
use Rattle.tlv_area.proofs.Filters.{filter_below, filter_has, filter_all, filter_each, Distinct, filter_distinct}
use Rattle.tlv_area.proofs.Changing.{block_same, made_leaves, made_changes, made_whole, each_append, AreOther, others_kept, fills_change, writes-append, writes_made, writes_none, writes_absent}
use Rattle.tlv_area.proofs.Changing.{writes_once}
use Rattle.tlv_area.proofs.Stepping.{Writes, written_block, steps_write, After, steps_leave, after_append, or_false, length-with_block, block_inside, block_other, block_of-at, block_of-size}

-- what each of a list passes, each of a part passes
pub all_drop : (p : ℕ → Bool) (n : ℕ) (xs : List ℕ) → list_all p xs ≡ true → list_all p (drop n xs) ≡ true
all_drop p n xs all_of = (and_parts (list_all p (take n xs)) (list_all p (drop n xs))
    (sym (list_all-append p (take n xs) (drop n xs)) ∙ ap (λ c. list_all p c) (take-append-drop n xs) ∙ all_of)).1

all_take : (p : ℕ → Bool) (n : ℕ) (xs : List ℕ) → list_all p xs ≡ true → list_all p (take n xs) ≡ true
all_take p n xs all_of = (and_parts (list_all p (take n xs)) (list_all p (drop n xs))
    (sym (list_all-append p (take n xs) (drop n xs)) ∙ ap (λ c. list_all p c) (take-append-drop n xs) ∙ all_of)).0

pub any_take : (p : ℕ → Bool) (n : ℕ) (xs : List ℕ) → list_any p xs ≡ false → list_any p (take n xs) ≡ false
any_take p n xs none = (or_false (list_any p (take n xs)) (list_any p (drop n xs))
    (sym (list_any-append p (take n xs) (drop n xs)) ∙ ap (λ c. list_any p c) (take-append-drop n xs) ∙ none)).0

any_drop : (p : ℕ → Bool) (n : ℕ) (xs : List ℕ) → list_any p xs ≡ false → list_any p (drop n xs) ≡ false
any_drop p n xs none = (or_false (list_any p (take n xs)) (list_any p (drop n xs))
    (sym (list_any-append p (take n xs) (drop n xs)) ∙ ap (λ c. list_any p c) (take-append-drop n xs) ∙ none)).1

all_in : (p : ℕ → Bool) (xs : List ℕ) (a : ℕ) → list_all p xs ≡ true → is_in xs a ≡ true → p a ≡ true
all_in p [] a all_of there = cc
all_in p (x ∷ xs) a all_of there =
    let parts = and_parts (p x) (list_all p xs) all_of in
    elim (cases_Bool (eqb x a)) [
      | inl e ↦ ap p (sym (eqb-true x a e)) ∙ parts.0
      | inr e ↦ (let rest : is_in xs a ≡ true = rw e at there in all_in p xs a parts.1 rest)
    ]

-- the one that is left out isn't
filter_lacks : (q c : ℕ → Bool) (h : ℕ) (xs : List ℕ) → is_in (filter (λ k. (not (k == h) && q k) && c k) xs) h ≡ false
filter_lacks q c h [] = refl
filter_lacks q c h (x ∷ xs) =
    let rest = filter_lacks q c h xs in
    elim (cases_Bool (eqb x h)) [
      | inl e ↦ rw e rest
      | inr e ↦ elim (cases_Bool (q x)) [
        | inl t ↦ elim (cases_Bool (c x)) [ inl d ↦ rw (e, t, d, e) rest | inr d ↦ rw (e, t, d) rest ]
        | inr f ↦ rw (e, f) rest
      ]
    ]

-- the block of an address is touched by it
touched_by : (size : ℕ) (cells : List ℕ) (a : ℕ) → is_in cells a ≡ true → touches size cells (a / size) ≡ true
touched_by size [] a there = cc
touched_by size (x ∷ xs) a there = elim (cases_Bool (eqb x a)) [
  | inl e ↦ (let same : x ≡ a = eqb-true x a e in let here : eqb (x / size) (a / size) ≡ true = eq-eqb (x / size) (a / size) (ap (λ n. n / size) same) in rw here refl)
  | inr e ↦ (let rest : is_in xs a ≡ true = rw e at there in
      or_right (eqb (x / size) (a / size)) (touches size xs (a / size)) (touched_by size xs a rest))
]
  where
    or_right : (x y : Bool) → y ≡ true → (x || y) ≡ true
    or_right true y e = refl
    or_right false y e = e

-- whole blocks, of steps that write blocks as a new store has them
all_whole : (size n : ℕ) (old new : List ℕ) (ss us : List Step) → n * size ≤ length old → length new ≡ length old →
    AllByRecursion (Writes size new) ss → list_all (λ k. nat_lt k n) (map written_block ss) ≡ true →
    AllByRecursion (IsWhole size old) us → AllByRecursion (IsWhole size old) (ss ++ us)
all_whole size n old new [] us room sizes each below more = more
all_whole size n old new (s ∷ ss) us room sizes each below more =
    let k : ℕ = s.block in
    let parts = and_parts (ltb k n) (list_all (λ j. nat_lt j n) (map written_block ss)) below in
    let less : k + 1 ≤ n = omega (arith, ltb-true k n parts.0) in
    let product : (k + 1) * size ≡ k * size + size = omega arith in
    let within : k * size + size ≤ length old = omega (arith, product, mul-le-mul_right size less) in
    let turned : size * k ≡ k * size = omega arith in (
      record { content = ap length each.0 ∙ block_of-size size new k (omega (arith, within, sizes)); room = omega (arith, turned, within) },
      all_whole size n old new ss us room sizes each.1 parts.1 more,
    )

-- a message within the capacity fits
pub fits_in : (message : List ℕ) (n : ℕ) → 2 ≤ n → length message ≤ capacity_of n → (length message < 65535) × (length (new_tail message) + 1 ≤ n)
fits_in message n some within = elim (cases_Bool (leb n 256)) [
  | inl a ↦ (let low : n ≤ 256 = leb-true n 256 a in let cap : length message ≤ n - 2 = rw a at within in
      let short : ltb 254 (length message) ≡ false = le-ltb 254 (length message) (omega arith) in
      (omega arith, rw short (omega arith)))
  | inr a ↦ (let over : 256 < n = leb-false n 256 a in elim (cases_Bool (leb n 258)) [
    | inl b ↦ (let cap : length message ≤ 254 = rw (a, b) at within in
        let short : ltb 254 (length message) ≡ false = le-ltb 254 (length message) (omega arith) in
        (omega arith, rw short (omega arith)))
    | inr b ↦ (let far : 258 < n = leb-false n 258 b in
        let least : length message ≤ min (n - 4) 65534 = rw (a, b) at within in
        let cap : (length message ≤ n - 4) × (length message ≤ 65534) =
        (omega (arith, least, min-le_left (n - 4) 65534), omega (arith, least, min-le_right (n - 4) 65534)) in (
          omega (arith, cap.1),
          elim (cases_Bool (ltb 254 (length message))) [
            | inl d ↦ rw d (omega (arith, cap.0))
            | inr d ↦ (let short : length message ≤ 254 = ltb-false 254 (length message) d in rw d (omega arith))
          ],
        ))
  ])
]

-- a new tail has a byte
tail_size : (message : List ℕ) → 1 ≤ length (new_tail message)
tail_size message = elim (cases_Bool (ltb 254 (length message))) [
  | inl d ↦ rw d (omega arith)
  | inr d ↦ rw d (omega arith)
]

module _ (size : ℕ) (m : AreaMap) (old message new : List ℕ) (plan' : Plan) (ts : List Tlv) (t : Tlv) (after : List ℕ)
    (some : 0 < size) (order : m.space.start ≤ m.space.end) (room : size * blocks_below size m.space.end ≤ length old)
    (is : IsMap old m ts t after) (fits : length message ≤ capacity_of (map_room m))
    (new_is : IsNew (map_tail m) old message new) (plan_is : IsPlan size m.space.end (map_tail m) old message new plan') where
  abbrev count : ℕ
  count = blocks_below size m.space.end

  abbrev blocks : List ℕ
  blocks = fill_blocks size m.space.end (map_tail m) old message new

  abbrev is_filled : ℕ → Bool
  is_filled k = (not (k == home size (map_tail m)) && touches size (span (map_tail m) message) k) && changes size old new k

  abbrev closing : List ℕ
  closing = closed_block size (map_tail m) old

  fill_all : (map written_block plan'.fill ≡ blocks) × AllByRecursion (Writes size new) plan'.fill
  fill_all = steps_write size new plan'.fill blocks plan_is.fill

  fill_take : (n : ℕ) → (map written_block (take n plan'.fill) ≡ take n blocks) × AllByRecursion (Writes size new) (take n plan'.fill)
  fill_take n = steps_write size new (take n plan'.fill) (take n blocks)
      (sym (take-map write_of n plan'.fill) ∙ ap (λ ws. take n ws) plan_is.fill ∙ take-map (λ k. block_in size new k) n blocks)

  room_turned : count * size ≤ length old
  room_turned = let turned : size * count ≡ count * size = omega arith in omega (arith, turned, room)

  header_low : (b : Bool) → 2 ≤ cond b 4 2
  header_low true = omega arith
  header_low false = omega arith

  placed : m.tlv + 2 ≤ length (map_cells m)
  placed = omega (arith, message_fits m old ts t after is, header_low m.long)

  tail_length : length (map_tail m) ≡ length (map_cells m) - (m.tlv + 1)
  tail_length = length-drop (m.tlv + 1) (map_cells m)

  abbrev f : ℕ
  f = slice_index (map_tail m) 0

  f_in_tail : is_in (map_tail m) f ≡ true
  f_in_tail = in_head (map_tail m) (omega (arith, placed, tail_length))
    where
      in_head : (cells : List ℕ) → 1 ≤ length cells → is_in cells (slice_index cells 0) ≡ true
      in_head [] none = absurd (omega arith)
      in_head (x ∷ xs) none = rw (eq-eqb x x refl) refl

  cells_below : list_all (λ a. nat_lt a m.space.end) (map_cells m) ≡ true
  cells_below = free_below (in_ranges m.reserved.items) m.space.start m.space.end m.space.end order (omega arith)

  tail_below : (a : ℕ) → is_in (map_tail m) a ≡ true → a < m.space.end
  tail_below a there = ltb-true a m.space.end (all_in (λ b. nat_lt b m.space.end) (map_tail m) a (all_drop (λ b. nat_lt b m.space.end) (m.tlv + 1) (map_cells m) cells_below) there)

  f_below : f < m.space.end
  f_below = tail_below f f_in_tail

  end_within : m.space.end ≤ length old
  end_within = omega (arith, ends, room_turned)
    where
      ends : m.space.end ≤ count * size
      ends = omega (arith, block_bounds size (m.space.end + size - 1) some)

  sizes : length new ≡ length old
  sizes = new_is.outside.size

  home_within : f / size * size + size ≤ length old
  home_within = let turned : size * (f / size) ≡ f / size * size = omega arith in omega (arith, block_within f m.space.end size some f_below, room, turned)

  abbrev closed : List ℕ
  closed = with_block size old (f / size) closing

  close_size : length closing ≡ size
  close_size = length-set (block_of size old (f / size)) (f % size) 0 ∙ block_of-size size old (f / size) home_within

  closed_size : length closed ≡ length old
  closed_size = length-with_block size old (f / size) closing close_size home_within

  close_leaves : after_steps size old (made plan'.close) ≡ closed
  close_leaves = made_leaves size old (f / size) closing plan'.close plan_is.close

  -- inside the home block, by its place there
  close_inside : (a : ℕ) → a / size ≡ f / size → slice_index closed a ≡ slice_index closing (a - f / size * size)
  close_inside a e =
      let bounds = block_bounds size a some in
      let base : a / size * size ≡ f / size * size = ap (λ j. j * size) e in
      block_inside size old (f / size) closing close_size home_within a (omega (arith, bounds.0, base)) (omega (arith, bounds.1, base))

  closed_first : slice_index closed f ≡ 0
  closed_first =
      let place : f - f / size * size ≡ f % size = omega (arith, div-add-mod' f size) in
      let inside : f % size < length (block_of size old (f / size)) = omega (arith, block_of-size size old (f / size) home_within, block_bounds size f some, div-add-mod' f size) in
      close_inside f refl ∙ ap (λ n. slice_index closing n) place
      ∙ get_or-set_same (block_of size old (f / size)) (f % size) 0 0 inside

  closed_other : (a : ℕ) → (a ≡ f → ⊥) → slice_index closed a ≡ slice_index old a
  closed_other a other = elim (cases_eq (a / size) (f / size)) [
    | inl e ↦
        (let bounds = block_bounds size a some in
        let base : a / size * size ≡ f / size * size = ap (λ j. j * size) e in
        let places : f / size * size + f % size ≡ f = div-add-mod' f size in
        let ne : a - f / size * size ≡ f % size → ⊥ = λ x. other (omega (arith, bounds.0, base, places)) in
        close_inside a e ∙ get_or-set_other (block_of size old (f / size)) (f % size) (a - f / size * size) 0 0 ne
        ∙ block_of-at size old (f / size) a (omega (arith, bounds.0, base)) (omega (arith, bounds.1, base)))
    | inr e ↦ block_other size old (f / size) closing close_size home_within a some e
  ]

  abbrev image_at : ℕ → List ℕ
  image_at n = after_steps size closed (take n plan'.fill)

  count_above : list_all (λ k. nat_lt k count) blocks ≡ true
  count_above = filter_below is_filled 0 count count (omega arith)

  blocks_lack : is_in blocks (f / size) ≡ false
  blocks_lack = filter_lacks (λ k. touches size (span (map_tail m) message) k) (changes size old new) (f / size) (range_with_len 0 count)

  image_leaves : (n : ℕ) → image size old plan' n ≡ image_at n
  image_leaves n = after_append size old (made plan'.close) (take n plan'.fill) ∙ ap (λ s. after_steps size s (take n plan'.fill)) close_leaves

  image_is : (n : ℕ) → After size closed new (take n plan'.fill) (image_at n)
  image_is n = steps_leave size count closed new (take n plan'.fill) some (omega (arith, closed_size, room_turned)) (sizes ∙ sym closed_size)
      (fill_take n).1
      (ap (λ bs. list_all (λ k. nat_lt k count) bs) (fill_take n).0 ∙ all_take (λ k. nat_lt k count) n blocks count_above)

  image_home : (n a : ℕ) → a / size ≡ f / size → slice_index (image_at n) a ≡ slice_index closed a
  image_home n a e = (image_is n).kept a (ap (λ bs. is_in bs (a / size)) (fill_take n).0 ∙ ap (λ k. is_in (take n blocks) k) e
      ∙ any_take (λ k. k == f / size) n blocks blocks_lack)

  -- off the span an image is the old memory, and off its first address too where that alone was closed
  image_other : (n a : ℕ) → (a ≡ f → ⊥) → (slice_index new a ≡ slice_index old a) → slice_index (image_at n) a ≡ slice_index old a
  image_other n a other stays = elim (cases_Bool (is_in (map written_block (take n plan'.fill)) (a / size))) [
    | inl in' ↦ (image_is n).filled a in' ∙ stays
    | inr out ↦ (image_is n).kept a out ∙ closed_other a other
  ]

  span_in_tail : (a : ℕ) → is_in (map_tail m) a ≡ false → is_in (span (map_tail m) message) a ≡ false
  span_in_tail a away = any_take (λ b. b == a) (length (written (length (map_tail m)) message)) (map_tail m) away

  outside_tail : (n : ℕ) → SameOutside (map_tail m) old (image_at n)
  outside_tail n = record {
    size = (image_is n).same_size ∙ closed_size;
    same = λ a away. image_other n a
        (λ e. clash (sym (ap (λ b. is_in (map_tail m) b) e ∙ f_in_tail) ∙ away))
        (new_is.outside.same a (span_in_tail a away));
  }
    where
      clash : true ≡ false → ⊥
      clash e = cc

  f_in_span : is_in (span (map_tail m) message) f ≡ true
  f_in_span = in_front (map_tail m) (length (written (length (map_tail m)) message)) (omega (arith, placed, tail_length))
      (omega (arith, tail_size message, length-append (new_tail message) (cond (ltb (length (new_tail message)) (length (map_tail m))) (254 ∷ []) [])))
    where
      in_front : (cells : List ℕ) (n : ℕ) → 1 ≤ length cells → 1 ≤ n → is_in (take n cells) (slice_index cells 0) ≡ true
      in_front [] n some large = absurd (omega arith)
      in_front (x ∷ xs) zero some large = absurd (omega arith)
      in_front (x ∷ xs) (suc n) some large = rw (eq-eqb x x refl) refl

  outside_span : (n : ℕ) → SameOutside (span (map_tail m) message) old (image_at n)
  outside_span n = record {
    size = (image_is n).same_size ∙ closed_size;
    same = λ a away. image_other n a
        (λ e. clash (sym (ap (λ b. is_in (span (map_tail m) message) b) e ∙ f_in_span) ∙ away))
        (new_is.outside.same a away);
  }
    where
      clash : true ≡ false → ⊥
      clash e = cc

  empty_holds : (n : ℕ) → Holds m.space (image_at n) []
  empty_holds n = tail_holds m old (image_at n) [] ts t after order end_within is (outside_tail n) (omega arith) (omega (arith, placed, tail_length))
      (one_byte (map_tail m) (omega (arith, placed, tail_length)) (image_home n f refl ∙ closed_first))
    where
      one_byte : (cells : List ℕ) → 1 ≤ length cells → slice_index (image_at n) (slice_index cells 0) ≡ 0 → bytes_at (image_at n) (take 1 cells) ≡ 0 ∷ []
      one_byte [] none e = absurd (omega arith)
      one_byte (x ∷ xs) none e = ap (λ b. b ∷ []) e

  new_holds : Holds m.space new message
  new_holds =
      let k : ℕ = length (new_tail message) in
      let w : List ℕ = written (length (map_tail m)) message in
      let parts = fits_in message (map_room m) (omega (arith, placed)) fits in
      let longer : k ≤ length w = omega (arith, length-append (new_tail message) (cond (ltb (length (new_tail message)) (length (map_tail m))) (254 ∷ []) [])) in
      let inside : bytes_at new (take k (span (map_tail m) message)) ≡ new_tail message =
      sym (take-map (λ a. slice_index new a) k (span (map_tail m) message)) ∙ ap (λ bs. take k bs) new_is.inside
      ∙ take_at (new_tail message) (cond (ltb (length (new_tail message)) (length (map_tail m))) (254 ∷ []) []) k refl in
      let cells : take k (span (map_tail m) message) ≡ take k (map_tail m) = take-take k (length w) (map_tail m) longer in
      tail_holds m old new message ts t after order end_within is
      (record { size = sizes; same = λ a away. new_is.outside.same a (span_in_tail a away) })
      parts.0 (omega (arith, parts.1, tail_length)) (ap (λ c. bytes_at new c) (sym cells) ∙ inside)

  abbrev filled : List ℕ
  filled = after_steps size closed plan'.fill

  filled_is : After size closed new plan'.fill filled
  filled_is = steps_leave size count closed new plan'.fill some (omega (arith, closed_size, room_turned)) (sizes ∙ sym closed_size)
      fill_all.1
      (ap (λ bs. list_all (λ k. nat_lt k count) bs) fill_all.0 ∙ count_above)

  filled_size : length filled ≡ length old
  filled_size = filled_is.same_size ∙ closed_size

  filled_within : f / size * size + size ≤ length filled
  filled_within = omega (arith, home_within, filled_size)

  filled_home : block_of size filled (f / size) ≡ closing
  filled_home = block_same size (f / size) filled closed filled_within (omega (arith, home_within, closed_size))
      (λ a low high. filled_is.kept a (ap (λ bs. is_in bs (a / size)) fill_all.0 ∙ ap (λ k. is_in blocks k) (block_is size (f / size) a low high) ∙ blocks_lack))
      ∙ ext_get_or 0 (block_of size closed (f / size)) closing (closed_home_size ∙ sym close_size)
      (λ i low.
      let a : ℕ = f / size * size + i in
      let place : a - f / size * size ≡ i = omega arith in
      let high : a < f / size * size + size = omega (arith, closed_home_size, low) in
      sym (ap (λ n. slice_index (block_of size closed (f / size)) n) place) ∙ block_of-at size closed (f / size) a (omega arith) high
      ∙ close_inside a (block_is size (f / size) a (omega arith) high) ∙ ap (λ n. slice_index closing n) place)
    where
      closed_home_size : length (block_of size closed (f / size)) ≡ size
      closed_home_size = block_of-size size closed (f / size) (omega (arith, home_within, closed_size))

  abbrev shown : List ℕ
  shown = block_of size new (f / size)

  shown_size : length shown ≡ size
  shown_size = block_of-size size new (f / size) (omega (arith, home_within, sizes))

  last_is : IsStepTo (f / size) (block_of size filled (f / size)) shown plan'.last
  last_is = subst (λ c. IsStepTo (f / size) c shown plan'.last) (sym filled_home) plan_is.last

  abbrev full : List ℕ
  full = with_block size filled (f / size) shown

  last_leaves : after_steps size filled (made plan'.last) ≡ full
  last_leaves = made_leaves size filled (f / size) shown plan'.last last_is

  -- a block that has no step of fill, and isn't the home block, is the old one's in the new store
  unchanged : (a : ℕ) → (a / size ≡ f / size → ⊥) → is_in blocks (a / size) ≡ false → slice_index new a ≡ slice_index old a
  unchanged a other out = elim (cases_Bool (is_in (span (map_tail m) message) a)) [
    | inr absent ↦ new_is.outside.same a absent
    | inl there ↦ elim (cases_Bool (bytes_eq (block_of size old (a / size)) (block_of size new (a / size)))) [
      | inl same ↦
          (let bounds = block_bounds size a some in
          let one : block_of size old (a / size) ≡ block_of size new (a / size) =
          (bytes_eq-Decides (block_of size old (a / size)) (block_of size new (a / size))).0 same in
          sym (block_of-at size new (a / size) a bounds.0 bounds.1) ∙ ap (λ c. slice_index c (a - a / size * size)) (sym one)
          ∙ block_of-at size old (a / size) a bounds.0 bounds.1)
      | inr differs ↦
          (let below : a < m.space.end = tail_below a (from_take a there) in
          let less : a / size < count = block_less a below in
          let not_home : eqb (a / size) (f / size) ≡ false = ne_eqb (a / size) (f / size) other in
          let touched : touches size (span (map_tail m) message) (a / size) ≡ true = touched_by size (span (map_tail m) message) a there in
          let passes : is_filled (a / size) ≡ true = rw (not_home, touched, differs) refl in
          let has = filter_has is_filled 0 count (a / size) (omega arith) (omega arith) passes in
          let clash : true ≡ false = sym has ∙ out in cc)
    ]
  ]
    where
      from_take : (a : ℕ) → is_in (span (map_tail m) message) a ≡ true → is_in (map_tail m) a ≡ true
      from_take a there = elim (cases_Bool (is_in (map_tail m) a)) [
        | inl e ↦ e
        | inr e ↦ (let clash : true ≡ false = sym there ∙ span_in_tail a e in cc)
      ]

      block_less : (a : ℕ) → a < m.space.end → a / size < count
      block_less a below =
          let bounds = block_bounds size a some in
          let product : (a / size + 1) * size ≡ a / size * size + size = omega arith in
          let more : a / size + 1 ≤ count = le-div (a / size + 1) (m.space.end + size - 1) size some (omega (arith, bounds.0, product)) in
          omega arith

  full_at : (a : ℕ) → slice_index full a ≡ slice_index new a
  full_at a = elim (cases_eq (a / size) (f / size)) [
    | inl e ↦
        (let bounds = block_bounds size a some in
        let base : a / size * size ≡ f / size * size = ap (λ j. j * size) e in
        let low : f / size * size ≤ a = omega (arith, bounds.0, base) in
        let high : a < f / size * size + size = omega (arith, bounds.1, base) in
        block_inside size filled (f / size) shown shown_size filled_within a low high ∙ block_of-at size new (f / size) a low high)
    | inr e ↦
        block_other size filled (f / size) shown shown_size filled_within a some e
        ∙ elim (cases_Bool (is_in (map written_block plan'.fill) (a / size))) [
          | inl in' ↦ filled_is.filled a in'
          | inr out ↦ filled_is.kept a out ∙ closed_other a (λ x. e (ap (λ n. n / size) x))
              ∙ sym (unchanged a e (sym (ap (λ bs. is_in bs (a / size)) fill_all.0) ∙ out))
        ]
  ]

  full_is : full ≡ new
  full_is = ext_get_or 0 full new (length-with_block size filled (f / size) shown shown_size filled_within ∙ filled_size ∙ sym sizes) (λ a _. full_at a)

  fill_leaves : after_steps size old (made plan'.close ++ plan'.fill) ≡ filled
  fill_leaves = after_append size old (made plan'.close) plan'.fill ∙ ap (λ s. after_steps size s plan'.fill) close_leaves

  all_is : after_steps size old (steps_of plan') ≡ new
  all_is = after_append size old (made plan'.close ++ plan'.fill) (made plan'.last) ∙ ap (λ s. after_steps size s (made plan'.last)) fill_leaves
      ∙ last_leaves ∙ full_is

  cells_free : (a : ℕ) → is_in (map_tail m) a ≡ true → in_ranges m.reserved.items a ≡ false
  cells_free a there = not_true (in_ranges m.reserved.items a)
      (all_in (λ b. not (in_ranges m.reserved.items b)) (map_tail m) a
      (all_drop (λ b. not (in_ranges m.reserved.items b)) (m.tlv + 1) (map_cells m)
      (filter_all (λ b. not (in_ranges m.reserved.items b)) (range_with_len m.space.start (m.space.end - m.space.start)))) there)
    where
      not_true : (b : Bool) → not b ≡ true → b ≡ false
      not_true true e = cc
      not_true false e = refl

  span_in_area : (a : ℕ) → is_in (span (map_tail m) message) a ≡ true → (m.space.start ≤ a) × (a < m.space.end)
  span_in_area a there =
      let in_tail : is_in (map_tail m) a ≡ true = elim (cases_Bool (is_in (map_tail m) a)) [
        | inl e ↦ e
        | inr absent ↦ (let clash : true ≡ false = sym there ∙ span_in_tail a absent in cc)
      ] in
      let above = range_above (in_ranges m.reserved.items) m.space.start m.space.start (m.space.end - m.space.start) (omega arith) in
      let low = all_in (λ b. nat_le m.space.start b) (map_tail m) a (all_drop (λ b. nat_le m.space.start b) (m.tlv + 1) (map_cells m) above) in_tail in
      (leb-true m.space.start a low, tail_below a in_tail)

  reserved_apart : (a : ℕ) → reserved_by m.space.control ts a ≡ true → is_in (span (map_tail m) message) a ≡ false
  reserved_apart a taken = span_in_tail a (elim (cases_Bool (is_in (map_tail m) a)) [
    | inr absent ↦ absent
    | inl there ↦ (let clash : true ≡ false = sym taken ∙ sym (is.ranges a) ∙ cells_free a there in cc)
  ])

  others_apart : (a : ℕ) → is_in (flat_map (λ u. u.at) ts) a ≡ true → is_in (span (map_tail m) message) a ≡ false
  others_apart a there =
      let rest : List ℕ = t.at ++ after in
      let behind : is_in rest a ≡ false =
      apart (in_ranges m.reserved.items) m.space.start m.space.end (flat_map (λ u. u.at) ts) rest order (map_parts m old ts t after is) a there in
      span_in_tail a (ap (λ cells. is_in cells a) (tail_same m old ts t after is) ∙ any_drop (λ b. b == a) 1 rest behind)

  all_steps : AllByRecursion (IsWhole size old) (steps_of plan')
  all_steps =
      let turned : size * (f / size) ≡ f / size * size = omega arith in
      let last_one : AllByRecursion (IsWhole size old) (made plan'.last ++ []) =
      made_whole size old (f / size) closing shown plan'.last plan_is.last shown_size (omega (arith, turned, home_within)) [] tt in
      let last_whole : AllByRecursion (IsWhole size old) (made plan'.last) = subst (λ ss. AllByRecursion (IsWhole size old) ss) (append-nil (made plan'.last)) last_one in
      subst (λ ss. AllByRecursion (IsWhole size old) ss) (sym (append_assoc (made plan'.close) plan'.fill (made plan'.last)))
      (made_whole size old (f / size) (block_of size old (f / size)) closing plan'.close plan_is.close close_size (omega (arith, turned, home_within)) (plan'.fill ++ made plan'.last)
      (all_whole size count old new plan'.fill (made plan'.last) room_turned sizes fill_all.1 (ap (λ bs. list_all (λ k. nat_lt k count) bs) fill_all.0 ∙ count_above) last_whole))

  -- the blocks of fill have other contents, also behind close
  blocks_other : AreOther size count closed new (map written_block plan'.fill)
  blocks_other = subst (λ ks. AreOther size count closed new ks) (sym fill_all.0)
      (others_kept size count old (f / size) closing close_size home_within room_turned new blocks blocks_lack
      (filter_each is_filled (λ k. (k < count) × (block_of size old k ≢ block_of size new k)) 0 count
      (λ k low high passes. (omega arith, differ k (and_parts (not (eqb k (f / size)) && touches size (span (map_tail m) message) k) (changes size old new k) passes).1))))
    where
      differ : (k : ℕ) → changes size old new k ≡ true → block_of size old k ≢ block_of size new k
      differ k changed e =
          let same : bytes_eq (block_of size old k) (block_of size new k) ≡ true = (bytes_eq-Decides (block_of size old k) (block_of size new k)).1 e in
          let none : changes size old new k ≡ false = ap (λ b. not b) same in
          let clash : true ≡ false = sym changed ∙ none in cc

  fill_distinct : Distinct (map written_block plan'.fill)
  fill_distinct = subst Distinct (sym fill_all.0) (filter_distinct is_filled 0 count)

  all_change : EachChanges size old (steps_of plan')
  all_change = each_append size old (made plan'.close ++ plan'.fill) (made plan'.last)
      (each_append size old (made plan'.close) plan'.fill (made_changes size old (f / size) closing plan'.close plan_is.close)
      (subst (λ s. EachChanges size s plan'.fill) (sym close_leaves)
      (fills_change size count closed new plan'.fill (omega (arith, closed_size, room_turned)) (sizes ∙ sym closed_size) fill_all.1 fill_distinct blocks_other)))
      (subst (λ s. EachChanges size s (made plan'.last)) (sym fill_leaves) (made_changes size filled (f / size) shown plan'.last last_is))

  count_parts : (k : ℕ) → writes_of k (steps_of plan') ≡ writes_of k (made plan'.close) + writes_of k plan'.fill + writes_of k (made plan'.last)
  count_parts k = writes-append k (made plan'.close ++ plan'.fill) (made plan'.last)
      ∙ ap (λ n. n + writes_of k (made plan'.last)) (writes-append k (made plan'.close) plan'.fill)

  home_twice : writes_of (home size (map_tail m)) (steps_of plan') ≤ 2
  home_twice =
      let first = writes_made (f / size) (block_of size old (f / size)) closing plan'.close plan_is.close in
      let second = writes_made (f / size) closing shown plan'.last plan_is.last in
      let none = writes_absent (f / size) plan'.fill (ap (λ bs. is_in bs (f / size)) fill_all.0 ∙ blocks_lack) in
      omega (arith, count_parts (f / size), first, second, none)

  others_once : (k : ℕ) → k ≢ home size (map_tail m) → writes_of k (steps_of plan') ≤ 1
  others_once k other =
      let first = writes_none (f / size) k (block_of size old (f / size)) closing plan'.close plan_is.close other in
      let second = writes_none (f / size) k closing shown plan'.last plan_is.last other in
      let one = writes_once k plan'.fill fill_distinct in
      omega (arith, count_parts k, first, second, one)

  kept : PlanKeeps size m.space ts (map_tail m) old message plan'
  kept = record {
    empty = λ n. subst (λ s. Holds m.space s []) (sym (image_leaves n)) (empty_holds n);
    new = subst (λ s. IsNew (map_tail m) old message s) (sym all_is) new_is;
    holds = subst (λ s. Holds m.space s message) (sym all_is) new_holds;
    outside = λ n. subst (λ s. SameOutside (span (map_tail m) message) old s) (sym (image_leaves n)) (outside_span n);
    inside = span_in_area;
    reserved = reserved_apart;
    others = others_apart;
    whole = all_steps;
    changed = all_change;
    twice = home_twice;
    once = others_once;
  }

  -- a plan of a store with this map keeps what the layout of that store has
  pub plan_keeps : PlanKeeps size m.space ts (message_tail t.at after) old message plan'
  plan_keeps = subst (λ tail. PlanKeeps size m.space ts tail old message plan') (tail_same m old ts t after is) kept
