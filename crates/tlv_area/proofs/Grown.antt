-- The plan of a message for a store is its plan for each memory that begins with the store.
use Rattle.std.proofs.Common.{◌≡◌, ℕ, ◌+◌, ◌-◌, ◌*◌, ◌%◌, ◌<◌, ◌≤◌, true, false, List, [], ◌∷◌, ◌++◌, length, not, refl, sym, ◌∙◌, ap, arith, subst, take, drop, map, inl, inr}
use Rattle.std.specs.Prelude.{slice_index, slice_set, ◌&&◌, ◌==◌, nat_lt}
use Rattle.std.specs.List.{AllByRecursion}
use Rattle.std.specs.Str.{bytes_eq}
use Rattle.std.proofs.lemmas.List.{length-append, get_or-append_right, get_or_append_left, drop-append-le, take-append-le, length-drop}
use Rattle.std.proofs.lemmas.Bool.{cases_lt, cases_Bool, eq-eqb}
use Rattle.std.proofs.Math.Nat.{mul-le-mul_right}
use Rattle.nfc_base.specs.Blocks.{block_of}
use Rattle.tlv_area.specs.declared.space.AreaMap.{AreaMap}
use Rattle.tlv_area.specs.declared.step.Plan.{Plan}
use Rattle.tlv_area.specs.Map.{map_cells, in_ranges}
use Rattle.tlv_area.specs.Tail.{map_tail, written, span}
use Rattle.tlv_area.specs.Writing.{is_in, IsPut, IsNew, blocks_below, fill_blocks, changes, touches, home, closed_block, IsStepTo, block_in, IsPlan, GivesPlan}
use Rattle.tlv_area.proofs.Steps.{free_below}
use Rattle.tlv_area.proofs.Holding.{all_bytes_same, in_below}
use Rattle.tlv_area.proofs.Blocks.{block_bounds, block_within}
use Rattle.tlv_area.proofs.Images.{all_drop, any_take}
use Rattle.tlv_area.proofs.Filters.{filter_same, filter_each}

-- a block that a memory has whole, a longer one has
block_grown : (size k : ℕ) (mem more : List ℕ) → k * size + size ≤ length mem → block_of size (mem ++ more) k ≡ block_of size mem k
block_grown size k mem more within =
    let turned : size * k ≡ k * size = omega arith in
    ap (λ c. take size c) (drop-append-le (size * k) mem more (omega (arith, turned, within)))
    ∙ take-append-le size (drop (size * k) mem) more (omega (arith, turned, within, length-drop (size * k) mem))

-- bytes that are put into a memory are put into a longer one
put_grown : (cells old new bytes more : List ℕ) → ((a : ℕ) → is_in cells a ≡ true → a < length old) → IsPut cells old new bytes →
    IsPut cells (old ++ more) (new ++ more) bytes
put_grown cells old new bytes more low is = record {
  outside = record {
    size = length-append new more ∙ ap (λ n. n + length more) is.outside.size ∙ sym (length-append old more);
    same = λ a away. elim (cases_lt a (length old)) [
      | inl below ↦
          get_or_append_left new more 0 a (omega (arith, below, is.outside.size)) ∙ is.outside.same a away ∙ sym (get_or_append_left old more 0 a below)
      | inr above ↦
          get_or-append_right new more (length old) a 0 is.outside.size (omega (arith, above))
          ∙ sym (get_or-append_right old more (length old) a 0 refl (omega (arith, above)))
    ];
  };
  inside = all_bytes_same new (new ++ more) cells (λ a there. get_or_append_left new more 0 a (omega (arith, low a there, is.outside.size))) ∙ is.inside;
}

-- blocks that two stores have alike give the same steps
same_blocks : (size : ℕ) (new other ks : List ℕ) → AllByRecursion (λ k. block_of size other k ≡ block_of size new k) ks →
    map (λ k. block_in size new k) ks ≡ map (λ k. block_in size other k) ks
same_blocks size new other [] each = refl
same_blocks size new other (k ∷ ks) each =
    let rest = same_blocks size new other ks each.1 in
    let here : block_in size new k ≡ block_in size other k = ap (λ (c : List ℕ). (k, c)) (sym each.0) in
    ap (λ ws. block_in size new k ∷ ws) rest ∙ ap (λ (w : ℕ × List ℕ). w ∷ map (λ j. block_in size other j) ks) here

module _ (size : ℕ) (m : AreaMap) (old message more : List ℕ) (plan' : Plan) (some : 0 < size) (order : m.space.start ≤ m.space.end)
    (room : size * blocks_below size m.space.end ≤ length old) (up : 1 ≤ length (map_tail m)) where
  abbrev count : ℕ
  count = blocks_below size m.space.end

  abbrev h : ℕ
  h = home size (map_tail m)

  end_within : m.space.end ≤ length old
  end_within = omega (arith, ends, room, turned)
    where
      ends : m.space.end ≤ count * size
      ends = omega (arith, block_bounds size (m.space.end + size - 1) some)

      turned : size * count ≡ count * size
      turned = omega arith

  tail_below : (a : ℕ) → is_in (map_tail m) a ≡ true → a < m.space.end
  tail_below a there = in_below (map_tail m) m.space.end a
      (all_drop (λ b. nat_lt b m.space.end) (m.tlv + 1) (map_cells m)
      (free_below (in_ranges m.reserved.items) m.space.start m.space.end m.space.end order (omega arith))) there

  span_below : (a : ℕ) → is_in (span (map_tail m) message) a ≡ true → a < length old
  span_below a there = elim (cases_Bool (is_in (map_tail m) a)) [
    | inl e ↦ omega (arith, tail_below a e, end_within)
    | inr e ↦
        (let none : is_in (span (map_tail m) message) a ≡ false = any_take (λ b. b == a) (length (written (length (map_tail m)) message)) (map_tail m) e in
        let clash : true ≡ false = sym there ∙ none in cc)
  ]

  block_room : (k : ℕ) → k < count → k * size + size ≤ length old
  block_room k low =
      let less : k + 1 ≤ count = omega arith in
      let product : (k + 1) * size ≡ k * size + size = omega arith in
      let turned : size * count ≡ count * size = omega arith in
      omega (arith, product, mul-le-mul_right size less, turned, room)

  home_room : h * size + size ≤ length old
  home_room =
      let turned : size * h ≡ h * size = omega arith in
      omega (arith, turned, room, block_within (slice_index (map_tail m) 0) m.space.end size some (tail_below (slice_index (map_tail m) 0) (in_head (map_tail m) up)))
    where
      in_head : (cells : List ℕ) → 1 ≤ length cells → is_in cells (slice_index cells 0) ≡ true
      in_head [] none = absurd (omega arith)
      in_head (x ∷ xs) none = rw (eq-eqb x x refl) refl

  module _ (new : List ℕ) (new_is : IsNew (map_tail m) old message new) (is : IsPlan size m.space.end (map_tail m) old message new plan') where
    sizes : length new ≡ length old
    sizes = new_is.outside.size

    old_block : (k : ℕ) → k * size + size ≤ length old → block_of size (old ++ more) k ≡ block_of size old k
    old_block k within = block_grown size k old more within

    new_block : (k : ℕ) → k * size + size ≤ length old → block_of size (new ++ more) k ≡ block_of size new k
    new_block k within = block_grown size k new more (omega (arith, within, sizes))

    filled_grown : fill_blocks size m.space.end (map_tail m) (old ++ more) message (new ++ more) ≡ fill_blocks size m.space.end (map_tail m) old message new
    filled_grown = filter_same
        (λ k. (not (k == h) && touches size (span (map_tail m) message) k) && changes size (old ++ more) (new ++ more) k)
        (λ k. (not (k == h) && touches size (span (map_tail m) message) k) && changes size old new k)
        0 count
        (λ k low.
        let within : k * size + size ≤ length old = block_room k (omega arith) in
        ap (λ c. (not (k == h) && touches size (span (map_tail m) message) k) && not (bytes_eq c (block_of size (new ++ more) k))) (old_block k within)
        ∙ ap (λ c. (not (k == h) && touches size (span (map_tail m) message) k) && not (bytes_eq (block_of size old k) c)) (new_block k within))

    closed_grown : closed_block size (map_tail m) (old ++ more) ≡ closed_block size (map_tail m) old
    closed_grown = ap (λ c. slice_set c (slice_index (map_tail m) 0 % size) 0) (old_block h home_room)

    plan_grown : IsPlan size m.space.end (map_tail m) (old ++ more) message (new ++ more) plan'
    plan_grown = record {
      close = subst (λ c. IsStepTo h c (closed_block size (map_tail m) (old ++ more)) plan'.close) (sym (old_block h home_room))
          (subst (λ c. IsStepTo h (block_of size old h) c plan'.close) (sym closed_grown) is.close);
      fill = is.fill
          ∙ same_blocks size new (new ++ more) (fill_blocks size m.space.end (map_tail m) old message new)
          (filter_each (λ k. (not (k == h) && touches size (span (map_tail m) message) k) && changes size old new k)
          (λ k. block_of size (new ++ more) k ≡ block_of size new k) 0 count (λ k low high passes. new_block k (block_room k (omega arith))))
          ∙ ap (λ ks. map (λ k. block_in size (new ++ more) k) ks) (sym filled_grown);
      last = subst (λ c. IsStepTo h c (block_of size (new ++ more) h) plan'.last) (sym closed_grown)
          (subst (λ c. IsStepTo h (closed_block size (map_tail m) old) c plan'.last) (sym (new_block h home_room)) is.last);
    }

  -- what the plan is for a store, it is for each memory that begins with it
  pub plan_of_more : GivesPlan size m old message plan' → GivesPlan size m (old ++ more) message plan'
  plan_of_more gives = (
    gives.0 ++ more,
    put_grown (span (map_tail m) message) old gives.0 (written (length (map_tail m)) message) more span_below gives.1,
    plan_grown gives.0 gives.1 gives.2,
  )
