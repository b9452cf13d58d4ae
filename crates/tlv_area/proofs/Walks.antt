-- Where a walk stands, and what follows from what stands next.
use Rattle.std.proofs.Common.{◌≡◌, ◌≢◌, ℕ, ◌+◌, ◌-◌, ◌<◌, ◌≤◌, Bool, false, List, [], ◌∷◌, ◌++◌, length, refl, sym, ◌∙◌, ap, arith, subst, take, drop, inl, inr, ◌⊎◌, leb, ltb}
use Rattle.std.specs.Prelude.{◌&&◌, ◌||◌, slice_index}
use Rattle.std.specs.List.{flat_map, All}
use Rattle.std.proofs.lemmas.Bool.{le-ltb, and_right, cases_lt}
use Rattle.std.proofs.lemmas.List.{length-append, take-append-drop, take_rest}
use Rattle.std.proofs.lemmas.List.Folds.{list_any-append, list_any_none}
use Rattle.tlv_area.specs.declared.space.Space.{Space}
use Rattle.tlv_area.specs.declared.space.AreaMap.{AreaMap}
use Rattle.tlv_area.specs.declared.walk.Walk.{Walk}
use Rattle.tlv_area.specs.declared.walk.Walk.TheVariants as walk
use Rattle.tlv_area.specs.declared.walk.Walker.{Walker}
use Rattle.tlv_area.specs.declared.ahead.Ahead.{Ahead}
use Rattle.tlv_area.specs.declared.ahead.Ahead.TheVariants as ahead
use Rattle.tlv_area.specs.declared.ahead.Found.{Found}
use Rattle.tlv_area.specs.Layout.{IsArea, free, bytes_at, Tlv, Layout}
use Rattle.tlv_area.specs.Form.{Next, End, Fault, next, Comes, NeedsMore}
use Rattle.tlv_area.specs.Map.{in_ranges, IsOrdered, IsWalk, IsSettled}
use Rattle.tlv_area.specs.Reading.{IsAhead, IsFound, HasThree, Reserves, tlv_size}
use Rattle.tlv_area.specs.Walking.{Trail, StandsAfter, IsNext, IsPassed, StopsAt, Finds, map_here}
use Rattle.tlv_area.proofs.Free.{free_split}
use Rattle.tlv_area.proofs.Runs.{free_same}
use Rattle.tlv_area.proofs.Fronts.{all_grow, fronts_settle}
use Rattle.tlv_area.proofs.OneNext.{needs_more}
use Rattle.tlv_area.proofs.Cuts.{cuts_settle, whole_settled, settled_form, held_places}
use Rattle.tlv_area.proofs.Trails.{trail_layout, walk_more, found_size, found_within, found_fits, found_control, found_three, flat_push, next_lies}

-- ranges that lie behind an address don't reserve it
passed_open : (rs : List (ℕ × ℕ)) (at a : ℕ) → All (IsPassed at) rs → at ≤ a → in_ranges rs a ≡ false
passed_open rs at a passed low = list_any_none (λ r. leb r.0 a && ltb a r.1) rs (λ k d there. behind _ (passed k d there).1)
  where
    behind : (r : ℕ × ℕ) → r.1 ≤ at → (leb r.0 a && ltb a r.1) ≡ false
    behind r h = ap (λ b. leb r.0 a && b) (le-ltb a r.1 (omega arith)) ∙ and_right (leb r.0 a) false refl

pub ahead_of : (rs : List (ℕ × ℕ)) (n at a : ℕ) → All (IsPassed at) (take n rs) → at ≤ a → in_ranges (drop n rs) a ≡ in_ranges rs a
ahead_of rs n at a passed low =
    sym (ap (λ ys. in_ranges ys a) (sym (take-append-drop n rs))
    ∙ list_any-append (λ r. leb r.0 a && ltb a r.1) (take n rs) (drop n rs)
    ∙ ap (λ b. b || in_ranges (drop n rs) a) (passed_open (take n rs) at a passed low))

-- what stands next depends on the addresses from there on
module _ (r s : ℕ → Bool) (memory : List ℕ) (at end : ℕ) (same : (a : ℕ) → at ≤ a → r a ≡ s a) where
  cells_same : (from to : ℕ) → at ≤ from → free r from to ≡ free s from to
  cells_same from to low = free_same r s from to (λ b h _. same b (omega arith))

  found_same : (found : Found) (t : Tlv) → IsFound r memory at end found t → IsFound s memory at end found t
  found_same found t is = record {
    kind = is.kind;
    long = is.long;
    size = is.size;
    value = is.value ∙ ap (λ cs. bytes_at memory cs) (cells_same found.from found.past (omega (arith, is.from_above)));
    addresses = is.addresses ∙ cells_same at found.past (omega arith);
    from_above = is.from_above;
    past_above = is.past_above;
    below = is.below;
    known = is.known;
    last = sym (same (found.past - 1) (omega (arith, is.from_above, is.past_above))) ∙ is.last;
    three = is.three;
  }

  pub ahead_same : (result : Ahead) → IsAhead r memory at end result → IsAhead s memory at end result
  ahead_same ahead.End is = ap (λ cs. next memory cs) (sym (cells_same at end (omega arith))) ∙ is
  ahead_same ahead.Fault is = ap (λ cs. next memory cs) (sym (cells_same at end (omega arith))) ∙ is
  ahead_same ahead.Unknown is = ap (λ cs. next memory cs) (sym (cells_same at end (omega arith))) ∙ is
  ahead_same (ahead.Item found) is = (is.0, ap (λ cs. next memory cs) (sym (cells_same at end (omega arith))) ∙ is.1, found_same found is.0 is.2)

module _ (w : Walker) (memory : List ℕ) (ts : List Tlv) (here : StandsAfter w memory ts) where
  abbrev r : ℕ → Bool
  r = in_ranges w.reserved.items

  layout : Layout w.space memory ts (free r w.at w.space.end)
  layout = trail_layout w.space memory ts w.at r here.trail here.low here.high

  -- what the ranges ahead of it tell stands next
  pub ahead_here : (xs : List (ℕ × ℕ)) (result : Ahead) → xs ≡ w.reserved.items →
      IsAhead (in_ranges (take (length xs - w.passed) (drop w.passed xs))) memory w.at w.space.end result → IsAhead r memory w.at w.space.end result
  ahead_here xs result are is =
      let rest : take (length xs - w.passed) (drop w.passed xs) ≡ drop w.passed w.reserved.items = take_rest xs w.passed ∙ ap (λ ys. drop w.passed ys) are in
      ahead_same (in_ranges (drop w.passed w.reserved.items)) r memory w.at w.space.end (λ a low. ahead_of w.reserved.items w.passed w.at a here.passed low) result
      (subst (λ ys. IsAhead (in_ranges ys) memory w.at w.space.end result) rest is)

  pub comes_here : (what : Next) → next memory (free r w.at w.space.end) ≡ what → Comes w.space memory what
  comes_here what is = (ts, free r w.at w.space.end, layout, is)

  -- what isn't a TLV
  pub stop_here : (result : Ahead) → IsAhead r memory w.at w.space.end result → ((found : Found) → result ≡ ahead.Item found → ⊥) → StopsAt w memory result
  stop_here ahead.End is other = is
  stop_here ahead.Fault is other = is
  stop_here ahead.Unknown is other = is
  stop_here (ahead.Item found) is other = absurd (other found refl)

  pub stands_grown : (more : List ℕ) → StandsAfter w (memory ++ more) ts
  stands_grown more = record {
    area = here.area;
    trail = record { joined = here.trail.joined; same = here.trail.same; lie = all_grow memory more ts here.trail.lie; plain = here.trail.plain };
    ordered = here.ordered;
    low = here.low;
    high = here.high;
    place = here.place;
    place_low = here.place_low;
    room = here.room;
    counted = here.counted;
    passed = here.passed;
  }

  module _ (bytes : (i : ℕ) → slice_index memory i < 256) (found : Found) (t : Tlv) (stands : IsNext w memory found t) where
    held_here : found.kind ≡ 3 → IsWalk w.space memory (walk.Held (map_here w found))
    held_here kind =
        let is = stands.found' in
        let front : t.at ++ free r found.past w.space.end ≡ free r w.at w.space.end =
        ap (λ cells. cells ++ free r found.past w.space.end) is.addresses
        ∙ sym (free_split r w.at found.past w.space.end (omega (arith, is.from_above, is.past_above)) is.below) in (
          refl,
          ts,
          t,
          free r found.past w.space.end,
          record {
            layout = subst (λ cells. Layout w.space memory ts cells) (sym front) layout;
            lies = next_lies memory (free r w.at w.space.end) t bytes stands.next';
            message = is.kind ∙ kind;
            ranges = here.trail.same;
            ordered = here.ordered;
            place = here.place;
            long' = sym is.long;
            size = sym is.size;
          },
        )

    pub held_as : (space : Space) (m : AreaMap) → w.space ≡ space → m ≡ map_here w found → found.kind ≡ 3 → IsWalk space memory (walk.Held m)
    held_as space m space_is map_is kind = subst (λ n. IsWalk space memory (walk.Held n)) (sym map_is)
        (subst (λ s. IsWalk s memory (walk.Held (map_here w found))) space_is (held_here kind))

    pub three_here : found.length ≡ 3 → HasThree memory found
    three_here = found_three w.space memory w.at r found t stands.found' stands.next' bytes

    pub fits_here : found.length ≤ 65535
    fits_here = found_fits w.space memory w.at r found t stands.found' stands.next' bytes

    size_is : tlv_size found.kind found.long found.length ≡ length t.at
    size_is = found_size w.space memory w.at r found t stands.found' stands.next' bytes

    within : length t.at + w.at ≤ found.past
    within = found_within w.space memory w.at r found t stands.found' stands.next' bytes

    pub size_bound : tlv_size found.kind found.long found.length + w.at ≤ found.past
    size_bound = omega (arith, size_is, within)

    -- the ranges behind it lie behind the TLV too
    pub passed_past : (rs : List (ℕ × ℕ)) → ((n : ℕ) → n ≤ length w.reserved.items → All (λ x. x.0 ≤ found.past) (take n w.reserved.items) →
        take n rs ≡ take n w.reserved.items) → All (IsPassed found.past) (take w.passed rs)
    passed_past rs front =
        let up : w.at ≤ found.past = omega (arith, stands.found'.from_above, stands.found'.past_above) in
        subst (All (IsPassed found.past))
        (sym (front w.passed here.counted (λ k d low. let p = here.passed k d low in omega (arith, p.0))))
        (λ k d low. let p = here.passed k d low in (omega (arith, p.0), omega (arith, p.1)))

    -- past a TLV that isn't the message
    pub stands_past : (v : Walker) → v.space ≡ w.space → v.at ≡ found.past → v.tlv ≡ w.tlv + tlv_size found.kind found.long found.length →
        found.kind ≢ 3 → Reserves w.space.control memory found r (in_ranges v.reserved.items) → IsOrdered v.reserved.items →
        ((length v.reserved.items ≡ length w.reserved.items) ⊎ ((length v.reserved.items ≡ length w.reserved.items + 1) × (found.length ≡ 3) × (0 < found.kind))) →
        v.passed ≤ length v.reserved.items → All (IsPassed v.at) (take v.passed v.reserved.items) → StandsAfter v memory (ts ++ t ∷ [])
    stands_past v space_is at_is tlv_is plain adds ordered count counted passed =
        let is = stands.found' in
        let up : w.at < found.past = omega (arith, is.from_above, is.past_above) in
        let trail = walk_more w.space memory w.at r found t stands.found' stands.next' bytes ts (in_ranges v.reserved.items) here.trail here.low plain adds in
        record {
          area = subst IsArea (sym space_is) here.area;
          trail = trail_of v.space v.at (sym space_is) (sym at_is) trail;
          ordered = ordered;
          low = omega (arith, here.low, ap (λ s. s.start) space_is);
          high = omega (arith, is.below, ap (λ s. s.end) space_is);
          place = tlv_is ∙ ap (λ n. n + tlv_size found.kind found.long found.length) here.place
              ∙ ap (λ n. length (flat_map (λ u. u.at) ts) + n) size_is
              ∙ sym (ap length (flat_push ts t) ∙ length-append (flat_map (λ u. u.at) ts) t.at);
          place_low = omega (arith, here.place_low, size_bound, ap (λ s. s.start) space_is);
          room = elim count [
            | inl same ↦ omega (arith, same, here.room, ap (λ s. s.start) space_is)
            | inr more ↦ (let five : 5 ≤ length t.at = found_control w.space memory w.at r found t stands.found' stands.next' bytes more.1 more.2 in
                omega (arith, more.0, here.room, within, ap (λ s. s.start) space_is))
          ];
          counted = counted;
          passed = passed;
        }
      where
        trail_of : (space' : Space) (at' : ℕ) → w.space ≡ space' → found.past ≡ at' →
            Trail w.space memory (ts ++ t ∷ []) found.past (in_ranges v.reserved.items) → Trail space' memory (ts ++ t ∷ []) at' (in_ranges v.reserved.items)
        trail_of space' at' same_space same_at trail =
            subst (λ s. Trail s memory (ts ++ t ∷ []) at' (in_ranges v.reserved.items)) same_space
            (subst (λ a. Trail w.space memory (ts ++ t ∷ []) a (in_ranges v.reserved.items)) same_at trail)

  -- a walk that stops at something else needs no byte more
  pub no_more : ((i : ℕ) → slice_index memory i < 256) → (result : Ahead) → StopsAt w memory result → (result ≡ ahead.Unknown → ⊥) → NeedsMore w.space memory → ⊥
  no_more bytes ahead.End is other more = cc (needs_more w.space memory walk.NoMessageTlv here.area.order (comes_here End is) more)
  no_more bytes ahead.Fault is other more = cc (needs_more w.space memory walk.BadTlv here.area.order (comes_here Fault is) more)
  no_more bytes ahead.Unknown is other more = other refl
  no_more bytes (ahead.Item found) is other more =
      cc (needs_more w.space memory (walk.Held (map_here w found)) here.area.order (held_here bytes found is.0 is.1 is.2) more)

-- a walk that needs more has a front that ends before the area
pub short_front : (space : Space) (known : List ℕ) (result : Walk) → space.start ≤ space.end → result ≡ walk.More → IsWalk space known result → length known < space.end
short_front space known result order more is = elim (cases_lt (length known) space.end) [
  | inl h ↦ h
  | inr h ↦ absurd (subst IsSettled more (whole_settled space known result order h is))
]

-- what a walk finds
finds_here : (space : Space) (known : List ℕ) (result : Walk) → space.start ≤ space.end → IsWalk space known result → Finds space known result
finds_here space known result order is = record {
  form = λ within. settled_form space known result (whole_settled space known result order within is) is;
  walk' = is;
  front = λ more settled. fronts_settle space known more result settled is;
  settled = λ more settled. settled_form space (known ++ more) result settled (fronts_settle space known more result settled is);
  more' = (λ e. subst (λ r. IsWalk space known r) e is, needs_more space known result order is);
  short = λ e. short_front space known result order e is;
  places = held_places space known result order is;
  cut' = λ low settled. cuts_settle space known result low settled is;
}

pub finds : (w : Walker) (space : Space) (known : List ℕ) (result : Walk) → IsArea w.space → w.space ≡ space → IsWalk w.space known result → Finds space known result
finds w space known result area same is = subst (λ s. Finds s known result) same (finds_here w.space known result area.order is)
