-- Where a message lies, by its map and by its layout.
use Rattle.std.proofs.Common.{◌≡◌, ℕ, suc, zero, ◌+◌, ◌<◌, ◌≤◌, Bool, true, false, cond, List, [], ◌∷◌, ◌++◌, length, refl, sym, ◌∙◌, ap, arith, take, drop, ltb}
use Rattle.std.specs.Prelude.{slice_index}
use Rattle.std.specs.List.{flat_map}
use Rattle.std.proofs.lemmas.List.{length-append, length-map, take_at, drop_at, drop-append-le, drop-map, drop-drop, length-drop, append_assoc, take-append-drop}
use Rattle.std.proofs.lemmas.List.Folds.{list_all-append}
use Rattle.std.proofs.lemmas.Bool.{and_parts, ltb-true}
use Rattle.tlv_area.specs.declared.space.AreaMap.{AreaMap}
use Rattle.tlv_area.specs.Layout.{is_known, bytes_at, Tlv, length_bytes, after_kind, reserved_by}
use Rattle.tlv_area.specs.Map.{in_ranges, IsMap, IsPlacedIn, map_cells, message_place, message_cells}
use Rattle.tlv_area.specs.Tail.{map_tail, message_tail}
use Rattle.tlv_area.proofs.Trails.{free_agree}
use Rattle.tlv_area.proofs.OneForm.{nonempty}

-- the area's free addresses, by the map
pub map_parts : (m : AreaMap) (memory : List ℕ) (ts : List Tlv) (t : Tlv) (after : List ℕ) → IsMap memory m ts t after →
    flat_map (λ u. u.at) ts ++ (t.at ++ after) ≡ map_cells m
map_parts m memory ts t after is = is.layout.addresses
    ∙ sym (free_agree (in_ranges m.reserved.items) (reserved_by m.space.control ts) m.space.start m.space.end (λ a _. is.ranges a))

-- what lies behind one address more than a list has
pub drop_past : (front : List ℕ) (x : ℕ) (tail : List ℕ) (n : ℕ) → n ≡ length front → drop (n + 1) (front ++ x ∷ tail) ≡ tail
drop_past front x tail n is =
    let size : length (front ++ x ∷ []) ≡ n + 1 = omega (arith, length-append front (x ∷ [])) in
    ap (λ cells. drop (n + 1) cells) (sym (append_assoc front (x ∷ []) tail)) ∙ drop_at (front ++ x ∷ []) tail (n + 1) size

-- the tail of a message's TLV, by the map and by the layout
pub tail_same : (m : AreaMap) (memory : List ℕ) (ts : List Tlv) (t : Tlv) (after : List ℕ) → IsMap memory m ts t after →
    map_tail m ≡ message_tail t.at after
tail_same m memory ts t after is =
    let first = nonempty memory t is.lies in
    let rest_is : t.at ++ after ≡ first.0 ∷ (first.1 ++ after) = ap (λ c. c ++ after) first.2 in
    let joined : List ℕ = flat_map (λ u. u.at) ts in
    let cells : joined ++ first.0 ∷ (first.1 ++ after) ≡ map_cells m = ap (λ c. joined ++ c) (sym rest_is) ∙ map_parts m memory ts t after is in
    ap (λ c. drop (m.tlv + 1) c) (sym cells) ∙ drop_past joined first.0 (first.1 ++ after) m.tlv is.place
    ∙ sym (ap (λ c. drop 1 c) rest_is)

-- the header and the value of a spelled message
header_value : (long : Bool) (value : List ℕ) → drop (cond long 4 2) (3 ∷ length_bytes long (length value) ++ value) ≡ value
header_value true value = refl
header_value false value = refl

header_bytes : (long : Bool) (value : List ℕ) → length (3 ∷ length_bytes long (length value) ++ value) ≡ cond long 4 2 + length value
header_bytes true value = omega arith
header_bytes false value = omega arith

known_drop : (memory : List ℕ) (n : ℕ) (cells : List ℕ) → is_known memory cells ≡ true → is_known memory (drop n cells) ≡ true
known_drop memory n cells known = (and_parts (is_known memory (take n cells)) (is_known memory (drop n cells))
    (sym (list_all-append (λ a. nat_below memory a) (take n cells) (drop n cells)) ∙ ap (λ c. is_known memory c) (take-append-drop n cells) ∙ known)).1
  where
    nat_below : List ℕ → ℕ → Bool
    nat_below memory a = ltb a (length memory)

known_one : (memory cells : List ℕ) (i : ℕ) → is_known memory cells ≡ true → i < length cells → slice_index cells i < length memory
known_one memory [] i known low = absurd (omega arith)
known_one memory (a ∷ cells) zero known low = ltb-true a (length memory) (and_parts (ltb a (length memory)) (is_known memory cells) known).0
known_one memory (a ∷ cells) (suc i) known low =
    known_one memory cells i (and_parts (ltb a (length memory)) (is_known memory cells) known).1 (omega arith)

module _ (m : AreaMap) (memory : List ℕ) (ts : List Tlv) (t : Tlv) (after : List ℕ) (is : IsMap memory m ts t after) where
  spelled : bytes_at memory t.at ≡ 3 ∷ length_bytes m.long (length t.value) ++ t.value
  spelled = is.lies.bytes ∙ ap (λ k. k ∷ after_kind k t.long t.value) is.message ∙ ap (λ b. 3 ∷ length_bytes b (length t.value) ++ t.value) (sym is.long')

  size : length t.at ≡ cond m.long 4 2 + length t.value
  size = sym (length-map t.at (λ a. slice_index memory a)) ∙ ap length spelled ∙ header_bytes m.long t.value

  cells : map_cells m ≡ flat_map (λ u. u.at) ts ++ (t.at ++ after)
  cells = sym (map_parts m memory ts t after is)

  count : length (drop (cond m.long 4 2) t.at) ≡ m.length
  count = length-drop (cond m.long 4 2) t.at ∙ omega (arith, size, is.size)

  -- the message's addresses are those of its TLV behind the header
  pub message_cells_at : message_cells m ≡ drop (cond m.long 4 2) t.at
  message_cells_at =
      let h : ℕ = cond m.long 4 2 in
      let joined : List ℕ = flat_map (λ u. u.at) ts in
      let low : h ≤ length t.at = omega (arith, size) in
      let dropped : drop (m.tlv + h) (map_cells m) ≡ drop h t.at ++ after =
      ap (λ c. drop (m.tlv + h) c) cells ∙ sym (drop-drop h m.tlv (joined ++ (t.at ++ after)))
      ∙ ap (λ c. drop h c) (drop_at joined (t.at ++ after) m.tlv (sym is.place)) ∙ drop-append-le h t.at after low in
      ap (λ c. take m.length c) dropped ∙ take_at (drop h t.at) after m.length count

  -- and the bytes there are the message
  pub message_there : bytes_at memory (message_cells m) ≡ t.value
  message_there = ap (λ c. bytes_at memory c) message_cells_at
      ∙ sym (drop-map (λ a. slice_index memory a) (cond m.long 4 2) t.at) ∙ ap (λ bs. drop (cond m.long 4 2) bs) spelled ∙ header_value m.long t.value

  pub message_fits : message_place m + m.length ≤ length (map_cells m)
  message_fits =
      let joined : List ℕ = flat_map (λ u. u.at) ts in
      let sizes : length (map_cells m) ≡ length joined + (length t.at + length after) =
      ap length cells ∙ length-append joined (t.at ++ after) ∙ ap (λ n. length joined + n) (length-append t.at after) in
      omega (arith, is.place, is.size, size, sizes)

  pub message_placed : m.space.start ≤ m.space.end → IsPlacedIn memory m
  message_placed order = record {
    placed = record { order = order; ordered = is.ordered; fits = message_fits };
    below = λ i low. (
        let known : is_known memory (drop (cond m.long 4 2) t.at) ≡ true = known_drop memory (cond m.long 4 2) t.at is.lies.known in
        let here : slice_index (message_cells m) i ≡ slice_index (drop (cond m.long 4 2) t.at) i = ap (λ c. slice_index c i) message_cells_at in
        let place : slice_index (drop (cond m.long 4 2) t.at) i < length memory = known_one memory (drop (cond m.long 4 2) t.at) i known (omega (arith, count)) in
        omega (arith, here, place));
  }
