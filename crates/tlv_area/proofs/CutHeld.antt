-- Where a walk over a whole memory needs a byte behind its end, the area cut there holds no message.
use Rattle.std.proofs.Common.{◌≡◌, ℕ, ◌≤◌, List, ◌++◌, length, refl, sym, ◌∙◌, ap, arith, subst, append_assoc}
use Rattle.std.specs.List.{flat_map}
use Rattle.tlv_area.specs.declared.space.Space.{Space}
use Rattle.tlv_area.specs.declared.space.AreaMap.{AreaMap}
use Rattle.tlv_area.specs.declared.walk.Walk.TheVariants as walk
use Rattle.tlv_area.specs.Layout.{Layout, free, reserved_by}
use Rattle.tlv_area.specs.Form.{Comes, Unknown}
use Rattle.tlv_area.specs.Map.{IsWalk, IsMap}
use Rattle.tlv_area.proofs.Free.{free_split}
use Rattle.tlv_area.proofs.OneNext.{needs_more}

pub cut_not_held : (space : Space) (memory : List ℕ) (m : AreaMap) → space.start ≤ length memory → length memory ≤ space.end →
    Comes space memory Unknown → IsWalk (record space { end = length memory }) memory (walk.Held m) → ⊥
cut_not_held space memory m low high unknown is =
    let near : Space = record space { end = length memory } in
    let layout : Layout near memory is.1 ((is.2).at ++ is.3) = subst (λ s. Layout s memory is.1 ((is.2).at ++ is.3)) is.0 is.4.layout in
    let r = reserved_by space.control is.1 in
    let back : List ℕ = free r (length memory) space.end in
    let joined : List ℕ = flat_map (λ t. t.at) is.1 in
    let addresses : joined ++ ((is.2).at ++ (is.3 ++ back)) ≡ free r space.start space.end =
    ap (λ xs. joined ++ xs) (sym (append_assoc (is.2).at is.3 back)) ∙ sym (append_assoc joined ((is.2).at ++ is.3) back)
    ∙ ap (λ xs. xs ++ back) layout.addresses ∙ sym (free_split r space.start (length memory) space.end low high) in
    let control : m.space.control ≡ space.control = ap (λ s. s.control) is.0 in
    let whole : IsMap memory (record m { space = space }) is.1 is.2 (is.3 ++ back) = record {
      layout = record { addresses = addresses; lie = layout.lie; plain = layout.plain };
      lies = is.4.lies;
      message = is.4.message;
      ordered = is.4.ordered;
      ranges = λ a. is.4.ranges a ∙ ap (λ c. reserved_by c is.1 a) control;
      place = is.4.place;
      long' = is.4.long';
      size = is.4.size;
    } in
    let clash = needs_more space memory (walk.Held (record m { space = space })) (omega arith) (refl, is.1, is.2, is.3 ++ back, whole) unknown in
    cc
