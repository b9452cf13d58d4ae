-- The forms of a tag's store while a plan is carried out: its container stays.
use Rattle.std.proofs.Common.{◌≡◌, ℕ, ◌<◌, false, cond, List, [], length, refl, sym, ◌∙◌, ap, arith, subst, Option, Some, None, Ok, inl, inr}
use Rattle.std.specs.Prelude.{slice_index}
use Rattle.std.proofs.lemmas.Bool.{cases_Bool}
use Rattle.tlv_area.specs.declared.space.AreaMap.{AreaMap}
use Rattle.tlv_area.specs.declared.space.Space.{Space}
use Rattle.tlv_area.specs.declared.step.Plan.{Plan}
use Rattle.tlv_area.specs.declared.container.ContainerFault.{ContainerFault}
use Rattle.tlv_area.specs.Layout.{Tlv}
use Rattle.tlv_area.specs.Form.{Form, Message, IsForm}
use Rattle.tlv_area.specs.Containers.{first_fault, unless, t2_faults, t2_space, t2_container, t5_faults, t5_named, t5_is_long, t5_container_size, t5_container}
use Rattle.tlv_area.specs.Stores.{four_bytes, cut, t5_reach, cut_by, t5_area_by, t5_area, IsFormBy, IsT2Form, IsT5Form}
use Rattle.tlv_area.specs.Tail.{span}
use Rattle.tlv_area.specs.Writing.{is_in, SameOutside, image, after_steps, steps_of, PlanKeeps, KeepsKind}

-- the area of a Type 2 tag begins behind its container
pub t2_start : (b : List ℕ) (space : Space) → t2_container b ≡ Ok space → space.start ≡ 16
t2_start b space is = by_fault (first_fault (t2_faults b)) is
  where
    by_fault : (o : Option ContainerFault) → unless o (t2_space b) ≡ Ok space → space.start ≡ 16
    by_fault (Some f) e = cc
    by_fault None e = let same : t2_space b ≡ space = cc in sym (ap (λ s. s.start) same)

-- so does that of a Type 5 tag
t5_start : (size : ℕ) (store : List ℕ) (space : Space) → cut_by (t5_area size store) (length store) ≡ Ok space → space.start ≡ t5_container_size store
t5_start size store space is = by_fault (first_fault (t5_faults store)) is
  where
    by_fault : (o : Option ContainerFault) → cut_by (t5_area_by size (unless o (t5_named store))) (length store) ≡ Ok space → space.start ≡ t5_container_size store
    by_fault (Some f) e = cc
    by_fault None e = let same : cut (t5_reach size (t5_named store)) (length store) ≡ space = cc in sym (ap (λ s. s.start) same)

-- a container is that of each store of the same length with the same bytes there
t5_same : (old new : List ℕ) → length new ≡ length old → ((a : ℕ) → a < t5_container_size old → slice_index new a ≡ slice_index old a) →
    t5_container new ≡ t5_container old
t5_same old new sizes same = elim (cases_Bool (t5_is_long old)) [
  | inl long ↦
      (let eight : t5_container_size old ≡ 8 = ap (λ b. cond b 8 4) long in
      let at : (a : ℕ) → a < 8 → slice_index new a ≡ slice_index old a = λ a low. same a (omega (arith, eight, low)) in
      let b0 = at 0 (omega arith) in
      let b1 = at 1 (omega arith) in
      let b2 = at 2 (omega arith) in
      let b3 = at 3 (omega arith) in
      let b6 = at 6 (omega arith) in
      let b7 = at 7 (omega arith) in
      rw (b0, b1, b2, b3, b6, b7, sizes) refl)
  | inr short ↦
      (let four : t5_container_size old ≡ 4 = ap (λ b. cond b 8 4) short in
      let at : (a : ℕ) → a < 4 → slice_index new a ≡ slice_index old a = λ a low. same a (omega (arith, four, low)) in
      let b0 = at 0 (omega arith) in
      let b1 = at 1 (omega arith) in
      let b2 = at 2 (omega arith) in
      let b3 = at 3 (omega arith) in
      rw (b0, b1, b2, b3, sizes, short) refl)
]

module _ (size : ℕ) (m : AreaMap) (ts : List Tlv) (tail old message : List ℕ) (plan' : Plan) (keeps : PlanKeeps size m.space ts tail old message plan') where
  -- an address before the area isn't in the span
  before_area : (a : ℕ) → a < m.space.start → is_in (span tail message) a ≡ false
  before_area a low = elim (cases_Bool (is_in (span tail message) a)) [
    | inr absent ↦ absent
    | inl there ↦ absurd (omega (arith, (keeps.inside a there).0, low))
  ]

  -- what the area holds, the tag does
  t2_form : t2_container (four_bytes old 12) ≡ Ok m.space → (s : List ℕ) (f : Form) → SameOutside (span tail message) old s → IsForm m.space s f → IsT2Form s f
  t2_form names s f outside form =
      let start = t2_start (four_bytes old 12) m.space names in
      let at : (a : ℕ) → a < 16 → slice_index s a ≡ slice_index old a = λ a low. outside.same a (before_area a (omega (arith, start, low))) in
      let b0 = at 12 (omega arith) in
      let b1 = at 13 (omega arith) in
      let b2 = at 14 (omega arith) in
      let b3 = at 15 (omega arith) in
      let bytes : four_bytes s 12 ≡ four_bytes old 12 = rw (b0, b1, b2, b3) refl in
      subst (λ c. IsFormBy c s f) (sym (ap t2_container bytes ∙ names)) form

  t5_form : cut_by (t5_area size old) (length old) ≡ Ok m.space → (s : List ℕ) (f : Form) → SameOutside (span tail message) old s → IsForm m.space s f →
      IsT5Form size s f
  t5_form names s f outside form =
      let start = t5_start size old m.space names in
      let container : t5_container s ≡ t5_container old =
      t5_same old s outside.size (λ a low. outside.same a (before_area a (omega (arith, start, low)))) in
      let area : cut_by (t5_area size s) (length s) ≡ Ok m.space =
      ap (λ c. cut_by (t5_area_by size c) (length s)) container ∙ ap (λ n. cut_by (t5_area size old) n) outside.size ∙ names in
      subst (λ c. IsFormBy c s f) (sym area) form

  -- each message that the area holds is what the tag holds
  pub kind_kept : KeepsKind size m old message plan'
  kind_kept = record {
    t2 = λ names. record {
      empty = λ n. t2_form names (image size old plan' n) (Message []) (keeps.outside n) (keeps.empty n);
      holds = t2_form names (after_steps size old (steps_of plan')) (Message message) keeps.new.outside keeps.holds;
    };
    t5 = λ names. record {
      empty = λ n. t5_form names (image size old plan' n) (Message []) (keeps.outside n) (keeps.empty n);
      holds = t5_form names (after_steps size old (steps_of plan')) (Message message) keeps.new.outside keeps.holds;
    };
  }
