-- What a front of a Type 5 tag's memory tells of its container, and what the memory's container is.
use Rattle.std.proofs.Common.{◌≡◌, ℕ, ◌*◌, ◌≤◌, inl, inr, List, [], ◌∷◌, ◌++◌, length, Bool, true, false, refl, sym, ◌∙◌, ap, subst, arith}
use Rattle.std.specs.Prelude.{◌==◌, ◌||◌, ◌&&◌, nat_lt, if◌then◌else◌, Result, Ok, Err, IfOk, Option, Some, None}
use Rattle.std.proofs.lemmas.Bool.{cases_Bool, le-ltb, ltb-false, and_parts}
use Rattle.tlv_area.specs.declared.space.Space.{Space}
use Rattle.tlv_area.specs.declared.container.ContainerFault.{ContainerFault}
use Rattle.tlv_area.specs.declared.container.ContainerFault.TheVariants.{BadSize}
use Rattle.tlv_area.specs.declared.container.T5Container.TheVariants.{Ready, More}
use Rattle.tlv_area.specs.Layout.{IsArea}
use Rattle.tlv_area.specs.Containers.{first_fault, unless, is_none, t5_is_long, t5_container_size, t5_mlen, t5_head_faults, t5_faults, t5_space, T5Area, t5_named, t5_container, t5_is_open, t5_ready}
use Rattle.tlv_area.specs.Containers.{t5_front}
use Rattle.tlv_area.specs.Stores.{cut, cut_by, named_blocks, t5_reach, t5_area_by, t5_area}

abbrev named_as : Space → Bool → Bool → T5Area
named_as s w m = record { space = s; wide = w; many = m }

same_area : (s t : Space) (v w m n : Bool) → s ≡ t → v ≡ w → m ≡ n →
    named_as s v m ≡ named_as t w n
same_area s t v w m n one two three = cc

ready_is : (r : Result T5Area ContainerFault) (space : Space) (wide many : Bool) → t5_ready r ≡ Ok (Ready space wide many) → r ≡ Ok (record { space = space; wide = wide; many = many })
ready_is (Ok area) space wide many e =
    let one : area.space ≡ space = cc in
    let two : area.wide ≡ wide = cc in
    let three : area.many ≡ many = cc in
    ap (λ a. Ok a) (same_area area.space space area.wide wide area.many many one two three)
ready_is (Err f) space wide many e = absurd (cc)

fault_is : (r : Result T5Area ContainerFault) (f : ContainerFault) → t5_ready r ≡ Err f → r ≡ Err f
fault_is (Ok area) f e = absurd (cc)
fault_is (Err g) f e = cc

not_more : (r : Result T5Area ContainerFault) → t5_ready r ≡ Ok More → ⊥
not_more (Ok area) e = cc
not_more (Err g) e = cc

pub front_ready : (store : List ℕ) (space : Space) (wide many : Bool) → t5_front store ≡ Ok (Ready space wide many) →
    t5_container store ≡ Ok (record { space = space; wide = wide; many = many })
front_ready store space wide many e = elim (cases_Bool (t5_is_open store)) [
  | inl open' ↦ (let h = rw open' at e in absurd (cc))
  | inr closed ↦ (let h = rw closed at e in ready_is (t5_container store) space wide many h)
]

pub front_fault : (store : List ℕ) (f : ContainerFault) → t5_front store ≡ Err f → t5_container store ≡ Err f
front_fault store f e = elim (cases_Bool (t5_is_open store)) [
  | inl open' ↦ (let h = rw open' at e in absurd (cc))
  | inr closed ↦ (let h = rw closed at e in fault_is (t5_container store) f h)
]

-- a memory that ends before its container does
first_after : (rows : List (Bool × ContainerFault)) (row : Bool × ContainerFault) → first_fault rows ≡ None → row.0 ≡ true → first_fault (rows ++ row ∷ []) ≡ Some row.1
first_after [] row none is = rw is refl
first_after (r ∷ rows) row none is = elim (cases_Bool r.0) [
  | inl at_it ↦ (let h = rw at_it at none in absurd (cc))
  | inr not_it ↦ rw not_it (first_after rows row (rw not_it at none) is)
]

none_is : (o : Option ContainerFault) → is_none o ≡ true → o ≡ None
none_is None e = refl
none_is (Some f) e = absurd (cc)

pub front_more : (store : List ℕ) → 4 ≤ length store → t5_front store ≡ Ok More → t5_container store ≡ Err BadSize
front_more store least e = elim (cases_Bool (t5_is_open store)) [
  | inr closed ↦ (let h = rw closed at e in absurd (not_more (t5_container store) h))
  | inl open' ↦
      (let some : nat_lt (length store) 4 ≡ false = le-ltb (length store) 4 least in
      let rest : (is_none (first_fault (t5_head_faults store)) && t5_is_long store && nat_lt (length store) 8) ≡ true = rw some at open' in
      let parts = and_parts (is_none (first_fault (t5_head_faults store)) && t5_is_long store) (nat_lt (length store) 8) rest in
      let two = and_parts (is_none (first_fault (t5_head_faults store))) (t5_is_long store) parts.0 in
      let eight : t5_container_size store ≡ 8 = rw two.1 refl in
      let short : (nat_lt (length store) (t5_container_size store) || (t5_mlen store == 0)) ≡ true =
      ap (λ n. nat_lt (length store) n || (t5_mlen store == 0)) eight ∙ rw parts.1 refl in
      let is : first_fault (t5_faults store) ≡ Some BadSize =
      first_after (t5_head_faults store) (nat_lt (length store) (t5_container_size store) || (t5_mlen store == 0), BadSize) (none_is (first_fault (t5_head_faults store)) two.0) short in
      ap (λ o. unless o (t5_named store)) is)
]

neither : (a b : Bool) → (a || b) ≡ false → a ≡ false
neither true b e = e
neither false b e = refl

-- what a container without a fault names
first_last : (rows : List (Bool × ContainerFault)) (row : Bool × ContainerFault) → first_fault (rows ++ row ∷ []) ≡ None → row.0 ≡ false
first_last [] row none = elim (cases_Bool row.0) [
  | inl at_it ↦ (let h = rw at_it at none in absurd (cc))
  | inr not_it ↦ not_it
]
first_last (r ∷ rows) row none = elim (cases_Bool r.0) [
  | inl at_it ↦ (let h = rw at_it at none in absurd (cc))
  | inr not_it ↦ first_last rows row (rw not_it at none)
]

pub record IsNamed (store : List ℕ) (area : T5Area) : Type 0 where
  pub is : t5_named store ≡ area
  pub within : t5_container_size store ≤ length store
  pub least : 4 ≤ t5_container_size store
  pub most : t5_container_size store ≤ 8

size_least : (long : Bool) → 4 ≤ (if long then 8 else 4)
size_least true = omega arith
size_least false = omega arith

size_most : (long : Bool) → (if long then 8 else 4) ≤ 8
size_most true = omega arith
size_most false = omega arith

pub is_named : (store : List ℕ) (area : T5Area) → t5_container store ≡ Ok area → IsNamed store area
is_named store area has = by_fault (first_fault (t5_faults store)) refl has
  where
    by_fault : (o : Option ContainerFault) → first_fault (t5_faults store) ≡ o → unless o (t5_named store) ≡ Ok area → IsNamed store area
    by_fault (Some f) e h = absurd (cc)
    by_fault None e h =
        let flag = first_last (t5_head_faults store) (nat_lt (length store) (t5_container_size store) || (t5_mlen store == 0), BadSize) e in
        let fits : nat_lt (length store) (t5_container_size store) ≡ false = neither (nat_lt (length store) (t5_container_size store)) (t5_mlen store == 0) flag in
        record {
          is = cc;
          within = ltb-false (length store) (t5_container_size store) fits;
          least = size_least (t5_is_long store);
          most = size_most (t5_is_long store);
        }

-- an area that a container names is one, also where it is cut
space_of : (store : List ℕ) (area : T5Area) → IsNamed store area → area.space ≡ t5_space store
space_of store area is = ap (λ a. a.space) (sym is.is)

pub named_area : (store : List ℕ) (area : T5Area) → IsNamed store area → IsArea area.space
named_area store area is = subst IsArea (sym (space_of store area is)) (record { order = omega arith; small = λ control. absurd (cc) })

pub cut_area : (space : Space) (end : ℕ) → IsArea space → space.start ≤ end → IsArea (cut space end)
cut_area space end is low = record { order = omega (arith, is.order); small = λ control. omega (arith, is.small control) }

some_named : (wide : Bool) (size : ℕ) → 1 ≤ size → 256 ≤ named_blocks wide * size
some_named true size some = omega arith
some_named false size some = omega arith

pub reach_area : (size : ℕ) (store : List ℕ) (area : T5Area) → 1 ≤ size → IsNamed store area → IsArea (t5_reach size area)
reach_area size store area some is =
    cut_area area.space (named_blocks area.wide * size) (named_area store area is)
    (omega (arith, ap (λ s. s.start) (space_of store area is), is.most, some_named area.wide size some))

pub area_of_five : (size end : ℕ) (store : List ℕ) → 1 ≤ size → length store ≤ end → IfOk (cut_by (t5_area size store) end) IsArea
area_of_five size end store some low = by_container (t5_container store) refl
  where
    by_container : (r : Result T5Area ContainerFault) → t5_container store ≡ r → IfOk (cut_by (t5_area_by size r) end) IsArea
    by_container (Err f) e = tt
    by_container (Ok area) e =
        let is = is_named store area e in
        cut_area (t5_reach size area) end (reach_area size store area some is) (omega (arith, ap (λ s. s.start) (space_of store area is), is.within, low))

pub ready_area : (size end : ℕ) (store : List ℕ) (area : T5Area) → 1 ≤ size → length store ≤ end → t5_container store ≡ Ok area → IsArea (cut (t5_reach size area) end)
ready_area size end store area some low has =
    subst (λ r. IfOk (cut_by (t5_area_by size r) end) IsArea) has (area_of_five size end store some low)

pub area_in_reach : (size : ℕ) (store : List ℕ) → 1 ≤ size → IfOk (t5_area size store) IsArea
area_in_reach size store some = by_container (t5_container store) refl
  where
    by_container : (r : Result T5Area ContainerFault) → t5_container store ≡ r → IfOk (t5_area_by size r) IsArea
    by_container (Err f) e = tt
    by_container (Ok area) e = reach_area size store area some (is_named store area e)
