-- The area of a Type 5 tag's memory whose container is whole.
use Rattle.std.proofs.Common.{◌≡◌, ◌≤◌, ℕ, List, length, Bool, false, Ok, inl, inr, ap, ◌∙◌, arith}
use Rattle.std.proofs.lemmas.Bool.{cases_Bool}
use Rattle.tlv_area.specs.declared.space.Space.{Space}
use Rattle.tlv_area.specs.declared.container.T5Container.TheVariants.{Ready}
use Rattle.tlv_area.specs.Containers.{T5Area, t5_container, t5_front, t5_is_open}
use Rattle.tlv_area.specs.Layout.{IsArea}
use Rattle.tlv_area.specs.Stores.{t5_area_by, t5_reach}
use Rattle.tlv_area.proofs.FrontContainers.{IsNamed, front_ready, is_named, reach_area}
use Rattle.zevlodek_c.specs.Dumps.{area_told, t5_area_told}

closed : (memory : List ℕ) (space : Space) (wide many : Bool) → t5_front memory ≡ Ok (Ready space wide many) → t5_is_open memory ≡ false
closed memory space wide many e = elim (cases_Bool (t5_is_open memory)) [
  | inl open' ↦ (let h = rw open' at e in absurd (cc))
  | inr shut ↦ shut
]

pub area_is : (size : ℕ) (memory : List ℕ) (space : Space) (wide many : Bool) → t5_front memory ≡ Ok (Ready space wide many)
    → t5_area_told size memory ≡ Ok (t5_reach size (record { space = space; wide = wide; many = many }))
area_is size memory space wide many e =
    ap (λ b. area_told b (t5_area_by size (t5_container memory))) (closed memory space wide many e)
    ∙ ap (λ r. area_told false (t5_area_by size r)) (front_ready memory space wide many e)

-- it begins in the memory
pub record Begins (memory : List ℕ) (space : Space) : Type 0 where
  pub area : IsArea space
  pub low : space.start ≤ length memory

pub area_begins : (size : ℕ) (memory : List ℕ) (space : Space) (wide many : Bool) → 1 ≤ size → t5_front memory ≡ Ok (Ready space wide many)
    → Begins memory (t5_reach size (record { space = space; wide = wide; many = many }))
area_begins size memory space wide many some e =
    let area : T5Area = record { space = space; wide = wide; many = many } in
    let named : IsNamed memory area = is_named memory area (front_ready memory space wide many e) in
    record {
      area = reach_area size memory area some named;
      low = omega (arith, ap (λ (a : T5Area). a.space.start) named.is, named.within);
    }
