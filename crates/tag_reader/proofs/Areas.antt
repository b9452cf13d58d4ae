-- The area that the container of a Type 2 tag names, and which READs it is due to ask for.
use Rattle.std.proofs.Common.{◌≡◌, ℕ, ◌+◌, ◌*◌, ◌%◌, ◌<◌, ◌≤◌, inl, inr, List, length, take, refl, ap, subst, arith}
use Rattle.std.specs.Prelude.{◌==◌, nat_lt, slice_index, Ok}
use Rattle.std.proofs.lemmas.Bool.{cases_lt, cases_Bool, ltb-false, eqb-true, eqb-false}
use Rattle.std.proofs.lemmas.List.{length-take-le, get_or-take}
use Rattle.t2t_tag.specs.Store.{IsT2Store}
use Rattle.tlv_area.specs.declared.space.Space.{Space}
use Rattle.tlv_area.specs.Layout.{IsArea}
use Rattle.tlv_area.specs.Containers.{t2_space, t2_container, high_nibble}
use Rattle.tlv_area.specs.Stores.{four_bytes}
use Rattle.tlv_area.proofs.Cuts.{none_unknown}
use Rattle.tag_reader.specs.declared.how.How.TheVariants.{T2}
use Rattle.tag_reader.specs.Kinds.{IsStore, area_of}
use Rattle.tag_reader.specs.Asked.{Aim, ToRead, ToWrite, NeedsMore, IsLeft, IsNextFor, IsDue}
use Rattle.tag_reader.specs.Steps.{IsInReach}

-- the area of a Type 2 tag
pub record T2Area (store : List ℕ) (space : Space) : Type 0 where
  pub start : space.start ≡ 16
  pub some : 16 < space.end
  pub within : space.end ≤ length store
  pub most : space.end ≤ 1024
  pub fours : space.end % 4 ≡ 0

pub t2_area : (store : List ℕ) (space : Space) → IsT2Store store → t2_container (four_bytes store 12) ≡ Ok space → T2Area store space
t2_area store space is has =
    elim (cases_Bool (slice_index store 12 == 0xE1)) [
      | inr other ↦ (let h = rw other at has in absurd (cc))
      | inl magic ↦ (let h = rw magic at has in elim (cases_Bool (high_nibble (slice_index store 13) == 1)) [
        | inr other ↦ (let i = rw other at h in absurd (cc))
        | inl version ↦ (let i = rw version at h in elim (cases_Bool (high_nibble (slice_index store 15) == 0)) [
          | inr other ↦ (let j = rw other at i in absurd (cc))
          | inl free ↦ (let j = rw free at i in elim (cases_Bool (nat_lt 0x7E (slice_index store 14))) [
            | inl big ↦ (let k = rw big at j in absurd (cc))
            | inr fits ↦ (let k = rw fits at j in elim (cases_Bool (slice_index store 14 == 0)) [
              | inl none ↦ (let l = rw none at k in absurd (cc))
              | inr some ↦ (let l = rw some at k in
                  let size : slice_index store 14 ≤ 126 = ltb-false 126 (slice_index store 14) fits in
                  let positive : 0 < slice_index store 14 = omega (arith, eqb-false (slice_index store 14) 0 some) in
                  let holds = is.area (eqb-true (slice_index store 12) 225 magic) size in
                  let same : t2_space (four_bytes store 12) ≡ space = cc in
                  subst (λ x. T2Area store x) same (record { start = refl; some = omega arith; within = omega (arith, is.whole); most = omega arith; fours = omega arith }))
            ])
          ])
        ])
      ])
    ]

-- what is known of an area
pub record Named (store : List ℕ) (space : Space) : Type 0 where
  pub area : IsArea space
  pub within : space.end ≤ length store

pub named : (size : ℕ) (store : List ℕ) (space : Space) → IsStore T2 size store → area_of T2 size store ≡ Ok space → Named store space
named size store space is has =
    let fits = t2_area store space is.1 has in
    record { area = record { order = omega (arith, fits.start, fits.some); small = λ control. omega (arith, fits.start, fits.most) }; within = fits.within }

-- where more is needed, less is known than the area
needs_short : (size : ℕ) (store : List ℕ) (n : ℕ) → IsStore T2 size store → (m : NeedsMore size store n) → size * n < m.space.end
needs_short size store n is m =
    let area = named size store m.space is m.area in
    let all : length (take (size * n) store) ≡ size * n = length-take-le (size * n) store m.within in
    elim (cases_lt (size * n) m.space.end) [
      | inl short ↦ short
      | inr whole ↦ absurd (none_unknown m.space (take (size * n) store) area.area.order (omega arith) m.more)
    ]

-- a READ that is due is in reach
pub due_reach : (size : ℕ) (store : List ℕ) (n : ℕ) → IsStore T2 size store → IsDue T2 size store n → IsInReach store n
due_reach size store n is (inl e) = let least = is.1.least in omega arith
due_reach size store n is (inr next) =
    let short = needs_short size store n is next in
    let area = named size store next.space is next.area in
    let same : size * n ≡ 16 * n = ap (λ s. s * n) is.0 in
    omega (arith, area.within)

-- so is one that is left of an area
pub left_reach : (size : ℕ) (store : List ℕ) (n : ℕ) → IsStore T2 size store → IsLeft T2 size store n → IsInReach store n
left_reach size store n is left =
    let area = named size store left.space is left.area in
    let same : size * n ≡ 16 * n = ap (λ s. s * n) is.0 in
    omega (arith, left.more, same, area.within)

-- behind the first READ one is asked only where the container names an area
pub next_area : (aim : Aim) (size : ℕ) (store : List ℕ) (n : ℕ) → IsNextFor aim T2 size store n → (space : Space) × (area_of T2 size store ≡ Ok space)
next_area ToRead size store n next = (next.space, next.area)
next_area ToWrite size store n next = (next.space, next.area)

-- the first bytes have the container
four_front : (bytes : List ℕ) (n i : ℕ) → i + 3 < n → four_bytes (take n bytes) i ≡ four_bytes bytes i
four_front bytes n i low =
    rw (get_or-take n bytes i 0 (omega arith), get_or-take n bytes (i + 1) 0 (omega arith), get_or-take n bytes (i + 2) 0 (omega arith), get_or-take n bytes (i + 3) 0 low) refl

pub front_area : (size : ℕ) (store : List ℕ) → IsStore T2 size store → area_of T2 size (take size store) ≡ area_of T2 size store
front_area size store is = ap (λ b. t2_container b) (four_front store size 12 (omega (arith, is.0)))

-- how many bytes the first READ gives
pub first_within : (size : ℕ) (store : List ℕ) → IsStore T2 size store → size ≤ length store
first_within size store is = let least = is.1.least in omega (arith, is.0)
