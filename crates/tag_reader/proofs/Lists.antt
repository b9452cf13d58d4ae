-- The list of what is asked of a store is one, and what is asked so far is a front of it.
use Rattle.std.proofs.Common.{◌≡◌, ℕ, zero, suc, ◌+◌, ◌-◌, ◌*◌, ◌<◌, ◌≤◌, inl, inr, List, [], ◌∷◌, ◌++◌, length, take, refl, sym, ◌∙◌, ap, append_assoc, append-nil, arith}
use Rattle.std.specs.Prelude.{Ok, Err}
use Rattle.std.proofs.lemmas.Bool.{cases_lt}
use Rattle.nfc_base.specs.Signal.{Signal}
use Rattle.tlv_area.specs.declared.container.ContainerFault.{ContainerFault}
use Rattle.tlv_area.specs.declared.space.Space.{Space}
use Rattle.tlv_area.specs.Form as form
use Rattle.tag_reader.specs.declared.how.How.{How}
use Rattle.tag_reader.specs.declared.how.How.TheVariants.{T2}
use Rattle.tag_reader.specs.Kinds.{area_of, command, first}
use Rattle.tag_reader.specs.Asked.{Aim, ToRead, AreDueFor, IsAskedFor, IsDue, AreDue, IsAsked}

pub one_list_for : (aim : Aim) (how : How) (size : ℕ) (store : List ℕ) (xs ys : List Signal) → IsAskedFor aim how size store xs → IsAskedFor aim how size store ys → xs ≡ ys
one_list_for aim how size store xs ys one other = elim (cases_lt one.count other.count) [
  | inl less ↦ absurd (one.no_more (other.each one.count less))
  | inr more ↦ elim (cases_lt other.count one.count) [
    | inl less ↦ absurd (other.no_more (one.each other.count less))
    | inr rest ↦ (let same : one.count ≡ other.count = omega arith in one.list ∙ ap (λ n. first how size store n) same ∙ sym other.list)
  ]
]

pub one_list : (how : How) (size : ℕ) (store : List ℕ) (xs ys : List Signal) → IsAsked how size store xs → IsAsked how size store ys → xs ≡ ys
one_list how size store xs ys one other = one_list_for ToRead how size store xs ys one other

first_split : (how : How) (size : ℕ) (store : List ℕ) (n m : ℕ) → (rest : List Signal) × (first how size store (n + m) ≡ first how size store n ++ rest)
first_split how size store n zero = let e : n + 0 ≡ n = omega arith in ([], ap (λ k. first how size store k) e ∙ sym (append-nil (first how size store n)))
first_split how size store n (suc m) =
    let e : n + suc m ≡ suc (n + m) = omega arith in
    let part = first_split how size store n m in (
      part.0 ++ command how size store (n + m) ∷ [],
      ap (λ k. first how size store k) e ∙ ap (λ xs. xs ++ command how size store (n + m) ∷ []) part.1 ∙ append_assoc (first how size store n) part.0 (command how size store (n + m) ∷ []),
    )

-- what is asked so far
pub asked_front_for : (aim : Aim) (how : How) (size : ℕ) (store : List ℕ) (n : ℕ) (xs : List Signal) → AreDueFor aim how size store n → IsAskedFor aim how size store xs →
    (rest : List Signal) × (xs ≡ first how size store n ++ rest)
asked_front_for aim how size store n xs each all = elim (cases_lt all.count n) [
  | inl past ↦ absurd (all.no_more (each all.count past))
  | inr within ↦ (let parts = first_split how size store n (all.count - n) in
      let e : n + (all.count - n) ≡ all.count = omega arith in
      (parts.0, all.list ∙ ap (λ k. first how size store k) (sym e) ∙ parts.1))
]

pub asked_front : (how : How) (size : ℕ) (store : List ℕ) (n : ℕ) (xs : List Signal) → AreDue how size store n → IsAsked how size store xs →
    (rest : List Signal) × (xs ≡ first how size store n ++ rest)
asked_front how size store n xs each all = asked_front_for ToRead how size store n xs each all

-- a list up to where no more is due
pub asked_all : (how : How) (size : ℕ) (store : List ℕ) (n : ℕ) → AreDue how size store n → (IsDue how size store n → ⊥) → (xs : List Signal) × IsAsked how size store xs
asked_all how size store n each no_more = (first how size store n, record { count = n; list = refl; each = each; no_more = no_more })

pub one_due : (how : How) (size : ℕ) (store : List ℕ) → AreDue how size store 1
one_due how size store k low = inl (omega arith)

pub fault_ends : (size : ℕ) (store : List ℕ) (n : ℕ) (f : ContainerFault) → 0 < n → area_of T2 size store ≡ Err f → IsDue T2 size store n → ⊥
fault_ends size store n f some has (inl e) = omega arith
fault_ends size store n f some has (inr m) = let clash : Ok m.space ≡ Err f = sym m.area ∙ has in cc

-- the walk over what n READs give
pub walk_due : (size : ℕ) (store bytes : List ℕ) (space : Space) (n : ℕ) → area_of T2 size store ≡ Ok space → size * n ≤ length store → bytes ≡ take (size * n) store →
    form.NeedsMore space bytes → IsDue T2 size store n
walk_due size store bytes space n has within same more = inr (record {
  space = space;
  area = has;
  within = within;
  more = rw (sym same) more;
})

pub walk_ends : (size : ℕ) (store bytes : List ℕ) (space : Space) (n : ℕ) → 0 < n → area_of T2 size store ≡ Ok space → bytes ≡ take (size * n) store →
    (form.NeedsMore space bytes → ⊥) → IsDue T2 size store n → ⊥
walk_ends size store bytes space n some has same ends (inl e) = omega arith
walk_ends size store bytes space n some has same ends (inr m) =
    let area : m.space ≡ space = let both : Ok m.space ≡ Ok space = sym m.area ∙ has in cc in
    ends (rw (same, sym area) m.more)

pub tag_ends : (size : ℕ) (store : List ℕ) (n : ℕ) → 0 < n → length store < size * n → IsDue T2 size store n → ⊥
tag_ends size store n some short (inl e) = omega arith
tag_ends size store n some short (inr m) = let within = m.within in omega arith
