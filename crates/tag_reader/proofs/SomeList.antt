-- Each store of a Type 2 tag has a list of what is asked.
use Rattle.std.proofs.Common.{◌≡◌, ℕ, zero, suc, ◌+◌, ◌*◌, ◌<◌, ◌≤◌, inl, inr, ◌⊎◌, List, length, take, refl, arith}
use Rattle.std.specs.Prelude.{Result, Ok, Err}
use Rattle.std.proofs.lemmas.Bool.{cases_lt}
use Rattle.std.proofs.Math.Nat.{mul-le-mul_right}
use Rattle.nfc_base.specs.Signal.{Signal}
use Rattle.tlv_area.specs.declared.container.ContainerFault.{ContainerFault}
use Rattle.tlv_area.specs.declared.space.Space.{Space}
use Rattle.tlv_area.proofs.Needing.{needing}
use Rattle.tag_reader.specs.declared.how.How.TheVariants.{T2}
use Rattle.tag_reader.specs.Kinds.{IsStore, area_of}
use Rattle.tag_reader.specs.Asked.{IsDue, AreDue, IsAsked}
use Rattle.tag_reader.proofs.Areas.{named}
use Rattle.tag_reader.proofs.Knowing.{due_more}
use Rattle.tag_reader.proofs.Lists.{asked_all, one_due, fault_ends, walk_due, walk_ends, tag_ends}

-- a further READ is asked, or it isn't
due_decided : (size : ℕ) (store : List ℕ) (n : ℕ) → IsStore T2 size store → 0 < n → IsDue T2 size store n ⊎ (IsDue T2 size store n → ⊥)
due_decided size store n is some = elim (cases_lt (length store) (size * n)) [
  | inl short ↦ inr (tag_ends size store n some short)
  | inr long ↦ by_area (area_of T2 size store) refl (let within : size * n ≤ length store = omega arith in within)
]
  where
    by_area : (r : Result Space ContainerFault) → area_of T2 size store ≡ r → size * n ≤ length store → IsDue T2 size store n ⊎ (IsDue T2 size store n → ⊥)
    by_area (Err f) has within = inr (fault_ends size store n f some has)
    by_area (Ok space) has within = elim (needing space (take (size * n) store) (named size store space is has).area.order) [
      | inl more ↦ inl (walk_due size store (take (size * n) store) space n has within refl more)
      | inr none ↦ inr (walk_ends size store (take (size * n) store) space n some has refl none)
    ]

-- the list, from where so much of it is asked
list_from : (size : ℕ) (store : List ℕ) → IsStore T2 size store → (fuel n : ℕ) → 0 < n → length store < n + fuel → AreDue T2 size store n → (xs : List Signal) × IsAsked T2 size store xs
list_from size store is zero n some past each =
    let least : 1 ≤ size = omega (arith, is.0) in
    let more : 1 * n ≤ size * n = mul-le-mul_right n least in
    asked_all T2 size store n each (tag_ends size store n some (omega arith))
list_from size store is (suc fuel) n some past each = elim (due_decided size store n is some) [
  | inl due ↦ list_from size store is fuel (n + 1) (omega arith) (omega arith) (due_more T2 size store n each due)
  | inr none ↦ asked_all T2 size store n each none
]

pub some_list : (size : ℕ) (store : List ℕ) → IsStore T2 size store → (xs : List Signal) × IsAsked T2 size store xs
some_list size store is = list_from size store is (length store) 1 (omega arith) (omega arith) (one_due T2 size store)
