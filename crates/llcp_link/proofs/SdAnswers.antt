-- Answers of service discovery, one after the other.
use Rattle.std.proofs.Common.{◌≡◌, ◌≤◌, ◌<◌, ℕ, suc, ◌+◌, ◌-◌, ◌/◌, ◌==◌, Bool, true, false, List, [], ◌∷◌, ◌++◌, length, take, filter_map, Option, Some, refl, sym, ap, ◌∙◌, arith, length-append}
use Rattle.std.proofs.Common.{if◌then◌else◌}
use Rattle.std.specs.List.{cons_option}
use Rattle.std.proofs.lemmas.Bool.Decides.{nat_tests}
use Rattle.std.proofs.lemmas.List.{append_assoc}
use Rattle.llcp_pdu.specs.declared.param.Param.{Param}
use Rattle.llcp_pdu.specs.declared.part.Part.TheVariants.{Snl}
use Rattle.llcp_pdu.specs.Ranges.{IsParam, AreParams}
use Rattle.llcp_pdu.specs.Writing.{tlv_of, params_bytes}
use Rattle.llcp_link.specs.State.{LlcState}
use Rattle.llcp_link.specs.Names.{answers_to, lookups_told}
use Rattle.llcp_link.specs.Taking.{answered, tells, discovers}
use Rattle.llcp_link.specs.private.Answers.{IsAnswer, AreAnswers, put_one}

params_more : (ps : List Param) (p : Param) → AreParams ps → IsParam p → AreParams (ps ++ p ∷ [])
params_more [] p h k = (k, tt)
params_more (q ∷ ps) p h k = (h.0, params_more ps p h.1 k)

bytes_more : (ps : List Param) (p : Param) → length (params_bytes (ps ++ p ∷ [])) ≡ length (params_bytes ps) + length (params_bytes (p ∷ []))
bytes_more [] p = omega arith
bytes_more (q ∷ ps) p =
    let i = bytes_more ps p in
    let l : length ((tlv_of q).value ++ params_bytes (ps ++ p ∷ [])) ≡ length (tlv_of q).value + length (params_bytes (ps ++ p ∷ [])) = omega (arith, length-append {A = ℕ}) in
    let r : length ((tlv_of q).value ++ params_bytes ps) ≡ length (tlv_of q).value + length (params_bytes ps) = omega (arith, length-append {A = ℕ}) in
    omega arith

pub one_more : (most : ℕ) (ps : List Param) (p : Param) → IsAnswer p → AreAnswers most ps → (length ps == most) ≡ false → AreAnswers most (ps ++ p ∷ [])
one_more most ps p h all e =
    let n : length ps ≡ most → ⊥ = grind (arith, nat_tests) in
    let l : length (ps ++ p ∷ []) ≡ length ps + 1 = omega (arith, length-append {A = Param}) in
    let b = bytes_more ps p in record {
      few = (let f = all.few in omega arith);
      range = params_more ps p all.range h.0;
      size = (let s = all.size in let z = h.1 in omega arith);
    }

pub discovers_none : {S : Type 0} (l : LlcState S) (ps answers : List Param) → answers ≡ answers_to l.bound (l.far_miu / 4) ps → length answers ≡ 0
    → record l { lookups = lookups_told ps l.lookups } ≡ discovers l ps
discovers_none l ps [] is n = ap (tells (record l { lookups = lookups_told ps l.lookups })) is
discovers_none l ps (a ∷ more) is n = absurd (let m : suc (length more) ≡ 0 = n in omega arith)

pub discovers_some : {S : Type 0} (l : LlcState S) (ps answers : List Param) → answers ≡ answers_to l.bound (l.far_miu / 4) ps → (length answers ≡ 0 → ⊥)
    → answered (record l { lookups = lookups_told ps l.lookups }) (Snl answers) ≡ discovers l ps
discovers_some l ps [] is n = absurd (n refl)
discovers_some l ps (a ∷ more) is n = ap (tells (record l { lookups = lookups_told ps l.lookups })) is

module _ (f : Param → Option Param) where
  take_none : (n m : ℕ) (xs : List Param) → n ≡ m → take (m - n) xs ≡ []
  take_none n m xs e = ap (λ k. take k xs) (let z : m - n ≡ 0 = omega arith in z)

  take_one : (n m : ℕ) (x : Param) (xs : List Param) → n < m → take (m - n) (x ∷ xs) ≡ x ∷ take (m - (n + 1)) xs
  take_one n m x xs h =
      let z : m - n ≡ suc (m - (n + 1)) = omega arith in ap (λ k. take k (x ∷ xs)) z

  put_by : (most : ℕ) (had : List Param) (q : Param) (xs : List Param) (b : Bool) → (length had == most) ≡ b → length had ≤ most
      → (if b then had else had ++ q ∷ []) ++ take (most - length (if b then had else had ++ q ∷ [])) xs ≡ had ++ take (most - length had) (q ∷ xs)
  put_by most had q xs true e h =
      let n : length had ≡ most = grind (arith, nat_tests) in
      ap (λ zs. had ++ zs) (take_none (length had) most xs n ∙ sym (take_none (length had) most (q ∷ xs) n))
  put_by most had q xs false e h =
      let n : length had < most = grind (arith, nat_tests) in
      let l : length (had ++ q ∷ []) ≡ length had + 1 = omega (arith, length-append {A = Param}) in
      ap (λ k. (had ++ q ∷ []) ++ take (most - k) xs) l ∙ append_assoc had (q ∷ []) (take (most - (length had + 1)) xs)
      ∙ ap (λ zs. had ++ zs) (sym (take_one (length had) most q xs n))

  -- one was asked, and its answer is put
  pub goes_on : (most : ℕ) (had new : List Param) (left ps all : List Param) (p q : Param) → had ++ take (most - length had) (filter_map f left) ≡ all
      → left ≡ p ∷ ps → f p ≡ Some q → length had ≤ most → new ≡ put_one most q had → new ++ take (most - length new) (filter_map f ps) ≡ all
  goes_on most had new left ps all p q i l e h n =
      let k : filter_map f left ≡ q ∷ filter_map f ps = ap (filter_map f) l ∙ ap (λ o. cons_option o (filter_map f ps)) e in
      ap (λ z. z ++ take (most - length z) (filter_map f ps)) n ∙ put_by most had q (filter_map f ps) (length had == most) refl h
      ∙ sym (ap (λ xs. had ++ take (most - length had) xs) k) ∙ i
