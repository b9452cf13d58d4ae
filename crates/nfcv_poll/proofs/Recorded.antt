-- Taking an identifier in among ascending ones.
use Rattle.std.proofs.Common.{◌≡◌, ◌≤◌, ◌<◌, ℕ, zero, suc, ◌+◌, List, [], ◌∷◌, length, drop, Bool, true, false, nat_eq, nat_lt, if◌then◌else◌, Some, None, slice_index_or, refl, sym, ◌∙◌, ap, arith}
use Rattle.std.proofs.lemmas.List.{drop_more}
use Rattle.std.specs.List.{insert}
use Rattle.t5t_tag.specs.Slots.{id_number}
use Rattle.nfcv_poll.specs.Search.{with_id, below, id_at}

-- the one behind those below it is the same: nothing changes
pub with_known : (is : List (List ℕ)) (id i : List ℕ) → id_at is (below is id) ≡ Some i → nat_eq (id_number i) (id_number id) ≡ true → with_id is id ≡ is
with_known [] id i at same = absurd cc
with_known (j ∷ js) id i at same = by_number (nat_lt (id_number j) (id_number id)) (nat_eq (id_number j) (id_number id)) refl (λ k. with_known js id i k same) at
  where
    by_number : (v w : Bool) → nat_eq (id_number j) (id_number id) ≡ w → (id_at js (below js id) ≡ Some i → with_id js id ≡ js) → id_at (j ∷ js) (if v then suc (below js id) else 0) ≡ Some i
        → (if v then j ∷ with_id js id else if w then j ∷ js else id ∷ j ∷ js) ≡ j ∷ js
    by_number true w e rest k = ap (λ is. j ∷ is) (rest k)
    by_number false true e rest k = refl
    by_number false false e rest k =
        let d : j ≡ i = cc in
        absurd (let no_ : true ≡ false = sym same ∙ ap (λ x. nat_eq (id_number x) (id_number id)) (sym d) ∙ e in cc)

-- else it is put in its place
pub with_new : (is : List (List ℕ)) (id : List ℕ) → ((i : List ℕ) → id_at is (below is id) ≡ Some i → nat_eq (id_number i) (id_number id) ≡ false) → insert is (below is id) id ≡ with_id is id
with_new [] id other = refl
with_new (j ∷ js) id other = by_number (nat_lt (id_number j) (id_number id)) (nat_eq (id_number j) (id_number id)) refl (λ k. with_new js id k) other
  where
    by_number : (v w : Bool) → nat_eq (id_number j) (id_number id) ≡ w → (((i : List ℕ) → id_at js (below js id) ≡ Some i → nat_eq (id_number i) (id_number id) ≡ false)
        → insert js (below js id) id ≡ with_id js id) → ((i : List ℕ) → id_at (j ∷ js) (if v then suc (below js id) else 0) ≡ Some i → nat_eq (id_number i) (id_number id) ≡ false)
        → insert (j ∷ js) (if v then suc (below js id) else 0) id ≡ (if v then j ∷ with_id js id else if w then j ∷ js else id ∷ j ∷ js)
    by_number true w e rest k = ap (λ is. j ∷ is) (rest k)
    by_number false true e rest k = absurd (let no_ : true ≡ false = sym e ∙ k j refl in cc)
    by_number false false e rest k = refl

pub below_fits : (is : List (List ℕ)) (id : List ℕ) → below is id ≤ length is
below_fits [] id = omega arith
below_fits (j ∷ js) id = by_number (nat_lt (id_number j) (id_number id)) (below_fits js id)
  where
    by_number : (v : Bool) → below js id ≤ length js → (if v then suc (below js id) else 0) ≤ suc (length js)
    by_number true fits = omega (arith, fits)
    by_number false fits = omega arith

-- what stands at a place
pub id_at_past : (is : List (List ℕ)) (n : ℕ) → length is ≤ n → None ≡ id_at is n
id_at_past [] n h = refl
id_at_past (i ∷ is) zero h = absurd (omega (arith, h))
id_at_past (i ∷ is) (suc n) h = id_at_past is n (omega (arith, h))

pub id_at_there : (is : List (List ℕ)) (n : ℕ) (d : List ℕ) → n < length is → Some (slice_index_or is n d) ≡ id_at is n
id_at_there [] n d h = absurd (omega (arith, h))
id_at_there (i ∷ is) zero d h = refl
id_at_there (i ∷ is) (suc n) d h = id_at_there is n d (omega (arith, h))

-- those that are below in front of a place, and the one that isn't
pub below_step : (is : List (List ℕ)) (id : List ℕ) (n : ℕ) (d : List ℕ) → n < length is → id_number (slice_index_or is n d) < id_number id
    → n + below (drop n is) id ≡ (n + 1) + below (drop (n + 1) is) id
below_step is id n d h less =
    let one : nat_lt (id_number (slice_index_or is n d)) (id_number id) ≡ true = grind (arith, less) in
    let first : below (drop n is) id ≡ suc (below (drop (n + 1) is) id) = ap (λ xs. below xs id) (drop_more is n d h) ∙ ap (λ v. if v then suc (below (drop (n + 1) is) id) else 0) one in
    omega (arith, first)

pub below_stop : (is : List (List ℕ)) (id : List ℕ) (n : ℕ) (d : List ℕ) → n < length is → id_number id ≤ id_number (slice_index_or is n d) → n + below (drop n is) id ≡ n
below_stop is id n d h more =
    let one : nat_lt (id_number (slice_index_or is n d)) (id_number id) ≡ false = grind (arith, more) in
    let first : below (drop n is) id ≡ 0 = ap (λ xs. below xs id) (drop_more is n d h) ∙ ap (λ v. if v then suc (below (drop (n + 1) is) id) else 0) one in
    omega (arith, first)

pub number_itself : (n : ℕ) → nat_eq n n ≡ true
number_itself n = grind arith
