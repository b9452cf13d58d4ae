-- Identifiers among others.
use Rattle.std.proofs.Common.{◌≡◌, inl, inr, ℕ, zero, suc, List, [], ◌∷◌, Bool, true, false, nat_eq, nat_lt, if◌then◌else◌, Option, Some, None, refl, subst}
use Rattle.std.specs.List.{cons_option}
use Rattle.nfc_base.specs.declared.frame.Tech.{Tech}
use Rattle.nfc_base.specs.declared.frame.Tech.TheVariants.{A, V, F}
use Rattle.air_core.specs.Joint.{same_tech}
use Rattle.air_core.specs.World.{Machine}
use Rattle.nfca_poll.specs.Crowd.{Each}
use Rattle.t5t_tag.specs.Slots.{id_number}
use Rattle.t5t_tag.specs.Store.{T5State}
use Rattle.nfcv_poll.specs.Search.{with_id, id_at}
use Rattle.nfcv_poll.specs.Tags.{IsOneOf, id_if, tag_ids}

-- whether a number is the one of an identifier among these says nothing of the others: what was there stays
pub stays : (is : List (List ℕ)) (id i : List ℕ) → IsOneOf i is → IsOneOf i (with_id is id)
stays [] id i h = absurd h
stays (j ∷ js) id i h = by_number (nat_lt (id_number j) (id_number id)) (nat_eq (id_number j) (id_number id)) (λ k. stays js id i k) h
  where
    by_number : (v w : Bool) → (IsOneOf i js → IsOneOf i (with_id js id)) → IsOneOf i (j ∷ js) → IsOneOf i (if v then j ∷ with_id js id else if w then j ∷ js else id ∷ j ∷ js)
    by_number true w more (inl e) = inl e
    by_number true w more (inr k) = inr (more k)
    by_number false true more k = k
    by_number false false more k = inr k

-- all of them are of a kind, if the new one is
pub each_with : (P : List ℕ → Type 0) (is : List (List ℕ)) (id : List ℕ) → Each P is → P id → Each P (with_id is id)
each_with P [] id h here = (here, tt)
each_with P (j ∷ js) id h here = by_number (nat_lt (id_number j) (id_number id)) (nat_eq (id_number j) (id_number id)) (each_with P js id h.1 here)
  where
    by_number : (v w : Bool) → Each P (with_id js id) → Each P (if v then j ∷ with_id js id else if w then j ∷ js else id ∷ j ∷ js)
    by_number true w rest = (h.0, rest)
    by_number false true rest = h
    by_number false false rest = (here, h)

-- one at a place
pub one_at : (is : List (List ℕ)) (n : ℕ) (id : List ℕ) → id_at is n ≡ Some id → IsOneOf id is
one_at [] n id e = absurd cc
one_at (i ∷ is) zero id e = inl (let d : i ≡ id = cc in d)
one_at (i ∷ is) (suc n) id e = inr (one_at is n id e)

pub each_one : (P : List ℕ → Type 0) (is : List (List ℕ)) (i : List ℕ) → Each P is → IsOneOf i is → P i
each_one P [] i h k = absurd k
each_one P (j ∷ js) i h (inl e) = subst P e h.0
each_one P (j ∷ js) i h (inr k) = each_one P js i h.1 k

module _ {L : Type 0} (m : Machine L) (tag : L → T5State) where
  -- what holds of each tag of a field holds of each of their identifiers
  pub each_id : (P : List ℕ → Type 0) (ls : List L) → Each (λ l. m.tech l ≡ V → P (tag l).id) ls → Each P (tag_ids m tag ls)
  each_id P [] h = tt
  each_id P (l ∷ ls) h = by_tech (m.tech l) h.0 (each_id P ls h.1)
    where
      by_tech : (t : Tech) → (t ≡ V → P (tag l).id) → Each P (tag_ids m tag ls) → Each P (cons_option (if same_tech V t then Some (tag l).id else None) (tag_ids m tag ls))
      by_tech A k rest = rest
      by_tech F k rest = rest
      by_tech V k rest = (k refl, rest)

  -- each tag's identifier is one of theirs
  onto : (i : List ℕ) (o : Option (List ℕ)) (is : List (List ℕ)) → IsOneOf i is → IsOneOf i (cons_option o is)
  onto i None is h = h
  onto i (Some j) is h = inr h

  behind : (l : L) (ls ks : List L) → Each (λ k. m.tech k ≡ V → IsOneOf (tag k).id (tag_ids m tag ls)) ks → Each (λ k. m.tech k ≡ V → IsOneOf (tag k).id (tag_ids m tag (l ∷ ls))) ks
  behind l ls [] h = tt
  behind l ls (k ∷ ks) h = ((λ e. onto (tag k).id (id_if m tag l) (tag_ids m tag ls) (h.0 e)), behind l ls ks h.1)

  pub their_own : (ls : List L) → Each (λ l. m.tech l ≡ V → IsOneOf (tag l).id (tag_ids m tag ls)) ls
  their_own [] = tt
  their_own (l ∷ ls) = (by_tech (m.tech l), behind l ls ls (their_own ls))
    where
      by_tech : (t : Tech) → t ≡ V → IsOneOf (tag l).id (cons_option (if same_tech V t then Some (tag l).id else None) (tag_ids m tag ls))
      by_tech A e = absurd cc
      by_tech F e = absurd cc
      by_tech V e = inl refl
