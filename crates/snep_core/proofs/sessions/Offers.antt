-- The table for get, once a key has another value.
use Rattle.std.proofs.Common.{◌≡◌, ◌<◌, ◌^◌, ℕ, zero, suc, List, [], ◌∷◌, ◌++◌, length, set, get_or, Bool, true, false, nat_eq, if◌then◌else◌, Option, Some, None, option_map, refl, ap, subst, arith}
use Rattle.std.specs.Cmp.Lexicographic.{pointwise}
use Rattle.snep_core.specs.Session.{Offer, AreShort}
use Rattle.snep_core.specs.Server.{place_of, offered}
use Rattle.llcp_link.proofs.OwnPlaces.{no_place}

-- the offer with this value
abbrev pub valued : List ℕ → Offer → Offer
valued value o = record { key = o.key; value = value }

-- what a table without the key gets, and one with it
pub offered_new : (table : List Offer) (key value : List ℕ) → place_of key table ≡ None → offered table key value ≡ table ++ record { key = key; value = value } ∷ []
offered_new [] key value none = refl
offered_new (o ∷ os) key value none = by_key (pointwise nat_eq o.key key) none (offered_new os key value)
  where
    by_key : (v : Bool) → (if v then Some 0 else option_map suc (place_of key os)) ≡ None
        → (place_of key os ≡ None → offered os key value ≡ os ++ record { key = key; value = value } ∷ [])
        → (if v then record { key = o.key; value = value } ∷ os else o ∷ offered os key value) ≡ o ∷ (os ++ record { key = key; value = value } ∷ [])
    by_key true e more = absurd cc
    by_key false e more = ap (λ t. o ∷ t) (more (no_place (place_of key os) e))

-- the key is there: which place it has, and what the table becomes
abbrev IsThere : List Offer → List ℕ → List ℕ → Offer → ℕ → Type 0
IsThere table key value d i = (i < length table) × (offered table key value ≡ set table i (valued value (get_or table i d)))

pub place_there : (table : List Offer) (key value : List ℕ) (d : Offer) (i : ℕ) → place_of key table ≡ Some i → IsThere table key value d i
place_there [] key value d i some = absurd cc
place_there (o ∷ os) key value d i some = by_key (pointwise nat_eq o.key key) some (place_there os key value d)
  where
    Here : Bool → ℕ → Type 0
    Here v n = (n < length (o ∷ os)) × ((if v then valued value o ∷ os else o ∷ offered os key value) ≡ set (o ∷ os) n (valued value (get_or (o ∷ os) n d)))

    step : (p : Option ℕ) → place_of key os ≡ p → option_map suc p ≡ Some i → ((j : ℕ) → place_of key os ≡ Some j → IsThere os key value d j) → Here false i
    step None is e more = absurd cc
    step (Some j) is e more =
        let below = more j is in
        let here : suc j ≡ i = cc in
        subst (Here false) here (omega (arith, below.0), ap (λ t. o ∷ t) below.1)

    by_key : (v : Bool) → (if v then Some 0 else option_map suc (place_of key os)) ≡ Some i → ((j : ℕ) → place_of key os ≡ Some j → IsThere os key value d j) → Here v i
    by_key true e more =
        let here : 0 ≡ i = cc in
        subst (Here true) here (omega arith, refl)
    by_key false e more = step (place_of key os) refl e more

-- its values stay short
pub short_set : (table : List Offer) (i : ℕ) (o : Offer) → AreShort table → length o.value < 2 ^ 32 → AreShort (set table i o)
short_set [] i o are short = tt
short_set (p ∷ ps) zero o are short = (short, are.1)
short_set (p ∷ ps) (suc i) o are short = (are.0, short_set ps i o are.1 short)

pub short_more : (table : List Offer) (o : Offer) → AreShort table → length o.value < 2 ^ 32 → AreShort (table ++ o ∷ [])
short_more [] o are short = (short, tt)
short_more (p ∷ ps) o are short = (are.0, short_more ps o are.1 short)
