-- Lookups by their numbers.
use Rattle.std.proofs.Common.{◌≡◌, ℕ, suc, ◌==◌, Bool, true, false, List, [], ◌∷◌, ◌++◌, slice_set, Option, Some, None, option_map, refl, sym, ap, subst, ◌∙◌, if◌then◌else◌}
use Rattle.llcp_link.specs.State.{Lookup}
use Rattle.llcp_link.specs.Asking.{put_lookup}
use Rattle.llcp_link.specs.Places.{place_by}
use Rattle.llcp_link.specs.Names.{told_one}
use Rattle.llcp_link.proofs.OwnPlaces.{no_place}

abbrev pub lookup_place : ℕ → List Lookup → Option ℕ
lookup_place tid xs = place_by (λ (x : Lookup). x.tid) tid xs

module _ (tid : ℕ) where
  -- of a number that isn't there
  pub record IsNew (xs : List Lookup) : Type 0 where
    put : put_lookup tid xs ≡ xs ++ record { tid = tid; told = None } ∷ []
    told : (sap : ℕ) → told_one tid sap xs ≡ xs

  new_behind : (x : Lookup) (xs : List Lookup) → (x.tid == tid) ≡ false → IsNew xs → IsNew (x ∷ xs)
  new_behind x xs t k = record {
    put = ap (λ b. if b then record { tid = tid; told = None } ∷ xs else x ∷ put_lookup tid xs) t ∙ ap (λ ys. x ∷ ys) k.put;
    told = λ sap. ap (λ b. if b then record { tid = tid; told = Some sap } ∷ xs else x ∷ told_one tid sap xs) t ∙ ap (λ ys. x ∷ ys) (k.told sap);
  }

  is_new : (xs : List Lookup) → lookup_place tid xs ≡ None → IsNew xs
  is_new [] e = record { put = refl; told = λ sap. refl }
  is_new (x ∷ xs) e = by_test (x.tid == tid) refl e (is_new xs)
    where
      by_test : (b : Bool) → (x.tid == tid) ≡ b → (if b then Some 0 else option_map suc (lookup_place tid xs)) ≡ None → (lookup_place tid xs ≡ None → IsNew xs) → IsNew (x ∷ xs)
      by_test true t i more = absurd cc
      by_test false t i more = new_behind x xs t (more (no_place (lookup_place tid xs) i))

  -- of one at this place
  pub record IsAt (xs : List Lookup) (place : ℕ) : Type 0 where
    put : slice_set xs place (record { tid = tid; told = None }) ≡ put_lookup tid xs
    told : (sap : ℕ) → slice_set xs place (record { tid = tid; told = Some sap }) ≡ told_one tid sap xs

  at_first : (x : Lookup) (xs : List Lookup) → (x.tid == tid) ≡ true → IsAt (x ∷ xs) 0
  at_first x xs t = record {
    put = sym (ap (λ b. if b then record { tid = tid; told = None } ∷ xs else x ∷ put_lookup tid xs) t);
    told = λ sap. sym (ap (λ b. if b then record { tid = tid; told = Some sap } ∷ xs else x ∷ told_one tid sap xs) t);
  }

  at_behind : (x : Lookup) (xs : List Lookup) (n : ℕ) → (x.tid == tid) ≡ false → IsAt xs n → IsAt (x ∷ xs) (suc n)
  at_behind x xs n t k = record {
    put = ap (λ ys. x ∷ ys) k.put ∙ sym (ap (λ b. if b then record { tid = tid; told = None } ∷ xs else x ∷ put_lookup tid xs) t);
    told = λ sap. ap (λ ys. x ∷ ys) (k.told sap) ∙ sym (ap (λ b. if b then record { tid = tid; told = Some sap } ∷ xs else x ∷ told_one tid sap xs) t);
  }

  is_at : (xs : List Lookup) (n : ℕ) → lookup_place tid xs ≡ Some n → IsAt xs n
  is_at [] n e = absurd cc
  is_at (x ∷ xs) n e = by_test (x.tid == tid) refl e (is_at xs)
    where
      step : (p : Option ℕ) → lookup_place tid xs ≡ p → option_map suc p ≡ Some n → (x.tid == tid) ≡ false → ((j : ℕ) → lookup_place tid xs ≡ Some j → IsAt xs j) → IsAt (x ∷ xs) n
      step None q i t more = absurd cc
      step (Some j) q i t more = let here : suc j ≡ n = cc in subst (IsAt (x ∷ xs)) here (at_behind x xs j t (more j q))

      by_test : (b : Bool) → (x.tid == tid) ≡ b → (if b then Some 0 else option_map suc (lookup_place tid xs)) ≡ Some n → ((j : ℕ) → lookup_place tid xs ≡ Some j → IsAt xs j) → IsAt (x ∷ xs) n
      by_test true t i more = let here : 0 ≡ n = cc in subst (IsAt (x ∷ xs)) here (at_first x xs t)
      by_test false t i more = step (lookup_place tid xs) refl i t more

  pub put_there : (xs : List Lookup) (r : Option ℕ) (n : ℕ) → r ≡ lookup_place tid xs → r ≡ Some n → slice_set xs n (record { tid = tid; told = None }) ≡ put_lookup tid xs
  put_there xs r n e s = (is_at xs n (sym e ∙ s)).put

  pub told_there : (xs : List Lookup) (sap : ℕ) (r : Option ℕ) (n : ℕ) → r ≡ lookup_place tid xs → r ≡ Some n
      → slice_set xs n (record { tid = tid; told = Some sap }) ≡ told_one tid sap xs
  told_there xs sap r n e s = (is_at xs n (sym e ∙ s)).told sap

  pub put_new : (xs : List Lookup) (r : Option ℕ) → r ≡ lookup_place tid xs → r ≡ None → xs ++ record { tid = tid; told = None } ∷ [] ≡ put_lookup tid xs
  put_new xs r e s = sym (is_new xs (sym e ∙ s)).put

  pub told_none : (xs : List Lookup) (sap : ℕ) (r : Option ℕ) → r ≡ lookup_place tid xs → r ≡ None → xs ≡ told_one tid sap xs
  told_none xs sap r e s = sym ((is_new xs (sym e ∙ s)).told sap)
