-- Going round the clients.
use Rattle.std.proofs.Common.{◌≡◌, ◌<◌, ℕ, suc, ◌+◌, ◌-◌, Option, Some, None, refl, sym, ap, subst, ◌∙◌, inl, inr, arith}
use Rattle.llcp_link.specs.Serving.{Serving}
use Rattle.llcp_link.specs.Giving.{Gave, or_else, sap_after, first_from}
use Rattle.llcp_link.specs.Offering.{IsLonger, LeftBy, LeavesNext, part_of}

pub first_unfolds : {A : Type 0} (n i s : ℕ) (f : ℕ → Option A) → i < n → first_from (n - i) s f ≡ or_else (f s) (first_from (n - (i + 1)) (sap_after s) f)
unfolding first_from
first_unfolds n i s f h = let e : n - i ≡ suc (n - (i + 1)) = omega arith in ap (λ k. first_from k s f) e

-- nothing is found here, and the circle goes on
pub goes_round : {A : Type 0} (n i s : ℕ) (f : ℕ → Option A) (all : Option A) → i < n → all ≡ first_from (n - i) s f → f s ≡ None → all ≡ first_from (n - (i + 1)) (sap_after s) f
goes_round n i s f all h e none = e ∙ first_unfolds n i s f h ∙ ap (λ o. or_else o (first_from (n - (i + 1)) (sap_after s) f)) none

pub found_here : {A : Type 0} (n i s : ℕ) (f : ℕ → Option A) (all : Option A) (x : A) → i < n → all ≡ first_from (n - i) s f → f s ≡ Some x → all ≡ Some x
found_here n i s f all x h e some = e ∙ first_unfolds n i s f h ∙ ap (λ o. or_else o (first_from (n - (i + 1)) (sap_after s) f)) some

pub ends_round : {A : Type 0} (n s : ℕ) (f : ℕ → Option A) (all : Option A) → all ≡ first_from (n - n) s f → all ≡ None
unfolding first_from
ends_round n s f all e = e ∙ ap (λ k. first_from k s f) (let z : n - n ≡ 0 = omega arith in z)

pub ends_at : {A : Type 0} (k s : ℕ) (f : ℕ → Option A) (all : Option A) → k ≡ 0 → all ≡ first_from k s f → all ≡ None
unfolding first_from
ends_at k s f all z e = e ∙ ap (λ j. first_from j s f) z

-- where memory was wanting on the way
pub next_left : {S : Type 0} (m : Serving S) (n i s : ℕ) (f : ℕ → Option (Gave S)) (all : Option (Gave S)) (a b : S) → i < n → all ≡ first_from (n - i) s f → LeavesNext m (f s) a b
    → LeavesNext m all a b
next_left m n i s f all a b h e (inl k) = inl k
next_left m n i s f all a b h e (inr k) = go (f s) refl k
  where
    go : (o : Option _) → f s ≡ o → LeftBy o b → LeavesNext m all a b
    go None q j = absurd j
    go (Some g) q j = inr (subst (λ o. LeftBy o b) (sym (found_here n i s f all g h e q)) j)

-- what is due here and is longer than what is left is due first of all
pub longer_here : {S : Type 0} (n i s : ℕ) (f : ℕ → Option (Gave S)) (all : Option (Gave S)) (room : ℕ) → i < n → all ≡ first_from (n - i) s f
    → IsLonger room (part_of (f s)) → IsLonger room (part_of all)
longer_here n i s f all room h e k = go (f s) refl k
  where
    go : (o : Option (Gave _)) → f s ≡ o → IsLonger room (part_of o) → IsLonger room (part_of all)
    go None q j = absurd j
    go (Some g) q j = subst (λ o. IsLonger room (part_of o)) (sym (found_here n i s f all g h e q)) j
