-- What is still to come on a connection that an end asked for grows by a unit that is submitted.
use Rattle.std.proofs.Common.{◌≡◌, ℕ, ◌+◌, ◌==◌, Bool, true, false, List, [], ◌∷◌, Option, Some, None, refl, ap, ◌∙◌, arith, if◌then◌else◌, is_none, length-append}
use Rattle.std.proofs.lemmas.Bool.{eq-eqb}
use Rattle.llcp_link.specs.State.{LlcState, OwnIs, Asking, Open, Refused, Leaving, Closed, OwnState, own_from, with_own}
use Rattle.llcp_link.specs.Asking.{queued_on, refusal_of, refusal_on, submitted_by}
use Rattle.llcp_link.specs.Waning.{pending, pending_on}
use Rattle.llcp_link.proofs.OwnPlaces.{here_of}

-- what was put there is read there
pub own_with : (h : ℕ) (os : List OwnState) (o p : OwnState) → own_from h os ≡ Some p → o.here ≡ h → own_from h (with_own o os) ≡ Some o
own_with h [] o p e i = absurd cc
own_with h (x ∷ os) o p e i = go (x.here == h) refl e (own_with h os o p)
  where
    go : (b : Bool) → (x.here == h) ≡ b → (if b then Some x else own_from h os) ≡ Some p → (own_from h os ≡ Some p → o.here ≡ h → own_from h (with_own o os) ≡ Some o)
        → own_from h (with_own o (x ∷ os)) ≡ Some o
    go true t k more =
        ap (λ b. own_from h (if b then o ∷ os else x ∷ with_own o os)) (ap (λ z. x.here == z) i ∙ t)
        ∙ ap (λ b. if b then Some o else own_from h os) (eq-eqb o.here h i)
    go false t k more =
        ap (λ b. own_from h (if b then o ∷ os else x ∷ with_own o os)) (ap (λ z. x.here == z) i ∙ t)
        ∙ ap (λ b. if b then Some x else own_from h (with_own o os)) t ∙ more k i

module _ {S : Type 0} (l : LlcState S) (h : ℕ) (u : List ℕ) where
  on_open : (o : OwnState) (i : OwnIs) → is_none (refusal_on i u) ≡ true → pending_on (queued_on o u i).is ≡ pending_on i + 1
  on_open o (Open c) t = let k = length-append c.queue (u ∷ []) in omega arith
  on_open o Asking t = absurd cc
  on_open o Refused t = absurd cc
  on_open o Leaving t = absurd cc
  on_open o Closed t = absurd cc

  here_still : (o : OwnState) (i : OwnIs) → (queued_on o u i).here ≡ o.here
  here_still o (Open c) = refl
  here_still o Asking = refl
  here_still o Refused = refl
  here_still o Leaving = refl
  here_still o Closed = refl

  submits_so : (q : Option OwnState) → own_from h l.own ≡ q → is_none (refusal_of q u) ≡ true
      → pending (own_from h (submitted_by l u q).own) ≡ pending q + 1
  submits_so None e t = absurd cc
  submits_so (Some o) e t =
      ap pending (own_with h l.own (queued_on o u o.is) o e (here_still o o.is ∙ here_of h l.own o e)) ∙ on_open o o.is t

  -- it is to be acknowledged
  pub pending_submits : is_none (refusal_of (own_from h l.own) u) ≡ true
      → pending (own_from h (submitted_by l u (own_from h l.own)).own) ≡ pending (own_from h l.own) + 1
  pending_submits t = submits_so (own_from h l.own) refl t
