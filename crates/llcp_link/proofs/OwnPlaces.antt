-- Where a connection stands among those that an end asked for.
use Rattle.std.proofs.Common.{◌≡◌, ℕ, suc, ◌==◌, Bool, true, false, List, [], ◌∷◌, Option, Some, None, option_map, refl, sym, ap, subst, ◌∙◌, arith, if◌then◌else◌}
use Rattle.std.proofs.lemmas.Bool.{eq-eqb, eqb-true}
use Rattle.llcp_link.specs.State.{OwnState, own_from, with_own}
use Rattle.llcp_link.specs.Asking.{put_own, without_own}
use Rattle.llcp_link.specs.Places.{IsNowhere, PlaceOf, StandsAt, own_place}

pub no_place : (p : Option ℕ) → option_map suc p ≡ None → p ≡ None
no_place None e = refl
no_place (Some i) e = absurd cc

-- the connection from a SAP is from it
pub here_of : (h : ℕ) (os : List OwnState) (o : OwnState) → own_from h os ≡ Some o → o.here ≡ h
here_of h [] o e = absurd cc
here_of h (q ∷ qs) o e = first (q.here == h) refl e (here_of h qs o)
  where
    first : (b : Bool) → (q.here == h) ≡ b → (if b then Some q else own_from h qs) ≡ Some o → (own_from h qs ≡ Some o → o.here ≡ h) → o.here ≡ h
    first true t i more = let same : q ≡ o = cc in ap (λ x. x.here) (sym same) ∙ eqb-true q.here h t
    first false t i more = more i

-- what stands there is put back
pub with_same : (h : ℕ) (os : List OwnState) (o : OwnState) → own_from h os ≡ Some o → with_own o os ≡ os
with_same h [] o e = absurd cc
with_same h (p ∷ ps) o e = by_test (p.here == h) refl e (with_same h ps o)
  where
    by_test : (b : Bool) → (p.here == h) ≡ b → (if b then Some p else own_from h ps) ≡ Some o → (own_from h ps ≡ Some o → with_own o ps ≡ ps) → with_own o (p ∷ ps) ≡ p ∷ ps
    by_test true t i more =
        let same : p ≡ o = cc in
        ap (λ b. if b then o ∷ ps else p ∷ with_own o ps) (eq-eqb p.here o.here (ap (λ x. x.here) same)) ∙ ap (λ x. x ∷ ps) (sym same)
    by_test false t i more =
        ap (λ b. if b then o ∷ ps else p ∷ with_own o ps) (ap (λ x. p.here == x) (here_of h ps o i) ∙ t) ∙ ap (λ xs. p ∷ xs) (more i)

module _ (h : ℕ) where
  nowhere_behind : (o : OwnState) (os : List OwnState) → (o.here == h) ≡ false → IsNowhere h os → IsNowhere h (o ∷ os)
  nowhere_behind o os t k = record {
    found = ap (λ b. if b then Some o else own_from h os) t ∙ k.found;
    put = λ p i. ap (λ b. if b then p ∷ os else o ∷ put_own p os) (ap (λ x. o.here == x) i ∙ t) ∙ ap (λ xs. o ∷ xs) (k.put p i);
    gone = ap (λ b. if b then os else o ∷ without_own h os) t ∙ ap (λ xs. o ∷ xs) k.gone;
  }

  stands_first : (o : OwnState) (os : List OwnState) → (o.here == h) ≡ true → StandsAt h (o ∷ os) 0
  stands_first o os t =
      let here : o.here ≡ h = eqb-true o.here h t in record {
        own = o;
        low = omega arith;
        found = ap (λ b. if b then Some o else own_from h os) t;
        here = here;
        read = λ d. refl;
        unchanged = refl;
        changed = λ p i. sym (ap (λ b. if b then p ∷ os else o ∷ with_own p os) (ap (λ x. o.here == x) i ∙ t));
        replaced = λ p i. sym (ap (λ b. if b then p ∷ os else o ∷ put_own p os) (ap (λ x. o.here == x) i ∙ t));
        gone = sym (ap (λ b. if b then os else o ∷ without_own h os) t);
      }

  stands_behind : (o : OwnState) (os : List OwnState) (n : ℕ) → (o.here == h) ≡ false → StandsAt h os n → StandsAt h (o ∷ os) (suc n)
  stands_behind o os n t k = record {
    own = k.own;
    low = (let l = k.low in omega arith);
    found = ap (λ b. if b then Some o else own_from h os) t ∙ k.found;
    here = k.here;
    read = k.read;
    unchanged = ap (λ xs. o ∷ xs) k.unchanged;
    changed = λ p i. ap (λ xs. o ∷ xs) (k.changed p i) ∙ sym (ap (λ b. if b then p ∷ os else o ∷ with_own p os) (ap (λ x. o.here == x) i ∙ t));
    replaced = λ p i. ap (λ xs. o ∷ xs) (k.replaced p i) ∙ sym (ap (λ b. if b then p ∷ os else o ∷ put_own p os) (ap (λ x. o.here == x) i ∙ t));
    gone = ap (λ xs. o ∷ xs) k.gone ∙ sym (ap (λ b. if b then os else o ∷ without_own h os) t);
  }

  nowhere : (os : List OwnState) → own_place h os ≡ None → IsNowhere h os
  nowhere [] e = record { found = refl; put = λ o i. refl; gone = refl }
  nowhere (o ∷ os) e = by_test (o.here == h) refl e (nowhere os)
    where
      by_test : (b : Bool) → (o.here == h) ≡ b → (if b then Some 0 else option_map suc (own_place h os)) ≡ None → (own_place h os ≡ None → IsNowhere h os) → IsNowhere h (o ∷ os)
      by_test true t i more = absurd cc
      by_test false t i more = nowhere_behind o os t (more (no_place (own_place h os) i))

  somewhere : (os : List OwnState) (n : ℕ) → own_place h os ≡ Some n → StandsAt h os n
  somewhere [] n e = absurd cc
  somewhere (o ∷ os) n e = by_test (o.here == h) refl e (somewhere os)
    where
      step : (p : Option ℕ) → own_place h os ≡ p → option_map suc p ≡ Some n → (o.here == h) ≡ false → ((j : ℕ) → own_place h os ≡ Some j → StandsAt h os j) → StandsAt h (o ∷ os) n
      step None q i t more = absurd cc
      step (Some j) q i t more = let here : suc j ≡ n = cc in subst (StandsAt h (o ∷ os)) here (stands_behind o os j t (more j q))

      by_test : (b : Bool) → (o.here == h) ≡ b → (if b then Some 0 else option_map suc (own_place h os)) ≡ Some n → ((j : ℕ) → own_place h os ≡ Some j → StandsAt h os j) → StandsAt h (o ∷ os) n
      by_test true t i more = let here : 0 ≡ n = cc in subst (StandsAt h (o ∷ os)) here (stands_first o os t)
      by_test false t i more = step (own_place h os) refl i t more

  pub place_is : (os : List OwnState) (r : Option ℕ) → r ≡ own_place h os → PlaceOf h os r
  place_is os None e = nowhere os (sym e)
  place_is os (Some n) e = somewhere os n (sym e)
