-- A connection from one SAP, put back, read, forgotten, with its units taken away.
use Rattle.std.proofs.Common.{◌≡◌, ◌<◌, ℕ, ◌==◌, ◌||◌, Bool, true, false, List, [], ◌∷◌, length, drop, Option, Some, None, refl, sym, ap, subst, ◌∙◌, arith, if◌then◌else◌}
use Rattle.std.proofs.lemmas.Bool.Decides.{nat_tests}
use Rattle.llcp_conn.specs.Conn.{first}
use Rattle.llcp_link.specs.State.{OwnState, with_own}
use Rattle.llcp_link.specs.Asking.{forgotten, unit_of, unit_taken_by, without_own}
use Rattle.llcp_link.proofs.OwnPlaces.{here_of, with_same}
use Rattle.llcp_link.proofs.Submitted.{own_with}
use Rattle.snep_core.specs.Jobs.{Job, has_byte, told, job_told, told_in, told_on}
use Rattle.snep_core.specs.Talk.{EndState, emptied, emptied_by, finished, heard, heard_so, is_lost, own_of, units_of}

is_same : (m n : ℕ) → m ≡ n → (m == n) ≡ true
is_same m n e = grind (arith, nat_tests)

-- the last that is put there stays
pub with_twice : (h : ℕ) (os : List OwnState) (o p : OwnState) → o.here ≡ h → p.here ≡ h → with_own p (with_own o os) ≡ with_own p os
with_twice h [] o p i j = refl
with_twice h (x ∷ os) o p i j = go (x.here == h) refl (with_twice h os o p i j)
  where
    go : (b : Bool) → (x.here == h) ≡ b → with_own p (with_own o os) ≡ with_own p os → with_own p (with_own o (x ∷ os)) ≡ with_own p (x ∷ os)
    go true t more =
        ap (λ b. with_own p (if b then o ∷ os else x ∷ with_own o os)) (ap (λ z. x.here == z) i ∙ t)
        ∙ ap (λ b. if b then p ∷ os else o ∷ with_own p os) (is_same o.here p.here (i ∙ sym j))
        ∙ sym (ap (λ b. if b then p ∷ os else x ∷ with_own p os) (ap (λ z. x.here == z) j ∙ t))
    go false t more =
        ap (λ b. with_own p (if b then o ∷ os else x ∷ with_own o os)) (ap (λ z. x.here == z) i ∙ t)
        ∙ ap (λ b. if b then p ∷ with_own o os else x ∷ with_own p (with_own o os)) (ap (λ z. x.here == z) j ∙ t)
        ∙ ap (λ z. x ∷ z) more
        ∙ sym (ap (λ b. if b then p ∷ os else x ∷ with_own p os) (ap (λ z. x.here == z) j ∙ t))

-- and is forgotten as what was there before
pub without_with : (h : ℕ) (os : List OwnState) (o : OwnState) → o.here ≡ h → without_own h (with_own o os) ≡ without_own h os
without_with h [] o i = refl
without_with h (x ∷ os) o i = go (x.here == h) refl (without_with h os o i)
  where
    go : (b : Bool) → (x.here == h) ≡ b → without_own h (with_own o os) ≡ without_own h os → without_own h (with_own o (x ∷ os)) ≡ without_own h (x ∷ os)
    go true t more =
        ap (λ b. without_own h (if b then o ∷ os else x ∷ with_own o os)) (ap (λ z. x.here == z) i ∙ t)
        ∙ ap (λ b. if b then os else o ∷ without_own h os) (is_same o.here h i)
        ∙ sym (ap (λ b. if b then os else x ∷ without_own h os) t)
    go false t more =
        ap (λ b. without_own h (if b then o ∷ os else x ∷ with_own o os)) (ap (λ z. x.here == z) i ∙ t)
        ∙ ap (λ b. if b then with_own o os else x ∷ without_own h (with_own o os)) t
        ∙ ap (λ z. x ∷ z) more
        ∙ sym (ap (λ b. if b then os else x ∷ without_own h os) t)

-- Units that are taken away one by one, until there is none.
abbrev taken : ℕ → EndState → EndState
taken sap l = unit_taken_by l (own_of sap l)

module _ (sap : ℕ) (l : EndState) where
  none_left : (q : Option OwnState) → own_of sap l ≡ q → unit_of q ≡ None → (units_of q ≡ []) × (emptied_by l q ≡ l)
  none_left None e n = (refl, refl)
  none_left (Some o) e n = go o.units refl n
    where
      go : (us : List (List ℕ)) → o.units ≡ us → first us ≡ None → (o.units ≡ []) × (emptied_by l (Some o) ≡ l)
      go [] k n =
          let same : record o { units = [] } ≡ o = ap (λ (x : List (List ℕ)). record o { units = x }) (sym k) in
          (k, ap (λ xs. record l { own = xs }) (ap (λ z. with_own z l.own) same ∙ with_same sap l.own o e))
      go (u ∷ us) k n = absurd cc

  -- no unit is left, and nothing is to be taken away
  pub emptied_none : unit_of (own_of sap l) ≡ None → (units_of (own_of sap l) ≡ []) × (emptied l sap ≡ l)
  emptied_none n = none_left (own_of sap l) refl n

  one_taken : (q : Option OwnState) → own_of sap l ≡ q → (u : List ℕ) → unit_of q ≡ Some u
      → (units_of q ≡ u ∷ units_of (own_of sap (unit_taken_by l q))) × (emptied (unit_taken_by l q) sap ≡ emptied_by l q)
      × (forgotten (unit_taken_by l q) sap ≡ forgotten l sap)
  one_taken None e u n = absurd cc
  one_taken (Some o) e u n = go o.units refl n
    where
      here : o.here ≡ sap
      here = here_of sap l.own o e

      go : (us : List (List ℕ)) → o.units ≡ us → first us ≡ Some u
          → (o.units ≡ u ∷ units_of (own_of sap (unit_taken_by l (Some o)))) × (emptied (unit_taken_by l (Some o)) sap ≡ emptied_by l (Some o))
          × (forgotten (unit_taken_by l (Some o)) sap ≡ forgotten l sap)
      go [] k n = absurd cc
      go (v ∷ us) k n =
          let p : OwnState = record o { units = drop 1 o.units } in
          let there : own_of sap (unit_taken_by l (Some o)) ≡ Some p = own_with sap l.own p o e here in
          let v_is : v ≡ u = cc in (
            k ∙ ap (λ z. z ∷ us) v_is ∙ sym (ap (λ z. u ∷ units_of z) there ∙ ap (λ z. u ∷ drop 1 z) k),
            ap (λ z. emptied_by (unit_taken_by l (Some o)) z) there
                ∙ ap (λ xs. record l { own = xs }) (with_twice sap l.own p (record o { units = [] }) here here),
            ap (λ xs. record l { own = xs }) (without_with sap l.own p here),
          )

  -- one was taken away, and the rest is as it was
  pub emptied_one : (u : List ℕ) → unit_of (own_of sap l) ≡ Some u
      → (units_of (own_of sap l) ≡ u ∷ units_of (own_of sap (taken sap l))) × (emptied (taken sap l) sap ≡ emptied l sap)
      × (forgotten (taken sap l) sap ≡ forgotten l sap)
  emptied_one u n = one_taken (own_of sap l) refl u n

  forgotten_so : (q : Option OwnState) → own_of sap l ≡ q → forgotten (emptied_by l q) sap ≡ forgotten l sap
  forgotten_so None e = refl
  forgotten_so (Some o) e =
      ap (λ xs. record l { own = xs }) (without_with sap l.own (record o { units = [] }) (here_of sap l.own o e))

  pub forgotten_emptied : forgotten (emptied l sap) sap ≡ forgotten l sap
  forgotten_emptied = forgotten_so (own_of sap l) refl

either_or : (a b c : Bool) → (a || (b || c)) ≡ ((a || b) || c)
either_or true b c = refl
either_or false b c = refl

byte_on : (u : List ℕ) (us : List (List ℕ)) → has_byte (u ∷ us) ≡ (has_byte (u ∷ []) || has_byte us)
byte_on [] us = refl
byte_on (b ∷ bs) us = refl

-- What a job comes to where no unit waits to be given.
told_free : (job : Job) (us : List (List ℕ)) → told_in false job us ≡ job_told job us
told_free job [] = refl
told_free job (u ∷ us) = refl

-- One unit is heard, and the others are as they were.
pub record HearsOne (sap : ℕ) (l new : EndState) (job : Job) (u : List ℕ) (some : Bool) : Type 0 where
  pub units_are : units_of (own_of sap l) ≡ u ∷ units_of (own_of sap new)
  pub told_is : job_told job (units_of (own_of sap l)) ≡ told_on (told job u) (units_of (own_of sap new))
  pub some_is : (some || has_byte (units_of (own_of sap l))) ≡ ((some || has_byte (u ∷ [])) || has_byte (units_of (own_of sap new)))
  pub emptied_is : emptied new sap ≡ emptied l sap
  pub forgotten_is : forgotten new sap ≡ forgotten l sap
  pub fewer : length (units_of (own_of sap new)) < length (units_of (own_of sap l))

pub hears_one : (sap : ℕ) (l new : EndState) (job : Job) (u : List ℕ) (some : Bool) → unit_of (own_of sap l) ≡ Some u → new ≡ unit_taken_by l (own_of sap l)
    → HearsOne sap l new job u some
hears_one sap l new job u some e k = subst (λ z. HearsOne sap l z job u some) (sym k) (record {
  units_are = one.0;
  told_is = ap (job_told job) one.0;
  some_is =
      ap (λ us. some || has_byte us) one.0 ∙ ap (λ b. some || b) (byte_on u (units_of (own_of sap (taken sap l))))
      ∙ either_or some (has_byte (u ∷ [])) (has_byte (units_of (own_of sap (taken sap l))));
  emptied_is = one.1;
  forgotten_is = one.2;
  fewer = (let n = ap length one.0 in omega arith);
})
  where
    one : (units_of (own_of sap l) ≡ u ∷ units_of (own_of sap (taken sap l))) × (emptied (taken sap l) sap ≡ emptied l sap)
        × (forgotten (taken sap l) sap ≡ forgotten l sap)
    one = emptied_one sap l u e

module _ (sap : ℕ) (l new : EndState) (job : Job) (u : List ℕ) (some : Bool) (one : HearsOne sap l new job u some) where
  -- the job goes on, and hears the others
  pub hears_on : (waiting : Bool) (next : Job) → waiting ≡ false → told job u ≡ Some next
      → told_in waiting job (units_of (own_of sap l)) ≡ told_in waiting next (units_of (own_of sap new))
  hears_on waiting next f e =
      ap (λ b. told_in b job (units_of (own_of sap l))) f ∙ told_free job (units_of (own_of sap l)) ∙ one.told_is
      ∙ ap (λ o. told_on o (units_of (own_of sap new))) e ∙ sym (told_free next (units_of (own_of sap new)))
      ∙ ap (λ b. told_in b next (units_of (own_of sap new))) (sym f)

  -- it puts the far end at fault
  pub hears_fault : (waiting : Bool) → waiting ≡ false → told job u ≡ None → told_in waiting job (units_of (own_of sap l)) ≡ None
  hears_fault waiting f e =
      ap (λ b. told_in b job (units_of (own_of sap l))) f ∙ told_free job (units_of (own_of sap l)) ∙ one.told_is
      ∙ ap (λ o. told_on o (units_of (own_of sap new))) e

  -- it came too early
  pub hears_early : (waiting : Bool) → waiting ≡ true → told_in waiting job (units_of (own_of sap l)) ≡ None
  hears_early waiting f = ap (λ b. told_in b job (units_of (own_of sap l))) f ∙ ap (told_in true job) one.units_are

-- the far end refused the connection of a job that needs it, or closed it
pub lost_so : (sap : ℕ) (waiting : Bool) (l mid : EndState) (job now : Job) → told_in waiting job (units_of (own_of sap l)) ≡ Some now → mid ≡ emptied l sap
    → is_lost mid sap now ≡ true → (heard waiting l sap job ≡ None) × (forgotten mid sap ≡ forgotten l sap)
lost_so sap waiting l mid job now t e b = (
  ap (heard_so (emptied l sap) sap) t
      ∙ ap (λ x. if x then None else Some (finished (emptied l sap) sap now)) (ap (λ z. is_lost z sap now) (sym e) ∙ b),
  ap (λ z. forgotten z sap) e ∙ forgotten_emptied sap l,
)
