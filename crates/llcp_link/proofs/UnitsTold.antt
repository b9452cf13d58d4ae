-- Whatever payloads come after a restart, a service is brought the units of its connections.
use Rattle.std.proofs.Common.{◌≡◌, ℕ, List, [], ◌∷◌, ◌++◌, None, refl, sym, ◌∙◌, ap, subst, append_assoc, append-nil}
use Rattle.llcp_conn.specs.Conn.{IsSap}
use Rattle.llcp_link.specs.Serving.{Serving}
use Rattle.llcp_link.specs.State.{LlcState, conn_from, restarted}
use Rattle.llcp_link.specs.Taking.{Item, brought, step, steps}
use Rattle.llcp_link.specs.Units.{Mark, Turn, last, mark, marks, turn, units}
use Rattle.llcp_link.specs.Running.{Act, Acted, Does, Else, Gives, IsRun, Takes, Tells, TellsSame, UnitsLaw, end_after_acts, marks_by, marks_of, with_unit}
use Rattle.llcp_link.proofs.Clients.{AreDistinct}
use Rattle.llcp_link.proofs.Ranged.{AreRanged, brought_ranged}
use Rattle.llcp_link.proofs.Following.{Follows, Fits, Linked}
use Rattle.llcp_link.proofs.StepRows.{step_fits}
use Rattle.llcp_link.proofs.GivesFit.{after_fits}

-- the connection that is open and the units of those that are over, behind some PDUs
abbrev pub turns : ℕ → ℕ → Turn → List Mark → Turn
turns c miu x [] = x
turns c miu x (a ∷ more) = turns c miu (record { open_ = (turn c miu x.open_ a).open_; over = x.over ++ (turn c miu x.open_ a).over }) more

abbrev pub at_first : Turn
at_first = record { open_ = None; over = [] }

pub turns_more : (c miu : ℕ) (x : Turn) (xs ys : List Mark) → turns c miu x (xs ++ ys) ≡ turns c miu (turns c miu x xs) ys
turns_more c miu x [] ys = refl
turns_more c miu x (a ∷ xs) ys = turns_more c miu (record { open_ = (turn c miu x.open_ a).open_; over = x.over ++ (turn c miu x.open_ a).over }) xs ys

pub turns_units : (c miu : ℕ) (x : Turn) (xs : List Mark) → (turns c miu x xs).over ++ last (turns c miu x xs).open_ ≡ x.over ++ units c miu x.open_ xs
turns_units c miu x [] = refl
turns_units c miu x (a ∷ xs) =
    let b = turn c miu x.open_ a in
    turns_units c miu (record { open_ = b.open_; over = x.over ++ b.over }) xs ∙ append_assoc x.over b.over (units c miu b.open_ xs)

module _ {S : Type 0} (m : Serving S) (told : S → List (List (List ℕ)) → Type 0) (c miu : ℕ) (f : Follows m c told) where
  abbrev pub FitsAt : LlcState S → Turn → Type 0
  FitsAt l x = Fits told c miu l x.open_ x.over

  pub items_fit : (is : List Item) → AreRanged is → (l : LlcState S) (x : Turn) → FitsAt l x → FitsAt (steps m l is) (turns c miu x (marks m c l is))
  items_fit [] w l x h = h
  items_fit (i ∷ is) w l x h =
      items_fit is w.1 (step m l i) (record { open_ = (turn c miu x.open_ (mark m c l i)).open_; over = x.over ++ (turn c miu x.open_ (mark m c l i)).over })
      (step_fits m told c miu f l x.over i w.0 x.open_ h)

  module _ (changes : S → S → Type 0) (changed : (s t : S) (us : List (List (List ℕ))) → changes s t → told s us → told t us) where
    act_fits : (a : Act) (l n : LlcState S) → Does m changes l a n → (x : Turn) → FitsAt l x → FitsAt n (turns c miu x (marks_by m c l a))
    act_fits (Takes bytes) l n d x h =
        subst (λ z. FitsAt z (turns c miu x (marks m c l (brought l bytes)))) (sym d.1) (items_fit (brought l bytes) (brought_ranged l bytes d.0) l x h)
    act_fits (Gives k) l n d x h = subst (λ z. FitsAt z x) (sym d) (after_fits m told c miu f x.open_ x.over k l h)
    act_fits Else l n d x h = record {
      near = d.miu ∙ h.near;
      distinct = subst AreDistinct (sym d.served) h.distinct;
      link = subst (λ z. Linked miu z x.open_) (sym (ap (conn_from c) d.served)) h.link;
      tells = changed l.service n.service (x.over ++ last x.open_) d.service h.tells;
    }

    pub run_fits : (run : List (Acted S)) (l : LlcState S) → IsRun m changes l run → (x : Turn) → FitsAt l x → FitsAt (end_after_acts l run) (turns c miu x (marks_of m c l run))
    run_fits [] l r x h = h
    run_fits (a ∷ run) l r x h =
        subst (λ z. FitsAt (end_after_acts a.after run) z) (sym (turns_more c miu x (marks_by m c l a.act) (marks_of m c a.after run)))
        (run_fits run a.after r.1 (turns c miu x (marks_by m c l a.act)) (act_fits a.act l a.after r.0 x h))

-- a service that tells its units is one of which a relation tells them
module _ {S : Type 0} (m : Serving S) (told : ℕ → S → List (List (List ℕ))) (t : Tells m told) (c : ℕ) (sap : IsSap c) (before : List (List (List ℕ))) where
  abbrev IsTold : S → List (List (List ℕ)) → Type 0
  IsTold s us = told c s ≡ before ++ us

  unit_last : (xs : List (List (List ℕ))) (us : List (List ℕ)) (u : List ℕ) → with_unit u (xs ++ us ∷ []) ≡ xs ++ (us ++ u ∷ []) ∷ []
  unit_last [] us u = refl
  unit_last (x ∷ []) us u = refl
  unit_last (x ∷ y ∷ xs) us u = ap (λ z. x ∷ z) (unit_last (y ∷ xs) us u)

  unit_behind : (us : List (List (List ℕ))) (now : List (List ℕ)) (u : List ℕ) → with_unit u (before ++ (us ++ now ∷ [])) ≡ before ++ (us ++ (now ++ u ∷ []) ∷ [])
  unit_behind us now u =
      ap (with_unit u) (sym (append_assoc before us (now ∷ []))) ∙ unit_last (before ++ us) now u ∙ append_assoc before us ((now ++ u ∷ []) ∷ [])

  follows : Follows m c IsTold
  follows = record {
    begun = λ s us h. t.begun s c sap ∙ ap (λ z. z ++ [] ∷ []) h ∙ append_assoc before us ([] ∷ []);
    begun_else = λ s d us n h. t.begun_else s c d sap n ∙ h;
    brought = λ s us now u h. t.brought s c u sap ∙ ap (with_unit u) h ∙ unit_behind us now u;
    brought_else = λ s d u us n h. t.brought_else s c d u sap n ∙ h;
    sent = λ s d miu us h. t.sent s c d miu sap ∙ h;
  }

pub units_law : {S : Type 0} (m : Serving S) → UnitsLaw m
units_law m told t old general run r c sap =
    let before = told c (m.renewed old.service) in
    let begin = restarted m old general in
    let begins : FitsAt m (IsTold m told t c sap before) c old.miu (follows m told t c sap before) begin at_first =
    record { near = refl; distinct = tt; link = tt; tells = sym (append-nil before) } in
    let end = run_fits m (IsTold m told t c sap before) c old.miu (follows m told t c sap before) (TellsSame told) (λ s n us k h. k c sap ∙ h) run begin r at_first begins in
    end.tells ∙ ap (λ z. before ++ z) (turns_units c old.miu at_first (marks_of m c begin run))
