-- A call that ends connections: what its jobs come to.
use Rattle.std.proofs.Common.{◌≡◌, ℕ, eqb, ◌&&◌, Bool, true, false, List, [], ◌∷◌, refl, sym, ap, subst, ◌∙◌}
use Rattle.std.specs.List.{AllByRecursion, IsDistinct}
use Rattle.nfc_base.specs.Links.{CarrierView, FarStep}
use Rattle.llcp_link.specs.Asking.{is_open_by}
use Rattle.snep_core.specs.declared.fault.SnepFault.{SnepFault}
use Rattle.snep_core.specs.declared.fault.SnepFault.TheVariants.{Memory}
use Rattle.snep_core.specs.Calling.{FailsAt, FailsBy, Talks}
use Rattle.snep_core.specs.Jobs.{Asks, Begins, Closes, Collects, Done, Job, Looks, Over, Refused, Sap, Sends, Value, Waits}
use Rattle.snep_core.specs.Talk.{AllReady, EndState, Ends, OnSap, Step, all_done, all_opening, all_over, begins_all, begun, client_saps, is_over, leave_from, leaving, own_of, saps, some_open}
use Rattle.snep_core.specs.RepliesLeft.{IsBelowCountEnd, IsUnderWay}
use Rattle.snep_core.specs.private.Waning.{Leaving, Serves}
use Rattle.snep_core.proofs.jobs.CallsEnd.{calls_begin}
use Rattle.snep_core.proofs.sessions.Following.{Follow, told_follow}
use Rattle.snep_core.proofs.jobs.Leaving.{closes_some, leave_saps}
use Rattle.snep_core.proofs.jobs.Talking.{fails_by, talks_rests}

pub saps_distinct : IsDistinct eqb client_saps
unfolding IsDistinct
saps_distinct = (
  (refl, (refl, (refl, (refl, (refl, (refl, (refl, tt))))))),
  (
    (refl, (refl, (refl, (refl, (refl, (refl, tt)))))),
    ((refl, (refl, (refl, (refl, (refl, tt))))), ((refl, (refl, (refl, (refl, tt)))), ((refl, (refl, (refl, tt))), ((refl, (refl, tt)), ((refl, tt), (tt, tt)))))),
  ),
)

abbrev AllLeave : List OnSap → Type 0
AllLeave [] = Unit {0}
AllLeave (x ∷ xs) = Serves Leaving x.job × AllLeave xs

opened_leave : (ss : List ℕ) (l : EndState) → AllLeave (all_opening (leave_from ss) l).jobs
opened_leave [] l = tt
opened_leave (s ∷ ss) l = (go (is_open_by (own_of s l)), opened_leave ss (leaving l s (is_open_by (own_of s l))).llc)
  where
    go : (b : Bool) → Serves Leaving (leaving l s b).job
    go true = refl
    go false = tt

opened_saps : (ss : List ℕ) (l : EndState) → saps (all_opening (leave_from ss) l).jobs ≡ ss
opened_saps [] l = refl
opened_saps (s ∷ ss) l = ap (λ ts. s ∷ ts) (opened_saps ss (leaving l s (is_open_by (own_of s l))).llc)

one_done : (y : OnSap) (s : ℕ) → y.sap ≡ s → (job : Job) → y.job ≡ job → is_over job ≡ true → Serves Leaving job → y ≡ record { sap = s; job = Over Done }
one_done y s e (Over Done) k o v = ap (λ t. let x : OnSap = record { sap = t; job = y.job } in x) e ∙ ap (λ j. let x : OnSap = record { sap = s; job = j } in x) k
one_done y s e (Over (Value w)) k o v = absurd v
one_done y s e (Over (Sap n)) k o v = absurd v
one_done y s e (Over (Refused r)) k o v = absurd v
one_done y s e (Begins most bytes) k o v = absurd cc
one_done y s e (Waits most rest) k o v = absurd cc
one_done y s e (Sends most rest) k o v = absurd cc
one_done y s e (Asks size have) k o v = absurd cc
one_done y s e (Collects size have) k o v = absurd cc
one_done y s e (Looks tid) k o v = absurd cc
one_done y s e Closes k o v = absurd cc

all_are_done : (xs ys : List OnSap) → Follow xs ys → AllLeave xs → all_over ys ≡ true → ys ≡ all_done (saps xs)
all_are_done [] [] f v o = refl
all_are_done [] (y ∷ ys) f v o = absurd f
all_are_done (x ∷ xs) [] f v o = absurd f
all_are_done (x ∷ xs) (y ∷ ys) f v o = go (is_over y.job) refl o (all_are_done xs ys f.3 v.1)
  where
    go : (b : Bool) → is_over y.job ≡ b → (b && all_over ys) ≡ true → (all_over ys ≡ true → ys ≡ all_done (saps xs)) → y ∷ ys ≡ all_done (saps (x ∷ xs))
    go true e k more = ap (λ z. z ∷ ys) (one_done y x.sap f.0 y.job refl e (f.1 Leaving v.0)) ∙ ap (λ zs. record { sap = x.sap; job = Over Done } ∷ zs) (more k)
    go false e k more = absurd cc

-- Each came to its end.
pub ended_so : {C A : Type 0} (seen : C → CarrierView) (swaps : C → List ℕ → List FarStep → C → Type 0) (steps : A → List ℕ → List ℕ → A → Type 0) (stops : A → List ℕ → A → Type 0)
    (numbers : List ℕ) (ss : List ℕ) (l : EndState) (jobs : List OnSap) (new : EndState) (link now : C) (far after : A)
    → Talks seen swaps steps stops numbers (begun (all_opening (leave_from ss) l).llc (all_opening (leave_from ss) l).jobs) link far (Ends jobs new) now after → jobs ≡ all_done ss
ended_so seen swaps steps stops numbers ss l jobs new link now far after t =
    let r = all_opening (leave_from ss) l in
    let f = told_follow (record { llc = r.llc; jobs = r.jobs; idle = 0 }) numbers t.did jobs new t.told in
    all_are_done r.jobs jobs f.0 (opened_leave ss l) f.1 ∙ ap all_done (opened_saps ss l)

pub close_opens : (ss : List ℕ) (l new : EndState) (jobs : List OnSap) → some_open l ss ≡ true → all_opening (leave_from ss) l ≡ record { llc = new; jobs = jobs }
    → begins_all l (leave_from ss) ≡ begun new jobs
close_opens ss l new jobs h o = closes_some ss l h ∙ ap (λ (r : AllReady). begun r.llc r.jobs) o

pub close_way : (ss : List ℕ) (l new : EndState) (jobs : List OnSap) → some_open l ss ≡ true → all_opening (leave_from ss) l ≡ record { llc = new; jobs = jobs }
    → IsDistinct eqb ss → AllByRecursion (IsBelowCountEnd l) ss → IsUnderWay (record { llc = new; jobs = jobs; idle = 0 })
close_way ss l new jobs h o d c =
    calls_begin l (leave_from ss) (record { llc = new; jobs = jobs; idle = 0 }) (subst (IsDistinct eqb) (sym (leave_saps ss)) d)
    (subst (AllByRecursion (IsBelowCountEnd l)) (sym (leave_saps ss)) c) (close_opens ss l new jobs h o)

module _ {C A : Type 0} (seen : C → CarrierView) (swaps : C → List ℕ → List FarStep → C → Type 0) (steps : A → List ℕ → List ℕ → A → Type 0) (stops : A → List ℕ → A → Type 0)
    (numbers : List ℕ) (ss : List ℕ) (l : EndState) (some : some_open l ss ≡ true) where
  -- memory was wanting before anything was handed over
  pub close_rests : (link : C) (far : A) (e : SnepFault) (new : EndState) → e ≡ Memory
      → FailsBy seen swaps steps stops numbers (begins_all l (leave_from ss)) link far e new link far
  close_rests link far e new f =
      let r = all_opening (leave_from ss) l in
      subst (λ (z : Step). FailsBy seen swaps steps stops numbers z link far e new link far) (sym (closes_some ss l some))
      (talks_rests seen swaps steps stops numbers (record { llc = r.llc; jobs = r.jobs; idle = 0 }) link far e new f)

  module _ (begun_end : EndState) (jobs : List OnSap) (o : all_opening (leave_from ss) l ≡ record { llc = begun_end; jobs = jobs }) where
    -- all came to their end
    pub close_so : (ended : List OnSap) (new : EndState) (link now : C) (far after : A) → Talks seen swaps steps stops numbers (begun begun_end jobs) link far (Ends ended new) now after
        → Talks seen swaps steps stops numbers (begins_all l (leave_from ss)) link far (Ends (all_done ss) new) now after
    close_so ended new link now far after t =
        let u = subst (λ (r : AllReady). Talks seen swaps steps stops numbers (begun r.llc r.jobs) link far (Ends ended new) now after) (sym o) t in
        subst (λ (z : Step). Talks seen swaps steps stops numbers z link far (Ends (all_done ss) new) now after) (sym (closes_some ss l some))
        (subst (λ js. Talks seen swaps steps stops numbers (begun (all_opening (leave_from ss) l).llc (all_opening (leave_from ss) l).jobs) link far (Ends js new) now after)
        (ended_so seen swaps steps stops numbers ss l ended new link now far after u) u)

    -- it failed
    pub close_fails : (at : List OnSap) (e : SnepFault) (new : EndState) (link now : C) (far after : A) → FailsAt seen swaps steps stops numbers (begun begun_end jobs) link far at e new now after
        → FailsBy seen swaps steps stops numbers (begins_all l (leave_from ss)) link far e new now after
    close_fails at e new link now far after h =
        subst (λ (z : Step). FailsBy seen swaps steps stops numbers z link far e new now after) (sym (close_opens ss l begun_end jobs some o))
        (fails_by seen swaps steps stops numbers (begun begun_end jobs) link far at e new now after h)
