-- A call of any number of jobs, each on a connection of its own, comes to an end.
use Rattle.std.proofs.Common.{◌≡◌, ◌<◌, ◌≤◌, ℕ, ◌==◌, ◌||◌, eqb, nat_lt, Bool, true, false, List, [], ◌∷◌, length, Option, Some, None, refl, sym, ap, subst, ◌∙◌, arith, if◌then◌else◌}
use Rattle.std.proofs.lemmas.Bool.{eqb-true}
use Rattle.std.proofs.lemmas.Bool.Decides.{nat_tests}
use Rattle.std.specs.List.{AllByRecursion, IsDistinct}
use Rattle.nfc_base.specs.Choosing.{first_number, later_numbers}
use Rattle.nfc_base.specs.Links.{FarStep, Stepped, Stopped}
use Rattle.llcp_conn.specs.Conn.{count_end}
use Rattle.llcp_link.specs.declared.own.OwnIs.{OwnIs}
use Rattle.llcp_link.specs.declared.own.OwnIs.TheVariants.{Asking, Open, Refused, Leaving, Closed}
use Rattle.llcp_link.specs.State.{OwnState, own_from}
use Rattle.llcp_link.specs.Asking.{acked_of, acked_on, asked_from, disconnected_by, has_waiting_of, is_busy_by, is_open_by, put_own}
use Rattle.llcp_link.specs.Giving.{after_giving}
use Rattle.llcp_link.specs.Taking.{taken_from}
use Rattle.llcp_link.specs.Waning.{pending, pending_on}
use Rattle.llcp_link.proofs.OwnPlaces.{here_of}
use Rattle.llcp_link.proofs.Ranged.{either}
use Rattle.llcp_link.proofs.Submitted.{own_with}
use Rattle.llcp_link.proofs.Waning.{Wanes, is_of, given_wanes, pending_wanes, taken_wanes}
use Rattle.snep_core.specs.Jobs.{Job, Begins, Closes, has_byte}
use Rattle.snep_core.specs.Talk.{AllReady, EndState, Ends, Finds, Gets, GivenUp, GivesUp, Leaves, Puts, Task, TaskOn, all_opening, begun, connected, get_bytes, opening, own_of, put_bytes, server_sap}
use Rattle.snep_core.specs.Talk.{Goes, OnSap, Ready, Step, ComesTo, Working, all_emptied, all_heard, all_over, all_readied, all_well, as_they_came, emptied, emptied_by, gave_any, gave_something}
use Rattle.snep_core.specs.Talk.{goes_on, heard, heard_with, idle_after, most_idle, given_up, leaving, readied, ready, ready_so, replied, saps, settled, silent, with_job, call_behind, took, units_of}
use Rattle.snep_core.specs.RepliesLeft.{CallsBegin, CallsEnd, IsBelowCountEnd, IsUnderWay, RepliesFall, all_to_come, job_left, replies_left, task_saps, to_come}
use Rattle.snep_core.specs.private.Waning.{LessensTo, Putting}
use Rattle.snep_core.proofs.jobs.Falling.{both_lessen, gave_lessens, turn_falls}
use Rattle.snep_core.proofs.sessions.Jobs.{heard_lets}
use Rattle.snep_core.proofs.jobs.Readied.{Readies, elsewhere, one_ready}

-- None of these is that SAP.
abbrev pub NotAmong : ℕ → List ℕ → Type 0
NotAmong s ss = AllByRecursion (λ z. (s == z) ≡ false) ss

is_other : (m n : ℕ) → (m == n) ≡ false → (n == m) ≡ false
is_other m n e = grind (arith, nat_tests, e)

same_elsewhere : (l : EndState) (sap : ℕ) (job : Job) (r : Ready) → Readies l sap job r → (xs : List OnSap) → NotAmong sap (saps xs)
    → (all_to_come r.llc xs ≡ all_to_come l xs)
same_elsewhere l sap job r h [] n = refl
same_elsewhere l sap job r h (x ∷ xs) n =
    let more = same_elsewhere l sap job r h xs n.1 in
    let one : to_come (own_from x.sap r.llc.own) x.job ≡ to_come (own_from x.sap l.own) x.job = ap (λ o. to_come o x.job) (h.others x.sap n.0) in
    omega arith

counted_elsewhere : (l : EndState) (sap : ℕ) (job : Job) (r : Ready) → Readies l sap job r → (ss : List ℕ) → NotAmong sap ss
    → AllByRecursion (IsBelowCountEnd l) ss → AllByRecursion (IsBelowCountEnd r.llc) ss
counted_elsewhere l sap job r h [] n c = tt
counted_elsewhere l sap job r h (s ∷ ss) n c =
    (subst (λ o. acked_of o < count_end) (sym (h.others s n.0)) c.0, counted_elsewhere l sap job r h ss n.1 c.1)

-- what all jobs submit
record AllReadies (l : EndState) (xs : List OnSap) (r : AllReady) : Type 0 where
  pub left : all_to_come r.llc r.jobs ≤ all_to_come l xs
  pub counted : AllByRecursion (IsBelowCountEnd l) (saps xs) → AllByRecursion (IsBelowCountEnd r.llc) (saps xs)
  pub others : (s : ℕ) → NotAmong s (saps xs) → own_from s r.llc.own ≡ own_from s l.own
  pub same : saps r.jobs ≡ saps xs

all_ready : (xs : List OnSap) (l : EndState) → IsDistinct eqb (saps xs) → AllReadies l xs (all_readied xs l)
unfolding IsDistinct
all_ready [] l d = record { left = omega arith; counted = λ c. c; others = λ s n. refl; same = refl }
all_ready (x ∷ xs) l d = go (readied l x.sap x.job) (one_ready l x.sap x.job) (all_ready xs (readied l x.sap x.job).llc d.1)
  where
    go : (r : Ready) → Readies l x.sap x.job r → AllReadies r.llc xs (all_readied xs r.llc) → AllReadies l (x ∷ xs) (with_job x.sap r (all_readied xs))
    go r h m = record {
      left =
          (let a = h.left in let b = m.left in let c = same_elsewhere l x.sap x.job r h xs d.0 in
          let e : to_come (own_from x.sap (all_readied xs r.llc).llc.own) r.job ≡ to_come (own_from x.sap r.llc.own) r.job =
          ap (λ o. to_come o r.job) (m.others x.sap d.0) in
          omega arith);
      counted = λ c. (
        subst (λ o. acked_of o < count_end) (sym (m.others x.sap d.0)) (subst (λ n. n < count_end) (sym h.acked) c.0),
        m.counted (counted_elsewhere l x.sap x.job r h (saps xs) d.0 c.1),
      );
      others = λ s n. m.others s n.1 ∙ h.others s (is_other s x.sap n.0);
      same = ap (λ ss. x.sap ∷ ss) m.same;
    }

-- Acknowledgements are counted modulo 2 ^ 32 as payloads are given and taken.
bound_on : (i j : OwnIs) → Wanes i j → acked_on i < count_end → acked_on j < count_end
bound_on i Asking w h = omega arith
bound_on i Refused w h = omega arith
bound_on i Leaving w h = omega arith
bound_on i Closed w h = omega arith
bound_on Asking (Open d) w h = w.bound (omega arith)
bound_on (Open c) (Open d) w h = w.bound h
bound_on Refused (Open d) w h = w.bound (omega arith)
bound_on Leaving (Open d) w h = w.bound (omega arith)
bound_on Closed (Open d) w h = w.bound (omega arith)

acked_is : (s : ℕ) (o : Option OwnState) → acked_of o ≡ acked_on (is_of s o)
acked_is s None = refl
acked_is s (Some o) = refl

bound_by : (s : ℕ) (a b : Option OwnState) → Wanes (is_of s a) (is_of s b) → acked_of a < count_end → acked_of b < count_end
bound_by s a b w h =
    subst (λ n. n < count_end) (sym (acked_is s b)) (bound_on (is_of s a) (is_of s b) w (subst (λ n. n < count_end) (acked_is s a) h))

-- One end after another, on each of whose connections no more is to come.
abbrev Wane : EndState → EndState → Type 0
Wane l new = (s : ℕ) → Wanes (is_of s (own_from s l.own)) (is_of s (own_from s new.own))

counted_on : (l new : EndState) → Wane l new → (ss : List ℕ) → AllByRecursion (IsBelowCountEnd l) ss → AllByRecursion (IsBelowCountEnd new) ss
counted_on l new w [] c = tt
counted_on l new w (s ∷ ss) c = (bound_by s (own_from s l.own) (own_from s new.own) (w s) c.0, counted_on l new w ss c.1)

to_come_on : (l new : EndState) → Wane l new → (xs : List OnSap) → all_to_come new xs ≤ all_to_come l xs
to_come_on l new w [] = omega arith
to_come_on l new w (x ∷ xs) =
    (let a = pending_wanes x.sap (own_from x.sap l.own) (own_from x.sap new.own) (w x.sap) in let b = to_come_on l new w xs in omega arith)

-- one job hears what came on its connection
one_heard : (l new : EndState) → Wane l new → (waiting : Bool) (sap : ℕ) (job now : Job) → IsBelowCountEnd l sap → heard waiting new sap job ≡ Some now
    → LessensTo (gave_something (own_from sap l.own) (own_from sap new.own) || has_byte (units_of (own_from sap new.own)))
    (to_come (own_from sap l.own) job) (to_come (own_from sap new.own) now)
one_heard l new w waiting sap job now c e =
    both_lessen (gave_something (own_from sap l.own) (own_from sap new.own)) (has_byte (units_of (own_from sap new.own)))
    (pending (own_from sap l.own)) (pending (own_from sap new.own)) (job_left job) (job_left now)
    (gave_lessens sap (own_from sap l.own) (own_from sap new.own) (w sap) c (gave_something (own_from sap l.own) (own_from sap new.own)) refl)
    (heard_lets Putting waiting new sap job now e).left

-- what all jobs hear
record AllHeard (l new : EndState) (xs ys : List OnSap) : Type 0 where
  pub left : LessensTo (gave_any l new xs) (all_to_come l xs) (all_to_come new ys)
  pub same : saps ys ≡ saps xs

all_hear : (l new : EndState) → Wane l new → (xs ys : List OnSap) → AllByRecursion (IsBelowCountEnd l) (saps xs) → all_well (all_heard l new xs) ≡ Some ys → AllHeard l new xs ys
all_hear l new w [] ys c e = let k : [] ≡ ys = cc in subst (AllHeard l new []) k (record { left = omega arith; same = refl })
all_hear l new w (x ∷ xs) ys c e = go (λ zs j. all_hear l new w xs zs c.1 j) (heard waiting new x.sap x.job) refl (all_well (all_heard l new xs)) refl e
  where
    waiting : Bool
    waiting = has_waiting_of (own_from x.sap l.own)

    go : ((zs : List OnSap) → all_well (all_heard l new xs) ≡ Some zs → AllHeard l new xs zs) → (o : Option Job) → heard waiting new x.sap x.job ≡ o
        → (q : Option (List OnSap)) → all_well (all_heard l new xs) ≡ q → heard_with x.sap o q ≡ Some ys → AllHeard l new (x ∷ xs) ys
    go rest None i q j k = absurd cc
    go rest (Some now) i None j k = absurd cc
    go rest (Some now) i (Some zs) j k =
        let same : record { sap = x.sap; job = now } ∷ zs ≡ ys = cc in
        let more = rest zs j in
        subst (AllHeard l new (x ∷ xs)) same (record {
          left = both_lessen (gave_something (own_from x.sap l.own) (own_from x.sap new.own) || has_byte (units_of (own_from x.sap new.own)))
              (gave_any l new xs) (to_come (own_from x.sap l.own) x.job) (to_come (own_from x.sap new.own) now) (all_to_come l xs) (all_to_come new zs)
              (one_heard l new w waiting x.sap x.job now c.0 i) more.left;
          same = ap (λ ss. x.sap ∷ ss) more.same;
        })

-- Units that are taken away leave each connection as it stands.
abbrev StandsAs : EndState → EndState → Type 0
StandsAs l new = (s : ℕ) → is_of s (own_from s new.own) ≡ is_of s (own_from s l.own)

one_emptied : (l : EndState) (sap : ℕ) → StandsAs l (emptied l sap)
one_emptied l sap s = go (own_from sap l.own) refl (sap == s) refl
  where
    go : (q : Option OwnState) → own_from sap l.own ≡ q → (b : Bool) → (sap == s) ≡ b → is_of s (own_from s (emptied_by l q).own) ≡ is_of s (own_from s l.own)
    go None e b i = refl
    go (Some o) e false i = ap (is_of s) (elsewhere s (record o { units = [] }) l.own (ap (λ h. h == s) (here_of sap l.own o e) ∙ i))
    go (Some o) e true i =
        let there : own_from s l.own ≡ Some o = subst (λ z. own_from z l.own ≡ Some o) (eqb-true sap s i) e in
        ap (is_of s) (own_with s l.own (record o { units = [] }) o there (here_of s l.own o there)) ∙ sym (ap (is_of s) there)

all_empty : (xs : List OnSap) (l : EndState) → StandsAs l (all_emptied xs l)
all_empty [] l s = refl
all_empty (x ∷ xs) l s = all_empty xs (emptied l x.sap) s ∙ one_emptied l x.sap s

pending_is : (s : ℕ) (o : Option OwnState) → pending o ≡ pending_on (is_of s o)
pending_is s None = refl
pending_is s (Some o) = refl

module _ (l new : EndState) (h : StandsAs l new) where
  to_come_still : (xs : List OnSap) → all_to_come new xs ≡ all_to_come l xs
  to_come_still [] = refl
  to_come_still (x ∷ xs) =
      let a = pending_is x.sap (own_from x.sap l.own) in let b = pending_is x.sap (own_from x.sap new.own) in
      let c = ap pending_on (h x.sap) in let d = to_come_still xs in omega arith

  counted_still : (ss : List ℕ) → AllByRecursion (IsBelowCountEnd l) ss → AllByRecursion (IsBelowCountEnd new) ss
  counted_still [] c = tt
  counted_still (s ∷ ss) c =
      let e : acked_of (own_from s new.own) ≡ acked_of (own_from s l.own) =
      acked_is s (own_from s new.own) ∙ ap acked_on (h s) ∙ sym (acked_is s (own_from s l.own)) in
      (subst (λ n. n < count_end) (sym e) c.0, counted_still ss c.1)

is_below : (m n : ℕ) → nat_lt m n ≡ true → m < n
is_below m n e = grind (arith, nat_tests, e)

-- where a call goes on
module _ (w : Working) (new : EndState) where
  abbrev Falls : Working → Type 0
  Falls next = IsUnderWay next × (replies_left next < replies_left w)

  abbrev FallsOn : Step → Type 0
  FallsOn step = (next : Working) → step ≡ Goes next → Falls next

  -- its jobs came to these
  goes_so : (now : List OnSap) (idle : ℕ) → (idle < most_idle → Falls (record { llc = new; jobs = now; idle = idle })) → FallsOn (goes_on new now idle)
  goes_so now idle f =
      either {X = Step} FallsOn (nat_lt idle most_idle) (Goes (record { llc = new; jobs = now; idle = idle })) (given_up new now (as_they_came now))
      (λ i next e. (let k : record { llc = new; jobs = now; idle = idle } ≡ next = cc in subst Falls k (f (is_below idle most_idle i)))) (λ i next e. absurd cc)

  settles_so : (now : List OnSap) (idle : ℕ) → (idle < most_idle → Falls (record { llc = new; jobs = now; idle = idle })) → FallsOn (settled new now idle)
  settles_so now idle f = either {X = Step} FallsOn (all_over now) (Ends now new) (goes_on new now idle) (λ i next e. absurd cc) (λ i. goes_so now idle f)

-- an end that gave and took a payload
took_falls : (w : Working) → IsUnderWay w → (r : AllReady) → AllReadies w.llc w.jobs r → (mid l : EndState) → Wane r.llc mid → Wane mid l
    → (next : Working) → took mid l r.jobs w.idle ≡ Goes next → IsUnderWay next × (replies_left next < replies_left w)
took_falls w way r h mid l one two next e = go (all_well (all_heard mid l r.jobs)) refl e
  where
    same : saps r.jobs ≡ saps w.jobs
    same = h.same

    begun : AllByRecursion (IsBelowCountEnd mid) (saps r.jobs)
    begun = counted_on r.llc mid one (saps r.jobs) (subst (AllByRecursion (IsBelowCountEnd r.llc)) (sym same) (h.counted way.counted))

    go : (q : Option (List OnSap)) → all_well (all_heard mid l r.jobs) ≡ q → call_behind l r.jobs (all_heard mid l r.jobs) (idle_after (gave_any mid l r.jobs) w.idle) q ≡ Goes next
        → IsUnderWay next × (replies_left next < replies_left w)
    go None i k = absurd cc
    go (Some now) i k =
        let a = all_hear mid l two r.jobs now begun i in
        let still = all_empty r.jobs l in
        settles_so w (all_emptied r.jobs l) now (idle_after (gave_any mid l r.jobs) w.idle)
        (λ low. (
          record {
            apart = subst (IsDistinct eqb) (sym (a.same ∙ same)) way.apart;
            counted = counted_still l (all_emptied r.jobs l) still (saps now)
                (subst (AllByRecursion (IsBelowCountEnd l)) (sym a.same) (counted_on mid l two (saps r.jobs) begun));
            idle = low;
          },
          (let x = to_come_on r.llc mid one r.jobs in let y = h.left in let z = to_come_still l (all_emptied r.jobs l) still now in
              let v = turn_falls (all_to_come w.llc w.jobs) (all_to_come mid r.jobs) (all_to_come l now) w.idle (gave_any mid l r.jobs) (omega arith) a.left low in
              omega arith),
        )) next k

pub replies_fall : RepliesFall
replies_fall w n reply next way e =
    took_falls w way (all_readied w.jobs w.llc) (all_ready w.jobs w.llc way.apart) (after_giving silent n (ready w).llc)
    (taken_from silent (after_giving silent n (ready w).llc) reply) (λ s. given_wanes silent s n (ready w).llc)
    (λ s. taken_wanes silent s (after_giving silent n (ready w).llc) reply) next e

-- replies are left where a call goes on
some_left : (w : Working) → IsUnderWay w → 0 < replies_left w
some_left w way = (let i = way.idle in omega arith)

-- nothing is heard behind the end of a call
ended : (xs : List OnSap) (l : EndState) (ns : List ℕ) (did : List FarStep) (to : Step) → ComesTo ns (Ends xs l) did to → length did ≡ 0
ended xs l ns [] to t = refl
ended xs l ns (d ∷ ds) to t = absurd t

gave_up : (l : GivenUp) (ns : List ℕ) (did : List FarStep) (to : Step) → ComesTo ns (GivesUp l) did to → length did ≡ 0
gave_up l ns [] to t = refl
gave_up l ns (d ∷ ds) to t = absurd t

pub calls_end : CallsEnd
calls_end w ns [] to way t = (let z = some_left w way in omega arith)
calls_end w ns (Stopped out ∷ did) to way t = absurd t
calls_end w ns (Stepped out reply ∷ did) to way t = go (λ next f u. calls_end next later did to f u) (replied n w reply) refl t.1
  where
    n : ℕ
    n = first_number ns

    later : List ℕ
    later = later_numbers ns

    go : ((next : Working) → IsUnderWay next → ComesTo later (Goes next) did to → length did ≤ replies_left next) → (from : Step) → replied n w reply ≡ from → ComesTo later from did to
        → length (Stepped out reply ∷ did) ≤ replies_left w
    go rest (Goes next) e u = (let f = replies_fall w n reply next way e in let more = rest next f.0 u in omega arith)
    go rest (Ends xs l) e u = (let z = ended xs l later did to u in let v = some_left w way in omega arith)
    go rest (GivesUp l) e u = (let z = gave_up l later did to u in let v = some_left w way in omega arith)

-- where a call begins
pub put_there : (h : ℕ) (o : OwnState) (os : List OwnState) → (o.here == h) ≡ true → own_from h (put_own o os) ≡ Some o
put_there h o [] i = ap (λ b. if b then Some o else None) i
put_there h o (p ∷ ps) i = go (put_there h o ps i) (p.here == o.here) refl
  where
    go : own_from h (put_own o ps) ≡ Some o → (b : Bool) → (p.here == o.here) ≡ b → own_from h (if b then o ∷ ps else p ∷ put_own o ps) ≡ Some o
    go more true t = ap (λ b. if b then Some o else own_from h ps) i
    go more false t =
        ap (λ b. if b then Some p else own_from h (put_own o ps)) (ap (λ k. p.here == k) (sym (eqb-true o.here h i)) ∙ t) ∙ more

pub put_elsewhere : (s : ℕ) (o : OwnState) (os : List OwnState) → (o.here == s) ≡ false → own_from s (put_own o os) ≡ own_from s os
put_elsewhere s o [] n = ap (λ b. if b then Some o else None) n
put_elsewhere s o (x ∷ os) n = go (x.here == o.here) refl (put_elsewhere s o os n)
  where
    go : (b : Bool) → (x.here == o.here) ≡ b → own_from s (put_own o os) ≡ own_from s os
        → own_from s (if b then o ∷ os else x ∷ put_own o os) ≡ own_from s (x ∷ os)
    go true t more =
        ap (λ b. if b then Some o else own_from s os) n
        ∙ sym (ap (λ b. if b then Some x else own_from s os) (ap (λ k. k == s) (eqb-true x.here o.here t) ∙ n))
    go false t more = ap (λ z. if x.here == s then Some x else z) more

-- What a task puts before a payload leaves the other connections as they are.
pub record Opens (l : EndState) (sap : ℕ) (r : Ready) : Type 0 where
  pub counted : IsBelowCountEnd l sap → IsBelowCountEnd r.llc sap
  pub others : (s : ℕ) → (sap == s) ≡ false → own_from s r.llc.own ≡ own_from s l.own

itself : (m : ℕ) → (m == m) ≡ true
itself m = grind (arith, nat_tests)

connected_opens : (l : EndState) (sap : ℕ) (job : Job) → Opens l sap (ready_so (connected l sap) job)
connected_opens l sap job =
    either {X = EndState} (λ z. Opens l sap (ready_so z job)) (is_busy_by (own_from sap l.own)) l _
    (λ e. record { counted = λ c. c; others = λ s n. refl })
    (λ e. record {
      counted = λ c. subst (λ o. acked_of o < count_end) (sym (put_there sap (asked_from sap server_sap) l.own (itself sap))) (omega arith);
      others = λ s n. put_elsewhere s (asked_from sap server_sap) l.own n;
    })

ended_opens : (l : EndState) (sap : ℕ) (q : Option OwnState) → own_of sap l ≡ q → Opens l sap (ready_so (disconnected_by l q) Closes)
ended_opens l sap None e = record { counted = λ c. c; others = λ s n. refl }
ended_opens l sap (Some o) e = record {
  counted = λ c. subst (λ z. acked_of z < count_end) (sym (own_with sap l.own (record o { is = Leaving }) o e (here_of sap l.own o e))) (omega arith);
  others = λ s n. elsewhere s (record o { is = Leaving }) l.own (ap (λ h. h == s) (here_of sap l.own o e) ∙ n);
}

leaving_opens : (l : EndState) (sap : ℕ) (b : Bool) → Opens l sap (leaving l sap b)
leaving_opens l sap true = ended_opens l sap (own_of sap l) refl
leaving_opens l sap false = record { counted = λ c. c; others = λ s n. refl }

pub one_opens : (l : EndState) (sap : ℕ) (task : Task) → Opens l sap (opening l sap task)
one_opens l sap (Puts message) = connected_opens l sap (Begins None (put_bytes message))
one_opens l sap (Gets most key) = connected_opens l sap (Begins (Some most) (get_bytes most key))
one_opens l sap (Finds name) = record { counted = λ c. c; others = λ s n. refl }
one_opens l sap Leaves = leaving_opens l sap (is_open_by (own_of sap l))

counted_apart : (l : EndState) (sap : ℕ) (r : Ready) → Opens l sap r → (ss : List ℕ) → NotAmong sap ss
    → AllByRecursion (IsBelowCountEnd l) ss → AllByRecursion (IsBelowCountEnd r.llc) ss
counted_apart l sap r h [] n c = tt
counted_apart l sap r h (s ∷ ss) n c =
    (subst (λ o. acked_of o < count_end) (sym (h.others s n.0)) c.0, counted_apart l sap r h ss n.1 c.1)

-- what all tasks put there
record AllOpens (l : EndState) (xs : List TaskOn) (r : AllReady) : Type 0 where
  pub counted : AllByRecursion (IsBelowCountEnd l) (task_saps xs) → AllByRecursion (IsBelowCountEnd r.llc) (task_saps xs)
  pub others : (s : ℕ) → NotAmong s (task_saps xs) → own_from s r.llc.own ≡ own_from s l.own
  pub same : saps r.jobs ≡ task_saps xs

all_opens : (xs : List TaskOn) (l : EndState) → IsDistinct eqb (task_saps xs) → AllOpens l xs (all_opening xs l)
unfolding IsDistinct
all_opens [] l d = record { counted = λ c. c; others = λ s n. refl; same = refl }
all_opens (x ∷ xs) l d = go (opening l x.sap x.task) (one_opens l x.sap x.task) (all_opens xs (opening l x.sap x.task).llc d.1)
  where
    go : (r : Ready) → Opens l x.sap r → AllOpens r.llc xs (all_opening xs r.llc) → AllOpens l (x ∷ xs) (with_job x.sap r (all_opening xs))
    go r h m = record {
      counted = λ c. (
        subst (λ o. acked_of o < count_end) (sym (m.others x.sap d.0)) (h.counted c.0),
        m.counted (counted_apart l x.sap r h (task_saps xs) d.0 c.1),
      );
      others = λ s n. m.others s n.1 ∙ h.others s (is_other s x.sap n.0);
      same = ap (λ ss. x.sap ∷ ss) m.same;
    }

begun_under_way : (l : EndState) (tasks : List TaskOn) (r : AllReady) → IsDistinct eqb (task_saps tasks) → AllByRecursion (IsBelowCountEnd l) (task_saps tasks)
    → AllOpens l tasks r → IsUnderWay (record { llc = r.llc; jobs = r.jobs; idle = 0 })
begun_under_way l tasks r d c m = record {
  apart = subst (IsDistinct eqb) (sym m.same) d;
  counted = subst (AllByRecursion (IsBelowCountEnd r.llc)) (sym m.same) (m.counted c);
  idle = omega arith;
}

pub calls_begin : CallsBegin
calls_begin l tasks w d c e =
    either {X = Step} (λ s. s ≡ Goes w → IsUnderWay w) (all_over r.jobs) (Ends r.jobs r.llc) (begun r.llc r.jobs) (λ b q. absurd cc)
    (λ b q. (let same : record { llc = r.llc; jobs = r.jobs; idle = 0 } ≡ w = cc in
    subst IsUnderWay same (begun_under_way l tasks r d c (all_opens tasks l d)))) e
  where
    r : AllReady
    r = all_opening tasks l
