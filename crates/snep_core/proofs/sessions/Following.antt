-- The jobs of a call stay on their connections, each with its aim, until all are over.
use Rattle.std.proofs.Common.{◌≡◌, ◌<◌, ℕ, ◌&&◌, nat_lt, Bool, true, false, List, [], ◌∷◌, Option, Some, None, refl, sym, ap, subst, ◌∙◌, arith}
use Rattle.nfc_base.specs.Choosing.{first_number, later_numbers}
use Rattle.nfc_base.specs.Links.{FarStep, Stepped, Stopped}
use Rattle.std.specs.List.{IsDistinct}
use Rattle.llcp_conn.specs.Conn.{count_end}
use Rattle.llcp_link.specs.Asking.{acked_of, has_waiting_of}
use Rattle.llcp_link.specs.Giving.{after_giving}
use Rattle.llcp_link.specs.Taking.{taken_from}
use Rattle.llcp_link.specs.State.{own_from}
use Rattle.llcp_link.proofs.Ranged.{either}
use Rattle.snep_core.specs.Jobs.{Job, Begins, Waits, Sends, Asks, Collects, Looks, Closes, Over, Ending, told_in}
use Rattle.snep_core.specs.Talk.{EndState, Ends, GivesUp, Goes, OnSap, Step, ComesTo, Working, all_emptied, all_heard, all_over, all_readied, all_well, as_they_came, emptied, gave_any, given_up}
use Rattle.snep_core.specs.Talk.{goes_on, heard, heard_so, heard_with, idle_after, is_over, most_idle, one_on, own_of, readied, ready, replied, saps, settled, own_of, silent, call_behind, took}
use Rattle.snep_core.specs.Talk.{units_of}
use Rattle.snep_core.specs.RepliesLeft.{IsUnderWay}
use Rattle.snep_core.specs.private.Waning.{Aim, IsOf, Serves, aim_of}
use Rattle.snep_core.proofs.sessions.Jobs.{heard_lets, serves_own}
use Rattle.snep_core.proofs.jobs.Submits.{ready_serves}

-- each job stands where it stood, serves each aim that it served, and is over where it was
abbrev pub Follow : List OnSap → List OnSap → Type 0
Follow [] [] = Unit {0}
Follow (x ∷ xs) (y ∷ ys) = (y.sap ≡ x.sap) × ((aim : Aim) → Serves aim x.job → Serves aim y.job) × ((e : Ending) → x.job ≡ Over e → y.job ≡ Over e) × Follow xs ys
Follow _ _ = ⊥

follow_on : (xs ys zs : List OnSap) → Follow xs ys → Follow ys zs → Follow xs zs
follow_on [] [] [] f g = tt
follow_on [] [] (z ∷ zs) f g = absurd g
follow_on [] (y ∷ ys) zs f g = absurd f
follow_on (x ∷ xs) [] zs f g = absurd f
follow_on (x ∷ xs) (y ∷ ys) [] f g = absurd g
follow_on (x ∷ xs) (y ∷ ys) (z ∷ zs) f g = (g.0 ∙ f.0, λ aim s. g.1 aim (f.1 aim s), λ e o. g.2 e (f.2 e o), follow_on xs ys zs f.3 g.3)

ready_follow : (xs : List OnSap) (l : EndState) → Follow xs (all_readied xs l).jobs
ready_follow [] l = tt
ready_follow (x ∷ xs) l = (refl, λ aim s. ready_serves aim l x.sap x.job s, λ e o. ap (λ j. (readied l x.sap j).job) o, ready_follow xs (readied l x.sap x.job).llc)

-- a job that is over hears nothing
over_heard : (waiting : Bool) (l : EndState) (sap : ℕ) (new : Job) (e : Ending) (units : List (List ℕ)) → heard_so (emptied l sap) sap (told_in waiting (Over e) units) ≡ Some new
    → new ≡ Over e
over_heard waiting l sap new e [] h = cc
over_heard true l sap new e (u ∷ us) h = absurd cc
over_heard false l sap new e (u ∷ us) h = absurd cc

heard_over : (waiting : Bool) (l : EndState) (sap : ℕ) (job new : Job) (e : Ending) → job ≡ Over e → heard waiting l sap job ≡ Some new → new ≡ Over e
heard_over waiting l sap job new e o h =
    over_heard waiting l sap new e (units_of (own_from sap l.own)) (sym (ap (heard waiting l sap) o) ∙ h)

hear_follow : (old l : EndState) (xs ys : List OnSap) → all_well (all_heard old l xs) ≡ Some ys → Follow xs ys
hear_follow old l [] ys e = let k : [] ≡ ys = cc in subst (Follow []) k tt
hear_follow old l (x ∷ xs) ys e =
    go (heard waiting l x.sap x.job) refl (all_well (all_heard old l xs)) (λ zs k. hear_follow old l xs zs k) refl e
  where
    waiting : Bool
    waiting = has_waiting_of (own_from x.sap old.own)

    go : (o : Option Job) → heard waiting l x.sap x.job ≡ o → (q : Option (List OnSap))
        → ((zs : List OnSap) → all_well (all_heard old l xs) ≡ Some zs → Follow xs zs) → all_well (all_heard old l xs) ≡ q
        → heard_with x.sap o q ≡ Some ys → Follow (x ∷ xs) ys
    go None i q more j k = absurd cc
    go (Some job) i None more j k = absurd cc
    go (Some job) i (Some zs) more j k =
        let same : record { sap = x.sap; job = job } ∷ zs ≡ ys = cc in
        subst (Follow (x ∷ xs)) same (refl, λ aim s. (heard_lets aim waiting l x.sap x.job job i).serves s, λ e o. heard_over waiting l x.sap x.job job e o i, more zs j)

-- A step of a call that began with these jobs.
abbrev StepsFrom : List OnSap → Step → Type 0
StepsFrom xs (Goes w) = Follow xs w.jobs
StepsFrom xs (Ends jobs l) = Follow xs jobs × (all_over jobs ≡ true)
StepsFrom xs (GivesUp g) = Unit {0}

settled_from : (xs now : List OnSap) (l : EndState) (idle : ℕ) → Follow xs now → StepsFrom xs (settled l now idle)
settled_from xs now l idle f =
    either {X = Step} (StepsFrom xs) (all_over now) (Ends now l) (goes_on l now idle) (λ e. (f, e))
    (λ e. either {X = Step} (StepsFrom xs) (nat_lt idle most_idle) (Goes (record { llc = l; jobs = now; idle = idle })) (given_up l now (as_they_came now))
    (λ i. f) (λ i. tt))

took_from : (xs ys : List OnSap) (old l : EndState) (idle : ℕ) → Follow xs ys → StepsFrom xs (took old l ys idle)
took_from xs ys old l idle f = go (all_well (all_heard old l ys)) refl
  where
    n : ℕ
    n = idle_after (gave_any old l ys) idle

    go : (o : Option (List OnSap)) → all_well (all_heard old l ys) ≡ o → StepsFrom xs (call_behind l ys (all_heard old l ys) n o)
    go None e = tt
    go (Some now) e = settled_from xs now (all_emptied ys l) n (follow_on xs ys now f (hear_follow old l ys now e))

told_from : (xs : List OnSap) (ns : List ℕ) (did : List FarStep) (from to : Step) → StepsFrom xs from → ComesTo ns from did to → StepsFrom xs to
told_from xs ns [] from to h t = subst (StepsFrom xs) (sym t) h
told_from xs ns (Stepped out reply ∷ did) (Goes w) to h (q, more) =
    told_from xs (later_numbers ns) did (replied (first_number ns) w reply) to
    (took_from xs (all_readied w.jobs w.llc).jobs (after_giving silent (first_number ns) (ready w).llc)
    (taken_from silent (after_giving silent (first_number ns) (ready w).llc) reply) w.idle
    (follow_on xs w.jobs (all_readied w.jobs w.llc).jobs h (ready_follow w.jobs w.llc))) more
told_from xs ns (Stopped out ∷ did) (Goes w) to h t = absurd t
told_from xs ns (x ∷ did) (Ends jobs l) to h t = absurd t
told_from xs ns (x ∷ did) (GivesUp g) to h t = absurd t

pub follow_saps : (xs ys : List OnSap) → Follow xs ys → saps ys ≡ saps xs
follow_saps [] [] f = refl
follow_saps [] (y ∷ ys) f = absurd f
follow_saps (x ∷ xs) [] f = absurd f
follow_saps (x ∷ xs) (y ∷ ys) f = ap (λ s. s ∷ saps ys) f.0 ∙ ap (λ ss. x.sap ∷ ss) (follow_saps xs ys f.3)

-- Where a call goes on behind a reply, its jobs are on the same connections.
pub replied_saps : (n : ℕ) (w next : Working) (reply : List ℕ) → replied n w reply ≡ Goes next → saps next.jobs ≡ saps w.jobs
replied_saps n w next reply e =
    follow_saps w.jobs next.jobs (subst (StepsFrom w.jobs) e
    (took_from w.jobs (all_readied w.jobs w.llc).jobs (after_giving silent n (ready w).llc)
    (taken_from silent (after_giving silent n (ready w).llc) reply) w.idle (ready_follow w.jobs w.llc)))

-- And jobs that were over are so, also where it ends.
pub replied_follow : (n : ℕ) (w next : Working) (reply : List ℕ) → replied n w reply ≡ Goes next → Follow w.jobs next.jobs
replied_follow n w next reply e =
    subst (StepsFrom w.jobs) e
    (took_from w.jobs (all_readied w.jobs w.llc).jobs (after_giving silent n (ready w).llc)
    (taken_from silent (after_giving silent n (ready w).llc) reply) w.idle (ready_follow w.jobs w.llc))

pub ended_follow : (n : ℕ) (w : Working) (jobs : List OnSap) (l : EndState) (reply : List ℕ) → replied n w reply ≡ Ends jobs l → Follow w.jobs jobs
ended_follow n w jobs l reply e =
    (subst (StepsFrom w.jobs) e
    (took_from w.jobs (all_readied w.jobs w.llc).jobs (after_giving silent n (ready w).llc)
    (taken_from silent (after_giving silent n (ready w).llc) reply) w.idle (ready_follow w.jobs w.llc))).0

follow_self : (xs : List OnSap) → Follow xs xs
follow_self [] = tt
follow_self (x ∷ xs) = (refl, λ aim s. s, λ e o. o, follow_self xs)

-- the jobs that a call ends with
pub told_follow : (w : Working) (ns : List ℕ) (did : List FarStep) (jobs : List OnSap) (new : EndState) → ComesTo ns (Goes w) did (Ends jobs new)
    → Follow w.jobs jobs × (all_over jobs ≡ true)
told_follow w ns did jobs new t = told_from w.jobs ns did (Goes w) (Ends jobs new) (follow_self w.jobs) t

-- A call of one job that is over: that job came to an ending of its aim.
pub record OnlyEnding (sap : ℕ) (job : Job) (jobs : List OnSap) : Type 0 where
  pub ending : Ending
  pub is : jobs ≡ one_on sap (Over ending)
  pub of_aim : IsOf (aim_of job) ending

only_over : (sap : ℕ) (job now : Job) → (is_over now && true) ≡ true → Serves (aim_of job) now → OnlyEnding sap job (one_on sap now)
only_over sap job (Over e) o s = record { ending = e; is = refl; of_aim = s }
only_over sap job (Begins most bytes) o s = absurd cc
only_over sap job (Waits most rest) o s = absurd cc
only_over sap job (Sends most rest) o s = absurd cc
only_over sap job (Asks size have) o s = absurd cc
only_over sap job (Collects size have) o s = absurd cc
only_over sap job (Looks tid) o s = absurd cc
only_over sap job Closes o s = absurd cc

ends_only : (sap : ℕ) (job : Job) (jobs : List OnSap) → Follow (one_on sap job) jobs → all_over jobs ≡ true → OnlyEnding sap job jobs
ends_only sap job [] f o = absurd f
ends_only sap job (y ∷ []) f o =
    subst (λ s. OnlyEnding sap job (one_on s y.job)) (sym f.0) (only_over sap job y.job o (f.1 (aim_of job) (serves_own job)))
ends_only sap job (y ∷ z ∷ zs) f o = absurd f.3

-- A call of one job begins under way.
pub one_under_way : (sap : ℕ) (job : Job) (l : EndState) → acked_of (own_of sap l) < count_end → IsUnderWay (record { llc = l; jobs = one_on sap job; idle = 0 })
unfolding IsDistinct
one_under_way sap job l c = record { apart = (tt, tt); counted = (c, tt); idle = omega arith }

pub told_only : (sap : ℕ) (job : Job) (l : EndState) (idle : ℕ) (ns : List ℕ) (did : List FarStep) (jobs : List OnSap) (new : EndState)
    → ComesTo ns (Goes (record { llc = l; jobs = one_on sap job; idle = idle })) did (Ends jobs new) → OnlyEnding sap job jobs
told_only sap job l idle ns did jobs new t =
    let h = told_from (one_on sap job) ns did (Goes (record { llc = l; jobs = one_on sap job; idle = idle })) (Ends jobs new) (follow_self (one_on sap job)) t in
    ends_only sap job jobs h.0 h.1
