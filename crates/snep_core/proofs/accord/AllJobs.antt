-- All jobs of a call, one after the other: what they submit, what they hear, and what is forgotten with them.
use Rattle.std.proofs.Common.{◌≡◌, ℕ, ◌==◌, ◌||◌, ◌&&◌, eqb, not, Bool, true, false, List, [], ◌∷◌, ◌++◌, Option, Some, None, refl, sym, ap, subst, ◌∙◌, append_assoc, if◌then◌else◌}
use Rattle.std.proofs.lemmas.Bool.{eqb-true}
use Rattle.std.specs.List.{IsDistinct}
use Rattle.llcp_link.specs.State.{OwnState}
use Rattle.llcp_link.specs.Asking.{forgotten, found_in, has_waiting_of, standing_of, without_own}
use Rattle.llcp_link.proofs.OwnPlaces.{here_of}
use Rattle.llcp_link.proofs.Submitted.{own_with}
use Rattle.snep_core.specs.declared.job.Awaiting.{Awaiting}
use Rattle.snep_core.specs.Jobs.{Job, Begins, Waits, Sends, Asks, Collects, Looks, Closes, Over, Done, has_byte, told_in}
use Rattle.snep_core.specs.Listening.{HearsAll, all_awaiting, all_come, awaited_saps, empties, forgets, gave_here, gave_one}
use Rattle.snep_core.specs.Talk.{AllReady, EndState, OnSap, all_emptied, all_forgotten, all_heard, all_readied, all_well, emptied, emptied_by, finished, found_so, gave_any, gave_between, heard}
use Rattle.snep_core.specs.Talk.{heard_so, heard_with, is_lost, is_there, is_waiting, needs, own_of, readied, saps, stands_of, units_of}
use Rattle.snep_core.proofs.jobs.CallsEnd.{NotAmong}
use Rattle.snep_core.proofs.connections.Owned.{forgotten_emptied}
use Rattle.snep_core.proofs.jobs.Readied.{elsewhere}

-- What all jobs submit: those that are done stand before the others.
abbrev pub all_so : EndState → List OnSap → AllReady
all_so l jobs = record { llc = l; jobs = jobs }

abbrev pub behind : List OnSap → AllReady → AllReady
behind done r = all_so r.llc (done ++ r.jobs)

pub ready_saps : (xs : List OnSap) (l : EndState) → saps (all_readied xs l).jobs ≡ saps xs
ready_saps [] l = refl
ready_saps (x ∷ xs) l = ap (λ ss. x.sap ∷ ss) (ready_saps xs (readied l x.sap x.job).llc)

-- the jobs as their payload was given
pub awaited_so : (old : EndState) (xs : List OnSap) → awaited_saps (all_awaiting old xs) ≡ saps xs
awaited_so old [] = refl
awaited_so old (x ∷ xs) = ap (λ ss. x.sap ∷ ss) (awaited_so old xs)

pub come_so : (old l : EndState) (xs : List OnSap) → all_come l (all_awaiting old xs) ≡ all_well (all_heard old l xs)
come_so old l [] = refl
come_so old l (x ∷ xs) = ap (heard_with x.sap (heard (has_waiting_of (own_of x.sap old)) l x.sap x.job)) (come_so old l xs)

pub come_saps : (l : EndState) (all : List Awaiting) (ys : List OnSap) → all_come l all ≡ Some ys → saps ys ≡ awaited_saps all
come_saps l [] ys e = let k : [] ≡ ys = cc in subst (λ zs. saps zs ≡ []) k refl
come_saps l (x ∷ xs) ys e = go (heard x.waiting l x.sap x.job) (all_come l xs) (λ zs k. come_saps l xs zs k) refl e
  where
    go : (o : Option Job) (q : Option (List OnSap)) → ((zs : List OnSap) → all_come l xs ≡ Some zs → saps zs ≡ awaited_saps xs) → all_come l xs ≡ q
        → heard_with x.sap o q ≡ Some ys → saps ys ≡ x.sap ∷ awaited_saps xs
    go None q more i k = absurd cc
    go (Some job) None more i k = absurd cc
    go (Some job) (Some zs) more i k =
        let same : record { sap = x.sap; job = job } ∷ zs ≡ ys = cc in
        subst (λ js. saps js ≡ x.sap ∷ awaited_saps xs) same (ap (λ ss. x.sap ∷ ss) (more zs i))

pub gave_so : (old l : EndState) (xs : List OnSap) → gave_one l (all_awaiting old xs) ≡ gave_any old l xs
gave_so old l [] = refl
gave_so old l (x ∷ xs) =
    ap (λ b. (gave_between (stands_of (own_of x.sap old)) (stands_of (own_of x.sap l)) || has_byte (units_of (own_of x.sap l))) || b) (gave_so old l xs)

pub empties_so : (old l : EndState) (xs : List OnSap) → empties (all_awaiting old xs) l ≡ all_emptied xs l
empties_so old l [] = refl
empties_so old l (x ∷ xs) = empties_so old (emptied l x.sap) xs

pub forgets_so : (xs : List OnSap) (l : EndState) → forgets (saps xs) l ≡ all_forgotten xs l
forgets_so [] l = refl
forgets_so (x ∷ xs) l = forgets_so xs (forgotten l x.sap)

-- Connections are forgotten in any order.
without_apart : (a b : ℕ) (os : List OwnState) → without_own a (without_own b os) ≡ without_own b (without_own a os)
without_apart a b [] = refl
without_apart a b (x ∷ os) = go (x.here == a) refl (x.here == b) refl (without_apart a b os)
  where
    go : (c : Bool) → (x.here == a) ≡ c → (d : Bool) → (x.here == b) ≡ d → without_own a (without_own b os) ≡ without_own b (without_own a os)
        → without_own a (without_own b (x ∷ os)) ≡ without_own b (without_own a (x ∷ os))
    go true i true j m =
        ap (λ e. without_own a (if e then os else x ∷ without_own b os)) j
        ∙ ap (λ k. without_own k os) (sym (eqb-true x.here a i) ∙ eqb-true x.here b j)
        ∙ sym (ap (λ e. without_own b (if e then os else x ∷ without_own a os)) i)
    go true i false j m =
        ap (λ e. without_own a (if e then os else x ∷ without_own b os)) j
        ∙ ap (λ e. if e then without_own b os else x ∷ without_own a (without_own b os)) i
        ∙ sym (ap (λ e. without_own b (if e then os else x ∷ without_own a os)) i)
    go false i true j m =
        ap (λ e. without_own a (if e then os else x ∷ without_own b os)) j
        ∙ sym (ap (λ e. without_own b (if e then os else x ∷ without_own a os)) i
        ∙ ap (λ e. if e then without_own a os else x ∷ without_own b (without_own a os)) j)
    go false i false j m =
        ap (λ e. without_own a (if e then os else x ∷ without_own b os)) j
        ∙ ap (λ e. if e then without_own b os else x ∷ without_own a (without_own b os)) i
        ∙ ap (λ z. x ∷ z) m
        ∙ sym (ap (λ e. without_own b (if e then os else x ∷ without_own a os)) i
        ∙ ap (λ e. if e then without_own a os else x ∷ without_own b (without_own a os)) j)

forgets_front : (front : List ℕ) (s : ℕ) (after : List ℕ) (l : EndState) → forgets (front ++ s ∷ after) l ≡ forgets (front ++ after) (forgotten l s)
forgets_front [] s after l = refl
forgets_front (t ∷ ts) s after l =
    forgets_front ts s after (forgotten l t)
    ∙ ap (forgets (ts ++ after)) (ap (λ (os : List OwnState). record l { own = os }) (without_apart s t l.own))

pub forgets_same : (ss front : List ℕ) (s : ℕ) (after : List ℕ) (new l : EndState) → ss ≡ front ++ s ∷ after → forgotten new s ≡ forgotten l s
    → forgets ss new ≡ forgets ss l
forgets_same ss front s after new l e f =
    subst (λ z. forgets z new ≡ forgets z l) (sym e)
    (forgets_front front s after new ∙ ap (forgets (front ++ after)) f ∙ sym (forgets_front front s after l))

-- What is heard on one connection leaves what the jobs on the others hear.
abbrev emptied_own : Option OwnState → Option OwnState
emptied_own None = None
emptied_own (Some o) = Some (record o { units = [] })

own_emptied : (s : ℕ) (l : EndState) (q : Option OwnState) → own_of s l ≡ q → own_of s (emptied_by l q) ≡ emptied_own q
own_emptied s l None e = e
own_emptied s l (Some o) e = own_with s l.own (record o { units = [] }) o e (here_of s l.own o e)

pub emptied_elsewhere : (s t : ℕ) (l : EndState) → (t == s) ≡ false → own_of s (emptied l t) ≡ own_of s l
emptied_elsewhere s t l n = go (own_of t l) refl
  where
    go : (q : Option OwnState) → own_of t l ≡ q → own_of s (emptied_by l q) ≡ own_of s l
    go None e = refl
    go (Some o) e = elsewhere s (record o { units = [] }) l.own (ap (λ h. h == s) (here_of t l.own o e) ∙ n)

lookups_stay : (l : EndState) (q : Option OwnState) → (emptied_by l q).lookups ≡ l.lookups
lookups_stay l None = refl
lookups_stay l (Some o) = refl

finished_same : (a b : EndState) (s : ℕ) (job : Job) → own_of s a ≡ own_of s b → a.lookups ≡ b.lookups → finished a s job ≡ finished b s job
finished_same a b s (Looks tid) e k = ap (λ z. found_so tid (found_in tid z)) k
finished_same a b s Closes e k = ap (λ q. if is_waiting (standing_of q) then Closes else Over Done) e
finished_same a b s (Begins most bytes) e k = refl
finished_same a b s (Waits most rest) e k = refl
finished_same a b s (Sends most rest) e k = refl
finished_same a b s (Asks size have) e k = refl
finished_same a b s (Collects size have) e k = refl
finished_same a b s (Over o) e k = refl

heard_same : (a b : EndState) (s : ℕ) (waiting : Bool) (job : Job) → own_of s a ≡ own_of s b → a.lookups ≡ b.lookups → heard waiting a s job ≡ heard waiting b s job
heard_same a b s waiting job e k =
    ap (λ q. heard_so (emptied a s) s (told_in waiting job (units_of q))) e ∙ go (told_in waiting job (units_of (own_of s b)))
  where
    there : own_of s (emptied a s) ≡ own_of s (emptied b s)
    there = own_emptied s a (own_of s a) refl ∙ ap emptied_own e ∙ sym (own_emptied s b (own_of s b) refl)

    looks : (emptied a s).lookups ≡ (emptied b s).lookups
    looks = lookups_stay a (own_of s a) ∙ k ∙ sym (lookups_stay b (own_of s b))

    go : (o : Option Job) → heard_so (emptied a s) s o ≡ heard_so (emptied b s) s o
    go None = refl
    go (Some j) =
        ap (λ q. if needs j && not (is_there (standing_of q)) then None else Some (finished (emptied a s) s j)) there
        ∙ ap (λ z. if is_lost (emptied b s) s j then None else Some z) (finished_same (emptied a s) (emptied b s) s j there looks)

hear_on : (t : ℕ) (l : EndState) (xs : List Awaiting) → NotAmong t (awaited_saps xs) → all_come (emptied l t) xs ≡ all_come l xs
hear_on t l [] n = refl
hear_on t l (x ∷ xs) n =
    ap (λ o. heard_with x.sap o (all_come (emptied l t) xs))
    (heard_same (emptied l t) l x.sap x.waiting x.job (emptied_elsewhere x.sap t l n.0) (lookups_stay l (own_of t l)))
    ∙ ap (heard_with x.sap (heard x.waiting l x.sap x.job)) (hear_on t l xs n.1)

gave_on : (t : ℕ) (l : EndState) (xs : List Awaiting) → NotAmong t (awaited_saps xs) → gave_one (emptied l t) xs ≡ gave_one l xs
gave_on t l [] n = refl
gave_on t l (x ∷ xs) n =
    ap (λ q. (gave_between x.before (stands_of q) || has_byte (units_of q)) || gave_one (emptied l t) xs) (emptied_elsewhere x.sap t l n.0)
    ∙ ap (λ b. gave_here l x || b) (gave_on t l xs n.1)

abbrev pub put_behind : List OnSap → Option (List OnSap) → Option (List OnSap)
put_behind done None = None
put_behind done (Some more) = Some (done ++ more)

-- These jobs heard what came, and the others are left.
pub record Hearing (old : EndState) (all : List Awaiting) (l : EndState) (done : List OnSap) (gave : Bool) (left : List Awaiting) : Type 0 where
  pub come : all_come old all ≡ put_behind done (all_come l left)
  pub gave_is : gave_one old all ≡ (gave || gave_one l left)
  pub empty : empties left l ≡ empties all old
  pub forgot : forgets (awaited_saps all) l ≡ forgets (awaited_saps all) old
  pub apart : IsDistinct eqb (awaited_saps left)
  pub front : List ℕ
  pub split : awaited_saps all ≡ front ++ awaited_saps left

behind_more : (done : List OnSap) (sap : ℕ) (job : Job) (o : Option (List OnSap))
    → put_behind done (heard_with sap (Some job) o) ≡ put_behind (done ++ record { sap = sap; job = job } ∷ []) o
behind_more done sap job None = refl
behind_more done sap job (Some more) = ap Some (sym (append_assoc done (record { sap = sap; job = job } ∷ []) more))

or_four : (a b c d : Bool) → (a || ((b || c) || d)) ≡ (((a || b) || c) || d)
or_four true b c d = refl
or_four false b c d = refl

module _ (old : EndState) (all : List Awaiting) (l : EndState) (done : List OnSap) (gave : Bool) where
  hearing_one : (x : Awaiting) (left : List Awaiting) (job : Job) → Hearing old all l done gave (x ∷ left) → heard x.waiting l x.sap x.job ≡ Some job
      → Hearing old all (emptied l x.sap) (done ++ record { sap = x.sap; job = job } ∷ [])
      ((gave || gave_between x.before (stands_of (own_of x.sap l))) || has_byte (units_of (own_of x.sap l))) left
  unfolding IsDistinct
  hearing_one x left job h e = record {
    come =
        h.come ∙ ap (λ o. put_behind done (heard_with x.sap o (all_come l left))) e
        ∙ ap (λ o. put_behind done (heard_with x.sap (Some job) o)) (sym (hear_on x.sap l left h.apart.0))
        ∙ behind_more done x.sap job (all_come (emptied l x.sap) left);
    gave_is =
        h.gave_is
        ∙ or_four gave (gave_between x.before (stands_of (own_of x.sap l))) (has_byte (units_of (own_of x.sap l))) (gave_one l left)
        ∙ ap (λ b. ((gave || gave_between x.before (stands_of (own_of x.sap l))) || has_byte (units_of (own_of x.sap l))) || b)
        (sym (gave_on x.sap l left h.apart.0));
    empty = h.empty;
    forgot = forgets_same (awaited_saps all) h.front x.sap (awaited_saps left) (emptied l x.sap) l h.split (forgotten_emptied x.sap l) ∙ h.forgot;
    apart = h.apart.1;
    front = h.front ++ x.sap ∷ [];
    split = h.split ∙ sym (append_assoc h.front (x.sap ∷ []) (awaited_saps left));
  }

  pub hearing_on : (x : Awaiting) (left : List Awaiting) (job : Job) (new : EndState) (given some : Bool) → Hearing old all l done gave (x ∷ left)
      → heard x.waiting l x.sap x.job ≡ Some job → given ≡ gave_between x.before (stands_of (own_of x.sap l))
      → some ≡ has_byte (units_of (own_of x.sap l)) → new ≡ emptied l x.sap
      → Hearing old all new (done ++ record { sap = x.sap; job = job } ∷ []) ((gave || given) || some) left
  hearing_on x left job new given some h e g s k =
      subst (λ z. Hearing old all z (done ++ record { sap = x.sap; job = job } ∷ []) ((gave || given) || some) left) (sym k)
      (subst (λ b. Hearing old all (emptied l x.sap) (done ++ record { sap = x.sap; job = job } ∷ []) ((gave || b) || some) left) (sym g)
      (subst (λ b. Hearing old all (emptied l x.sap) (done ++ record { sap = x.sap; job = job } ∷ [])
      ((gave || gave_between x.before (stands_of (own_of x.sap l))) || b) left) (sym s) (hearing_one x left job h e)))

  -- the far end is at fault
  pub hearing_fault : (x : Awaiting) (left : List Awaiting) (new : EndState) → Hearing old all l done gave (x ∷ left) → heard x.waiting l x.sap x.job ≡ None
      → forgotten new x.sap ≡ forgotten l x.sap → HearsAll old all None new
  hearing_fault x left new h e f = (
    h.come ∙ ap (λ o. put_behind done (heard_with x.sap o (all_come l left))) e,
    forgets_same (awaited_saps all) h.front x.sap (awaited_saps left) new l h.split f ∙ h.forgot,
  )
