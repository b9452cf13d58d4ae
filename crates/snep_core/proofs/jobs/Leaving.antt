-- The ends of connections begin one after the other.
use Rattle.std.proofs.Common.{◌≡◌, ◌<◌, ℕ, eqb, ◌||◌, if◌then◌else◌, Bool, true, false, List, [], ◌∷◌, ◌++◌, refl, sym, ap, subst, ◌∙◌, append_assoc}
use Rattle.std.specs.List.{AllByRecursion, IsDistinct}
use Rattle.llcp_conn.specs.Conn.{count_end}
use Rattle.llcp_link.specs.Asking.{acked_of, is_open_by}
use Rattle.snep_core.specs.Jobs.{Done, Job, Over}
use Rattle.snep_core.specs.RepliesLeft.{IsBelowCountEnd, task_saps}
use Rattle.snep_core.specs.Talk.{AllReady, EndState, Ends, Leaves, OnSap, Ready, all_done, all_opening, all_over, beginning, begins_all, begun, leave_from, leaving, opening, own_of, ready_so}
use Rattle.snep_core.specs.Talk.{some_open, with_job}
use Rattle.snep_core.proofs.accord.AllJobs.{all_so, behind}
use Rattle.snep_core.proofs.jobs.CallsEnd.{NotAmong, one_opens}

pub leave_saps : (ss : List ℕ) → task_saps (leave_from ss) ≡ ss
leave_saps [] = refl
leave_saps (s ∷ ss) = ap (λ z. s ∷ z) (leave_saps ss)

-- where none is open, nothing is to be done
pub leaves_none : (ss : List ℕ) (l : EndState) → some_open l ss ≡ false → all_opening (leave_from ss) l ≡ record { llc = l; jobs = all_done ss }
leaves_none [] l h = refl
leaves_none (s ∷ ss) l h = go (is_open_by (own_of s l)) refl h (leaves_none ss l)
  where
    go : (b : Bool) → is_open_by (own_of s l) ≡ b → (b || some_open l ss) ≡ false
        → (some_open l ss ≡ false → all_opening (leave_from ss) l ≡ record { llc = l; jobs = all_done ss })
        → all_opening (leave_from (s ∷ ss)) l ≡ record { llc = l; jobs = all_done (s ∷ ss) }
    go true e k more = absurd cc
    go false e k more =
        ap (λ b. with_job s (leaving l s b) (all_opening (leave_from ss))) e
        ∙ ap (λ (r : AllReady). with_job s (ready_so l (Over Done)) (λ x. r)) (more k)

pub closes_none : (ss : List ℕ) (l : EndState) → some_open l ss ≡ false → begins_all l (leave_from ss) ≡ Ends (all_done ss) l
closes_none ss l h = ap beginning (leaves_none ss l h) ∙ ap (λ b. if b then Ends (all_done ss) l else begun l (all_done ss)) (done_over ss)
  where
    done_over : (ts : List ℕ) → all_over (all_done ts) ≡ true
    done_over [] = refl
    done_over (t ∷ ts) = done_over ts

-- where one is, not all is done
leaves_some : (ss : List ℕ) (l : EndState) → some_open l ss ≡ true → all_over (all_opening (leave_from ss) l).jobs ≡ false
leaves_some [] l h = absurd cc
leaves_some (s ∷ ss) l h = go (is_open_by (own_of s l)) refl h (leaves_some ss l)
  where
    go : (b : Bool) → is_open_by (own_of s l) ≡ b → (b || some_open l ss) ≡ true → (some_open l ss ≡ true → all_over (all_opening (leave_from ss) l).jobs ≡ false)
        → all_over (all_opening (leave_from (s ∷ ss)) l).jobs ≡ false
    go true e k more = ap (λ b. all_over (with_job s (leaving l s b) (all_opening (leave_from ss))).jobs) e
    go false e k more = ap (λ b. all_over (with_job s (leaving l s b) (all_opening (leave_from ss))).jobs) e ∙ more k

pub closes_some : (ss : List ℕ) (l : EndState) → some_open l ss ≡ true
    → begins_all l (leave_from ss) ≡ begun (all_opening (leave_from ss) l).llc (all_opening (leave_from ss) l).jobs
closes_some ss l h =
    let r = all_opening (leave_from ss) l in
    ap (λ b. if b then Ends r.jobs r.llc else begun r.llc r.jobs) (leaves_some ss l h)

-- one, and then the others
pub leaves_next : (done : List OnSap) (s : ℕ) (ss : List ℕ) (l new : EndState) (job : Job) → opening l s Leaves ≡ ready_so new job
    → behind done (all_opening (leave_from (s ∷ ss)) l) ≡ behind (done ++ record { sap = s; job = job } ∷ []) (all_opening (leave_from ss) new)
leaves_next done s ss l new job e =
    ap (λ (r : Ready). behind done (with_job s r (all_opening (leave_from ss)))) e
    ∙ ap (all_so (all_opening (leave_from ss) new).llc) (sym (append_assoc done (record { sap = s; job = job } ∷ []) (all_opening (leave_from ss) new).jobs))

-- the connections from these SAPs are as they were
abbrev pub AreSame : EndState → EndState → List ℕ → Type 0
AreSame old l ss = AllByRecursion (λ t. own_of t l ≡ own_of t old) ss

pub same_next : (old l new : EndState) (s : ℕ) (job : Job) (ss : List ℕ) → opening l s Leaves ≡ ready_so new job → NotAmong s ss → AreSame old l ss → AreSame old new ss
same_next old l new s job [] e n h = tt
same_next old l new s job (t ∷ ts) e n h = (
  ap (λ (r : Ready). own_of t r.llc) (sym e) ∙ (one_opens l s Leaves).others t n.0 ∙ h.0,
  same_next old l new s job ts e n.1 h.1,
)

pub same_first : (l : EndState) (ss : List ℕ) → AreSame l l ss
same_first l [] = tt
same_first l (s ∷ ss) = (refl, same_first l ss)

pub counted_then : (old l : EndState) (s : ℕ) → own_of s l ≡ own_of s old → IsBelowCountEnd l s → IsBelowCountEnd old s
counted_then old l s e c = subst (λ o. acked_of o < count_end) e c

pub distinct_next : (s : ℕ) (ss : List ℕ) → IsDistinct eqb (s ∷ ss) → NotAmong s ss × IsDistinct eqb ss
unfolding IsDistinct
distinct_next s ss d = d
