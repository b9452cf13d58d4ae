-- The puts of messages that wait in slots begin one after the other.
use Rattle.std.proofs.Common.{◌≡◌, ◌<◌, ◌≤◌, ℕ, ◌+◌, ◌==◌, false, List, [], ◌∷◌, ◌++◌, refl, sym, ap, subst, arith, append-nil, append_assoc}
use Rattle.std.proofs.lemmas.Bool.Decides.{nat_tests}
use Rattle.std.specs.List.{AllByRecursion}
use Rattle.llcp_conn.specs.Conn.{count_end}
use Rattle.llcp_link.specs.Asking.{acked_of}
use Rattle.snep_core.specs.RepliesLeft.{IsBelowCountEnd, task_saps}
use Rattle.snep_core.specs.Slots.{NoMessage, Rejected, Slot, Staged, Success, put_with, puts_from}
use Rattle.snep_core.specs.Talk.{AllReady, EndState, OnSap, Puts, all_opening, opening, own_of}
use Rattle.snep_core.proofs.accord.AllJobs.{all_so, behind}
use Rattle.snep_core.proofs.jobs.CallsEnd.{one_opens}

abbrev pub opened_slot : ℕ → Slot → EndState → AllReady
opened_slot a x l = all_opening (put_with a x []) l

-- one slot, and then the others
pub opened_next : (done : List OnSap) (a : ℕ) (x : Slot) (xs : List Slot) (l : EndState) → behind done (all_opening (puts_from a (x ∷ xs)) l)
    ≡ behind (done ++ (opened_slot a x l).jobs) (all_opening (puts_from (a + 1) xs) (opened_slot a x l).llc)
opened_next done a (Staged m) xs l =
    let r = opening l a (Puts m) in
    ap (all_so (all_opening (puts_from (a + 1) xs) r.llc).llc)
    (sym (append_assoc done (record { sap = a; job = r.job } ∷ []) (all_opening (puts_from (a + 1) xs) r.llc).jobs))
opened_next done a NoMessage xs l = ap (λ ds. behind ds (all_opening (puts_from (a + 1) xs) l)) (sym (append-nil done))
opened_next done a Success xs l = ap (λ ds. behind ds (all_opening (puts_from (a + 1) xs) l)) (sym (append-nil done))
opened_next done a Rejected xs l = ap (λ ds. behind ds (all_opening (puts_from (a + 1) xs) l)) (sym (append-nil done))

is_above : (m n : ℕ) → m < n → (m == n) ≡ false
is_above m n k = grind (arith, nat_tests, k)

-- the connections of SAPs above stay
pub opened_elsewhere : (a : ℕ) (x : Slot) (l : EndState) (t : ℕ) → a + 1 ≤ t → own_of t (opened_slot a x l).llc ≡ own_of t l
opened_elsewhere a (Staged m) l t h = (one_opens l a (Puts m)).others t (is_above a t (let k : a < t = omega (arith, h) in k))
opened_elsewhere a NoMessage l t h = refl
opened_elsewhere a Success l t h = refl
opened_elsewhere a Rejected l t h = refl

-- the acknowledgements on them are counted
abbrev pub AreCounted : EndState → ℕ → List Slot → Type 0
AreCounted l a xs = AllByRecursion (IsBelowCountEnd l) (task_saps (puts_from a xs))

pub counted_next : (l now : EndState) (a : ℕ) (x : Slot) (xs : List Slot) → own_of a now ≡ own_of a l → AllByRecursion (IsBelowCountEnd now) (task_saps (put_with a x []))
    → AreCounted l (a + 1) xs → AreCounted l a (x ∷ xs)
counted_next l now a (Staged m) xs e c more = (subst (λ o. acked_of o < count_end) e c.0, more)
counted_next l now a NoMessage xs e c more = more
counted_next l now a Success xs e c more = more
counted_next l now a Rejected xs e c more = more
