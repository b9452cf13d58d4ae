-- What selecting came to by a fault of polling.
use Rattle.std.proofs.Common.{◌≡◌, IfOk, OnErr, Result, Ok, Err, true, sym, subst}
use Rattle.std.specs.Result.{is_err}
use Rattle.nfca_poll.specs.declared.fault.PollFault.{PollFault}
use Rattle.nfca_poll.specs.declared.fault.PollFault.TheVariants as faults
use Rattle.bench_devices.specs.declared.polling.Selection.{Selection}
use Rattle.bench_devices.specs.declared.polling.Selection.TheVariants.{Missed}

-- no tag was selected, and memory was not wanting: what holds of that holds of the selection
pub if_missed : {E : Type 0} (r : Result Selection E) (fault : PollFault) (P : Selection → Type 0) → IfOk r (λ s. (s ≡ Missed fault) × (fault ≡ faults.Memory → ⊥))
    → ((fault ≡ faults.Memory → ⊥) → P (Missed fault)) → IfOk r P
if_missed (Ok s) fault P h m = subst P (sym h.0) (m h.1)
if_missed (Err e) fault P h m = h

pub not_starved : {X : Type 0} (r : Result X PollFault) (q : PollFault) → r ≡ Err q → (q ≡ faults.Memory → ⊥) → r ≡ Err faults.Memory → ⊥
not_starved r q e n m = n (let same : q ≡ faults.Memory = cc in same)

-- what holds however selecting ended
pub if_cut : {S E P : Type 0} (r : Result S E) → P → OnErr r P
if_cut (Ok s) p = tt
if_cut (Err e) p = p

-- what a failed reset says
pub reset_failed : {S E : Type 0} (r : Result S E) (P Q : Type 0) → OnErr r (P × Q) → is_err r ≡ true → P
reset_failed (Ok s) P Q h e = absurd cc
reset_failed (Err x) P Q h e = h.0
