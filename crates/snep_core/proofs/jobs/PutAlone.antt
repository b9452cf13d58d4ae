-- A slot whose message is put alone.
use Rattle.std.proofs.Common.{ℕ, zero, suc, List, [], ◌∷◌, get_or, set, Result, Ok, Err}
use Rattle.snep_core.specs.declared.fault.SnepFault.{SnepFault}
use Rattle.snep_core.specs.declared.fault.SnepFault.TheVariants as faults
use Rattle.snep_core.specs.Slots.{AllFit, FitsSlot, Slot, put_left}

left_fits : (ended : Result Unit SnepFault) (s : Slot) → FitsSlot s → FitsSlot (put_left ended s)
left_fits (Ok u) s f = tt
left_fits (Err faults.Reject) s f = tt
left_fits (Err faults.NotFound) s f = tt
left_fits (Err faults.Excess) s f = tt
left_fits (Err faults.NotImplemented) s f = tt
left_fits (Err (faults.LinkEnded c)) s f = f
left_fits (Err faults.Memory) s f = f
left_fits (Err faults.BadPeer) s f = tt
left_fits (Err faults.SlotBusy) s f = f

pub ended_fits : (xs : List Slot) (i : ℕ) (d : Slot) (ended : Result Unit SnepFault) → AllFit xs → AllFit (set xs i (put_left ended (get_or xs i d)))
ended_fits [] i d ended f = tt
ended_fits (x ∷ xs) zero d ended f = (left_fits ended x f.0, f.1)
ended_fits (x ∷ xs) (suc i) d ended f = (f.0, ended_fits xs i d ended f.1)
