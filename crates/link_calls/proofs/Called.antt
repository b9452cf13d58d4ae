-- What a call is said to be, by what its client says of it.
use Rattle.std.proofs.Common.{◌≡◌, ℕ, List, Ok, Err, refl, subst, inl, inr}
use Rattle.nfc_base.specs.declared.carrier.EndCause.{EndCause}
use Rattle.air_core.specs.declared.listener.Listener.{Ghosts}
use Rattle.dep_link.specs.Target.{TargetState}
use Rattle.snep_core.specs.declared.fault.SnepFault.{SnepFault}
use Rattle.snep_core.specs.declared.fault.SnepFault.TheVariants as faults
use Rattle.snep_core.specs.declared.job.Ending.{Ending}
use Rattle.snep_core.specs.declared.job.Ending.TheVariants.{Refused}
use Rattle.snep_core.specs.declared.job.Job.TheVariants.{Over}
use Rattle.snep_core.specs.declared.job.Refusal.{Refusal}
use Rattle.snep_core.specs.declared.job.Refusal.TheVariants as refusals
use Rattle.snep_core.specs.declared.slot.Slot.{Slot}
use Rattle.snep_core.specs.Accord.{Accords, GetFails, PutFails}
use Rattle.snep_core.specs.Calling.{refused_by}
use Rattle.snep_core.specs.Talk.{EndState, Ends, Task, Puts, Gets, begins_from, one_on}
use Rattle.link_calls.specs.Called.{OpenAir, Served, SlotsTold, TaskCalled, came_to}
use Rattle.link_calls.specs.Calls.{CallFails, IsMade, RequestFails}

same_refusal : (v w : Refusal) → refused_by v ≡ refused_by w → w ≡ v
same_refusal refusals.Reject refusals.Reject e = refl
same_refusal refusals.Reject refusals.NotFound e = absurd cc
same_refusal refusals.Reject refusals.Excess e = absurd cc
same_refusal refusals.Reject refusals.NotImplemented e = absurd cc
same_refusal refusals.NotFound refusals.Reject e = absurd cc
same_refusal refusals.NotFound refusals.NotFound e = refl
same_refusal refusals.NotFound refusals.Excess e = absurd cc
same_refusal refusals.NotFound refusals.NotImplemented e = absurd cc
same_refusal refusals.Excess refusals.Reject e = absurd cc
same_refusal refusals.Excess refusals.NotFound e = absurd cc
same_refusal refusals.Excess refusals.Excess e = refl
same_refusal refusals.Excess refusals.NotImplemented e = absurd cc
same_refusal refusals.NotImplemented refusals.Reject e = absurd cc
same_refusal refusals.NotImplemented refusals.NotFound e = absurd cc
same_refusal refusals.NotImplemented refusals.Excess e = absurd cc
same_refusal refusals.NotImplemented refusals.NotImplemented e = refl

-- no refusal is the far end's fault
never_bad : (w : Refusal) → refused_by w ≡ faults.BadPeer → ⊥
never_bad refusals.Reject e = cc
never_bad refusals.NotFound e = cc
never_bad refusals.Excess e = cc
never_bad refusals.NotImplemented e = cc

-- a fault that is no refusal
abbrev IsNone : SnepFault → Type 0
IsNone x = (w : Refusal) → x ≡ refused_by w → ⊥

none_link : (c : EndCause) → IsNone (faults.LinkEnded c)
none_link c refusals.Reject e = cc
none_link c refusals.NotFound e = cc
none_link c refusals.Excess e = cc
none_link c refusals.NotImplemented e = cc

none_memory : IsNone faults.Memory
none_memory refusals.Reject e = cc
none_memory refusals.NotFound e = cc
none_memory refusals.Excess e = cc
none_memory refusals.NotImplemented e = cc

none_bad : IsNone faults.BadPeer
none_bad refusals.Reject e = cc
none_bad refusals.NotFound e = cc
none_bad refusals.Excess e = cc
none_bad refusals.NotImplemented e = cc

none_busy : IsNone faults.SlotBusy
none_busy refusals.Reject e = cc
none_busy refusals.NotFound e = cc
none_busy refusals.Excess e = cc
none_busy refusals.NotImplemented e = cc

module _ {L : Type 0} (k : Ghosts L) (target : L → TargetState) (ns : List ℕ) (client left : EndState) (slots told : List Slot) (old new : OpenAir L) (sap : ℕ) where
  abbrev Made : Task → Ending → Type 0
  Made task ending = IsMade k target ns (begins_from client sap task) old.air old.initiator old.far new.air new.initiator new.far (Ends (one_on sap (Over ending)) left)

  abbrev Fell : Task → SnepFault → Type 0
  Fell task x = RequestFails k target ns (begins_from client sap task) old.air old.initiator old.far new.air new.initiator new.far sap left x

  abbrev Failed : Task → SnepFault → Type 0
  Failed task x = CallFails k target ns (begins_from client sap task) old.air old.initiator old.far new.air new.initiator new.far left x

  -- it was refused so
  made_refused : (task : Task) (w : Refusal) → Fell task (refused_by w) → Made task (Refused w)
  made_refused task w (inl (v, e, m)) = subst (λ x. Made task (Refused x)) (same_refusal w v e) m
  made_refused task w (inr (inl (bad, came, m))) = absurd (never_bad w bad)
  made_refused task refusals.Reject (inr (inr never)) = absurd never
  made_refused task refusals.NotFound (inr (inr never)) = absurd never
  made_refused task refusals.Excess (inr (inr never)) = absurd never
  made_refused task refusals.NotImplemented (inr (inr never)) = absurd never

  not_refused : (task : Task) (x : SnepFault) → IsNone x → Fell task x → Failed task x
  not_refused task x none (inl (w, e, m)) = absurd (none w e)
  not_refused task x none (inr f) = f

  -- a request that failed, of which this holds by its fault
  module _ (task : Task) (Left : SnepFault → Type 0) (refused : (w : Refusal) → Left (refused_by w) → Served sap task old.far.end (Ok (Refused w)) left new.far.end)
      (failed : (x : SnepFault) → Left x → Served sap task old.far.end (Err x) left new.far.end) where
    by_fault : (x : SnepFault) → Fell task x → SlotsTold sap task slots (came_to (λ (e : Ending). e) (Err x)) told → (Accords client old.far.end → Left x)
        → TaskCalled k target ns sap task client slots old (came_to (λ (e : Ending). e) (Err x)) left told new
    by_fault faults.Reject f t s = record { goes = made_refused task refusals.Reject f; tells = t; serves = λ a. refused refusals.Reject (s a) }
    by_fault faults.NotFound f t s = record { goes = made_refused task refusals.NotFound f; tells = t; serves = λ a. refused refusals.NotFound (s a) }
    by_fault faults.Excess f t s = record { goes = made_refused task refusals.Excess f; tells = t; serves = λ a. refused refusals.Excess (s a) }
    by_fault faults.NotImplemented f t s = record { goes = made_refused task refusals.NotImplemented f; tells = t; serves = λ a. refused refusals.NotImplemented (s a) }
    by_fault (faults.LinkEnded c) f t s = record { goes = not_refused task (faults.LinkEnded c) (none_link c) f; tells = t; serves = λ a. failed (faults.LinkEnded c) (s a) }
    by_fault faults.Memory f t s = record { goes = not_refused task faults.Memory none_memory f; tells = t; serves = λ a. failed faults.Memory (s a) }
    by_fault faults.BadPeer f t s = record { goes = not_refused task faults.BadPeer none_bad f; tells = t; serves = λ a. failed faults.BadPeer (s a) }
    by_fault faults.SlotBusy f t s = record { goes = not_refused task faults.SlotBusy none_busy f; tells = t; serves = λ a. failed faults.SlotBusy (s a) }

  pub put_failed : (m : List ℕ) (x : SnepFault) → Fell (Puts m) x → SlotsTold sap (Puts m) slots (came_to (λ (e : Ending). e) (Err x)) told
      → (Accords client old.far.end → PutFails sap m old.far.end x left new.far.end) → TaskCalled k target ns sap (Puts m) client slots old (came_to (λ (e : Ending). e) (Err x)) left told new
  put_failed m = by_fault (Puts m) (λ e. PutFails sap m old.far.end e left new.far.end) (λ w s. s) (λ e s. s)

  pub get_failed : (most : ℕ) (key : List ℕ) (x : SnepFault) → Fell (Gets most key) x → told ≡ slots → (Accords client old.far.end → GetFails sap most key old.far.end x left new.far.end)
      → TaskCalled k target ns sap (Gets most key) client slots old (came_to (λ (e : Ending). e) (Err x)) left told new
  get_failed most key x f same s =
      by_fault (Gets most key) (λ e. GetFails sap most key old.far.end e left new.far.end) (λ w s. s) (λ e s. s) x f (tells x) s
    where
      tells : (y : SnepFault) → SlotsTold sap (Gets most key) slots (came_to (λ (e : Ending). e) (Err y)) told
      tells faults.Reject = same
      tells faults.NotFound = same
      tells faults.Excess = same
      tells faults.NotImplemented = same
      tells (faults.LinkEnded c) = tt
      tells faults.Memory = tt
      tells faults.BadPeer = tt
      tells faults.SlotBusy = tt
