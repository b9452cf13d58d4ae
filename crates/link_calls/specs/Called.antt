-- A client's call on an open link, whatever it asks: what it came to, and what it did at a peer that serves as this
-- project's server does (NFC Forum LLCP 1.3 and SNEP 1.0).
use Rattle.std.specs.Prelude.{◌≡◌, ℕ, List, [], ◌∷◌, Result, Ok, Err}
use Rattle.nfc_base.specs.Choosing.{Choosing}
use Rattle.nfc_base.specs.Far.{Untouched}
use Rattle.air_core.specs.Turn.{Air}
use Rattle.air_core.specs.declared.listener.Listener.{Ghosts}
use Rattle.dep_link.specs.Target.{TargetState}
use Rattle.dep_link.specs.Initiator.{InitState}
use Rattle.dep_link.specs.Releasing.{rls_frame}
use Rattle.snep_core.specs.declared.fault.SnepFault.{SnepFault}
use Rattle.snep_core.specs.declared.fault.SnepFault.TheVariants as faults
use Rattle.snep_core.specs.declared.job.Ending.{Ending}
use Rattle.snep_core.specs.declared.job.Ending.TheVariants.{Done, Value, Sap, Refused}
use Rattle.snep_core.specs.declared.job.Job.TheVariants.{Over}
use Rattle.snep_core.specs.declared.job.Refusal.TheVariants as refusals
use Rattle.snep_core.specs.Accord.{Accords, AsideFails, GetFails, IsClosed, IsFound, IsGot, IsTaken, PeerState}
use Rattle.snep_core.specs.Accord.{PutFails}
use Rattle.snep_core.specs.Calling.{refused_by}
use Rattle.snep_core.specs.declared.slot.Slot.{Slot}
use Rattle.snep_core.specs.Slots.{noted}
use Rattle.snep_core.specs.declared.job.OnSap.{OnSap}
use Rattle.snep_core.specs.Talk.{EndState, Ends, Task, Puts, Gets, Finds, Leaves, all_closed, begins_all, begins_from}
use Rattle.snep_core.specs.Talk.{client_sap, closes, one_on, sap_of_slot}
use Rattle.link_calls.specs.AtOnce.{IsAtRest, ServedAtOnce, all_staged, puts_at_once}
use Rattle.link_calls.specs.declared.request.LinkRequest.{LinkRequest}
use Rattle.link_calls.specs.declared.request.LinkRequest.TheVariants as requests
use Rattle.link_calls.specs.declared.request.SlotMessage.{SlotMessage}
use Rattle.link_calls.specs.Calls.{CallFails, IsMade}
use Rattle.link_calls.specs.Closing.{ClosingFails, IsReleased}

-- An open link: the field, its initiator, and its peer's end with how many PDUs each of its payloads has.
pub record OpenAir (L : Type 0) : Type 0 where
  pub air : Air L
  pub initiator : InitState
  pub far : Choosing PeerState

-- What a call came to, where a refusal is one way that it can end.
abbrev pub came_to : {X : Type 0} → (X → Ending) → Result X SnepFault → Result Ending SnepFault
came_to ending (Ok x) = Ok (ending x)
came_to ending (Err faults.Reject) = Ok (Refused refusals.Reject)
came_to ending (Err faults.NotFound) = Ok (Refused refusals.NotFound)
came_to ending (Err faults.Excess) = Ok (Refused refusals.Excess)
came_to ending (Err faults.NotImplemented) = Ok (Refused refusals.NotImplemented)
came_to ending (Err fault) = Err fault

-- What a call of a task, on the connection from a SAP, did that came to this, at a peer of this project with which its
-- client accorded.
abbrev pub Served : ℕ → Task → PeerState → Result Ending SnepFault → EndState → PeerState → Type 0
Served sap (Puts m) old (Ok Done) client new = IsTaken sap m old client new
Served sap (Puts m) old (Ok (Refused why)) client new = PutFails sap m old (refused_by why) client new
Served sap (Puts m) old (Ok ending) client new = ⊥
Served sap (Puts m) old (Err fault) client new = PutFails sap m old fault client new
Served sap (Gets most key) old (Ok (Value v)) client new = IsGot sap most key v old client new
Served sap (Gets most key) old (Ok (Refused why)) client new = GetFails sap most key old (refused_by why) client new
Served sap (Gets most key) old (Ok ending) client new = ⊥
Served sap (Gets most key) old (Err fault) client new = GetFails sap most key old fault client new
Served sap (Finds name) old (Ok (Sap n)) client new = IsFound name old n client new
Served sap (Finds name) old (Ok ending) client new = ⊥
Served sap (Finds name) old (Err fault) client new = AsideFails old fault new
Served sap Leaves old (Ok Done) client new = IsClosed old client new
Served sap Leaves old (Ok ending) client new = ⊥
Served sap Leaves old (Err fault) client new = AsideFails old fault new

-- What the slots of a client tell behind a call that came to its end: a message that was put stands on the first one,
-- as it was answered, and no other call changes any.
abbrev pub SlotsTold : ℕ → Task → List Slot → Result Ending SnepFault → List Slot → Type 0
SlotsTold sap (Puts m) slots (Ok ending) told = told ≡ noted (one_on sap (Over ending))
    (all_staged (record { slot = 0; message = m } ∷ []) slots)
SlotsTold sap task slots (Ok ending) told = told ≡ slots
SlotsTold sap task slots (Err fault) told = Unit {0}

module _ {L : Type 0} (k : Ghosts L) (target : L → TargetState) (numbers : List ℕ) where
  -- A call came to its end, or it failed.
  abbrev pub Goes : ℕ → Task → EndState → OpenAir L → Result Ending SnepFault → EndState → OpenAir L → Type 0
  Goes sap task client old (Ok ending) left new =
      IsMade k target numbers (begins_from client sap task) old.air old.initiator old.far new.air new.initiator new.far
      (Ends (one_on sap (Over ending)) left)
  Goes sap task client old (Err fault) left new =
      CallFails k target numbers (begins_from client sap task) old.air old.initiator old.far new.air new.initiator
      new.far left fault

  pub record TaskCalled (sap : ℕ) (task : Task) (client : EndState) (slots : List Slot) (old : OpenAir L)
      (result : Result Ending SnepFault)
      (left : EndState) (told : List Slot) (new : OpenAir L) : Type 0 where
    pub goes : Goes sap task client old result left new
    pub tells : SlotsTold sap task slots result told
    pub serves : Accords client old.far.end → Served sap task old.far.end result left new.far.end

  -- Messages were put at once, from these slots of the client, and all were answered: each slot tells how.
  pub record AllCalled (ws : List SlotMessage) (client : EndState) (slots : List Slot) (old : OpenAir L)
      (left : EndState) (told : List Slot) (new : OpenAir L) : Type 0 where
    pub jobs : List OnSap
    pub goes : IsMade k target numbers (begins_all client (puts_at_once ws)) old.air old.initiator old.far new.air
        new.initiator new.far (Ends jobs left)
    pub told_is : told ≡ noted jobs (all_staged ws slots)
    pub rest : IsAtRest told
    pub serves : Accords client old.far.end → ServedAtOnce ws old.far.end (Ok jobs) left new.far.end

  -- They were cut off, by the link or by want of memory.
  pub record AllFailed (ws : List SlotMessage) (client : EndState) (old : OpenAir L) (fault : SnepFault)
      (left : EndState) (new : OpenAir L) : Type 0 where
    pub goes : CallFails k target numbers (begins_all client (puts_at_once ws)) old.air old.initiator old.far new.air
        new.initiator new.far left fault
    pub serves : Accords client old.far.end → ServedAtOnce ws old.far.end (Err fault) left new.far.end

  abbrev pub RunCalled : List SlotMessage → EndState → List Slot → OpenAir L → Result Ending SnepFault → EndState
      → List Slot → OpenAir L → Type 0
  RunCalled ws client slots old (Ok Done) left told new = AllCalled ws client slots old left told new
  RunCalled ws client slots old (Ok ending) left told new = ⊥
  RunCalled ws client slots old (Err fault) left told new = AllFailed ws client old fault left new

  -- A closing came to its end, or it failed.
  abbrev pub GoesDown : EndState → OpenAir L → Result Ending SnepFault → EndState → OpenAir L → Type 0
  GoesDown client old (Ok Done) left new =
      IsReleased k target numbers (closes client) old.air old.initiator old.far new.air new.far (Ends all_closed left)
  GoesDown client old (Ok ending) left new = ⊥
  GoesDown client old (Err fault) left new =
      ClosingFails k target numbers (closes client) old.air old.initiator old.far new.air new.far left new.initiator
      fault

  -- What it did is said where no listener hands anything over at RLS_REQ.
  pub record ClosingCalled (client : EndState) (old : OpenAir L) (result : Result Ending SnepFault) (left : EndState)
      (new : OpenAir L) : Type 0 where
    pub goes : GoesDown client old result left new
    pub serves : Accords client old.far.end → ((l : L) → k.machine.handed l rls_frame ≡ Untouched)
        → Served client_sap Leaves old.far.end result left new.far.end

  -- This was asked on an open link by a client, whose slots told this before: what it came to, how it leaves the
  -- client's end and its slots, and the link.
  abbrev pub Called : LinkRequest → EndState → List Slot → OpenAir L → Result Ending SnepFault → EndState → List Slot
      → OpenAir L → Type 0
  Called (requests.Put message) = TaskCalled client_sap (Puts message.now)
  Called (requests.Get slot most key) = TaskCalled (sap_of_slot slot) (Gets most key.now)
  Called (requests.Lookup name) = TaskCalled client_sap (Finds name.now)
  Called (requests.Run messages) = RunCalled messages.now
  Called requests.Close = λ client slots old result left told new. ClosingCalled client old result left new
