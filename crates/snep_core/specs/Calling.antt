-- A call of a client over a link and a far end: what it hands over and what it heard, and how it is cut off.
use Rattle.std.specs.Prelude.{◌≡◌, ◌⊎◌, ℕ, Bool, true, false, List, [], ◌∷◌, ◌++◌, Option, Some}
use Rattle.nfc_base.specs.Choosing.{first_number}
use Rattle.nfc_base.specs.declared.carrier.EndCause.{EndCause}
use Rattle.nfc_base.specs.declared.carrier.EndCause.TheVariants as cause
use Rattle.nfc_base.specs.declared.carrier.LinkEnd.{LinkEnd}
use Rattle.nfc_base.specs.Links.{CarrierView, FarStep, Stepped, FarMoved, SwapDone, SwapFailed, Swapped, AskedBy}
use Rattle.nfc_base.specs.Links.{BySwaps, step_payload}
use Rattle.llcp_link.specs.Taking.{taken_from}
use Rattle.llcp_link.specs.Giving.{given, after_giving}
use Rattle.snep_core.specs.declared.fault.SnepFault.{SnepFault}
use Rattle.snep_core.specs.declared.fault.SnepFault.TheVariants.{LinkEnded, Memory, BadPeer}
use Rattle.snep_core.specs.declared.fault.SnepFault.TheVariants as faults
use Rattle.snep_core.specs.Jobs.{Over, Refused}
use Rattle.snep_core.specs.Listening.{all_awaiting}
use Rattle.snep_core.specs.Slots.{NoneStaged, Slot, all_puts, dropped, noted}
use Rattle.snep_core.specs.Talk.{EndState, Step, Goes, Ends, GivesUp, ComesTo, Working, CameTo, OnSap, begins_all}
use Rattle.snep_core.specs.Talk.{numbers_behind, one_on, ready, replied, silent}
use Rattle.snep_core.specs.declared.job.Refusal.{Refusal}
use Rattle.snep_core.specs.declared.job.Refusal.TheVariants as refusals
use Rattle.snep_core.specs.declared.job.Awaiting.{Awaiting}
use Rattle.snep_core.specs.declared.job.Turn.{Turn}
use Rattle.snep_core.specs.declared.job.Turn.TheVariants.{Ended, Went, GaveUp}

-- What contracts see of a client's end, and of a client: its end of the link, whether want of memory ended a call, and
-- its slots.
pub record ClientEndState : Type 0 where
  pub llc : EndState
  pub spent : Bool

pub record ClientState : Type 0 where
  pub llc : EndState
  pub spent : Bool
  pub slots : List Slot

-- the payloads that were handed over
abbrev pub payloads : List FarStep → List (List ℕ)
payloads [] = []
payloads (x ∷ xs) = step_payload x ∷ payloads xs

-- the last one, or the one before where there is none
abbrev pub last_of : Option (List ℕ) → List FarStep → Option (List ℕ)
last_of before [] = before
last_of before (x ∷ xs) = last_of (Some (step_payload x)) xs

-- why a call ends where a swap does
abbrev pub fault_of : EndCause → SnepFault
fault_of cause.FieldLost = LinkEnded cause.FieldLost
fault_of cause.SixBad = LinkEnded cause.SixBad
fault_of cause.Protocol = LinkEnded cause.Protocol
fault_of cause.Memory = Memory

abbrev pub is_memory : SnepFault → Bool
is_memory Memory = true
is_memory _ = false

-- why a call ends that the server refused
abbrev pub refused_by : Refusal → SnepFault
refused_by refusals.Reject = faults.Reject
refused_by refusals.NotFound = faults.NotFound
refused_by refusals.Excess = faults.Excess
refused_by refusals.NotImplemented = faults.NotImplemented

-- a far end that is given up: what each job came to, or none where it was at fault
abbrev pub gives_up : List CameTo → EndState → Step
gives_up came l = GivesUp (record { came = came; llc = l })

-- a call is so behind an exchange
abbrev pub IsStep : Step → Turn → EndState → Type 0
IsStep step (Ended jobs) l = step ≡ Ends jobs l
IsStep step (Went jobs idle) l = step ≡ Goes (record { llc = l; jobs = jobs; idle = idle })
IsStep step GaveUp l = (came : List CameTo) × (step ≡ gives_up came l)

-- What a failed run leaves of the slots: what was answered before is told, and a far end that is given up leaves no
-- message.
abbrev pub slots_left : SnepFault → List Slot → List Slot
slots_left BadPeer slots = dropped slots
slots_left _ slots = slots

module _ {C A : Type 0} (seen : C → CarrierView) (swaps : C → List ℕ → List FarStep → C → Type 0)
    (steps : A → List ℕ → List ℕ → A → Type 0)
    (stops : A → List ℕ → A → Type 0) where
  -- A call came from one step to another over the link: what was handed over, each payload with as many PDUs as the
  -- next of these numbers says and in one swap, and what the far end did. The link is over where it was over before.
  pub record Talks (numbers : List ℕ) (from : Step) (link : C) (far : A) (to : Step) (now : C) (after : A)
      : Type 0 where
    pub did : List FarStep
    pub told : ComesTo numbers from did to
    pub handed : (seen now).handed ≡ (seen link).handed ++ payloads did
    pub last : (seen now).last ≡ last_of (seen link).last did
    pub over : (seen now).over ≡ (seen link).over
    pub swapped : BySwaps swaps did link now
    pub far_moved : FarMoved steps stops did far after

  -- One exchange: the next payload, with so many PDUs, was answered, and the reply taken. Between the two these jobs
  -- stood so.
  pub record ExchangedOnce (count : ℕ) (jobs : List OnSap) (old : EndState) (link : C) (far : A) (all : List Awaiting)
      (new : EndState) (now : C) (after : A) : Type 0 where
    pub reply : List ℕ
    pub swap : SwapDone steps (seen link) (seen now) (given silent count old) reply far after
    pub swapped : Swapped swaps steps stops link (given silent count old) far now after
        (λ did. did ≡ Stepped (given silent count old) reply ∷ [])
    pub took : new ≡ taken_from silent (after_giving silent count old) reply
    pub awaited : all ≡ all_awaiting (after_giving silent count old) jobs

  -- one exchange, behind which the call is at this step
  pub record TurnedTo (count : ℕ) (w : Working) (link : C) (far : A) (to : Step) (now : C) (after : A) : Type 0 where
    pub reply : List ℕ
    pub swap : SwapDone steps (seen link) (seen now) (given silent count (ready w).llc) reply far after
    pub swapped : Swapped swaps steps stops link (given silent count (ready w).llc) far now after
        (λ did. did ≡ Stepped (given silent count (ready w).llc) reply ∷ [])
    pub step : replied count w reply ≡ to

  -- one exchange, and what the call is then
  abbrev pub Turned : ℕ → Working → C → A → Turn → EndState → C → A → Type 0
  Turned count w link far (Ended jobs) new now after = TurnedTo count w link far (Ends jobs new) now after
  Turned count w link far (Went jobs idle) new now after =
      TurnedTo count w link far (Goes (record { llc = new; jobs = jobs; idle = idle })) now after
  Turned count w link far GaveUp new now after = (came : List CameTo)
      × TurnedTo count w link far (gives_up came new) now after

  -- Nothing was handed over: memory was wanting before.
  pub record Rests (link : C) (far : A) (e : SnepFault) (now : C) (after : A) : Type 0 where
    pub fault : e ≡ Memory
    pub link_is : now ≡ link
    pub far_is : after ≡ far

  -- The link was over. The client's end gave its next payload, and nobody took it.
  pub record IsOver (count : ℕ) (old : EndState) (link : C) (far : A) (e : SnepFault) (new : EndState) (now : C)
      (after : A) : Type 0 where
    pub left : new ≡ after_giving silent count old
    pub why : EndCause
    pub over : (seen link).over ≡ Some why
    pub fault : e ≡ fault_of why
    pub same : seen now ≡ seen link
    pub link_is : now ≡ link
    pub far_is : after ≡ far

  -- The swap of the next payload failed. The client's end gave it, and heard nothing.
  pub record Fails (count : ℕ) (old : EndState) (link : C) (far : A) (e : SnepFault) (new : EndState) (now : C)
      (after : A) : Type 0 where
    pub left : new ≡ after_giving silent count old
    pub why : LinkEnd
    pub fault : e ≡ fault_of why.cause
    pub swap : SwapFailed steps stops (seen link) (seen now) (given silent count old) why far after
    pub swapped : Swapped swaps steps stops link (given silent count old) far now after
        (AskedBy why.answered why.cause (given silent count old))

  -- The next payload was answered, and as the reply was taken memory was wanting.
  pub record Unread (count : ℕ) (old : EndState) (link : C) (far : A) (e : SnepFault) (now : C) (after : A)
      : Type 0 where
    pub reply : List ℕ
    pub fault : e ≡ Memory
    pub swap : SwapDone steps (seen link) (seen now) (given silent count old) reply far after
    pub swapped : Swapped swaps steps stops link (given silent count old) far now after
        (λ did. did ≡ Stepped (given silent count old) reply ∷ [])

  -- An exchange was cut off. Where this end wanted no memory itself, it is left as it was once it gave its payload.
  abbrev pub IsCut : ℕ → EndState → C → A → SnepFault → EndState → C → A → Type 0
  IsCut count old link far e new now after =
      (Rests link far e now after ⊎ IsOver count old link far e new now after)
      ⊎ (Fails count old link far e new now after ⊎ Unread count old link far e now after)

  -- A call went on so far, and was cut off by its link or by want of memory.
  pub record Breaks (numbers : List ℕ) (from : Step) (link : C) (far : A) (e : SnepFault) (new : EndState) (now : C)
      (after : A) : Type 0 where
    pub at : Working
    pub mid : C
    pub mid_far : A
    pub talks : Talks numbers from link far (Goes at) mid mid_far
    pub cut : IsCut (first_number (numbers_behind talks.did numbers)) (ready at).llc mid mid_far e new now after

  -- A call that failed: the far end was given up, or it was cut off.
  abbrev pub FailsBy : List ℕ → Step → C → A → SnepFault → EndState → C → A → Type 0
  FailsBy numbers from link far e new now after =
      ((e ≡ BadPeer) × (came : List CameTo) × Talks numbers from link far (gives_up came new) now after)
      ⊎ Breaks numbers from link far e new now after

  -- The reply to a payload gave the far end up.
  pub record GivesUpThere (count : ℕ) (w : Working) (link : C) (far : A) (e : SnepFault) (new : EndState) (now : C)
      (after : A) : Type 0 where
    pub fault : e ≡ BadPeer
    pub came : List CameTo
    pub turned : TurnedTo count w link far (gives_up came new) now after

  -- A call that failed as its jobs stood so: by the next reply the far end was given up, or the call was cut off before
  -- one was taken.
  pub record FailsAt (numbers : List ℕ) (from : Step) (link : C) (far : A) (jobs : List OnSap) (e : SnepFault)
      (new : EndState) (now : C) (after : A) : Type 0 where
    pub at : Working
    pub stood : at.jobs ≡ jobs
    pub mid : C
    pub mid_far : A
    pub talks : Talks numbers from link far (Goes at) mid mid_far
    pub fails : GivesUpThere (first_number (numbers_behind talks.did numbers)) at mid mid_far e new now after
        ⊎ IsCut (first_number (numbers_behind talks.did numbers)) (ready at).llc mid mid_far e new now after

  -- A run of all messages that wait, from these slots: each was answered, and its slot says how.
  pub record RunsTo (numbers : List ℕ) (old : EndState) (slots : List Slot) (link : C) (far : A) (new : EndState)
      (told : List Slot) (now : C) (after : A) : Type 0 where
    pub jobs : List OnSap
    pub talks : Talks numbers (begins_all old (all_puts slots)) link far (Ends jobs new) now after
    pub told_is : told ≡ noted jobs slots
    pub finished : NoneStaged told

  -- and a run that failed
  pub record RunFailsAt (numbers : List ℕ) (old : EndState) (slots : List Slot) (link : C) (far : A) (e : SnepFault)
      (new : EndState) (told : List Slot) (now : C) (after : A) : Type 0 where
    pub jobs : List OnSap
    pub fails : FailsAt numbers (begins_all old (all_puts slots)) link far jobs e new now after
    pub told_is : told ≡ slots_left e (noted jobs slots)

  -- A call whose request, on the connection from a SAP, was refused.
  pub record IsRefused (sap : ℕ) (numbers : List ℕ) (from : Step) (link : C) (far : A) (e : SnepFault) (new : EndState)
      (now : C) (after : A) : Type 0 where
    pub why : Refusal
    pub fault : e ≡ refused_by why
    pub talks : Talks numbers from link far (Ends (one_on sap (Over (Refused why))) new) now after

  -- A request on the connection from a SAP that failed: it was refused, the far end was given up, or it was cut off.
  abbrev pub RequestFails : ℕ → List ℕ → Step → C → A → SnepFault → EndState → C → A → Type 0
  RequestFails sap numbers from link far e new now after =
      IsRefused sap numbers from link far e new now after ⊎ FailsBy numbers from link far e new now after
