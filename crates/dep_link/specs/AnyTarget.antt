-- How an initiator activates by ATR_REQ with listeners and a far end of any kind, by what it hears (NFCIP-1, ISO/IEC
-- 18092). How often ATR_REQ is sent again is this project's own.
use Rattle.std.specs.Prelude.{ℕ, Bool, List, [], ◌∷◌, Option, Some, None, Result, Ok, Err}
use Rattle.nfc_base.specs.Signal.{Signal}
use Rattle.nfc_base.specs.declared.carrier.EndCause.{EndCause}
use Rattle.nfc_base.specs.declared.carrier.EndCause.TheVariants.{FieldLost, SixBad, Protocol, Memory}
use Rattle.nfc_base.specs.declared.tag_link.AskFault.{AskFault}
use Rattle.nfc_base.specs.declared.tag_link.AskFault.TheVariants as faults
use Rattle.air_core.specs.World.{Machine}
use Rattle.air_core.specs.Turn.{Air}
use Rattle.air_core.specs.Conversation.{Note, Next}
use Rattle.air_core.specs.Waits.{Standing, waits_next}
use Rattle.air_core.specs.FirstAnswers.{TellsFirst, TellsWait}
use Rattle.arrayvec.specs.ArrayVec.{ArrayVec}
use Rattle.dep_link.specs.Frames.{spelled}
use Rattle.dep_link.specs.Initiator.{InitState, waiting}
use Rattle.dep_link.specs.Activating.{atr_frame, told_atr}

-- What a whole answer to ATR_REQ tells: where it is ATR_RES, an initiator that cuts to the target's LR code, and the
-- target's general bytes; where it isn't, a fault.
abbrev pub told_initiator : Option (ℕ × ArrayVec ℕ) → Result (InitState × ArrayVec ℕ) EndCause
told_initiator None = Err Protocol
told_initiator (Some p) = Ok (waiting p.0, p.1)

-- the fault of a wait as a cause
abbrev pub cause_of : AskFault → EndCause
cause_of faults.FieldLost = FieldLost
cause_of faults.SixBad = SixBad
cause_of faults.Protocol = Protocol
cause_of faults.Memory = Memory

-- what the first whole answer tells
abbrev pub told_first : Signal → Result (InitState × ArrayVec ℕ) EndCause
told_first g = told_initiator (told_atr (spelled g))

-- how a wait of ATR_REQ ends
abbrev pub AnswersAtr : Bool → List Note → Standing → Result (InitState × ArrayVec ℕ) EndCause → Type 0
AnswersAtr lit ns s result = TellsFirst told_first (λ fault. Err (cause_of fault)) lit ns s result

-- what is due while ATR_REQ is asked with these general bytes
abbrev pub atr_next : List ℕ → List Note → Next
atr_next general = waits_next (atr_frame general ∷ [])

-- From one field and far end to others: ATR_REQ was sent in one wait, and this is told by what was heard.
abbrev pub AsksAtr : {L F : Type 0} → Machine L → (F → List ℕ → F → Type 0) → (F → List ℕ → List ℕ → F → Type 0)
    → (F → List ℕ → F → Type 0) → (F → Bool) → Air L → F → Air L → F → List ℕ
    → Result (InitState × ArrayVec ℕ) EndCause → Type 0
AsksAtr m restarts steps stops is_stuck old far new after general result =
    TellsWait m restarts steps (atr_frame general) old far stops is_stuck told_first (λ fault. Err (cause_of fault)) new
    after
    result
