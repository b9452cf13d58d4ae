-- How an initiator activates a peer by ATR_REQ (NFCIP-1, ISO/IEC 18092). The NFCID3 of the initiator, and how often
-- ATR_REQ is sent again, are this project's own.
use Rattle.std.specs.Prelude.{◌≡◌, ◌⊎◌, ℕ, zero, suc, ◌<◌, List, [], ◌∷◌, ◌++◌, length, Bool, true, false, Option, Some}
use Rattle.std.specs.Prelude.{None, is_some, Result, Ok, Err}
use Rattle.nfc_base.specs.Signal.{Signal}
use Rattle.nfc_base.specs.declared.frame.Tech.TheVariants.{A}
use Rattle.nfc_base.specs.LinkTurns as turns
use Rattle.nfc_base.specs.Trace.{breaks, noise}
use Rattle.nfc_base.specs.declared.event.Event.{Event}
use Rattle.nfc_base.specs.declared.carrier.EndCause.{EndCause}
use Rattle.nfc_base.specs.declared.carrier.EndCause.TheVariants.{FieldLost, SixBad, Protocol, Memory}
use Rattle.nfc_base.specs.declared.carrier.LinkEnd.{LinkEnd}
use Rattle.nfc_base.specs.declared.tag_link.AskFault.TheVariants as faults
use Rattle.air_core.specs.Turn.{Air, moment}
use Rattle.air_core.specs.Conversation.{Note, Going}
use Rattle.air_core.specs.Waits.{Standing, Asking, Broken, stand, waits_next}
use Rattle.air_core.specs.PlainTags.{IsAlone}
use Rattle.air_core.specs.declared.listener.Listener.{Ghosts}
use Rattle.arrayvec.specs.ArrayVec.{ArrayVec}
use Rattle.dep_pdu.specs.declared.frame.DepFrame.{DepFrame}
use Rattle.dep_pdu.specs.declared.frame.DepFrame.TheVariants.{AtrReq, AtrRes}
use Rattle.dep_pdu.specs.Spelling.{IsDepFrame}
use Rattle.dep_link.specs.Sizes.{initiator_lr}
use Rattle.dep_link.specs.Frames.{air_frame, spelled}
use Rattle.dep_link.specs.Target.{TargetState, atr_res}
use Rattle.dep_link.specs.Initiator.{InitState, waiting}
use Rattle.dep_link.specs.Sessions.{IsBusy}
use Rattle.dep_link.specs.Answering.{answering_air}
use Rattle.dep_link.specs.Peers.{heard_with, StepsByTarget, IsPeer}
use Rattle.dep_link.specs.Asking.{HasPeer}

-- the initiator's NFCID3
abbrev pub initiator_id : List ℕ
initiator_id = 0 ∷ 1 ∷ 2 ∷ 3 ∷ 4 ∷ 5 ∷ 6 ∷ 7 ∷ 8 ∷ 9 ∷ []

-- ATR_REQ of an initiator with these general bytes
abbrev pub atr_req : List ℕ → DepFrame
atr_req general = AtrReq initiator_id initiator_lr (record { items = general })

abbrev pub atr_frame : List ℕ → Signal
atr_frame general = air_frame (atr_req general)

-- what ATR_RES tells: the target's LR code and its general bytes
abbrev pub told_atr : Option DepFrame → Option (ℕ × ArrayVec ℕ)
told_atr None = None
told_atr (Some (AtrRes id timeout lr general)) = Some (lr, general)
told_atr (Some _) = None

-- whether a frame is one
abbrev pub is_atr_res : Signal → Bool
is_atr_res f = is_some (told_atr (spelled f))

-- a far end that was restarted so often with these general bytes
abbrev pub RestartedTimes : {F : Type 0} → (F → List ℕ → F → Type 0) → List ℕ → ℕ → F → F → Type 0
RestartedTimes restarts general zero far after = after ≡ far
RestartedTimes {F} restarts general (suc n) far after =
    (mid : F) × RestartedTimes restarts general n far mid × restarts mid general after

module _ {L : Type 0} (k : Ghosts L) (target : L → TargetState) where
  -- a listener that heard a frame so many times in a row
  abbrev pub sent_times : L → Signal → ℕ → L
  sent_times l f zero = l
  sent_times l f (suc n) = heard_with k (sent_times l f n) f []

  -- A selected listener takes this ATR_REQ, however often it hears it in a row: it does what the target's table says,
  -- and is a peer then. What it says of itself is in range, and so is the time that it asks for.
  pub record TakesAtr (l : L) (general : List ℕ) : Type 0 where
    pub tech : k.machine.tech l ≡ A
    pub says : IsDepFrame (atr_res (target l))
    pub busy : IsBusy (target l)
    pub steps : (n : ℕ) → StepsByTarget k target (sent_times l (atr_frame general) n) (atr_frame general) []
    pub is : (n : ℕ) → IsPeer k target (sent_times l (atr_frame general) (suc n))

  -- somewhere in a field such a listener stands, and is alone
  pub record HasTarget (air : Air L) (general : List ℕ) : Type 0 where
    pub place : ℕ
    pub listener : L
    pub alone : IsAlone k (k.identifier listener) air.listeners place listener
    pub takes : TakesAtr listener general

  -- From one moment to another ATR_REQ was sent again and again, and this is where its wait stands then. The far end
  -- was restarted as often as it arrived. Nothing was handed over, so the air is the same under every reply. Where all
  -- passed no reception was bad.
  pub record AtrSent {F : Type 0} (restarts : F → List ℕ → F → Type 0) (old new : Air L) (general : List ℕ)
      (far after : F) (s : Standing) : Type 0 where
    pub notes : List Note
    pub going : (r : List ℕ) → Going (answering_air k.machine r) (waits_next (atr_frame general ∷ [])) (moment old)
        (moment new) notes
    pub stands : stand 0 (atr_frame general ∷ []) notes ≡ s
    pub events : List Event
    pub trace : new.trace ≡ old.trace ++ events
    pub times : ℕ
    pub arrived : length (turns.arrived events) ≡ times
    pub restarted : RestartedTimes restarts general times far after
    pub calm : noise events ≡ 0 → turns.bad_receptions events ≡ 0

  -- The answer came: the peer is in step with an initiator that cuts to its own LR code, and these are its own general
  -- bytes.
  pub record IsActivated (new : Air L) (own : TargetState) (i : InitState) (told : List ℕ) : Type 0 where
    pub lit : new.lit ≡ true
    pub initiator : i ≡ waiting own.lr
    pub told_own : told ≡ own.general
    pub peer : HasPeer k target new i 0 [] []

  -- a transmission lost the field
  abbrev pub AtrLost : {F : Type 0} → (F → List ℕ → F → Type 0) → Air L → Air L → List ℕ → F → F → Type 0
  AtrLost restarts old new general far after =
      (sent : AtrSent restarts old new general far after (Broken faults.FieldLost (atr_frame general ∷ [])))
      × (0 < breaks sent.events) × (new.lit ≡ false)

  -- How the wait ends. The target answers each ATR_REQ that arrives, so six bad receptions have a transmission that
  -- didn't pass. No answer comes that isn't allowed.
  abbrev pub AtrFails : {F : Type 0} → (F → List ℕ → F → Type 0) → Air L → Air L → List ℕ → F → F → EndCause → Type 0
  AtrFails restarts old new general far after FieldLost =
      ((old.lit ≡ false) × (new ≡ old) × (after ≡ far)) ⊎ AtrLost restarts old new general far after
  AtrFails restarts old new general far after SixBad =
      (sent : AtrSent restarts old new general far after (Broken faults.SixBad (atr_frame general ∷ [])))
      × (0 < noise sent.events)
  AtrFails restarts old new general far after Memory = (bad : ℕ)
      × AtrSent restarts old new general far after (Asking bad (atr_frame general ∷ []))
  AtrFails restarts old new general far after Protocol = ⊥

  abbrev pub AtrEnds : {F : Type 0} → (F → List ℕ → F → Type 0) → Air L → Air L → List ℕ → TargetState → F → F
      → Result (InitState × ArrayVec ℕ) EndCause → Type 0
  AtrEnds restarts old new general own far after (Ok p) =
      (sent : AtrSent restarts old new general far after (Asking 0 [])) × (0 < sent.times)
      × IsActivated new own p.0 p.1.items
  AtrEnds restarts old new general own far after (Err cause) = AtrFails restarts old new general far after cause

  -- what an initiator does that activates whatever target is alone there
  abbrev pub Activates : {F : Type 0} → (F → List ℕ → F → Type 0) → Air L → Air L → List ℕ → F → F
      → Result (InitState × ArrayVec ℕ) EndCause → Type 0
  Activates restarts old new general far after result =
      (t : HasTarget old general) → AtrEnds restarts old new general (target t.listener) far after result

-- the cause of a result
abbrev pub by_cause : {X : Type 0} → Result X LinkEnd → Result X EndCause
by_cause (Ok x) = Ok x
by_cause (Err e) = Err e.cause

-- no payload was answered
abbrev pub IsUnanswered : LinkEnd → Type 0
IsUnanswered e = e.answered ≡ false
