-- A client's connection that is ended, and its link released, in the world with far ends (NFCIP-1, ISO/IEC 18092; NFC
-- Forum LLCP 1.3; the air is this project's own).
use Rattle.std.specs.Prelude.{◌≡◌, ◌⊎◌, ℕ, ◌<◌, List, length, drop, Bool, true, Option, Some, None}
use Rattle.nfc_base.specs.Choosing.{Choosing}
use Rattle.nfc_base.specs.Far.{Untouched}
use Rattle.nfc_base.specs.Trace.{noise}
use Rattle.nfc_base.specs.declared.event.Heard.{Heard}
use Rattle.nfc_base.specs.declared.carrier.EndCause.{EndCause}
use Rattle.nfc_base.specs.declared.event.Event.TheVariants.{Request}
use Rattle.nfc_base.specs.declared.event.Fate.TheVariants.{Pass}
use Rattle.nfc_base.specs.declared.carrier.EndCause.TheVariants as cause
use Rattle.air_core.specs.Turn.{Air, TurnIs, moment, after_event}
use Rattle.air_core.specs.Conversation.{Note, Asks, first_fate, later_fates}
use Rattle.air_core.specs.declared.listener.Listener.{Ghosts}
use Rattle.dep_link.specs.Target.{TargetState}
use Rattle.dep_link.specs.Initiator.{InitState}
use Rattle.dep_link.specs.Releasing.{rls_frame}
use Rattle.llcp_link.specs.Counting.{AnswersCounted, RestartsCounted, StopsCounted}
use Rattle.far_air.specs.FarEnds.{FarTable}
use Rattle.far_air.specs.FarLaws.{IsLinked}
use Rattle.far_air.specs.FarTurns.{FarGoing}
use Rattle.peer_air.specs.PeerFars.{peer_ends}
use Rattle.peer_air.specs.SwapTurns.{Stands}
use Rattle.snep_core.specs.declared.fault.SnepFault.{SnepFault}
use Rattle.snep_core.specs.declared.fault.SnepFault.TheVariants.{BadPeer, LinkEnded, Memory}
use Rattle.snep_core.specs.Accord.{PeerState}
use Rattle.snep_core.specs.Server.{serving}
use Rattle.snep_core.specs.Calling.{gives_up}
use Rattle.snep_core.specs.Talk.{CameTo, EndState, Step}
use Rattle.link_calls.specs.CallDue.{BrokenBy, Comes}
use Rattle.link_calls.specs.Arriving.{Arrives, ArrivesCut}
use Rattle.link_calls.specs.CallTurns.{HaltsInCall}
use Rattle.link_calls.specs.Calls.{IsCarried, IsMade}
use Rattle.link_calls.specs.ClosingDue.{ClosingStanding, Calls, Released, closing_stand, closing_due, closing_due_at}
use Rattle.link_calls.specs.Staying.{setting_of}

module _ {L F : Type 0} (k : Ghosts L) (linked : L → Bool) (t : FarTable F) where
  -- From one moment of a field to another the requests of a closing were made: each was due, and this was heard.
  pub record ClosingTurns (numbers : List ℕ) (from : Step) (i : InitState) (old new : Air L) (place : ℕ)
      (os : List (Option F)) (far after : Choosing F) (s : ClosingStanding) : Type 0 where
    pub notes : List Note
    pub going : FarGoing k.machine linked t (closing_due numbers from i) (moment old) (moment new) notes place os far
        after
    pub stands : closing_stand numbers from i notes ≡ s

  -- RLS_REQ passed, and as a listener handed something over a far end stopped for want of memory.
  pub record HaltsAtRls (standing : ClosingStanding) (mid new : Air L) : Type 0 where
    pub asked : closing_due_at standing ≡ Asks rls_frame
    pub passes : first_fate mid.fates ≡ Pass
    pub listeners : List L
    pub left : new ≡ after_event mid (Request rls_frame Pass) (later_fates mid.fates)
        (record { lit = true; listeners = listeners })
    pub hands : ((l : L) → k.machine.handed l rls_frame ≡ Untouched) → ⊥

  -- Behind such requests nothing more happened, or the far end stopped at one more: at one of the call, or, where a
  -- listener hands something over at it, at RLS_REQ.
  pub record ClosingFront (target : L → TargetState) (halts : Choosing F → List ℕ → Choosing F → Type 0)
      (numbers : List ℕ) (from : Step) (i : InitState) (old new : Air L) (place : ℕ) (os : List (Option F))
      (far after : Choosing F) : Type 0 where
    pub standing : ClosingStanding
    pub mid : Air L
    pub half : Choosing F
    pub turns : ClosingTurns numbers from i old mid place os far half standing
    pub left : ((new ≡ mid) × (after ≡ half))
        ⊎ (HaltsInCall k target linked t halts (closing_due_at standing) mid new half after
        ⊎ HaltsAtRls standing mid new)

module _ {L : Type 0} (k : Ghosts L) (target : L → TargetState) where
  -- a closing from a moment of the field, its initiator and its peer's end to others
  module _ (numbers : List ℕ) (from : Step) (old : Air L) (i : InitState) (far : Choosing PeerState) (new : Air L)
      (after : Choosing PeerState) where
    -- It comes to where it stands so, in the world with the far ends of peers, at the place of this one.
    abbrev pub ClosingComes : ClosingStanding → Type 0
    ClosingComes s =
        (linked : L → Bool) → IsLinked k.machine linked → (place : ℕ) → Stands k target linked peer_ends old place
        → (os : List (Option PeerState))
        → ClosingTurns k linked peer_ends numbers from i old new place os far after s

    -- Behind payloads that were swapped, as a call that came to its end, RLS_REQ was sent, and this was heard of it,
    -- none where the field was lost. Where no listener hands anything over at it, the end stays: nothing more arrived.
    pub record SendsRls (heard : Option Heard) : Type 0 where
      pub mid : Air L
      pub rest : InitState
      pub half : Choosing PeerState
      pub carried : IsCarried k target old i far mid rest half None
      pub to : Step
      pub made : IsMade k target numbers from old i far mid rest half to
      pub turn : TurnIs k.machine (RestartsCounted serving) (AnswersCounted serving) mid rls_frame half heard new after
      pub same : ((l : L) → k.machine.handed l rls_frame ≡ Untouched) → after ≡ half
      pub arrives : ((l : L) → k.machine.handed l rls_frame ≡ Untouched)
          → Arrives i.core.number (drop (length old.trace) new.trace) far after

    -- The connection ended, and RLS_REQ was sent.
    pub record IsReleased (to : Step) : Type 0 where
      pub turns : ClosingComes (Released to)
      pub heard : Heard
      pub sent : SendsRls (Some heard)

    -- The link ended by this cause, in the call or as RLS_REQ was sent. Six bad receptions have a transmission that
    -- didn't pass.
    pub record IsLost (j : InitState) (c : EndCause) : Type 0 where
      pub turns : ClosingComes (Calls (BrokenBy c))
      pub how : IsCarried k target old i far new j after (Some c) ⊎ ((c ≡ cause.FieldLost) × SendsRls None)
      pub noisy : c ≡ cause.SixBad → 0 < noise (drop (length old.trace) new.trace)

    -- Memory was wanting: there is a front of it, the peer's end answered what arrived, but for the last payload where
    -- it stopped at that, and nothing that is set of the end changed.
    pub record IsClosingShort : Type 0 where
      pub front : (linked : L → Bool) → IsLinked k.machine linked → (place : ℕ)
          → Stands k target linked peer_ends old place → (os : List (Option PeerState))
          → ClosingFront k linked peer_ends target (StopsCounted serving) numbers from i old new place os far after
      pub arrives : ((l : L) → k.machine.handed l rls_frame ≡ Untouched)
          → ArrivesCut i.core.number (drop (length old.trace) new.trace) far after
      pub setting : ((l : L) → k.machine.handed l rls_frame ≡ Untouched) → setting_of after.end ≡ setting_of far.end

    -- It failed: the far end was given up, the link ended, or memory was wanting.
    abbrev pub ClosingFails : EndState → InitState → SnepFault → Type 0
    ClosingFails client j BadPeer = (came : List CameTo) × ClosingComes (Calls (Comes (gives_up came client) j))
    ClosingFails client j (LinkEnded cause.FieldLost) = IsLost j cause.FieldLost
    ClosingFails client j (LinkEnded cause.SixBad) = IsLost j cause.SixBad
    ClosingFails client j (LinkEnded cause.Protocol) = ⊥
    ClosingFails client j (LinkEnded cause.Memory) = ⊥
    ClosingFails client j Memory = IsClosingShort
    ClosingFails client j _ = ⊥
