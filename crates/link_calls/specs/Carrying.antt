-- An open link of a field, and what payloads that are carried over it do, one after the other, as whoever gives them
-- says by each reply (NFCIP-1, ISO/IEC 18092; NFC Forum LLCP 1.3 and SNEP 1.0).
use Rattle.std.specs.Prelude.{◌≡◌, ℕ, ◌<◌, List, length, drop, Bool, true, Option, Some, None}
use Rattle.nfc_base.specs.Choosing.{Choosing}
use Rattle.nfc_base.specs.Trace.{noise}
use Rattle.nfc_base.specs.declared.carrier.EndCause.{EndCause}
use Rattle.nfc_base.specs.declared.carrier.EndCause.TheVariants as cause
use Rattle.air_core.specs.Turn.{Air}
use Rattle.air_core.specs.declared.listener.Listener.{Ghosts}
use Rattle.dep_link.specs.Target.{TargetState}
use Rattle.dep_link.specs.Initiator.{InitState}
use Rattle.dep_link.specs.DepLinks.{DepSeen, Swap, Chained, IsInStep, first_seen, over_at}
use Rattle.far_air.specs.FarLaws.{IsLinked}
use Rattle.peer_air.specs.PeerFars.{peer_ends}
use Rattle.peer_air.specs.SwapTurns.{Stands}
use Rattle.llcp_link.specs.Counting.{StopsCounted}
use Rattle.snep_core.specs.Accord.{PeerState}
use Rattle.snep_core.specs.Server.{serving}
use Rattle.link_calls.specs.Walk.{Course, Giver, Walk, BrokenBy, Comes}
use Rattle.link_calls.specs.WalkTurns.{WalkTurns, WalkFront}
use Rattle.link_calls.specs.Arriving.{Arrives, ArrivesCut, IsCountedTo}
use Rattle.link_calls.specs.Staying.{setting_of}

module _ {L : Type 0} (k : Ghosts L) (target : L → TargetState) where
  -- A link is open: the field is lit, and in it a peer is selected, alone and in step with the initiator, whose last
  -- exchange didn't end by a fault.
  pub record IsOpen (air : Air L) (i : InitState) : Type 0 where
    pub in_step : IsInStep k target air i
    pub going : over_at i.phase true ≡ None

  -- From a moment of the field, its initiator and its peer's end to others payloads were swapped over the link, which
  -- is over by this cause then, or isn't. What arrived at the peer its end answered, counted from the initiator's
  -- number; a link that isn't over is counted to that number again. So nothing changes that is set of the end.
  pub record IsCarried (old : Air L) (i : InitState) (far : Choosing PeerState) (new : Air L) (j : InitState)
      (after : Choosing PeerState) (over : Option EndCause) : Type 0 where
    pub at : DepSeen L
    pub left : (at.air ≡ new) × (at.initiator ≡ j) × (at.over ≡ over)
    pub swaps : List Swap
    pub chain : Chained k target swaps (first_seen old i) at
    pub arrives : Arrives i.core.number (drop (length old.trace) new.trace) far after
    pub counted : over ≡ None → IsCountedTo i.core.number (drop (length old.trace) new.trace) j.core.number
    pub setting : setting_of after.end ≡ setting_of far.end

  -- Payloads that are carried over an open link so, from a moment of the field, its initiator and its peer's end to
  -- others.
  module _ {W E : Type 0} (g : Giver W E) (from : Course W E) (old : Air L) (i : InitState) (far : Choosing PeerState)
      (new : Air L) (j : InitState) (after : Choosing PeerState) where
    -- In the world with the far ends of peers, at the place of this one, each of the requests was due, and what was
    -- heard brought it to where it stands so.
    abbrev pub WalkComes : Walk W E → Type 0
    WalkComes s =
        (linked : L → Bool) → IsLinked k.machine linked → (place : ℕ) → Stands k target linked peer_ends old place
        → (os : List (Option PeerState))
        → WalkTurns k linked peer_ends g from i old new place os far after s

    -- It came to its end: what was heard tells how, and where the initiator rests. The link is open, and its peer
    -- stands where it stood.
    pub record IsWalked (to : E) : Type 0 where
      pub open_ : IsOpen new j
      pub turns : WalkComes (Comes to j)
      pub there : (linked : L → Bool) → IsLinked k.machine linked → (place : ℕ)
          → Stands k target linked peer_ends old place
          → Stands k target linked peer_ends new place
      pub carried : IsCarried old i far new j after None

    -- Its link ended by this cause. Six bad receptions have a transmission that didn't pass.
    pub record IsWalkEnded (c : EndCause) : Type 0 where
      pub turns : WalkComes (BrokenBy c)
      pub carried : IsCarried old i far new j after (Some c)
      pub noisy : c ≡ cause.SixBad → 0 < noise (drop (length old.trace) new.trace)

    -- Memory was wanting: there is a front of it, the peer's end answered what arrived, but for the last payload where
    -- it stopped at that, and nothing that is set of the end changed.
    pub record IsWalkShort : Type 0 where
      pub front : (linked : L → Bool) → IsLinked k.machine linked → (place : ℕ)
          → Stands k target linked peer_ends old place → (os : List (Option PeerState))
          → WalkFront k linked peer_ends (StopsCounted serving) g from i old new place os far after
      pub arrives : ArrivesCut i.core.number (drop (length old.trace) new.trace) far after
      pub setting : setting_of after.end ≡ setting_of far.end

    -- It was cut off by this cause: its link's, or want of memory.
    abbrev pub IsWalkCut : EndCause → Type 0
    IsWalkCut cause.FieldLost = IsWalkEnded cause.FieldLost
    IsWalkCut cause.SixBad = IsWalkEnded cause.SixBad
    IsWalkCut cause.Protocol = ⊥
    IsWalkCut cause.Memory = IsWalkShort
