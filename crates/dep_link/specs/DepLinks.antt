-- What contracts see of a link to a peer, over a field and an initiator that it borrows (NFCIP-1, ISO/IEC 18092). What
-- was handed over is read off the frames that arrived.
use Rattle.std.specs.Prelude.{◌≡◌, ℕ, ◌≤◌, ◌<◌, List, [], ◌∷◌, length, drop, slice_index, Bool, true, false, not}
use Rattle.std.specs.Prelude.{Option, Some, None, Result, Ok, Err}
use Rattle.std.specs.Global.{Vec}
use Rattle.nfc_base.specs.Signal.{Signal}
use Rattle.nfc_base.specs.Trace.{noise, breaks}
use Rattle.nfc_base.specs.LinkTurns.{arrived}
use Rattle.nfc_base.specs.Links.{Counts, CarrierView, FarStep, Stepped, Stopped, FarMoved, AskedBy}
use Rattle.nfc_base.specs.declared.event.Event.{Event}
use Rattle.nfc_base.specs.declared.carrier.EndCause.{EndCause}
use Rattle.nfc_base.specs.declared.carrier.EndCause.TheVariants.{FieldLost, SixBad, Protocol, Memory}
use Rattle.nfc_base.specs.declared.carrier.LinkEnd.{LinkEnd}
use Rattle.air_core.specs.Turn.{Air}
use Rattle.air_core.specs.declared.listener.Listener.{Ghosts}
use Rattle.dep_link.specs.declared.exchange.Unanswered.{Unanswered}
use Rattle.dep_link.specs.declared.exchange.Unanswered.TheVariants as ends
use Rattle.dep_link.specs.declared.initiator.Phase.{Phase}
use Rattle.dep_link.specs.declared.initiator.Phase.TheVariants.{Asked, Nacked, Attending, Free, EndedSixBad}
use Rattle.dep_link.specs.declared.initiator.Phase.TheVariants.{EndedProtocol}
use Rattle.dep_link.specs.declared.pair.DepPair.{DepPair}
use Rattle.dep_link.specs.Sizes.{limit}
use Rattle.dep_link.specs.Target.{TargetState}
use Rattle.dep_link.specs.Initiator.{InitState}
use Rattle.dep_link.specs.Payloads.{payloads}
use Rattle.dep_link.specs.Exchange.{frames_of}
use Rattle.dep_link.specs.Asking.{Standing, Waits, Rests, Broken, HasPeer, ExchangeTurns, StoppedTurns}

-- A link: its field and initiator, the PNI that was expected and the length of the trace when it was made, and by which
-- cause it is over.
pub record DepSeen (L : Type 0) : Type 0 where
  pub air : Air L
  pub initiator : InitState
  pub first : ℕ
  pub start : ℕ
  pub over : Option EndCause

abbrev pub seen_pair : {L : Type 0} → DepPair L → DepSeen L
seen_pair p = record { air = p.field.now; initiator = p.initiator.now; first = p.first; start = p.start; over = p.over }

-- 1 where the link is over by the cause that is counted
abbrev pub counts_of : Option EndCause → Counts
counts_of None = record { breaks = 0; six_bad = 0; odd = 0 }
counts_of (Some FieldLost) = record { breaks = 1; six_bad = 0; odd = 0 }
counts_of (Some SixBad) = record { breaks = 0; six_bad = 1; odd = 0 }
counts_of (Some Protocol) = record { breaks = 0; six_bad = 0; odd = 1 }
counts_of (Some Memory) = record { breaks = 0; six_bad = 0; odd = 0 }

-- A link that is made over is so by the initiator's last result, or else by a dark field.
abbrev pub dark_over : Bool → Option EndCause
dark_over true = None
dark_over false = Some FieldLost

abbrev pub over_at : Phase → Bool → Option EndCause
over_at EndedSixBad lit = Some SixBad
over_at EndedProtocol lit = Some Protocol
over_at Asked lit = dark_over lit
over_at Nacked lit = dark_over lit
over_at Attending lit = dark_over lit
over_at Free lit = dark_over lit

-- a link that was just made
abbrev pub first_seen : {L : Type 0} → Air L → InitState → DepSeen L
first_seen air i = record {
  air = air;
  initiator = i;
  first = i.core.number;
  start = length air.trace;
  over = over_at i.phase air.lit;
}

-- the events since a link was made
abbrev pub since : {L : Type 0} → DepSeen L → List Event
since p = drop p.start p.air.trace

-- the payloads that some events brought, counted from this PNI
abbrev pub brought : ℕ → List Event → List (List ℕ)
brought first es = payloads first (frames_of (arrived es))

abbrev pub dep_view : {L : Type 0} → DepSeen L → CarrierView
dep_view p = record {
  over = p.over;
  dark = not p.air.lit;
  counts = counts_of p.over;
  noise = noise (since p);
  handed = brought p.first (since p);
  last = p.initiator.out;
}

-- Where an initiator stands whose exchange ended so, in which that reply was given. A link that isn't over rests with
-- it.
abbrev pub StandsAt : Option EndCause → Option (List ℕ) → InitState → Standing → Type 0
StandsAt None None i s = ⊥
StandsAt None (Some reply) i s = s ≡ Rests i reply
StandsAt (Some FieldLost) given i s = s ≡ Broken FieldLost
StandsAt (Some SixBad) given i s = s ≡ Broken SixBad
StandsAt (Some Memory) given i s = (f : Signal) × (s ≡ Waits i f)
StandsAt (Some Protocol) given i s = ⊥

-- What a swap tells whose exchange brought no reply: why, and whether the far end made its step, which it did where the
-- payload came and it didn't stop.
abbrev pub told_end : Unanswered → Bool → LinkEnd
told_end (ends.Ended cause) came = record { cause = cause; answered = came }
told_end ends.Stopped came = record { cause = Memory; answered = false }

-- a swap: its payload, and what the far end did in it
pub record Swap : Type 0 where
  pub out : List ℕ
  pub did : List FarStep

module _ {L : Type 0} (k : Ghosts L) (target : L → TargetState) where
  -- the peer of a link: selected, alone and in step with its initiator, by all that arrived since the link was made
  abbrev pub PeerOf : DepSeen L → Type 0
  PeerOf p = HasPeer k target p.air p.initiator p.first (brought p.first (since p)) (arrived (since p))

  -- A link that isn't over is ready for a swap.
  pub record IsDepReady (p : DepSeen L) : Type 0 where
    pub lit : p.air.lit ≡ true
    pub start : p.start ≤ length p.air.trace
    pub peer : PeerOf p

  -- The field is lit, and a peer stands in it that is selected, alone and in step with this initiator.
  abbrev pub IsInStep : Air L → InitState → Type 0
  IsInStep air i = (air.lit ≡ true) × HasPeer k target air i i.core.number [] []

  -- turns of an exchange with this peer, in which that was given, up to where the link stands
  abbrev pub TurnsOf : (a b : DepSeen L) → PeerOf a → List ℕ → Option (List ℕ) → Type 0
  TurnsOf a b t out given =
      (s : Standing) × ExchangeTurns k target a.air b.air t.listener a.initiator a.first (brought a.first (since a))
      (arrived (since a)) out given s × StandsAt b.over given b.initiator s

  -- What the far end did was asked for by these turns: nothing; one step with the payload, whose reply they brought
  -- back; or it stopped, and so did the turns.
  abbrev pub ExchangedAs : (a b : DepSeen L) → PeerOf a → List ℕ → List FarStep → Type 0
  ExchangedAs a b t out [] = TurnsOf a b t out None
  ExchangedAs a b t out (Stepped payload reply ∷ []) = (payload ≡ out) × TurnsOf a b t out (Some reply)
  ExchangedAs a b t out (Stopped payload ∷ []) =
      (payload ≡ out) × StoppedTurns k target a.air b.air t.listener a.initiator a.first (brought a.first (since a))
      (arrived (since a)) out b.initiator × (b.over ≡ Some Memory)
  ExchangedAs a b t out (d ∷ e ∷ ds) = ⊥

  -- From one moment to another a payload was swapped, of bytes and as long as one may be: each request was due, and
  -- nothing else happened to the field. No wait has six bad receptions where all passed; where the field was lost it is
  -- dark, and a transmission lost it.
  pub record PayloadExchanged (a b : DepSeen L) (s : Swap) : Type 0 where
    pub begins : a.over ≡ None
    pub start : a.start ≤ length a.air.trace
    pub peer : PeerOf a
    pub same : (b.first ≡ a.first) × (b.start ≡ a.start)
    pub last : b.initiator.out ≡ Some s.out
    pub short : length s.out ≤ limit
    pub bytes : (i : ℕ) → slice_index s.out i < 256
    pub exchange : ExchangedAs a b peer s.out s.did
    pub noisy : b.over ≡ Some SixBad → noise (since b) ≡ noise (since a) → ⊥
    pub lost : b.over ≡ Some FieldLost → (breaks (since a) < breaks (since b)) × (b.air.lit ≡ false)

  -- a swap of this payload, in which the far end made these steps
  abbrev pub dep_swaps : DepSeen L → List ℕ → List FarStep → DepSeen L → Type 0
  dep_swaps a out did b = PayloadExchanged a b (record { out = out; did = did })

  -- swaps one after another
  abbrev pub Chained : List Swap → DepSeen L → DepSeen L → Type 0
  Chained [] a b = b ≡ a
  Chained (s ∷ ss) a b = (mid : DepSeen L) × PayloadExchanged a mid s × Chained ss mid b

  -- A payload was swapped, and the far end did this.
  pub record Carried {F : Type 0} (steps : F → List ℕ → List ℕ → F → Type 0) (stops : F → List ℕ → F → Type 0)
      (old new : DepSeen L) (out : List ℕ) (far after : F) (did : List FarStep) : Type 0 where
    pub exchanged : PayloadExchanged old new (record { out = out; did = did })
    pub far_moved : FarMoved steps stops did far after

  -- What a swap does on a link that is ready. With a reply it is ready again; a fault ends it, and where all passed
  -- that was want of memory.
  abbrev pub Carries : {F : Type 0} → (F → List ℕ → List ℕ → F → Type 0) → (F → List ℕ → F → Type 0) → DepSeen L
      → DepSeen L → List ℕ → F → F → Result (Vec ℕ) LinkEnd → Type 0
  Carries steps stops old new out far after (Ok r) =
      Carried steps stops old new out far after (Stepped out r.items ∷ []) × (new.over ≡ None) × IsDepReady new
  Carries steps stops old new out far after (Err e) =
      (did : List FarStep) × Carried steps stops old new out far after did × AskedBy e.answered e.cause out did
      × (new.over ≡ Some e.cause)
      × (noise (since new) ≡ noise (since old) → e.cause ≡ Memory)
