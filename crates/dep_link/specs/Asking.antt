-- What an initiator sends while it carries one payload, by what it has heard (NFCIP-1, ISO/IEC 18092), and what one
-- exchange with a peer in a field does.
use Rattle.std.specs.Prelude.{◌≡◌, ℕ, suc, ◌+◌, ◌-◌, ◌*◌, ◌<◌, ◌≤◌, List, [], ◌∷◌, ◌++◌, length, slice_index, true}
use Rattle.std.specs.Prelude.{false, Option, Some, None, Result, Ok, Err}
use Rattle.nfc_base.specs.Signal.{Signal}
use Rattle.nfc_base.specs.Trace.{noise, breaks}
use Rattle.nfc_base.specs.StopAndWait.{delivered_of, pieces_back}
use Rattle.nfc_base.specs.LinkTurns.{GivenBy, bad_receptions}
use Rattle.nfc_base.specs.LinkTurns as turns
use Rattle.nfc_base.specs.declared.event.Event.{Event}
use Rattle.nfc_base.specs.declared.event.Event.TheVariants.{Reset, Request, Answer, Clash}
use Rattle.nfc_base.specs.declared.event.Fate.TheVariants.{Pass}
use Rattle.nfc_base.specs.declared.carrier.EndCause.{EndCause}
use Rattle.nfc_base.specs.declared.carrier.EndCause.TheVariants.{FieldLost, SixBad, Protocol, Memory}
use Rattle.air_core.specs.Turn.{Air, moment, after_event}
use Rattle.air_core.specs.Conversation.{Note, Lit, Got, Lost, Next, Over, Asks, Going, first_fate, later_fates}
use Rattle.air_core.specs.PlainTags.{IsAlone}
use Rattle.air_core.specs.declared.listener.Listener.{Ghosts}
use Rattle.arrayvec.specs.ArrayVec.{ArrayVec}
use Rattle.dep_link.specs.declared.exchange.Unanswered.{Unanswered}
use Rattle.dep_link.specs.declared.exchange.Unanswered.TheVariants.{Ended, Stopped}
use Rattle.dep_link.specs.declared.initiator.InitStep.{InitStep}
use Rattle.dep_link.specs.declared.initiator.InitStep.TheVariants as steps
use Rattle.dep_link.specs.Frames.{air_frame}
use Rattle.dep_link.specs.Target.{TargetState}
use Rattle.dep_link.specs.Initiator.{InitState, init_table, request, begun}
use Rattle.dep_link.specs.Payloads.{payloads}
use Rattle.nfc_base.specs.Pieces.{pieces}
use Rattle.dep_link.specs.Exchange.{InStep, IsCut, frames_of, frames_back}
use Rattle.dep_link.specs.Answering.{answering_air}
use Rattle.dep_link.specs.Peers.{IsPeer}
use Rattle.dep_link.specs.Stopping.{HeardUpTo}

-- Where an initiator stands: this frame was sent; this reply came; it ended by a fault; or something was heard that
-- belongs to no exchange.
pub data Standing : Type 0 where
  Waits : InitState → Signal → Standing
  Rests : InitState → List ℕ → Standing
  Broken : EndCause → Standing
  Astray : Standing

abbrev pub asks : InitState → List ℕ → Standing
asks i out = Waits (begun i out) (air_frame (request (begun i out).core))

abbrev pub goes_by : InitState → InitStep → Standing
goes_by i (steps.Send f) = Waits i f
goes_by i (steps.Finished reply) = Rests i reply.items
goes_by i steps.SixBad = Broken SixBad
goes_by i steps.Protocol = Broken Protocol

-- the initiator goes on by its table
abbrev pub noted : Standing → Note → Standing
noted (Waits i f) Lit = Astray
noted (Waits i f) Lost = Broken FieldLost
noted (Waits i f) (Got h) = goes_by (init_table i h).state (init_table i h).does
noted (Rests i reply) n = Astray
noted (Broken e) n = Astray
noted Astray n = Astray

abbrev pub stand : Standing → List Note → Standing
stand s [] = s
stand s (n ∷ ns) = stand (noted s n) ns

abbrev pub due_at : Standing → Next
due_at (Waits i f) = Asks f
due_at (Rests i reply) = Over
due_at (Broken e) = Over
due_at Astray = Over

-- what is due while this payload is carried
abbrev pub dep_next : InitState → List ℕ → List Note → Next
dep_next i out ns = due_at (stand (asks i out) ns)

-- the items of the frames of these requests are bytes
abbrev pub AreFrames : List Event → Type 0
AreFrames [] = Unit {0}
AreFrames (Reset ∷ es) = AreFrames es
AreFrames (Request f x ∷ es) = ((i : ℕ) → slice_index f.bytes i < 256) × AreFrames es
AreFrames (Answer g x ∷ es) = AreFrames es
AreFrames (Clash g x ∷ es) = AreFrames es

-- the reply r will do where that was given, if it was
abbrev pub MayReply : Option (List ℕ) → List ℕ → Type 0
MayReply None r = Unit {0}
MayReply (Some x) r = r ≡ x

module _ {L : Type 0} (k : Ghosts L) (target : L → TargetState) where
  -- Somewhere in a field a peer stands that is selected and alone, in step with the initiator; since this PNI was
  -- expected these frames arrived, and brought these payloads.
  pub record HasPeer (air : Air L) (i : InitState) (first : ℕ) (handed : List (List ℕ)) (arrived : List Signal)
      : Type 0 where
    pub place : ℕ
    pub listener : L
    pub selected : k.is_selected listener ≡ true
    pub alone : IsAlone k (k.identifier listener) air.listeners place listener
    pub is : IsPeer k target listener
    pub step : InStep i (target listener)
    pub cut : IsCut first (target listener) handed arrived

  -- From one moment of a field to another, turns of the exchange of one payload with this peer were made, each due;
  -- nothing else happened to the field, and this is where the initiator stands then. The payload was handed over at
  -- most once, where a reply was given; so much was sent at most; where all passed no reception was bad. Under any
  -- reply that will do the air is the same.
  pub record ExchangeTurns (old new : Air L) (peer : L) (i : InitState) (first : ℕ) (handed : List (List ℕ))
      (arrived : List Signal) (out : List ℕ) (given : Option (List ℕ)) (s : Standing) : Type 0 where
    pub events : List Event
    pub trace : new.trace ≡ old.trace ++ events
    pub frames : AreFrames events
    pub brings : payloads first (frames_of (arrived ++ turns.arrived events)) ≡ handed ++ delivered_of out given
    pub within : length events ≤ 2 * (pieces i.core.most out + pieces_back (frames_back (target peer)) given - 1)
        + 4 * bad_receptions events
    pub calm : noise events ≡ 0 → bad_receptions events ≡ 0
    pub notes : List Note
    pub going : (r : List ℕ) → MayReply given r → Going (answering_air k.machine r) (dep_next i out) (moment old)
        (moment new) notes
    pub stands : stand (asks i out) notes ≡ s

  -- The payload is under way, or was broken off. The far end made its step with it where a reply was given.
  abbrev pub UnderWay : {F : Type 0} → (F → List ℕ → List ℕ → F → Type 0) → Air L → Air L → L → InitState → ℕ
      → List (List ℕ) → List Signal → List ℕ → F → F
      → (Standing → List Event → Type 0) → Type 0
  UnderWay steps old new peer i first handed arrived out far after P =
      (given : Option (List ℕ)) × (s : Standing) × (x : ExchangeTurns old new peer i first handed arrived out given s)
      × GivenBy steps far out given after × P s x.events

  -- As the payload was handed over the far end stopped: behind such turns the request passed that brought it, which was
  -- heard up to the peer, and nothing came back. With that request they are no more than of any swap in which no reply
  -- was given.
  pub record StoppedTurns (old new : Air L) (peer : L) (i : InitState) (first : ℕ) (handed : List (List ℕ))
      (arrived : List Signal) (out : List ℕ) (j : InitState) : Type 0 where
    pub mid : Air L
    pub sent : Signal
    pub listeners : List L
    pub before : ExchangeTurns old mid peer i first handed arrived out None (Waits j sent)
    pub fate : first_fate mid.fates ≡ Pass
    pub heard : HeardUpTo k.machine sent out mid.listeners listeners
    pub left : new ≡ after_event mid (Request sent Pass) (later_fates mid.fates)
        (record { lit = true; listeners = listeners })
    pub brings : payloads first (frames_of ((arrived ++ turns.arrived before.events) ++ sent ∷ [])) ≡ handed ++ out ∷ []
    pub within : suc (length before.events) ≤ 2 * pieces i.core.most out + 4 * bad_receptions before.events

  -- How one exchange ends. A reply leaves the peer ready for the next; a field that is lost is dark, and a transmission
  -- lost it; six bad receptions have one that didn't pass. No frame comes that isn't allowed.
  abbrev pub EndsBy : {F : Type 0} → (F → List ℕ → List ℕ → F → Type 0) → (F → List ℕ → F → Type 0) → Air L → Air L → L
      → InitState → InitState → ℕ → List (List ℕ) → List Signal → List ℕ → F → F
      → Result (ArrayVec ℕ) Unanswered → Type 0
  EndsBy steps stops old new peer i j first handed arrived out far after (Ok r) =
      (x : ExchangeTurns old new peer i first handed arrived out (Some r.items) (Rests j r.items))
      × steps far out r.items after × (new.lit ≡ true)
      × HasPeer new j first (handed ++ out ∷ []) (arrived ++ turns.arrived x.events)
  EndsBy steps stops old new peer i j first handed arrived out far after (Err (Ended FieldLost)) =
      UnderWay steps old new peer i first handed arrived out far after
      (λ s es. (s ≡ Broken FieldLost) × (0 < breaks es) × (new.lit ≡ false))
  EndsBy steps stops old new peer i j first handed arrived out far after (Err (Ended SixBad)) =
      UnderWay steps old new peer i first handed arrived out far after (λ s es. (s ≡ Broken SixBad) × (0 < noise es))
  EndsBy steps stops old new peer i j first handed arrived out far after (Err (Ended Memory)) =
      UnderWay steps old new peer i first handed arrived out far after (λ s es. (f : Signal) × (s ≡ Waits j f))
  EndsBy steps stops old new peer i j first handed arrived out far after (Err (Ended Protocol)) = ⊥
  EndsBy steps stops old new peer i j first handed arrived out far after (Err Stopped) =
      StoppedTurns old new peer i first handed arrived out j × stops far out after

  -- what an initiator that began with a payload does with whatever peer it is in step with, in a lit field
  abbrev pub Exchanges : {F : Type 0} → (F → List ℕ → List ℕ → F → Type 0) → (F → List ℕ → F → Type 0) → Air L → Air L
      → InitState → Signal → InitState → F → F
      → Result (ArrayVec ℕ) Unanswered → Type 0
  Exchanges steps stops old new begun_now sent j far after result =
      (i : InitState) (out : List ℕ) → begun_now ≡ begun i out → sent ≡ air_frame (request (begun i out).core)
      → length out ≤ 2178 → old.lit ≡ true
      → (first : ℕ) (handed : List (List ℕ)) (arrived : List Signal) (t : HasPeer old i first handed arrived)
      → EndsBy steps stops old new t.listener i j first handed arrived out far after result
