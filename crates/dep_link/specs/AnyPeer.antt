-- How an initiator carries a payload with listeners and a far end of any kind, by what it hears (NFCIP-1, ISO/IEC
-- 18092).
use Rattle.std.specs.Prelude.{◌≡◌, ℕ, Bool, false, List, [], length, drop, Option, Some, None, Result, Ok, Err}
use Rattle.std.specs.Global.{Vec}
use Rattle.nfc_base.specs.LinkTurns.{arrived}
use Rattle.nfc_base.specs.declared.carrier.EndCause.{EndCause}
use Rattle.nfc_base.specs.declared.carrier.EndCause.TheVariants.{FieldLost, SixBad, Protocol, Memory}
use Rattle.nfc_base.specs.declared.carrier.LinkEnd.{LinkEnd}
use Rattle.air_core.specs.World.{Machine}
use Rattle.air_core.specs.Turn.{Air, Stops}
use Rattle.air_core.specs.Conversation.{Note, Asks}
use Rattle.air_core.specs.Speaking.{Speaks}
use Rattle.arrayvec.specs.ArrayVec.{ArrayVec}
use Rattle.nfc_base.specs.Signal.{Signal}
use Rattle.dep_link.specs.declared.exchange.Unanswered.{Unanswered}
use Rattle.dep_link.specs.declared.exchange.Unanswered.TheVariants as ends
use Rattle.dep_link.specs.Frames.{air_frame}
use Rattle.dep_link.specs.Initiator.{InitState, begun, request}
use Rattle.dep_link.specs.Payloads.{brings_payload}
use Rattle.dep_link.specs.Exchange.{frames_of}
use Rattle.dep_link.specs.Asking.{Standing, Waits, Rests, Broken, Astray, asks, stand, dep_next}
use Rattle.dep_link.specs.DepLinks.{DepSeen, told_end}

-- What breaks an exchange off that had more to ask: the field had been dark from the start, or memory was wanting, also
-- that of the far end.
abbrev pub BreaksOff : Bool → List Note → Result (ArrayVec ℕ) Unanswered → Type 0
BreaksOff lit ns (Err (ends.Ended FieldLost)) = (lit ≡ false) × (ns ≡ [])
BreaksOff lit ns (Err (ends.Ended Memory)) = Unit {0}
BreaksOff lit ns (Err ends.Stopped) = Unit {0}
BreaksOff lit ns (Err (ends.Ended SixBad)) = ⊥
BreaksOff lit ns (Err (ends.Ended Protocol)) = ⊥
BreaksOff lit ns (Ok reply) = ⊥

-- How an exchange ends, by where the initiator stands: by the reply; by a fault, as its table tells it, or as the field
-- is lost. Nothing else ends it but want of memory.
abbrev pub TellsPayload : Bool → List Note → Standing → InitState → Result (ArrayVec ℕ) Unanswered → Type 0
TellsPayload lit ns (Rests i reply) j result = (i ≡ j) × (result ≡ Ok (record { items = reply }))
TellsPayload lit ns (Waits i f) j result = (i ≡ j) × BreaksOff lit ns result
TellsPayload lit ns (Broken cause) j result = result ≡ Err (ends.Ended cause)
TellsPayload lit ns Astray j result = ⊥

-- an initiator that began with a payload, and its first request
pub record IsBegun (i : InitState) (out : List ℕ) (now : InitState) (sent : Signal) : Type 0 where
  pub now_is : now ≡ begun i out
  pub sent_is : sent ≡ air_frame (request (begun i out).core)

-- whether the frames that arrived since a payload was begun brought it whole
abbrev pub has_come : {L : Type 0} → DepSeen L → DepSeen L → Bool
has_come a b = brings_payload a.initiator.core.number (frames_of (arrived (drop (length a.air.trace) b.air.trace)))

-- what a link tells of an exchange that ended so
abbrev pub told_as : Result (ArrayVec ℕ) Unanswered → Bool → Result (List ℕ) LinkEnd
told_as (Ok reply) came = Ok reply.items
told_as (Err why) came = Err (told_end why came)

abbrev pub items_of : Result (Vec ℕ) LinkEnd → Result (List ℕ) LinkEnd
items_of (Ok reply) = Ok reply.items
items_of (Err e) = Err e

-- a link is over by a fault
abbrev pub over_by : Result (Vec ℕ) LinkEnd → Option EndCause
over_by (Ok reply) = None
over_by (Err e) = Some e.cause

module _ {L F : Type 0} (m : Machine L) (restarts : F → List ℕ → F → Type 0) (steps : F → List ℕ → List ℕ → F → Type 0)
    (stops : F → List ℕ → F → Type 0) (is_stuck : F → Bool) where
  -- Behind its turns nothing more happened; or the far end stopped for want of memory: a request that was due had
  -- passed, and nothing came back of it.
  abbrev pub Leaves : InitState → List ℕ → List Note → Air L → F → Air L → F → Result (ArrayVec ℕ) Unanswered → Type 0
  Leaves i out ns mid half new after (Err ends.Stopped) =
      (f : Signal) × (dep_next i out ns ≡ Asks f) × Stops m restarts steps stops is_stuck mid f half new after
  Leaves i out ns mid half new after (Err (ends.Ended cause)) = (new ≡ mid) × (after ≡ half)
  Leaves i out ns mid half new after (Ok reply) = (new ≡ mid) × (after ≡ half)

  -- From one field and far end to others: a payload was carried by the initiator's table, each request of it was due,
  -- and this is told by what was heard. Nothing more was sent.
  pub record CarriesPayload (old : Air L) (far : F) (new : Air L) (after : F) (i : InitState) (out : List ℕ)
      (j : InitState) (result : Result (ArrayVec ℕ) Unanswered) : Type 0 where
    pub notes : List Note
    pub mid : Air L
    pub half : F
    pub speaks : Speaks m restarts steps (dep_next i out) old far mid half notes
    pub tells : TellsPayload old.lit notes (stand (asks i out) notes) j result
    pub leaves : Leaves i out notes mid half new after result

  -- From one moment of a link that isn't over to another, with whatever stands in its field, a payload was carried, and
  -- this is told: by a fault the link is over then.
  pub record Swaps (a : DepSeen L) (far : F) (b : DepSeen L) (after : F) (out : List ℕ)
      (result : Result (Vec ℕ) LinkEnd) : Type 0 where
    pub ended : Result (ArrayVec ℕ) Unanswered
    pub exchange : CarriesPayload a.air far b.air after a.initiator out b.initiator ended
    pub told : items_of result ≡ told_as ended (has_come a b)
    pub over : b.over ≡ over_by result
    pub same : (b.first ≡ a.first) × (b.start ≡ a.start)

  -- what an initiator that began with a payload, and this request, does
  abbrev pub CarriesBegun : Air L → F → Air L → F → InitState → Signal → InitState → Result (ArrayVec ℕ) Unanswered
      → Type 0
  CarriesBegun old far new after begun_now sent j result =
      (i : InitState) (out : List ℕ) → IsBegun i out begun_now sent → CarriesPayload old far new after i out j result
