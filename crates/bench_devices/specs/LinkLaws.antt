-- What links to the bench's peers keep to: which request is due while one is opened, what talking to a peer leaves of
-- all devices, and that all of it happens so in the world with far ends (NFCIP-1, ISO/IEC 18092; who hears what is this
-- project's own).
use Rattle.std.specs.Prelude.{◌≡◌, ℕ, List, [], ◌∷◌, ◌++◌, Bool, false, Option, Some, Result, Ok, Err, true, length}
use Rattle.nfc_base.specs.Signal.{Signal, whole_a}
use Rattle.nfc_base.specs.Far.{Untouched}
use Rattle.nfc_base.specs.Choosing.{Choosing}
use Rattle.nfc_base.specs.declared.event.Heard.{Heard}
use Rattle.nfc_base.specs.declared.carrier.EndCause.{EndCause}
use Rattle.nfc_base.specs.declared.carrier.EndCause.TheVariants.{Memory}
use Rattle.nfc_base.specs.declared.carrier.LinkEnd.{LinkEnd}
use Rattle.air_core.specs.World.{World}
use Rattle.air_core.specs.Turn.{Air, moment, TurnIs}
use Rattle.air_core.specs.Conversation.{Moment, Note, Next, Over, Asks, IsDemand, Going}
use Rattle.arrayvec.specs.ArrayVec.{ArrayVec}
use Rattle.dep_link.specs.Exchange.{InStep}
use Rattle.dep_link.specs.Initiator.{InitState}
use Rattle.dep_link.specs.DepLinks.{DepSeen, Swap, Chained, IsDepReady}
use Rattle.dep_link.specs.Releasing.{Releases, TakesRls, rls_frame}
use Rattle.far_air.specs.FarEnds.{FarTable}
use Rattle.far_air.specs.FarLaws.{IsFarTable, IsOfTable}
use Rattle.far_air.specs.FarTurns.{FarGoing}
use Rattle.peer_air.specs.Aside.{AsideBut}
use Rattle.nfca_poll.specs.declared.fault.PollFault.{PollFault}
use Rattle.bench_script.specs.declared.command.DeviceId.{DeviceId}
use Rattle.bench_devices.specs.declared.device.Device.{Device}
use Rattle.bench_devices.specs.declared.polling.SeenKind.{SeenKind}
use Rattle.bench_devices.specs.declared.polling.SeenKind.TheVariants as seen
use Rattle.bench_devices.specs.Beside.{PeerAt, TalkLeaves, InStepAt}
use Rattle.bench_devices.specs.Device.{air, devices, device_id, device_end, device_linked, device_selected, is_tag}
use Rattle.bench_devices.specs.Keeping.{ghosts}
use Rattle.bench_devices.specs.Opening.{peer_next, linking, Opens}
use Rattle.bench_devices.specs.Phases.{Stands}
use Rattle.bench_devices.specs.Polling.{Told, asks, selecting}

-- What the selection asks is due first. Behind one that told a peer it is ATR_REQ; behind one that told a tag or a
-- fault it is nothing.
pub record LinkAsks : Type 0 where
  pub first : (id : DeviceId) (general : List ℕ) (ns : List Note) (n : Next) → asks (selecting id ns) ≡ n → IsDemand n
      → linking id general ns ≡ n
  pub behind : (id : DeviceId) (general : List ℕ) (kind : SeenKind) (hs ns : List Note)
      → selecting id hs ≡ Told (Ok kind) [] → linking id general (hs ++ ns) ≡ peer_next kind general ns
  pub missed : (id : DeviceId) (general : List ℕ) (e : PollFault) (hs ns : List Note)
      → selecting id hs ≡ Told (Err e) [] → linking id general (hs ++ ns) ≡ Over

-- a peer that is selected, as a selection leaves it
abbrev pub PeerStands : Type 0
PeerStands = (a : Air Device) (place : ℕ) (d : Device) → Stands (moment a) place d → is_tag d ≡ false
    → PeerAt (device_id d) place a.listeners

-- so all others are aside
abbrev pub OthersAside : Type 0
OthersAside = (own : List ℕ) (place : ℕ) (ls : List Device) → PeerAt own place ls → AsideBut ghosts own place ls

-- Swaps over a link change of every device its state alone, unless memory was wanting: also where the field was lost,
-- or six receptions were bad.
abbrev pub SwapsLeave : Type 0
SwapsLeave =
    (own : List ℕ) (place : ℕ) (a b : DepSeen Device) (swaps : List Swap) → Chained ghosts device_end swaps a b
    → (b.over ≡ Some Memory → ⊥) → PeerAt own place a.air.listeners
    → TalkLeaves own place a.air.listeners b.air.listeners

-- A link that is ready for a swap is in step with the peer at its place.
abbrev pub ReadyInStep : Type 0
ReadyInStep = (own : List ℕ) (place : ℕ) (a : DepSeen Device) → IsDepReady ghosts device_end a
    → PeerAt own place a.air.listeners → InStepAt a.air place a.initiator

-- A selected peer with a link does what its target's table says. So where one stands in the lit field, all others being
-- aside, and its end is in step with an initiator, the field is in step there.
abbrev pub LinkedInStep : Type 0
LinkedInStep =
    (a : Air Device) (place : ℕ) (own : List ℕ) (before : List Device) (l : Device) (behind : List Device)
    (i : InitState) → a.lit ≡ true → a.listeners ≡ before ++ l ∷ behind
    → length before ≡ place → PeerAt own place a.listeners → own ≡ device_id l → device_selected l ≡ true
    → device_linked l ≡ true → InStep i (device_end l)
    → InStepAt a place i

-- No device hands anything over at RLS_REQ.
abbrev pub NoneAtRls : Type 0
NoneAtRls = (l : Device) → devices.handed l rls_frame ≡ Untouched

-- Such a peer takes RLS_REQ.
abbrev pub InStepTakesRls : Type 0
InStepTakesRls = (a : Air Device) (place : ℕ) (i : InitState) → InStepAt a place i → TakesRls ghosts device_end a

module _ {A : Type 0} (restarts : A → List ℕ → A → Type 0) (steps : A → List ℕ → List ℕ → A → Type 0) where
  -- one turn, over whatever far end
  abbrev pub TurnLeaves : Type 0
  TurnLeaves =
      (own : List ℕ) (place : ℕ) (old new : Air Device) (f : Signal) (heard : Option Heard) (far after : A)
      → f ≡ whole_a f.bytes → PeerAt own place old.listeners
      → TurnIs devices restarts steps old f far heard new after → TalkLeaves own place old.listeners new.listeners

  -- the release of a link
  abbrev pub ReleaseLeaves : (A → List ℕ → A → Type 0) → (A → Bool) → Type 0
  ReleaseLeaves stops is_stuck =
      (own : List ℕ) (place : ℕ) (old new : Air Device) (far after : A) (result : Result (Unit {0}) LinkEnd)
      → PeerAt own place old.listeners
      → Releases devices restarts steps stops is_stuck old far result new after
      → TalkLeaves own place old.listeners new.listeners

  -- The opening of a link, from the selection of its peer on, is a stretch of the world with far ends at the peer's
  -- place, where its far end begins a new link as often as ATR_REQ arrives. It takes no number.
  abbrev pub OpensFar : {F : Type 0} → FarTable F → (A → Choosing F) → Type 0
  OpensFar {F} t view = IsFarTable t → IsOfTable restarts steps t view
      → (id : DeviceId) (general : List ℕ) (place : ℕ) (d : Device) (result : Result (InitState × ArrayVec ℕ) EndCause)
      (old mid new : Air Device) (far after : A) (notes : List Note)
      → Going air (λ ns. asks (selecting id ns)) (moment old) (moment mid) notes
      → selecting id notes ≡ Told (Ok seen.Peer) []
      → Stands (moment mid) place d → is_tag d ≡ false
      → (o : Opens restarts steps mid far new after general place d result) → (os : List (Option F))
      → FarGoing devices device_linked t (linking id general) (moment old) (moment new) (notes ++ o.notes) place os
      (view far) (view after)
      × ((view after).numbers ≡ (view far).numbers)

-- So is a selection alone, whatever it came to, at which no far end is asked anything.
abbrev pub SelectsFar : {F : Type 0} → FarTable F → Type 0
SelectsFar {F} t = IsFarTable t
    → (id : DeviceId) (general : List ℕ) (old new : Moment (World Device)) (notes : List Note)
    → Going air (λ ns. asks (selecting id ns)) old new notes
    → (place : ℕ) (os : List (Option F)) (far : Choosing F)
    → FarGoing devices device_linked t (linking id general) old new notes place os far far

-- What is said so in that world, in frames of whole bytes, leaves what one turn does.
abbrev pub FarLeaves : {F : Type 0} → FarTable F → Type 0
FarLeaves {F} t =
    (own : List ℕ) (place at : ℕ) (next : List Note → Next) (old new : Moment (World Device)) (notes : List Note)
    (os : List (Option F)) (far after : Choosing F)
    → ((ns : List Note) (f : Signal) → next ns ≡ Asks f → f ≡ whole_a f.bytes) → PeerAt own place old.world.listeners
    → FarGoing devices device_linked t next old new notes at os far after
    → TalkLeaves own place old.world.listeners new.world.listeners
