-- What want of memory leaves of a command: nothing was done, there is a front of its step, or the end of a link's peer
-- stopped behind one, at a payload that was handed over (that an end stops so is this project's own).
use Rattle.std.specs.Prelude.{◌≡◌, ◌⊎◌, ℕ, zero, suc, get_or, List, [], ◌∷◌, ◌++◌, Option, Some, None, Bool, true}
use Rattle.nfc_base.specs.declared.event.Event.{Event}
use Rattle.nfc_base.specs.declared.event.Event.TheVariants.{Request}
use Rattle.nfc_base.specs.declared.event.Fate.TheVariants.{Pass}
use Rattle.nfc_base.specs.Signal.{Signal}
use Rattle.air_core.specs.World.{stepped_by}
use Rattle.air_core.specs.Conversation.{Asks, first_fate, later_fates, receptions}
use Rattle.bench_script.specs.declared.command.Command.{Command}
use Rattle.bench_script.specs.declared.command.Command.TheVariants.{Forge, Raw}
use Rattle.bench_script.specs.declared.command.DeviceId.{DeviceId}
use Rattle.bench_devices.specs.declared.device.Device.{Device}
use Rattle.bench_devices.specs.AnyFrame.{peer_place}
use Rattle.bench_devices.specs.Device.{devices}
use Rattle.bench_devices.specs.Beside.{TalkLeaves}
use Rattle.bench_world.specs.World.{FarEnd, stable}
use Rattle.bench_world.specs.Peers.{placed_under}
use Rattle.snep_core.specs.Server.{Received as Accepted}
use Rattle.bench_world.specs.Links.{OpenLink, ended, with_link_within}
use Rattle.link_calls.specs.Asking.{LinkAsking}
use Rattle.bench_world.specs.Asked.{IsOnLink, asked_on_link}
use Rattle.bench_world.specs.Calls.{OfEnd, PeerMayAdd, with_accepted}
use Rattle.bench_world.specs.Arriving.{ArrivesCutAt, ArrivesCutWithin}
use Rattle.bench_world.specs.Forging.{forged_general, opens_link}
use Rattle.bench_world.specs.Rawing.{raw_opens}
use Rattle.bench_world.specs.Legal.{State, Joins, Given, IsPeerPlaced, unlinked, due, peers_forged, peer_end_of}
use Rattle.bench_world.specs.Legal.{FrontOf, CutShort}

-- What a command may add at most to what the peer's server accepted, at which its end stopped.
abbrev pub HaltAdded : Option LinkAsking → FarEnd → List Accepted → Type 0
HaltAdded None end more = more ≡ []
HaltAdded (Some asked) end more = PeerMayAdd asked end more

abbrev pub HaltAdds : Command → FarEnd → List Accepted → Type 0
HaltAdds c end more = HaltAdded (asked_on_link c) end more

-- What stays where the peer's end stopped. All that stays of a device does, each beside the peer is aside still, and
-- has a link at most while it is active; the server accepted at most what the call adds, and nothing else of a far end
-- that stays changed. The open link is gone, and its range goes to what was accepted.
pub record HaltLeaves (s : State) (c : Command) (l : OpenLink) (t : State) : Type 0 where
  pub talk : (own : List ℕ) × (place : ℕ) × TalkLeaves own place s.world.field.listeners t.world.field.listeners
  pub more : List Accepted
  pub adds : OfEnd (λ end. HaltAdds c end more) (peer_end_of s l)
  pub ends : (stable t.world).ends ≡ with_accepted more l.peer s.peers.numbers (stable s.world).ends
  pub peers : t.peers ≡ ended (Some l) t.world.fars s.peers
  pub link : t.link ≡ None

-- Behind a front of a command on the link a request that was due passed, and as it handed a payload over the peer's end
-- stopped for want of memory: nothing came back.
pub record PeerHalts (joins : Joins) (s : State) (c : Command) (cut : List Event) (t : State) : Type 0 where
  pub on_link : IsOnLink c
  pub given : Given
  pub joined : given.joins ≡ joins
  pub before : List Event
  pub mid : State
  pub front : FrontOf s given c before None mid
  pub sent : Signal
  pub split : cut ≡ before ++ Request sent Pass ∷ []
  pub asked : due s given c (receptions before) ≡ Asks sent
  pub passes : first_fate mid.queue ≡ Pass
  pub lit : t.world.field.lit ≡ true
  pub queue : t.queue ≡ later_fates mid.queue
  pub on : OpenLink
  pub open_ : s.link ≡ Some on
  pub leaves : HaltLeaves s c on t
  pub came : ArrivesCutAt on s.peers.numbers given.joins.far s.world.fars t.world.fars cut

-- What stays where the end of a peer stopped to which payloads were sent over a link of their own: likewise, and that
-- link has its range.
pub record ForgeHaltLeaves (s : State) (peer : ℕ) (t : State) : Type 0 where
  pub talk : (own : List ℕ) × (place : ℕ) × TalkLeaves own place s.world.field.listeners t.world.field.listeners
  pub more : List Accepted
  pub ends : (stable t.world).ends ≡ with_accepted more peer s.peers.numbers (stable s.world).ends
  pub peers : t.peers ≡ with_link_within peer s.world.fars t.world.fars (unlinked s).peers
  pub link : t.link ≡ None

-- Behind a front in which a link was opened a request that was due passed, and as it handed a payload over the peer's
-- end stopped for want of memory: nothing came back.
pub record ForgeHalts (joins : Joins) (s : State) (c : Command) (cut : List Event) (t : State) : Type 0 where
  pub id : List ℕ
  pub payloads : List (List ℕ)
  pub command : c ≡ Forge id payloads
  pub given : Given
  pub joined : given.joins ≡ joins
  pub before : List Event
  pub mid : State
  pub front : FrontOf s given (Forge id payloads) before None mid
  pub opened : opens_link id payloads cut ≡ true
  pub sent : Signal
  pub split : cut ≡ before ++ Request sent Pass ∷ []
  pub asked : due s given (Forge id payloads) (receptions before) ≡ Asks sent
  pub passes : first_fate mid.queue ≡ Pass
  pub lit : t.world.field.lit ≡ true
  pub queue : t.queue ≡ later_fates mid.queue
  pub peer : ℕ
  pub placed : placed_under id s.world.field.listeners s.peers.numbers ≡ Some peer
  pub leaves : ForgeHaltLeaves s peer t
  pub came : ArrivesCutWithin peer forged_general s.peers.numbers given.joins.far s.world.fars t.world.fars cut

-- the devices where the end of the peer at a place stopped at a frame: those before it and it made their steps, it
-- without a reply, and those behind it didn't
abbrev pub halted_at : ℕ → Signal → List Device → List Device
halted_at place f [] = []
halted_at zero f (d ∷ ds) = stepped_by devices d f None ∷ ds
halted_at (suc place) f (d ∷ ds) = stepped_by devices d f None ∷ halted_at place f ds

-- What stays where the end of the peer stopped at a frame that was sent as it is, from a state on: each device did what
-- its step does, as far as the frame came; the peer's server accepted no less than before, and nothing else of a far
-- end that stays changed. Where the peer was activated its link has its range.
pub record RawHaltLeaves (s : State) (id : DeviceId) (opened : Bool) (mid : State) (sent : Signal) (t : State)
    : Type 0 where
  pub opens : opened ≡ true → IsPeerPlaced s id
  pub place : ℕ
  pub stands : peer_place mid.world.field.listeners ≡ Some place
  pub devices : t.world.field.listeners ≡ halted_at place sent mid.world.field.listeners
  pub peer : ℕ
  pub numbered : get_or s.peers.numbers place None ≡ Some peer
  pub more : List Accepted
  pub ends : (stable t.world).ends ≡ with_accepted more peer s.peers.numbers (stable mid.world).ends
  pub peers : t.peers ≡ peers_forged opened s id t.world.fars
  pub link : t.link ≡ None

-- Behind a front of frames that were sent as they are a request that was due passed, and as it handed a payload over
-- the peer's end stopped for want of memory: nothing came back.
pub record RawHalts (joins : Joins) (s : State) (c : Command) (cut : List Event) (t : State) : Type 0 where
  pub id : DeviceId
  pub frames : List Signal
  pub command : c ≡ Raw id frames
  pub given : Given
  pub joined : given.joins ≡ joins
  pub before : List Event
  pub mid : State
  pub front : FrontOf s given (Raw id frames) before None mid
  pub sent : Signal
  pub split : cut ≡ before ++ Request sent Pass ∷ []
  pub asked : due s given (Raw id frames) (receptions before) ≡ Asks sent
  pub passes : first_fate mid.queue ≡ Pass
  pub lit : t.world.field.lit ≡ true
  pub queue : t.queue ≡ later_fates mid.queue
  pub leaves : RawHaltLeaves s id (raw_opens id frames cut) mid sent t

-- the peer's end stopped: on the open link, or on one of payloads or frames that were written by hand
abbrev pub Halts : Joins → State → Command → List Event → State → Type 0
Halts joins s c cut t = PeerHalts joins s c cut t ⊎ (ForgeHalts joins s c cut t ⊎ RawHalts joins s c cut t)

-- What want of memory leaves of a command: nothing was done, there is a front of its step, or the peer's end stopped
-- behind one.
abbrev pub CutOff : Joins → State → Command → List Event → State → Type 0
CutOff joins s c cut t = ((cut ≡ []) × (t ≡ s)) ⊎ (CutShort joins s c cut t ⊎ Halts joins s c cut t)
