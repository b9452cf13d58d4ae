-- Which entries a bench may have: what it accepts, what each command changes, which request is due, and what it
-- answers. A later command adds a case to each definition.
use Rattle.std.specs.Prelude.{◌≡◌, Err, ℕ, ◌+◌, ◌*◌, ◌-◌, ◌^◌, ◌<◌, ◌≤◌, List, [], ◌∷◌, ◌++◌, length, replicate, Option}
use Rattle.std.specs.Prelude.{Some, None, IsSome, Bool, true, false, if◌then◌else◌}
use Rattle.std.specs.List.{All}
use Rattle.nfc_base.specs.declared.event.Event.{Event}
use Rattle.nfc_base.specs.declared.event.Fate.{Fate}
use Rattle.nfc_base.specs.Signal.{Signal}
use Rattle.air_core.specs.Conversation.{Note, Next, Over, receptions, replay, queue_after, AreTurns, FatesFrom, EachDue}
use Rattle.t2t_tag.specs.Store.{IsT2Store}
use Rattle.t3t_tag.specs.Store as three
use Rattle.t4t_tag.specs.Store.{IsT4Store, file_size}
use Rattle.t5t_tag.specs.Store.{IsT5Store}
use Rattle.t3t_access.specs.declared.fault.T3Fault.TheVariants as three_fault
use Rattle.bench_script.specs.declared.command.Command.{Command}
use Rattle.bench_script.specs.declared.command.Command.TheVariants.{Skip, Fates, PlaceT2, PlaceT3, PlaceT4, PlaceT5}
use Rattle.bench_script.specs.declared.command.Command.TheVariants.{PlacePeer, Lock, Busy, Offer, Remove, Dump, Inbox}
use Rattle.bench_script.specs.declared.command.Command.TheVariants.{Find, Crowd, Poll3, Read, Read3, Write, Write3}
use Rattle.bench_script.specs.declared.command.Command.TheVariants.{Link, Forge, Raw, Put, Get, Lookup, OnPut, OnGet}
use Rattle.bench_script.specs.declared.command.Command.TheVariants.{Puts, Unlink}
use Rattle.bench_script.specs.declared.command.DeviceId.{DeviceId}
use Rattle.bench_devices.specs.Crowding.{crowding}
use Rattle.bench_devices.specs.declared.device.Device.{Device}
use Rattle.bench_world.specs.declared.entry.Answer.{Answer}
use Rattle.bench_world.specs.declared.entry.Answer.TheVariants as answers
use Rattle.bench_world.specs.declared.entry.Entry.{Entry}
use Rattle.bench_devices.specs.AnyFrame.{peers_in}
use Rattle.bench_devices.specs.Device.{most_devices, new_t2, new_t3, new_t4, new_t5, new_peer, blocks_of, device_locked}
use Rattle.bench_devices.specs.Device.{may_be_busy, device_busy, is_tag, memory_in}
use Rattle.nfc_base.specs.Pieces.{most_busy, longest_extension}
use Rattle.bench_devices.specs.TagAsking.{tag_due}
use Rattle.bench_devices.specs.ThreeAsking.{three_due}
use Rattle.bench_script.specs.DeviceIds.{bytes_of, tech_for}
use Rattle.bench_script.specs.Slots.{have_own_slots}
use Rattle.bench_script.specs.declared.command.SlotPut.{SlotPut}
use Rattle.bench_script.specs.Messages.{message_of}
use Rattle.bench_devices.specs.Polling.{asks, finding_all}
use Rattle.bench_devices.specs.Sensing.{sensing}
use Rattle.bench_devices.specs.Placed.{device_with, without, with_changed, OfPlaced, IfPlaced}
use Rattle.bench_devices.specs.Keeping.{AllKeepBut}
use Rattle.tag_writer.specs.Law.{Ending, Stopped}
use Rattle.far_air.specs.FarWorld.{with_numbers}
use Rattle.bench_script.specs.declared.message.Msg.{Msg}
use Rattle.llcp_pdu.specs.General.{IsMiu}
use Rattle.llcp_conn.specs.Conn.{IsWindow}
use Rattle.snep_core.specs.Server.{IsLimit}
use Rattle.bench_world.specs.World.{FarEnd, WholeWorld, bench_air, first_world, with_listeners, with_one_more, stable}
use Rattle.bench_world.specs.declared.entry.Received.{Received}
use Rattle.bench_world.specs.Inbox.{inbox_at}
use Rattle.bench_world.specs.Peers.{Peers, no_peers, with_tag, with_peer, without_place, with_place_changed}
use Rattle.bench_world.specs.Peers.{placed_under, without_number, new_end, end_offered}
use Rattle.snep_core.specs.Server.{Received as Accepted}
use Rattle.bench_script.specs.Script.{SpellsName, longest_message, longest_payload, most_payloads, least_puts}
use Rattle.bench_script.specs.Script.{most_puts, most_frames}
use Rattle.bench_devices.specs.Opening.{linking}
use Rattle.bench_world.specs.Links.{OpenLink, ended, is_with, end_numbered, begun_if, ended_unless, with_link_if}
use Rattle.bench_world.specs.Linking.{LinkTells, link_if, own_general}
use Rattle.link_calls.specs.Asking.{LinkAsking}
use Rattle.bench_world.specs.Asked.{asked_on_link}
use Rattle.bench_world.specs.Calls.{IfLinked, IsTold, OfEnd, PeerAdds, PeerMayAdd, PeerTells, asked_behind, due_asked}
use Rattle.bench_world.specs.Calls.{due_if, told_asked, with_accepted}
use Rattle.bench_world.specs.Arriving.{ArrivesAt, ArrivesCutAt, ArrivesCutWithin, ArrivesWithin, BeginsAt}
use Rattle.bench_world.specs.Forging.{ForgeTells, forged_general, forging, opens_link}
use Rattle.bench_world.specs.Rawing.{RawTells, raw_opens, rawing}
use Rattle.bench_world.specs.Answering.{TagTells, TellsFound, TagsTell, ThreesTell, CutTag}
use Rattle.bench_world.specs.Reading.{TellsOf, ReadAsks}
use Rattle.bench_world.specs.Threes.{CutThree, KeepsStores3, ReadAsks3, TellsRead3, TellsWrite3, ThreeTells, WriteAsks3}
use Rattle.bench_world.specs.Threes.{WriteEnd3, end_told}
use Rattle.bench_world.specs.Writing.{TellsWrite, WriteAsks, KeepsStores, ending_told}
use Rattle.bench_devices.specs.Answering.{FindTells}

-- What stands between two commands: the bench's world, in which no numbers are left, the fates that are left, the peers
-- so far with their links, and the link that is open.
pub record State : Type 0 where
  pub world : WholeWorld
  pub queue : List Fate
  pub peers : Peers
  pub link : Option OpenLink

-- How many PDUs stand in each payload of an entry, from the first to the last: in those of this end, and in the replies
-- of far ends.
pub record Joins : Type 0 where
  pub own : List ℕ
  pub far : List ℕ

-- as many as fit in each
abbrev pub no_joins : Joins
no_joins = record { own = []; far = [] }

-- What a step is said for: what its command asks of its tag, and how many PDUs stand in payloads.
pub record Given : Type 0 where
  pub asked : List Signal
  pub joins : Joins

-- before the first command: no device, dark, and no fate
abbrev pub first_state : State
first_state = record { world = first_world; queue = []; peers = no_peers; link = None }

-- the memory of a new tag of so many bytes: the given ones, then zeros
abbrev pub memory_of : ℕ → List ℕ → List ℕ
memory_of size head = head ++ replicate (size - length head) 0

-- There is room for one more device, and none has this identifier.
pub record IsFree (s : State) (id : List ℕ) : Type 0 where
  pub room : length s.world.field.listeners < most_devices
  pub fresh : device_with id s.world.field.listeners ≡ None

-- A Type 2 tag may be placed: the given bytes fit, and its store is one of a tag.
pub record MayPlaceT2 (s : State) (id : List ℕ) (blocks : ℕ) (head : List ℕ) : Type 0 where
  pub free : IsFree s id
  pub fits : length head ≤ 4 * blocks
  pub store : IsT2Store (memory_of (4 * blocks) head)

-- A Type 3 tag may be placed: likewise.
pub record MayPlaceT3 (s : State) (id : List ℕ) (blocks : ℕ) (head : List ℕ) : Type 0 where
  pub free : IsFree s id
  pub fits : length head ≤ 16 * blocks
  pub store : three.IsT3Store (memory_of (16 * blocks) head)

-- A Type 4 tag may be placed: the given bytes fit into the NDEF file, which is as long as the container says, and its
-- store is one of a tag.
pub record MayPlaceT4 (s : State) (id : List ℕ) (code : ℕ) (container head : List ℕ) : Type 0 where
  pub free : IsFree s id
  pub fits : length head ≤ file_size container
  pub store : IsT4Store code container (memory_of (file_size container) head)

-- A Type 5 tag may be placed: likewise.
pub record MayPlaceT5 (s : State) (id : List ℕ) (blocks size : ℕ) (head : List ℕ) : Type 0 where
  pub free : IsFree s id
  pub fits : length head ≤ size * blocks
  pub store : IsT5Store size (memory_of (size * blocks) head)

-- A peer may be placed: its LR code is one, its MIU and receive window are those that an end may have, and its limit
-- one of a server.
pub record MayPlacePeer (s : State) (id : List ℕ) (lr miu rw most : ℕ) : Type 0 where
  pub free : IsFree s id
  pub code : lr < 4
  pub size : IsMiu miu
  pub window : IsWindow rw
  pub limit : IsLimit most

-- A link may be asked for: its MIU and receive window are those that an end may have.
pub record MayLink (miu rw : ℕ) : Type 0 where
  pub size : IsMiu miu
  pub window : IsWindow rw

-- A value may be asked for: neither it nor its key is longer than a message may be.
pub record MayGet (most : ℕ) (name : List ℕ) : Type 0 where
  pub value : most ≤ longest_message
  pub key : length name ≤ longest_message

-- a client's slots are 0 to 7
abbrev pub last_slot : ℕ
last_slot = 7

-- the slot of a client of its own, which isn't the first
abbrev pub IsOwnSlot : ℕ → Type 0
IsOwnSlot slot = (1 ≤ slot) × (slot ≤ last_slot)

-- A client of its own may put a message, and ask for a value: likewise.
pub record MayPutOn (slot : ℕ) (message : List ℕ) : Type 0 where
  pub own : IsOwnSlot slot
  pub short : length message ≤ longest_message

pub record MayGetOn (slot most : ℕ) (name : List ℕ) : Type 0 where
  pub own : IsOwnSlot slot
  pub value : most ≤ longest_message
  pub key : length name ≤ longest_message

-- what a client puts, by its slot
pub record IsSlotPut (p : SlotPut) : Type 0 where
  pub slot : p.slot ≤ last_slot
  pub short : length (message_of p.message) ≤ longest_message

-- Several clients may put at once: there are two of them at least, not too many, and no two are one.
pub record MayPuts (puts : List SlotPut) : Type 0 where
  pub some : least_puts ≤ length puts
  pub few : length puts ≤ most_puts
  pub own : have_own_slots puts ≡ true
  pub each : All IsSlotPut puts

-- a payload of a link that is written by hand has some bytes, and no more than one may have
abbrev pub IsPayload : List ℕ → Type 0
IsPayload p = (0 < length p) × (length p ≤ longest_payload)

-- Payloads may be sent over a link of their own: there are some of them, and not too many.
pub record MayForge (payloads : List (List ℕ)) : Type 0 where
  pub some : 0 < length payloads
  pub few : length payloads ≤ most_payloads
  pub each : All IsPayload payloads

-- Frames may be sent as they are: there are some of them, not too many, and each is of the device's technology; and at
-- most one peer is placed.
pub record MayRaw (s : State) (id : DeviceId) (frames : List Signal) : Type 0 where
  pub some : 0 < length frames
  pub few : length frames ≤ most_frames
  pub each : All (λ (f : Signal). f.tech ≡ tech_for id) frames
  pub one : peers_in s.world.field.listeners ≤ 1

-- a device with this identifier is placed
abbrev pub IsPlaced : State → DeviceId → Type 0
IsPlaced s id = IsSome (device_with (bytes_of id) s.world.field.listeners)

-- a tag with this identifier is placed
abbrev pub IsTagPlaced : State → DeviceId → Type 0
IsTagPlaced s id = OfPlaced (λ d. is_tag d ≡ true) (device_with (bytes_of id) s.world.field.listeners)

-- a peer with this identifier is placed
abbrev pub IsPeerPlaced : State → DeviceId → Type 0
IsPeerPlaced s id = OfPlaced (λ d. is_tag d ≡ false) (device_with (bytes_of id) s.world.field.listeners)

-- A peer may be given a value for a key: four bytes can say how long it is.
pub record MayOffer (s : State) (id : DeviceId) (value : List ℕ) : Type 0 where
  pub peer : IsPeerPlaced s id
  pub short : length value < 2 ^ 32

-- The device with this identifier has this block. Only a Type 2 or Type 5 tag has one that can be locked.
abbrev pub HasBlock : State → DeviceId → ℕ → Type 0
HasBlock s id block = OfPlaced (λ d. block < blocks_of d) (device_with (bytes_of id) s.world.field.listeners)

-- The device with this identifier is a Type 4 tag or a peer, and may ask for more time so often before an answer, and
-- by this value.
pub record MayBeBusy (s : State) (id : DeviceId) (count times : ℕ) : Type 0 where
  pub device : OfPlaced (λ d. may_be_busy d ≡ true) (device_with (bytes_of id) s.world.field.listeners)
  pub few : count ≤ most_busy
  pub long : (1 ≤ times) × (times ≤ longest_extension)

-- The conditions of a command beside its grammar, in a state. Only what is placed can be taken away, and a tag alone
-- shows what it holds, and a peer alone what it accepted.
abbrev pub Accepts : State → Command → Type 0
Accepts s Skip = Unit {0}
Accepts s (Fates fates) = Unit {0}
Accepts s (PlaceT2 id blocks head) = MayPlaceT2 s id blocks head
Accepts s (PlaceT3 id blocks head) = MayPlaceT3 s id blocks head
Accepts s (PlaceT4 id code container head) = MayPlaceT4 s id code container head
Accepts s (PlaceT5 id blocks size head) = MayPlaceT5 s id blocks size head
Accepts s (PlacePeer id lr miu rw limit) = MayPlacePeer s id lr miu rw limit
Accepts s (Lock id block) = HasBlock s id block
Accepts s (Busy id count times) = MayBeBusy s id count times
Accepts s (Offer id key value) = MayOffer s id value
Accepts s (Remove id) = IsPlaced s id
Accepts s (Dump id) = IsTagPlaced s id
Accepts s (Inbox id) = IsPeerPlaced s id
Accepts s Find = Unit {0}
Accepts s Crowd = Unit {0}
Accepts s Poll3 = Unit {0}
Accepts s (Read id) = Unit {0}
Accepts s (Read3 id) = Unit {0}
Accepts s (Write id message) = Unit {0}
Accepts s (Write3 id message) = Unit {0}
Accepts s (Link id miu window) = MayLink miu window
Accepts s (Forge id payloads) = MayForge payloads
Accepts s (Raw id frames) = MayRaw s id frames
Accepts s (Put message) = length (message_of message) ≤ longest_message
Accepts s (Get most key) = MayGet most key
Accepts s (Lookup name) = SpellsName name name
Accepts s (OnPut slot message) = MayPutOn slot (message_of message)
Accepts s (OnGet slot most key) = MayGetOn slot most key
Accepts s (Puts puts) = MayPuts puts
Accepts s Unlink = Unit {0}

-- the state with one more tag, which has no far end
abbrev pub with_device : State → Device → State
with_device s d = record {
  world = with_one_more s.world d None;
  queue = s.queue;
  peers = with_tag s.peers;
  link = s.link;
}

-- the state with one more peer, under its far end; it has the next number
abbrev pub with_peer_under : State → Device → FarEnd → State
with_peer_under s d end = record {
  world = with_one_more s.world d (Some end);
  queue = s.queue;
  peers = with_peer s.peers;
  link = s.link;
}

-- The state with the device that has an identifier taken away, and its far end with it: what stays of that is kept
-- under the peer's number.
abbrev pub without_device : State → DeviceId → State
without_device s id = record {
  world = record {
    field = record { lit = s.world.field.lit; listeners = without (bytes_of id) s.world.field.listeners };
    fars = without_place (bytes_of id) s.world.field.listeners s.world.fars;
    numbers = s.world.numbers;
  };
  queue = s.queue;
  peers = without_number (bytes_of id) s.world.field.listeners s.world.fars s.peers;
  link = s.link;
}

-- the state in which no link is open: the one that was ends here
abbrev pub unlinked : State → State
unlinked s = record { world = s.world; queue = s.queue; peers = ended s.link s.world.fars s.peers; link = None }

-- whether the open link is one to the device with an identifier
abbrev pub is_linked_to : State → DeviceId → Bool
is_linked_to s id = is_with s.link (placed_under (bytes_of id) s.world.field.listeners s.peers.numbers)

-- the state with no link to that device
abbrev pub unlinked_from : State → DeviceId → State
unlinked_from s id = record {
  world = s.world;
  queue = s.queue;
  peers = if is_linked_to s id then (unlinked s).peers else s.peers;
  link = if is_linked_to s id then None else s.link;
}

-- the state in which the device with an identifier is changed so
abbrev pub with_device_changed : State → DeviceId → (Device → Device) → State
with_device_changed s id change =
    record {
      world = with_listeners s.world (with_changed change (bytes_of id) s.world.field.listeners);
      queue = s.queue;
      peers = s.peers;
      link = s.link;
    }

-- the state in which the device with an identifier has one block more locked
abbrev pub with_locked : State → DeviceId → ℕ → State
with_locked s id block = with_device_changed s id (device_locked block)

-- the state in which the device with an identifier asks for more time so often before each answer, by this value
abbrev pub with_busy : State → DeviceId → ℕ → ℕ → State
with_busy s id count times = with_device_changed s id (device_busy count times)

-- the state in which the server of the peer with an identifier gives a key this value
abbrev pub with_offer : State → DeviceId → List ℕ → List ℕ → State
with_offer s id key value = record {
  world = record {
    field = s.world.field;
    fars = with_place_changed (end_offered key value) (bytes_of id) s.world.field.listeners s.world.fars;
    numbers = s.world.numbers;
  };
  queue = s.queue;
  peers = s.peers;
  link = s.link;
}

-- What a command itself changes, before anything is sent: fates are appended, devices are placed and taken away, a
-- block is locked, a device asks for more time from now on, and a peer's server gives a key a value. A command that
-- begins with a reset ends the open link, and so does one that takes its peer away.
abbrev pub changed : State → Command → State
changed s (Fates fates) = record { world = s.world; queue = s.queue ++ fates; peers = s.peers; link = s.link }
changed s (PlaceT2 id blocks head) = with_device s (new_t2 id (memory_of (4 * blocks) head))
changed s (PlaceT3 id blocks head) = with_device s (new_t3 id (memory_of (16 * blocks) head))
changed s (PlaceT4 id code container head) = with_device s
    (new_t4 id code container (memory_of (file_size container) head))
changed s (PlaceT5 id blocks size head) = with_device s (new_t5 id size (memory_of (size * blocks) head))
changed s (PlacePeer id lr miu rw limit) = with_peer_under s (new_peer id lr miu) (new_end miu rw limit)
changed s (Lock id block) = with_locked s id block
changed s (Busy id count times) = with_busy s id count times
changed s (Offer id key value) = with_offer s id key value
changed s (Remove id) = without_device (unlinked_from s id) id
changed s Find = unlinked s
changed s Crowd = unlinked s
changed s Poll3 = unlinked s
changed s (Read id) = unlinked s
changed s (Read3 id) = unlinked s
changed s (Write id message) = unlinked s
changed s (Write3 id message) = unlinked s
changed s (Link id miu window) = unlinked s
changed s (Forge id payloads) = unlinked s
changed s (Raw id frames) = unlinked s
changed s c = s

-- What a command asks of its tag, from the first command of the tag to the last. Only a read and a write of a placed
-- one ask anything, and nothing of a peer.
abbrev pub IsAskedBy : State → Command → List Signal → Type 0
IsAskedBy s (Read id) asked = IfPlaced (λ d. ReadAsks d asked) (asked ≡ [])
    (device_with (bytes_of id) s.world.field.listeners)
IsAskedBy s (Write id message) asked =
    IfPlaced (λ d. WriteAsks (message_of message) d asked) (asked ≡ [])
    (device_with (bytes_of id) s.world.field.listeners)
IsAskedBy s (Read3 id) asked = IfPlaced (λ d. ReadAsks3 id d asked) (asked ≡ [])
    (device_with id s.world.field.listeners)
IsAskedBy s (Write3 id message) asked =
    IfPlaced (λ d. WriteAsks3 id (message_of message) d asked) (asked ≡ []) (device_with id s.world.field.listeners)
IsAskedBy s c asked = asked ≡ []

-- What is due in a command that asks nothing on the open link, by what the reader knows. Nothing is sent but in a read,
-- a write and a search, and where a link is opened.
abbrev pub due_alone : Given → Command → List Note → Next
due_alone g Find ns = asks (finding_all ns)
due_alone g Crowd ns = crowding ns
due_alone g Poll3 ns = asks (sensing ns)
due_alone g (Read id) ns = tag_due id g.asked ns
due_alone g (Read3 id) ns = three_due id g.asked ns
due_alone g (Write3 id message) ns = three_due id g.asked ns
due_alone g (Write id message) ns = tag_due id g.asked ns
due_alone g (Link id miu window) ns = linking (DeviceId.A id) (own_general miu) ns
due_alone g (Forge id payloads) ns = forging id payloads ns
due_alone g (Raw id frames) ns = rawing id frames ns
due_alone g c ns = Over

-- what is due in a command, by what it asks on the open link; where none is open nothing is sent
abbrev pub due_by : Option LinkAsking → State → Given → Command → List Note → Next
due_by None s g c ns = due_alone g c ns
due_by (Some asked) s g c ns = due_if s.link (λ l. due_asked asked l g.joins.own ns)

abbrev pub due : State → Given → Command → List Note → Next
due s g c ns = due_by (asked_on_link c) s g c ns

-- the world that a command begins in: what it itself changes is changed, and the entry has its numbers
abbrev pub world_at_start : State → Joins → Command → WholeWorld
world_at_start s joins c = with_numbers (changed s c).world joins.far

-- the world behind what happened in a command, by these numbers: those that are left go
abbrev pub world_after : State → Joins → Command → List Event → WholeWorld
world_after s joins c events = with_numbers (replay bench_air (world_at_start s joins c) events) []

-- The link that is open behind a command, by these numbers, what happened in it, and what it answered, where it was not
-- cut off: one that the command opened; the one that it asked something on, by how that ended; and else the one before.
abbrev pub link_alone : State → Command → Option Answer → Option OpenLink
link_alone s (Link id miu window) (Some (answers.Linked n)) =
    link_if (placed_under id s.world.field.listeners s.peers.numbers) (device_with id s.world.field.listeners) miu
    window
link_alone s (Link id miu window) told = None
link_alone s c told = (changed s c).link

abbrev pub link_left : Option LinkAsking → State → Joins → Command → List Event → Option Answer → Option OpenLink
link_left None s joins c events told = link_alone s c told
link_left (Some asked) s joins c events told = asked_behind asked told s.link joins.own events

abbrev pub link_after : State → Joins → Command → List Event → Option Answer → Option OpenLink
link_after s joins c events told = link_left (asked_on_link c) s joins c events told

-- the peers behind it, with their links: one more where the command opened one, which of a `forge` and of a `raw` has
-- its end; and the one that ended has its end
abbrev pub peers_forged : Bool → State → DeviceId → List (Option FarEnd) → Peers
peers_forged false s id behind = (unlinked s).peers
peers_forged true s id behind = with_link_if (placed_under (bytes_of id) s.world.field.listeners s.peers.numbers)
    s.world.fars behind (unlinked s).peers

abbrev pub peers_alone : State → Joins → Command → List Event → Option Answer → Peers
peers_alone s joins (Link id miu window) events told =
    begun_if (link_alone s (Link id miu window) told) (unlinked s).world.fars (unlinked s).peers
peers_alone s joins (Forge id payloads) events told =
    peers_forged (opens_link id payloads events) s (DeviceId.A id) (world_after s joins (Forge id payloads) events).fars
peers_alone s joins (Raw id frames) events told = peers_forged (raw_opens id frames events) s id
    (world_after s joins (Raw id frames) events).fars
peers_alone s joins c events told = (changed s c).peers

abbrev pub peers_left : Option LinkAsking → State → Joins → Command → List Event → Option Answer → Peers
peers_left None s joins c events told = peers_alone s joins c events told
peers_left (Some asked) s joins c events told = ended_unless (link_after s joins c events told) s.link
    (world_after s joins c events).fars s.peers

abbrev pub peers_after : State → Joins → Command → List Event → Option Answer → Peers
peers_after s joins c events told = peers_left (asked_on_link c) s joins c events told

-- the state behind it
abbrev pub state_after : State → Joins → Command → List Event → Option Answer → State
state_after s joins c events told = record {
  world = world_after s joins c events;
  queue = queue_after (changed s c).queue events;
  peers = peers_after s joins c events told;
  link = link_after s joins c events told;
}

-- what a command and what happened in it leave of what stays, but for what the command itself changes
abbrev pub LeavesStable : State → Joins → Command → List Event → Type 0
LeavesStable s joins c events = stable (world_after s joins c events) ≡ stable (changed s c).world

-- A search and a read change nothing that stays.
pub record ReadLaw (s : State) (joins : Joins) (id : DeviceId) (asked : List Signal) (events : List Event)
    (answer : Answer) : Type 0 where
  pub tells : TagTells TellsOf id s.world.field.listeners asked events answer
  pub stays : LeavesStable s joins (Read id) events

pub record FindLaw (s : State) (joins : Joins) (events : List Event) (answer : Answer) : Type 0 where
  pub tells : FindTells TellsFound s.world.field.listeners events answer
  pub stays : LeavesStable s joins Find events

pub record CrowdLaw (s : State) (joins : Joins) (events : List Event) (answer : Answer) : Type 0 where
  pub tells : TagsTell s.world.field.listeners events answer
  pub stays : LeavesStable s joins Crowd events

pub record SenseLaw (s : State) (joins : Joins) (events : List Event) (answer : Answer) : Type 0 where
  pub tells : ThreesTell s.world.field.listeners events answer
  pub stays : LeavesStable s joins Poll3 events

-- A write changes the store of its tag alone, which passes such stores as the law of a write says: the one before the
-- command and the one after each event, resets and polling too. No other store, no locked block and nothing that stays
-- of a far end changes. The images of the tag's store are told by the field alone, since no far end has a part in what
-- a tag takes.
pub record StoresLaw (s : State) (joins : Joins) (id : DeviceId) (message : Msg) (ending : Ending) (events : List Event)
    : Type 0 where
  pub law : IfPlaced (λ d. KeepsStores (message_of message) d ending s.world.field events) (Unit {0})
      (device_with (bytes_of id) s.world.field.listeners)
  pub others : AllKeepBut (bytes_of id) s.world.field.listeners
      (world_after s joins (Write id message) events).field.listeners
  pub ends : (stable (world_after s joins (Write id message) events)).ends ≡ (stable s.world).ends

pub record WritingLaw (s : State) (joins : Joins) (id : DeviceId) (message : Msg) (asked : List Signal)
    (events : List Event) (answer : Answer) : Type 0 where
  pub tells : TagTells (TellsWrite (message_of message)) id s.world.field.listeners asked events answer
  pub stores : StoresLaw s joins id message (ending_told answer) events

-- Likewise of Type 3 tags. A write of one passes other stores: the one before the command, then such that say that a
-- write is under way, then such that hold the message.
pub record Read3Law (s : State) (joins : Joins) (id : List ℕ) (asked : List Signal) (events : List Event)
    (answer : Answer) : Type 0 where
  pub tells : ThreeTells TellsRead3 id s.world.field.listeners asked events answer
  pub stays : LeavesStable s joins (Read3 id) events

pub record Stores3Law (s : State) (joins : Joins) (id : List ℕ) (message : Msg) (end : WriteEnd3) (events : List Event)
    : Type 0 where
  pub law : IfPlaced (λ d. KeepsStores3 (message_of message) d end s.world.field events) (Unit {0})
      (device_with id s.world.field.listeners)
  pub others : AllKeepBut id s.world.field.listeners (world_after s joins (Write3 id message) events).field.listeners
  pub ends : (stable (world_after s joins (Write3 id message) events)).ends ≡ (stable s.world).ends

pub record Writing3Law (s : State) (joins : Joins) (id : List ℕ) (message : Msg) (asked : List Signal)
    (events : List Event) (answer : Answer) : Type 0 where
  pub tells : ThreeTells (TellsWrite3 (message_of message)) id s.world.field.listeners asked events answer
  pub stores : Stores3Law s joins id message (end_told answer) events

-- A dump tells what the device with this identifier holds.
abbrev pub DumpLaw : State → DeviceId → Answer → Type 0
DumpLaw s id answer = OfPlaced (λ d. answer ≡ answers.Store (memory_in d))
    (device_with (bytes_of id) s.world.field.listeners)

-- An inbox tells what the server of the peer with this identifier accepted, by the peer's links.
abbrev pub inbox_now : State → DeviceId → List Received
inbox_now s id =
    inbox_at s.peers.links (placed_under (bytes_of id) s.world.field.listeners s.peers.numbers)
    (placed_under (bytes_of id) s.world.field.listeners s.world.fars)

-- A link is opened, or not: nothing that stays changes. One that is open begins at its peer's end too.
pub record LinkingLaw (s : State) (joins : Joins) (id : List ℕ) (miu window : ℕ) (events : List Event) (answer : Answer)
    : Type 0 where
  pub tells : LinkTells (DeviceId.A id) s.world.field.listeners (length s.peers.links + 1) (own_general miu) events
      answer
  pub begins : IfLinked (link_after s joins (Link id miu window) events (Some answer))
      (λ l. BeginsAt l (own_general miu) s.peers.numbers s.world.fars
      (world_after s joins (Link id miu window) events).fars) (Unit {0})
  pub stays : LeavesStable s joins (Link id miu window) events
  -- where `linked` is told a link is open
  pub opens : (n : ℕ) → answer ≡ answers.Linked n → IsSome
      (link_after s joins (Link id miu window) events (Some answer))

-- the far end of a link's peer
abbrev pub peer_end_of : State → OpenLink → Option FarEnd
peer_end_of s l = end_numbered l.peer s.peers.numbers s.world.fars

-- what arrived at it in a command on the link
abbrev pub Came : State → Joins → OpenLink → Command → List Event → Answer → Type 0
Came s joins l c events answer = ArrivesAt l s.peers.numbers joins.far s.world.fars (world_after s joins c events).fars
    events (link_after s joins c events (Some answer))

-- Something is asked on the open link. It is told by where it stands, and the answer is right of the peer; the peer's
-- server accepted what that adds, and nothing else that stays changes.
pub record CallLaw (s : State) (joins : Joins) (l : OpenLink) (asked : LinkAsking) (c : Command) (events : List Event)
    (answer : Answer) : Type 0 where
  pub told : IsTold (told_asked asked l joins.own events) events answer
  pub came : Came s joins l c events answer
  pub tells : OfEnd (λ end. PeerTells asked end answer) (peer_end_of s l)
  pub more : List Accepted
  pub adds : OfEnd (λ end. PeerAdds asked end answer more) (peer_end_of s l)
  pub devices : (stable (world_after s joins c events)).devices ≡ (stable s.world).devices
  pub ends : (stable (world_after s joins c events)).ends
      ≡ with_accepted more l.peer s.peers.numbers (stable s.world).ends

-- A link was opened to the peer with an identifier, and payloads were sent over it: what arrived at its end this
-- answered, and what the payloads put its server accepted. Nothing else that stays changes.
pub record ForgeSends (s : State) (joins : Joins) (id : List ℕ) (payloads : List (List ℕ)) (events : List Event)
    : Type 0 where
  pub peer : ℕ
  pub placed : placed_under id s.world.field.listeners s.peers.numbers ≡ Some peer
  pub came : ArrivesWithin peer forged_general s.peers.numbers joins.far s.world.fars
      (world_after s joins (Forge id payloads) events).fars events
  pub more : List Accepted
  pub devices : (stable (world_after s joins (Forge id payloads) events)).devices ≡ (stable s.world).devices
  pub ends : (stable (world_after s joins (Forge id payloads) events)).ends
      ≡ with_accepted more peer s.peers.numbers (stable s.world).ends

-- where none was opened nothing that stays changes
abbrev pub ForgeLeaves : Bool → State → Joins → List ℕ → List (List ℕ) → List Event → Type 0
ForgeLeaves true s joins id payloads events = ForgeSends s joins id payloads events
ForgeLeaves false s joins id payloads events = LeavesStable s joins (Forge id payloads) events

pub record ForgeLaw (s : State) (joins : Joins) (id : List ℕ) (payloads : List (List ℕ)) (events : List Event)
    (answer : Answer) : Type 0 where
  pub tells : ForgeTells id s.world.field.listeners payloads events answer
  pub leaves : ForgeLeaves (opens_link id payloads events) s joins id payloads events

-- Frames that are sent as they are open a link to a placed peer alone. Of each frame it is told what was heard; of
-- stores and of what peers accepted nothing more is said than that the turns lead to it.
abbrev pub RawOpensPeer : State → DeviceId → List Signal → List Event → Type 0
RawOpensPeer s id frames events = raw_opens id frames events ≡ true → IsPeerPlaced s id

pub record RawLaw (s : State) (id : DeviceId) (frames : List Signal) (events : List Event) (answer : Answer)
    : Type 0 where
  pub tells : RawTells id s.world.field.listeners frames events answer
  pub opens : RawOpensPeer s id frames events

-- The law of the answers of commands that ask nothing on the open link. A line that asks for nothing has none.
abbrev pub AnswerAlone : State → Given → Command → List Event → Answer → Type 0
AnswerAlone s g (Fates fates) events answer = answer ≡ answers.Done
AnswerAlone s g (PlaceT2 id blocks head) events answer = answer ≡ answers.Done
AnswerAlone s g (PlaceT3 id blocks head) events answer = answer ≡ answers.Done
AnswerAlone s g (PlaceT4 id code container head) events answer = answer ≡ answers.Done
AnswerAlone s g (PlaceT5 id blocks size head) events answer = answer ≡ answers.Done
AnswerAlone s g (PlacePeer id lr miu rw limit) events answer = answer ≡ answers.Done
AnswerAlone s g (Lock id block) events answer = answer ≡ answers.Done
AnswerAlone s g (Busy id count times) events answer = answer ≡ answers.Done
AnswerAlone s g (Offer id key value) events answer = answer ≡ answers.Done
AnswerAlone s g (Remove id) events answer = answer ≡ answers.Done
AnswerAlone s g (Dump id) events answer = DumpLaw s id answer
AnswerAlone s g (Inbox id) events answer = answer ≡ answers.Inbox (inbox_now s id)
AnswerAlone s g Find events answer = FindLaw s g.joins events answer
AnswerAlone s g Crowd events answer = CrowdLaw s g.joins events answer
AnswerAlone s g Poll3 events answer = SenseLaw s g.joins events answer
AnswerAlone s g (Read id) events answer = ReadLaw s g.joins id g.asked events answer
AnswerAlone s g (Read3 id) events answer = Read3Law s g.joins id g.asked events answer
AnswerAlone s g (Write3 id message) events answer = Writing3Law s g.joins id message g.asked events answer
AnswerAlone s g (Write id message) events answer = WritingLaw s g.joins id message g.asked events answer
AnswerAlone s g (Link id miu window) events answer = LinkingLaw s g.joins id miu window events answer
AnswerAlone s g (Forge id payloads) events answer = ForgeLaw s g.joins id payloads events answer
AnswerAlone s g (Raw id frames) events answer = RawLaw s id frames events answer
AnswerAlone s g c events answer = ⊥

-- the law of the answers, by what a command asks on the open link; where none is open nothing is asked
abbrev pub AnswerBy : Option LinkAsking → State → Given → Command → List Event → Answer → Type 0
AnswerBy None s g c events answer = AnswerAlone s g c events answer
AnswerBy (Some asked) s g c events answer = IfLinked s.link (λ l. CallLaw s g.joins l asked c events answer)
    (answer ≡ answers.NoLink)

abbrev pub AnswerLaw : State → Given → Command → List Event → Answer → Type 0
AnswerLaw s g c events answer = AnswerBy (asked_on_link c) s g c events answer

-- The numbers that a command takes of these: any on the open link, since payloads are handed over there; those of far
-- ends where payloads or frames are written by hand, which are as they are; and none else.
abbrev pub joins_alone : Command → Joins → Joins
joins_alone (Forge id payloads) joins = record { own = []; far = joins.far }
joins_alone (Raw id frames) joins = record { own = []; far = joins.far }
joins_alone c joins = no_joins

abbrev pub joins_by : Option LinkAsking → Command → Joins → Joins
joins_by None c joins = joins_alone c joins
joins_by (Some asked) c joins = joins

abbrev pub joins_for : Command → Joins → Joins
joins_for c joins = joins_by (asked_on_link c) c joins

-- A front of a step: from this state the command is accepted, it has the numbers that it takes, and turns were made,
-- each due, by the first fates; they lead to that state, where this was told, or nothing yet. An entry is a front that
-- is over and answered; a command that was cut off leaves one.
pub record FrontOf (s : State) (g : Given) (c : Command) (events : List Event) (told : Option Answer) (t : State)
    : Type 0 where
  pub accepted : Accepts s c
  pub asks : IsAskedBy s c g.asked
  pub takes : g.joins ≡ joins_for c g.joins
  pub turns : AreTurns bench_air (world_at_start s g.joins c) events
  pub fates : FatesFrom (changed s c).queue events
  pub each : EachDue (due s g c) [] events
  pub after : t ≡ state_after s g.joins c events told

-- An entry leads from one state to another.
pub record LegalStep (s : State) (g : Given) (e : Entry) (t : State) : Type 0 where
  pub front : FrontOf s g e.command e.events (Some e.answer) t
  pub over : due s g e.command (receptions e.events) ≡ Over
  pub answered : AnswerLaw s g e.command e.events e.answer

-- what arrived at it in a command on the link that was cut off
abbrev pub CutCame : State → Joins → OpenLink → Command → List Event → Type 0
CutCame s joins l c cut = ArrivesCutAt l s.peers.numbers joins.far s.world.fars (world_after s joins c cut).fars cut

-- of what was asked on the link and cut off the peer's server accepted at most what it may add, and nothing else that
-- stays changed
pub record CutCall (s : State) (joins : Joins) (l : OpenLink) (asked : LinkAsking) (c : Command) (cut : List Event)
    : Type 0 where
  pub came : CutCame s joins l c cut
  pub more : List Accepted
  pub adds : OfEnd (λ end. PeerMayAdd asked end more) (peer_end_of s l)
  pub devices : (stable (world_after s joins c cut)).devices ≡ (stable s.world).devices
  pub ends : (stable (world_after s joins c cut)).ends ≡ with_accepted more l.peer s.peers.numbers (stable s.world).ends

-- Payloads were sent over a link of their own, and it was cut off: what arrived at its peer's end this answered, but
-- for the last payload, at which it may have stopped.
pub record ForgeCut (s : State) (joins : Joins) (id : List ℕ) (payloads : List (List ℕ)) (cut : List Event)
    : Type 0 where
  pub peer : ℕ
  pub placed : placed_under id s.world.field.listeners s.peers.numbers ≡ Some peer
  pub came : ArrivesCutWithin peer forged_general s.peers.numbers joins.far s.world.fars
      (world_after s joins (Forge id payloads) cut).fars cut
  pub more : List Accepted
  pub devices : (stable (world_after s joins (Forge id payloads) cut)).devices ≡ (stable s.world).devices
  pub ends : (stable (world_after s joins (Forge id payloads) cut)).ends
      ≡ with_accepted more peer s.peers.numbers (stable s.world).ends

abbrev pub ForgeCutLeaves : Bool → State → Joins → List ℕ → List (List ℕ) → List Event → Type 0
ForgeCutLeaves true s joins id payloads cut = ForgeCut s joins id payloads cut
ForgeCutLeaves false s joins id payloads cut = LeavesStable s joins (Forge id payloads) cut

-- What a command that was cut off leaves of what stays: the stores of a write keep its law, what was asked on the open
-- link adds what it may at most, a `raw` leaves what its turns lead to, and no other command in which something is sent
-- changed anything. A command that sends nothing is never left half done: where memory is wanting nothing of it was
-- done.
abbrev pub CutAlone : State → Joins → Command → List Event → Type 0
CutAlone s joins Find cut = LeavesStable s joins Find cut
CutAlone s joins Crowd cut = LeavesStable s joins Crowd cut
CutAlone s joins Poll3 cut = LeavesStable s joins Poll3 cut
CutAlone s joins (Read id) cut = LeavesStable s joins (Read id) cut
CutAlone s joins (Read3 id) cut = LeavesStable s joins (Read3 id) cut
CutAlone s joins (Write3 id message) cut = Stores3Law s joins id message (Err three_fault.Memory) cut
CutAlone s joins (Write id message) cut = StoresLaw s joins id message Stopped cut
CutAlone s joins (Link id miu window) cut = LeavesStable s joins (Link id miu window) cut
CutAlone s joins (Forge id payloads) cut = ForgeCutLeaves (opens_link id payloads cut) s joins id payloads cut
CutAlone s joins (Raw id frames) cut = RawOpensPeer s id frames cut
CutAlone s joins c cut = ⊥

abbrev pub CutLeft : Option LinkAsking → State → Joins → Command → List Event → Type 0
CutLeft None s joins c cut = CutAlone s joins c cut
CutLeft (Some asked) s joins c cut = IfLinked s.link (λ l. CutCall s joins l asked c cut) (LeavesStable s joins c cut)

abbrev pub CutStores : State → Joins → Command → List Event → Type 0
CutStores s joins c cut = CutLeft (asked_on_link c) s joins c cut

-- a front of a step that was cut off, where so many PDUs stand in each payload of the ends of a link
abbrev pub CutFront : Joins → State → Command → List Event → State → Type 0
CutFront joins s c cut t = (g : Given) × (g.joins ≡ joins) × FrontOf s g c cut None t × CutStores s g.joins c cut

-- a front of a step that was cut off, and of a read and a write how
abbrev pub CutFrontBy : (List Signal → Type 0) → Joins → State → Command → List Event → State → Type 0
CutFrontBy How joins s c cut t = (g : Given) × (g.joins ≡ joins) × FrontOf s g c cut None t × CutStores s g.joins c cut
    × How g.asked

abbrev pub CutShort : Joins → State → Command → List Event → State → Type 0
CutShort joins s (Read id) cut t = CutFrontBy (λ asked. CutTag id asked cut) joins s (Read id) cut t
CutShort joins s (Write id message) cut t = CutFrontBy (λ asked. CutTag id asked cut) joins s (Write id message) cut t
CutShort joins s (Read3 id) cut t = CutFrontBy (λ asked. CutThree id asked cut) joins s (Read3 id) cut t
CutShort joins s (Write3 id message) cut t = CutFrontBy (λ asked. CutThree id asked cut) joins s (Write3 id message) cut
    t
CutShort joins s c cut t = CutFront joins s c cut t

-- The entries lead from one state to another, each behind those before it, and each has what its step is said for.
abbrev pub EachLegal : State → List Given → List Entry → State → Type 0
EachLegal s [] [] t = t ≡ s
EachLegal s (g ∷ gs) (e ∷ es) t = (mid : State) × LegalStep s g e mid × EachLegal mid gs es t
EachLegal s [] (e ∷ es) t = ⊥
EachLegal s (g ∷ gs) [] t = ⊥
