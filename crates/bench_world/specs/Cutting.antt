-- Into what pieces both ends of a bench's links cut payloads, and how long these are (NFCIP-1, ISO/IEC 18092; NFC
-- Forum LLCP 1.3; that no payload is longer than 2,178 bytes is this project's own).
use Rattle.std.specs.Prelude.{ℕ, ◌≤◌, List, length, Option, IfSome}
use Rattle.std.specs.List.{AllByRecursion}
use Rattle.nfc_base.specs.declared.event.Event.{Event}
use Rattle.air_core.specs.Conversation.{replay}
use Rattle.llcp_pdu.specs.Writing.{part_bytes}
use Rattle.llcp_conn.specs.Conn.{ConnState}
use Rattle.llcp_link.specs.declared.own.OwnIs.{OwnIs}
use Rattle.llcp_link.specs.declared.own.OwnIs.TheVariants.{Open}
use Rattle.llcp_link.specs.State.{LlcState, OwnState, Queued}
use Rattle.peer_air.specs.PeerFars.{peer_ends}
use Rattle.link_numbers.specs.OwnShows.{Rested}
use Rattle.bench_script.specs.declared.command.Command.{Command}
use Rattle.bench_devices.specs.declared.device.Device.{Device}
use Rattle.bench_devices.specs.Device.{device_end}
use Rattle.bench_world.specs.declared.entry.Answer.{Answer}
use Rattle.bench_world.specs.Calls.{IfLinked}
use Rattle.bench_world.specs.Legal.{FrontOf, Given, Joins, State, world_at_start, first_state}
use Rattle.bench_world.specs.Links.{OpenLink}
use Rattle.bench_world.specs.World.{FarEnd, WholeWorld, bench_air}

-- the most content of a frame: two bytes at least, and no more than a frame has room for
abbrev pub IsPiece : ℕ → Type 0
IsPiece most = (2 ≤ most) × (most ≤ 251)

-- A payload of several PDUs for an end of this MIU is no longer than 2,178 bytes with its header of two.
abbrev pub IsShort : ℕ → Type 0
IsShort miu = miu ≤ 2176

-- a PDU that waits goes into a payload alone
abbrev pub QueuedShort : Queued → Type 0
QueuedShort q = length (part_bytes q.part) ≤ 2178

-- so does a unit
abbrev pub UnitShort : List ℕ → Type 0
UnitShort u = length u ≤ 2175

-- a connection of which each unit does: any that the other end takes, and those that wait
abbrev pub ConnShort : ConnState → Type 0
ConnShort c = (c.far_miu ≤ 2175) × AllByRecursion UnitShort c.queue

-- one that this end asked for is such a one while it is open
abbrev pub StandsShort : OwnIs → Type 0
StandsShort (Open c) = ConnShort c
StandsShort _ = Unit {0}

abbrev pub OwnShort : OwnState → Type 0
OwnShort o = StandsShort o.is

-- An end that has no payload that is longer, whatever it takes and gives: all that waits there is short.
pub record GivesShort {S : Type 0} (l : LlcState S) : Type 0 where
  pub miu : IsShort l.far_miu
  pub queue : AllByRecursion QueuedShort l.queue
  pub served : AllByRecursion ConnShort l.served
  pub own : AllByRecursion OwnShort l.own

-- a device cuts its replies so; of a tag nothing is asked
abbrev pub CutsReplies : Device → Type 0
CutsReplies d = IsPiece (device_end d).most

-- So do all devices of a world, and no far end above them has a reply that is too long.
pub record WorldCuts (w : WholeWorld) : Type 0 where
  pub targets : AllByRecursion CutsReplies w.field.listeners
  pub ends : AllByRecursion (λ (o : Option FarEnd). IfSome o GivesShort) w.fars

-- and so does the initiator of a link, as it rests; its client has no payload that is too long
pub record LinkCuts (l : OpenLink) : Type 0 where
  pub rests : Rested l.initiator.core
  pub client : GivesShort l.client

pub record CutsWell (s : State) : Type 0 where
  pub world : WorldCuts s.world
  pub link : IfLinked s.link LinkCuts (Unit {0})

-- Of such a far end each reply is short, by whatever number of PDUs, and it stays such a one.
abbrev pub RepliesShort : Type 0
RepliesShort =
    (l : FarEnd) (payload : List ℕ) (n : ℕ) → GivesShort l
    → (length (peer_ends.reply l payload n) ≤ 2178) × GivesShort (peer_ends.left l payload n)

-- It is so before the first command, and stays so through each command, whatever happens in it; ...
abbrev pub FirstCuts : Type 0
FirstCuts = CutsWell first_state

abbrev pub FrontsCut : Type 0
FrontsCut =
    (s : State) (g : Given) (c : Command) (events : List Event) (told : Option Answer) (t : State)
    → FrontOf s g c events told t → CutsWell s → CutsWell t

-- ... and in the midst of one, behind whatever events.
abbrev pub MidstCuts : Type 0
MidstCuts =
    (s : State) (joins : Joins) (c : Command) (events : List Event)
    → CutsWell s → WorldCuts (replay bench_air (world_at_start s joins c) events)
