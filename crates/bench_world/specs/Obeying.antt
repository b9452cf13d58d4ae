-- What obeying a command does.
use Rattle.std.specs.Prelude.{◌≡◌, ℕ, List, [], ◌∷◌, ◌++◌, map, length, get_or, slice_set, zero, suc, Bool, true, false}
use Rattle.std.specs.Prelude.{Option, Some, None, Result, IsErrOf}
use Rattle.std.specs.List.{remove}
use Rattle.nfc_base.specs.declared.event.Event.{Event}
use Rattle.air_core.specs.Turn.{Air}
use Rattle.air_core.specs.Conversation.{Over, receptions}
use Rattle.bench_world.specs.declared.bench.ObeyFault.{ObeyFault}
use Rattle.bench_world.specs.declared.bench.ObeyFault.TheVariants as faults
use Rattle.bench_script.specs.declared.command.Command.{Command}
use Rattle.bench_script.specs.declared.command.Command.TheVariants.{Skip}
use Rattle.bench_devices.specs.declared.device.Device.{Device}
use Rattle.bench_world.specs.declared.entry.Answer.{Answer}
use Rattle.bench_world.specs.declared.entry.Entry.{Entry}
use Rattle.bench_world.specs.Legal.{State, Given, Joins, Accepts, AnswerLaw, FrontOf, LegalStep, CutShort, due}
use Rattle.bench_world.specs.Legal.{first_state, no_joins}
use Rattle.bench_world.specs.Halting.{CutOff}
use Rattle.bench_devices.specs.Keeping.{AreTame, kept}
use Rattle.bench_devices.specs.Phases.{AreTidy, IsIdle}
use Rattle.bench_devices.specs.Device.{device_darkened}
use Rattle.bench_devices.specs.Device.{device_linked}
use Rattle.far_air.specs.FarEnds.{by_link}
use Rattle.far_air.specs.FarLaws.{seen}
use Rattle.peer_air.specs.PeerFars.{peer_ends}
use Rattle.bench_world.specs.World.{FarEnd}
use Rattle.bench_world.specs.Calls.{IfLinked}
use Rattle.bench_world.specs.Links.{OpenLink, ended}
use Rattle.bench_world.specs.Opened.{IsOpen, AreServed, AreNumbered}
use Rattle.bench_world.specs.Peers.{Peers, next_number, with_gone}
use Rattle.bench_world.specs.Threes.{AreWellStored}
use Rattle.bench_world.specs.Unfinished.{Unfinished}

abbrev pub obey_fault_number : ObeyFault → ℕ
obey_fault_number faults.Refused = 1
obey_fault_number faults.Memory = 2

-- The machines of a bench: the field with its devices; and above each device, at its place, its far end, and nothing
-- above a tag; the peers so far with their links; and the initiator and the client of the link that is open.
pub record Machines : Type 0 where
  pub air : Air Device
  pub ends : List (Option FarEnd)
  pub peers : Peers
  pub link : Option OpenLink

-- a field under these far ends, with these peers and this link
abbrev pub under : List (Option FarEnd) → Peers → Option OpenLink → Air Device → Machines
under ends peers link a = record { air = a; ends = ends; peers = peers; link = link }

-- The state that machines are in: a far end is whole while its device has a link, and else there is of it what stays.
abbrev pub state_at : Machines → State
state_at m =
    record {
      world = seen device_linked peer_ends (record { lit = m.air.lit; listeners = m.air.listeners }) m.ends [];
      queue = m.air.fates;
      peers = m.peers;
      link = m.link;
    }

-- whether the device at a place has a link
abbrev pub linked_at : ℕ → List Device → Bool
linked_at n [] = false
linked_at zero (d ∷ ds) = device_linked d
linked_at (suc n) (d ∷ ds) = linked_at n ds

-- This is the far end of the device at a place in this state: all of it while the device has a link, and else the state
-- has what stays of it.
abbrev pub FarAt : State → ℕ → Option FarEnd → Type 0
FarAt s place end = get_or s.world.fars place None ≡ by_link peer_ends (linked_at place s.world.field.listeners) end

-- a field is in this state, but for the far ends above it
abbrev pub FieldOf : State → Air Device → Type 0
FieldOf s a = (s.world.field ≡ record { lit = a.lit; listeners = a.listeners }) × (s.queue ≡ a.fates)

-- Each device has a place in the lists of far ends and of numbers; at that of a peer stand its far end and its number,
-- which no other has.
pub record HasPlaces (m : Machines) : Type 0 where
  pub ends : length m.ends ≡ length m.air.listeners
  pub numbers : length m.peers.numbers ≡ length m.air.listeners
  pub served : AreServed m.air.listeners m.peers.numbers m.ends
  pub apart : AreNumbered (next_number m.peers) m.peers.numbers

-- where a link is open, it stands as an open link does
abbrev pub KeepsLink : Machines → Type 0
KeepsLink m = IfLinked m.link (λ l. IsOpen m.air m.ends m.peers l) (Unit {0})

-- Between two commands the field is idle, each device has its place, and the open link stands. Each Type 3 tag has a
-- store that a new tag may have.
pub record IsSettled (m : Machines) : Type 0 where
  pub idle : IsIdle m.air
  pub stored : AreWellStored m.air.listeners
  pub places : HasPlaces m
  pub link : KeepsLink m

-- the machines, of which nothing is in the trace
abbrev pub untraced : Machines → Machines
untraced m = record {
  air = record { lit = m.air.lit; listeners = m.air.listeners; fates = m.air.fates; trace = [] };
  ends = m.ends;
  peers = m.peers;
  link = m.link;
}

-- one device more, dark, and its far end; so these are the peers now
abbrev pub put_in : Machines → Device → Option FarEnd → Peers → Machines
put_in m d end peers = record {
  air = record {
    lit = m.air.lit;
    listeners = m.air.listeners ++ device_darkened d ∷ [];
    fates = m.air.fates;
    trace = m.air.trace;
  };
  ends = m.ends ++ end ∷ [];
  peers = peers;
  link = m.link;
}

-- the machines without the device at a place, its far end and its number; what stays of the far end of a peer is kept
-- under its number
abbrev pub taken_out : Machines → ℕ → Machines
taken_out m place = record {
  air = record { lit = m.air.lit; listeners = remove m.air.listeners place; fates = m.air.fates; trace = m.air.trace };
  ends = remove m.ends place;
  peers = record {
    numbers = remove m.peers.numbers place;
    gone = with_gone (get_or m.peers.numbers place None) (get_or m.ends place None) m.peers.gone;
    links = m.peers.links;
  };
  link = m.link;
}

-- the machines with this far end at a place
abbrev pub with_end : Machines → ℕ → Option FarEnd → Machines
with_end m place end = record { air = m.air; ends = slice_set m.ends place end; peers = m.peers; link = m.link }

-- the machines with no link open: the one that was ends here
abbrev pub link_ended : Machines → Machines
link_ended m = record { air = m.air; ends = m.ends; peers = ended m.link m.ends m.peers; link = None }

-- A command is refused only where it isn't accepted in the state of the machines.
abbrev pub RefusedOnly : {X : Type 0} → Result X ObeyFault → Machines → Command → Type 0
RefusedOnly r m c = IsErrOf r faults.Refused → Accepts (state_at m) c → ⊥

-- A command was obeyed with this answer; its events are the trace. So many PDUs stand in each payload of the ends of a
-- link.
pub record ObeyedBy (joins : Joins) (old new : Machines) (c : Command) (answer : Answer) : Type 0 where
  pub given : Given
  pub joined : given.joins ≡ joins
  pub front : FrontOf (state_at old) given c new.air.trace (Some answer) (state_at new)
  pub over : due (state_at old) given c (receptions new.air.trace) ≡ Over
  pub answered : AnswerLaw (state_at old) given c new.air.trace answer
  pub tame : AreTame (map kept new.air.listeners)
  pub tidy : AreTidy new.air.listeners
  pub places : HasPlaces new
  pub link : KeepsLink new

-- ... as many as fit
abbrev pub Obeyed : Machines → Machines → Command → Answer → Type 0
Obeyed = ObeyedBy no_joins

-- ... and its entry was made, of a line with this number: its events are taken out of the field
pub record Makes (joins : Joins) (old new : Machines) (line : ℕ) (c : Command) (e : Entry) : Type 0 where
  pub ran : Machines
  pub obeyed : ObeyedBy joins old ran c e.answer
  pub numbered : e.line ≡ line
  pub asked : e.command ≡ c
  pub happened : e.events ≡ ran.air.trace
  pub left : new ≡ untraced ran

-- It was cut off by want of memory.
abbrev pub IsCutOffBy : Joins → Machines → Machines → Command → Type 0
IsCutOffBy joins old new c = CutOff joins (state_at old) c new.air.trace (state_at new)

abbrev pub IsCutOff : Machines → Machines → Command → Type 0
IsCutOff = IsCutOffBy no_joins

-- A command of the field alone has no part in far ends and links: so it is, whatever stands above the field.
abbrev pub RefusedBelow : {X : Type 0} → Result X ObeyFault → Air Device → Command → Type 0
RefusedBelow r a c = IsErrOf r faults.Refused → (ends : List (Option FarEnd)) (peers : Peers) (link : Option OpenLink)
    → Accepts (state_at (under ends peers link a)) c → ⊥

abbrev pub ObeyedBelow : Air Device → Air Device → Command → Answer → Type 0
ObeyedBelow old new c answer =
    (ends : List (Option FarEnd)) (peers : Peers) (link : Option OpenLink) → HasPlaces (under ends peers link old)
    → KeepsLink (under ends peers link old)
    → Obeyed (under ends peers link old) (under ends peers link new) c answer

-- So it is of a command that begins with a reset, once no link is open.
abbrev pub ObeyedUnlinked : Air Device → Air Device → Command → Answer → Type 0
ObeyedUnlinked old new c answer =
    (ends : List (Option FarEnd)) (peers : Peers) → HasPlaces (under ends peers None old)
    → Obeyed (under ends peers None old) (under ends peers None new) c answer

abbrev pub CutOffUnlinked : Air Device → Air Device → Command → Type 0
CutOffUnlinked old new c =
    (ends : List (Option FarEnd)) (peers : Peers) → CutShort no_joins (state_at (under ends peers None old)) c new.trace
    (state_at (under ends peers None new))

-- What contracts see of a bench: the journals of its finished runs, in order; the journal of the run that goes on; the
-- state that its machines are in; what happened in a command that want of memory cut off, since its last entry; and
-- whether that spoiled it.
pub record Benched : Type 0 where
  pub finished : List (List Entry)
  pub journal : List Entry
  pub state : State
  pub cut : List Event
  pub spoiled : Bool

-- a bench that is new, but for these finished runs
abbrev pub begun_anew : List (List Entry) → Benched
begun_anew runs = record { finished = runs; journal = []; state = first_state; cut = []; spoiled = false }

abbrev pub new_bench : Benched
new_bench = begun_anew []

-- The journal gained one entry of this line and command, and the machines are in the state that its step leads to. As
-- many PDUs as fit were joined in each payload.
pub record Adds (old new : Benched) (line : ℕ) (c : Command) : Type 0 where
  pub sound : old.spoiled ≡ false
  pub entry : Entry
  pub state : State
  pub given : Given
  pub is : new ≡ record old { journal = old.journal ++ entry ∷ []; state = state }
  pub numbered : entry.line ≡ line
  pub asked : entry.command ≡ c
  pub joined : given.joins ≡ no_joins
  pub legal : LegalStep old.state given entry state

-- What obeying a line does: it adds one entry, and none where the line asks for nothing.
abbrev pub Obeys : Benched → Benched → ℕ → Command → Type 0
Obeys old new line Skip = (old.spoiled ≡ false) × (new ≡ old)
Obeys old new line c = Adds old new line c

-- Want of memory spoiled the bench: the journal stays, and of the command there is at most a front of its step. What
-- tags hold is left as an unfinished command leaves it.
pub record Spoils (old new : Benched) (c : Command) : Type 0 where
  pub state : State
  pub cut : List Event
  pub is : new ≡ record old { state = state; cut = cut; spoiled = true }
  pub front : CutOff no_joins old.state c cut state
  pub stores : Unfinished old.state c cut state

-- ... and once it is spoiled, nothing changes
abbrev pub LacksMemory : Benched → Benched → Command → Type 0
LacksMemory old new c = (old.spoiled ≡ false → Spoils old new c) × (old.spoiled ≡ true → new ≡ old)
