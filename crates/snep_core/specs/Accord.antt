-- A far end that serves as this project's server does, and what a client's end and such a far end come to between
-- calls.
use Rattle.std.specs.Prelude.{◌≡◌, ◌<◌, ◌≤◌, ◌⊎◌, ℕ, zero, suc, ◌+◌, ◌%◌, ◌==◌, ◌||◌, Bool, true, false, List, [], ◌∷◌}
use Rattle.std.specs.Prelude.{◌++◌, length, Option, IfSome, Some, None, is_some, if◌then◌else◌}
use Rattle.nfc_base.specs.Choosing.{Choosing}
use Rattle.llcp_pdu.specs.General.{IsMiu}
use Rattle.llcp_pdu.specs.Wire.{least_miu}
use Rattle.llcp_conn.specs.Conn.{ConnState, IsSap, IsWindow, modulus}
use Rattle.llcp_link.specs.State.{LlcState, OwnState, conn_from, restarted}
use Rattle.llcp_link.specs.Opened.{opened}
use Rattle.llcp_link.specs.Asking.{is_there}
use Rattle.llcp_link.specs.Names.{found, is_bound}
use Rattle.llcp_link.specs.Taking.{Item, brought, steps, taken_from}
use Rattle.llcp_link.specs.Giving.{given, after_giving}
use Rattle.llcp_link.specs.Answering.{Answers, Stops}
use Rattle.llcp_link.specs.Counting.{AnswersCounted, StopsCounted}
use Rattle.snep_core.specs.declared.fault.SnepFault.{SnepFault}
use Rattle.snep_core.specs.declared.fault.SnepFault.TheVariants.{BadPeer, Excess, LinkEnded, Memory, NotFound}
use Rattle.snep_core.specs.declared.fault.SnepFault.TheVariants.{NotImplemented, Reject, SlotBusy}
use Rattle.snep_core.specs.Server.{Received, ServerState, serving, session_of}
use Rattle.snep_core.specs.Session.{Offer, fresh_session, value_of}
use Rattle.nfc_base.specs.declared.carrier.EndCause.{EndCause}
use Rattle.snep_core.specs.declared.job.Refusal.TheVariants as refusals
use Rattle.snep_core.specs.Calling.{fault_of}
use Rattle.snep_core.specs.Jobs.{Done, Ending, Over, Refused}
use Rattle.snep_core.specs.Payloads.{accepted_from}
use Rattle.snep_core.specs.Slots.{NoMessage, Rejected, Slot, Staged, Success, is_staged_at, job_from, slot_at}
use Rattle.snep_core.specs.Slots.{slot_count}
use Rattle.snep_core.specs.Talk.{EndState, OnSap, client_sap, own_of, sap_of_slot, saps, server_sap, silent}

abbrev pub PeerState : Type 0
PeerState = LlcState ServerState

-- A step: the payload is taken by the server's table, and the reply has some number of PDUs.
pub record PeerSteps (old : PeerState) (payload reply : List ℕ) (new : PeerState) : Type 0 where
  pub count : ℕ
  pub reply_is : reply ≡ given serving count (taken_from serving old payload)
  pub left : new ≡ after_giving serving count (taken_from serving old payload)

-- A step that want of memory left unfinished: what is accepted is what some first of the payload's PDUs bring.
pub record PeerStops (old : PeerState) (payload : List ℕ) (new : PeerState) : Type 0 where
  pub front : List Item
  pub behind : List Item
  pub split : brought old payload ≡ front ++ behind
  pub accepted : new.service.accepted ≡ (steps serving old front).service.accepted

-- In this view a far end is a peer: its steps are those of an end with a server.
pub record IsPeer {A : Type 0} (steps : A → List ℕ → List ℕ → A → Type 0) (stops : A → List ℕ → A → Type 0)
    (view : A → PeerState) : Type 0 where
  pub steps_so : (a : A) (payload reply : List ℕ) (b : A) → steps a payload reply b
      → PeerSteps (view a) payload reply (view b)
  pub stops_so : (a : A) (payload : List ℕ) (b : A) → stops a payload b → PeerStops (view a) payload (view b)

-- A connection between them, on which no PDU is on the way: what each end takes in a unit, and how many units; the
-- client's units that the server took and didn't acknowledge, and the server's that the client took and didn't; the
-- numbers of those before them, and how many of these there were.
pub record Numbers : Type 0 where
  pub client_miu : ℕ
  pub client_window : ℕ
  pub server_miu : ℕ
  pub server_window : ℕ
  pub asked : List (List ℕ)
  pub told : List (List ℕ)
  pub asked_sa : ℕ
  pub told_sa : ℕ
  pub asked_count : ℕ
  pub told_count : ℕ

abbrev pub is_some_of : List (List ℕ) → Bool
is_some_of [] = false
is_some_of (u ∷ us) = true

-- the client's end of it, from a SAP, with these units still to give
abbrev pub client_conn : ℕ → Numbers → List (List ℕ) → ConnState
client_conn sap n queue = record {
  here = sap;
  there = server_sap;
  near_miu = n.client_miu;
  far_miu = n.server_miu;
  window = n.server_window;
  queue = queue;
  flight = n.asked;
  vsa = n.asked_sa;
  vr = (n.told_sa + length n.told) % modulus;
  vra = n.told_sa;
  owed = is_some_of n.told;
  held = false;
  live = true;
  acked = n.asked_count;
}

-- the server's end of it
abbrev pub server_conn : ℕ → Numbers → ConnState
server_conn sap n = record {
  here = server_sap;
  there = sap;
  near_miu = n.server_miu;
  far_miu = n.client_miu;
  window = n.client_window;
  queue = [];
  flight = n.told;
  vsa = n.told_sa;
  vr = (n.asked_sa + length n.asked) % modulus;
  vra = n.asked_sa;
  owed = is_some_of n.asked;
  held = false;
  live = true;
  acked = n.told_count;
}

-- the numbers are in range, with so many units still to give
pub record IsPaired (n : Numbers) (waiting : ℕ) : Type 0 where
  pub client_miu : IsMiu n.client_miu
  pub server_miu : IsMiu n.server_miu
  pub client_window : IsWindow n.client_window
  pub server_window : IsWindow n.server_window
  pub asked : length n.asked + waiting ≤ n.server_window
  pub told : length n.told ≤ n.client_window
  pub asked_sa : n.asked_sa < modulus
  pub told_sa : n.told_sa < modulus

-- The SAPs from which a client's connections are: eight of them.
abbrev pub last_sap : ℕ
last_sap = 39

abbrev pub most_clients : ℕ
most_clients = 8

abbrev pub IsClientSap : ℕ → Type 0
IsClientSap sap = (client_sap ≤ sap) × (sap ≤ last_sap)

-- how many of so many SAPs, from one on, are so
abbrev pub how_many : ℕ → ℕ → (ℕ → Bool) → ℕ
how_many zero sap is_so = 0
how_many (suc n) sap is_so = (if is_so sap then 1 else 0) + how_many n (sap + 1) is_so

-- how many of a client's SAPs have one of these connections
abbrev pub clients_in : List ConnState → ℕ
clients_in conns = how_many most_clients client_sap (λ sap. is_some (conn_from sap conns))

-- there is no connection from a SAP, or one that is over, of which no unit is left
abbrev pub IsOver : Option OwnState → Type 0
IsOver None = Unit {0}
IsOver (Some o) = (is_there o.is ≡ false) × (o.units ≡ [])

-- the ends have no connection from this SAP
pub record IsApart (sap : ℕ) (client : EndState) (peer : PeerState) : Type 0 where
  pub own : IsOver (own_of sap client)
  pub served : conn_from sap peer.served ≡ None

-- nothing is under way on the connection from this SAP, the server awaits a request there, and owes no acknowledgement
pub record IsJoined (sap : ℕ) (client : EndState) (peer : PeerState) : Type 0 where
  pub range : IsClientSap sap
  pub numbers : Numbers
  pub paired : IsPaired numbers 0
  pub settled : numbers.asked ≡ []
  pub own : own_of sap client ≡ Some (opened sap server_sap (client_conn sap numbers []) [])
  pub served : conn_from sap peer.served ≡ Some (server_conn sap numbers)
  pub session : session_of peer.service sap ≡ fresh_session

-- nothing else is under way at either end, and the peer has no connection but one for each of these SAPs at most
pub record IsCalm (client : EndState) (peer : PeerState) : Type 0 where
  pub client_readable : client.readable ≡ true
  pub client_queue : client.queue ≡ []
  pub client_served : client.served ≡ []
  pub peer_readable : peer.readable ≡ true
  pub peer_queue : peer.queue ≡ []
  pub peer_own : peer.own ≡ []
  pub no_other : length peer.served ≡ clients_in peer.served

-- an end's MIU, window and mark are in range
pub record IsFair {S : Type 0} (l : LlcState S) : Type 0 where
  pub miu : IsMiu l.miu
  pub window : IsWindow l.window
  pub last : IfSome l.last IsSap

-- a peer has a session for each of a client's SAPs, its server is bound to its own, and the client's MIU on the link is
-- one that can be said
pub record IsServing (peer : PeerState) : Type 0 where
  pub seats : last_sap < length peer.service.sessions
  pub bound : is_bound server_sap peer.bound ≡ true
  pub far_miu : least_miu ≤ peer.far_miu

-- What a client's end and a peer come to between calls: of each SAP they are apart, or joined.
pub record Accords (client : EndState) (peer : PeerState) : Type 0 where
  pub client_fair : IsFair client
  pub peer_fair : IsFair peer
  pub peer_serving : IsServing peer
  pub calm : IsCalm client peer
  pub stands : (sap : ℕ) → IsApart sap client peer ⊎ IsJoined sap client peer

-- What is said of a call where its client's end and its far end are so: it holds of each view in which the far end is a
-- peer, and with which the client accords.
abbrev pub AtPeers : {A : Type 0} → (A → List ℕ → List ℕ → A → Type 0) → (A → List ℕ → A → Type 0) → EndState → A
    → ((A → PeerState) → Type 0) → Type 0
AtPeers steps stops client far says = (view : _ → PeerState) → IsPeer steps stops view → Accords client (view far)
    → says view

-- Both ends of a link as it begins: each was restarted with general bytes of the other that it could read.
pub record IsBegun (client : EndState) (peer : PeerState) : Type 0 where
  pub client_before : EndState
  pub client_general : List ℕ
  pub client_is : client ≡ restarted silent client_before client_general
  pub client_readable : client.readable ≡ true
  pub client_miu : IsMiu client.miu
  pub client_window : IsWindow client.window
  pub peer_before : PeerState
  pub peer_general : List ℕ
  pub peer_is : peer ≡ restarted serving peer_before peer_general
  pub peer_readable : peer.readable ≡ true
  pub peer_miu : IsMiu peer.miu
  pub peer_window : IsWindow peer.window
  pub bound : is_bound server_sap peer.bound ≡ true

-- a message that a peer accepted from a SAP of the client, and from its first
abbrev pub from_sap : ℕ → List ℕ → Received
from_sap sap m = record { source = sap; message = m }

abbrev pub from_client : List ℕ → Received
from_client m = from_sap client_sap m

-- at each SAP the peer has a connection where it had one
abbrev pub AllStay : PeerState → PeerState → Type 0
AllStay old new = (sap : ℕ) → is_some (conn_from sap new.served) ≡ is_some (conn_from sap old.served)

-- and at each but this one
abbrev pub OthersStay : ℕ → PeerState → PeerState → Type 0
OthersStay sap old new =
    (other : ℕ) → (sap == other) ≡ false → is_some (conn_from other new.served) ≡ is_some (conn_from other old.served)

-- A request that was answered, on the connection from a SAP: the peer's limit, its table for get, its names and the
-- connections from other SAPs are as before, and client and peer accord again.
pub record IsAnswered (sap : ℕ) (old : PeerState) (client : EndState) (new : PeerState) : Type 0 where
  pub limit : new.service.limit ≡ old.service.limit
  pub table : new.service.table ≡ old.service.table
  pub bound : new.bound ≡ old.bound
  pub others : OthersStay sap old new
  pub accords : Accords client new

-- A put that was told to be taken: the peer accepted its message, once, from its SAP, and it is within the limit.
pub record IsTaken (sap : ℕ) (m : List ℕ) (old : PeerState) (client : EndState) (new : PeerState) : Type 0 where
  pub within : length m ≤ old.service.limit
  pub accepted : new.service.accepted ≡ old.service.accepted ++ from_sap sap m ∷ []
  pub answered : IsAnswered sap old client new

-- A message or a key that was rejected: it is longer than the limit, and nothing was accepted.
pub record IsRejected (sap : ℕ) (m : List ℕ) (old : PeerState) (client : EndState) (new : PeerState) : Type 0 where
  pub beyond : old.service.limit < length m
  pub accepted : new.service.accepted ≡ old.service.accepted
  pub answered : IsAnswered sap old client new

-- nothing was accepted, or the message once, from its SAP, which is within the limit
abbrev pub AddsAtMost : ℕ → List ℕ → PeerState → PeerState → Type 0
AddsAtMost sap m old new =
    (new.service.accepted ≡ old.service.accepted)
    ⊎ ((new.service.accepted ≡ old.service.accepted ++ from_sap sap m ∷ []) × (length m ≤ old.service.limit))

-- a put on the connection from a SAP that failed so
abbrev pub PutFails : ℕ → List ℕ → PeerState → SnepFault → EndState → PeerState → Type 0
PutFails sap m old Reject client new = IsRejected sap m old client new
PutFails sap m old NotFound client new = ⊥
PutFails sap m old Excess client new = ⊥
PutFails sap m old NotImplemented client new = ⊥
PutFails sap m old (LinkEnded c) client new = AddsAtMost sap m old new
PutFails sap m old Memory client new = AddsAtMost sap m old new
PutFails sap m old BadPeer client new = ⊥
PutFails sap m old SlotBusy client new = ⊥

-- A value that was told, of at most so many bytes: it is the one that the peer's table has under the key, and nothing
-- was accepted.
pub record IsGot (sap most : ℕ) (key value : List ℕ) (old : PeerState) (client : EndState) (new : PeerState)
    : Type 0 where
  pub within : length key ≤ old.service.limit
  pub found : value_of key old.service.table ≡ Some value
  pub few : length value ≤ most
  pub accepted : new.service.accepted ≡ old.service.accepted
  pub answered : IsAnswered sap old client new

-- why a table refuses a get that takes a value of at most so many bytes: it is empty; else it hasn't the key; else the
-- value is longer
abbrev pub RefusesGet : List Offer → ℕ → List ℕ → SnepFault → Type 0
RefusesGet table most key NotImplemented = table ≡ []
RefusesGet table most key NotFound = (0 < length table) × (value_of key table ≡ None)
RefusesGet table most key Excess = (value : List ℕ) × (value_of key table ≡ Some value) × (most < length value)
RefusesGet table most key _ = ⊥

-- A get that was refused so: its key is within the limit, and nothing was accepted.
pub record IsRefusedBy (why : SnepFault) (sap most : ℕ) (key : List ℕ) (old : PeerState) (client : EndState)
    (new : PeerState) : Type 0 where
  pub within : length key ≤ old.service.limit
  pub refuses : RefusesGet old.service.table most key why
  pub accepted : new.service.accepted ≡ old.service.accepted
  pub answered : IsAnswered sap old client new

-- a get on the connection from a SAP that failed so
abbrev pub GetFails : ℕ → ℕ → List ℕ → PeerState → SnepFault → EndState → PeerState → Type 0
GetFails sap most key old Reject client new = IsRejected sap key old client new
GetFails sap most key old NotFound client new = IsRefusedBy NotFound sap most key old client new
GetFails sap most key old Excess client new = IsRefusedBy Excess sap most key old client new
GetFails sap most key old NotImplemented client new = IsRefusedBy NotImplemented sap most key old client new
GetFails sap most key old (LinkEnded c) client new = new.service.accepted ≡ old.service.accepted
GetFails sap most key old Memory client new = new.service.accepted ≡ old.service.accepted
GetFails sap most key old BadPeer client new = ⊥
GetFails sap most key old SlotBusy client new = ⊥

-- A call that puts nothing: the peer's service and its names are as before, and client and peer accord again.
pub record IsAside (old : PeerState) (client : EndState) (new : PeerState) : Type 0 where
  pub service : new.service ≡ old.service
  pub bound : new.bound ≡ old.bound
  pub accords : Accords client new

-- A lookup that was told: the SAP is the one to which the peer's end has the name bound, 1 that of service discovery, 0
-- where it has none. No connection begins or ends.
pub record IsFound (name : List ℕ) (old : PeerState) (sap : ℕ) (client : EndState) (new : PeerState) : Type 0 where
  pub told : sap ≡ found old.bound name
  pub all : AllStay old new
  pub aside : IsAside old client new

-- All connections were ended: there is none at either end.
pub record IsClosed (old : PeerState) (client : EndState) (new : PeerState) : Type 0 where
  pub apart : (sap : ℕ) → IsApart sap client new
  pub aside : IsAside old client new

-- a call that puts nothing, and failed so: by the link or by want of memory
abbrev pub AsideFails : PeerState → SnepFault → PeerState → Type 0
AsideFails old (LinkEnded c) new = new.service.accepted ≡ old.service.accepted
AsideFails old Memory new = new.service.accepted ≡ old.service.accepted
AsideFails old _ new = ⊥

-- one of these SAPs
abbrev pub is_in : ℕ → List ℕ → Bool
is_in s [] = false
is_in s (t ∷ ts) = (t == s) || is_in s ts

-- From a SAP nothing more was accepted, or this message once, which is within the limit.
abbrev pub AddsFrom : ℕ → List ℕ → PeerState → List Received → Type 0
AddsFrom sap m old now =
    (accepted_from sap now ≡ accepted_from sap old.service.accepted)
    ⊎ ((accepted_from sap now ≡ accepted_from sap old.service.accepted ++ m ∷ []) × (length m ≤ old.service.limit))

-- it was accepted, once; it is beyond the limit, and wasn't
abbrev pub WasAdded : ℕ → List ℕ → PeerState → List Received → Type 0
WasAdded sap m old now =
    (length m ≤ old.service.limit) × (accepted_from sap now ≡ accepted_from sap old.service.accepted ++ m ∷ [])

abbrev pub WasRejected : ℕ → List ℕ → PeerState → List Received → Type 0
WasRejected sap m old now = (old.service.limit < length m)
    × (accepted_from sap now ≡ accepted_from sap old.service.accepted)

-- How a put from a SAP ended: its message was accepted; or rejected.
abbrev pub EndedFrom : ℕ → List ℕ → PeerState → Ending → List Received → Type 0
EndedFrom sap m old e now =
    ((e ≡ Done) × WasAdded sap m old now) ⊎ ((e ≡ Refused refusals.Reject) × WasRejected sap m old now)

-- Messages put at once, each from a SAP of its own: from each of these SAPs nothing was added, or its message once;
-- from the others nothing, and nothing was taken away. So what was added is a shuffle of messages that were put.
abbrev pub AllAdd : List ℕ → (ℕ → List ℕ) → PeerState → List Received → Type 0
AllAdd ours message old now =
    ((s : ℕ) → is_in s ours ≡ true → AddsFrom s (message s) old now)
    × ((s : ℕ) → is_in s ours ≡ false → accepted_from s now ≡ accepted_from s old.service.accepted)
    × ((more : List Received) × (now ≡ old.service.accepted ++ more))

-- All were answered: each put came to what it should, and client and peer accord again.
pub record PutsEnded (ours : List ℕ) (message : ℕ → List ℕ) (old : PeerState) (jobs : List OnSap) (client : EndState)
    (new : PeerState) : Type 0 where
  pub saps_are : saps jobs ≡ ours
  pub each : (s : ℕ) → is_in s ours ≡ true
      → (e : Ending) × (job_from s jobs ≡ Some (Over e)) × EndedFrom s (message s) old e new.service.accepted
  pub adds : AllAdd ours message old new.service.accepted
  pub limit : new.service.limit ≡ old.service.limit
  pub table : new.service.table ≡ old.service.table
  pub bound : new.bound ≡ old.bound
  pub others : (s : ℕ) → is_in s ours ≡ false → is_some (conn_from s new.served) ≡ is_some (conn_from s old.served)
  pub accords : Accords client new

-- The call broke off as its jobs stood so: the far end is never given up, and what was answered before came to what it
-- should.
pub record PutsFailed (ours : List ℕ) (message : ℕ → List ℕ) (old : PeerState) (jobs : List OnSap) (e : SnepFault)
    (new : PeerState) : Type 0 where
  pub why : EndCause
  pub fault : e ≡ fault_of why
  pub saps_are : saps jobs ≡ ours
  pub each : (s : ℕ) → is_in s ours ≡ true
      → (end : Ending) → job_from s jobs ≡ Some (Over end) → EndedFrom s (message s) old end new.service.accepted
  pub adds : AllAdd ours message old new.service.accepted

-- What a slot tells of the message that waited there is so: it was added; it wasn't, and is beyond the limit; or it
-- waits still.
abbrev pub TellsOf : Slot → ℕ → List ℕ → PeerState → List Received → Type 0
TellsOf Success sap m old now = WasAdded sap m old now
TellsOf Rejected sap m old now = WasRejected sap m old now
TellsOf (Staged n) sap m old now = (n ≡ m) × AddsFrom sap m old now
TellsOf NoMessage sap m old now = ⊥

-- Where none waited, the slot is as it was, and nothing was added from its SAP.
abbrev pub SlotTells : ℕ → Slot → Slot → PeerState → List Received → Type 0
SlotTells sap (Staged m) told old now = TellsOf told sap m old now
SlotTells sap before told old now = (told ≡ before) × (accepted_from sap now ≡ accepted_from sap old.service.accepted)

-- What a run adds: of each slot's SAP nothing, or once the message that waited there, as its slot then tells; from no
-- other SAP anything, and nothing is taken away.
pub record RunAdds (slots told : List Slot) (old new : PeerState) : Type 0 where
  pub each : (k : ℕ) → k < slot_count → SlotTells (sap_of_slot k) (slot_at slots k) (slot_at told k) old
      new.service.accepted
  pub others : (s : ℕ) → (IsClientSap s → ⊥) → accepted_from s new.service.accepted
      ≡ accepted_from s old.service.accepted
  pub more : List Received
  pub grew : new.service.accepted ≡ old.service.accepted ++ more

-- A run over a peer: all was answered, the connections of slots where no message waited stay, and client and peer
-- accord again.
pub record IsRun (slots told : List Slot) (old : PeerState) (client : EndState) (new : PeerState) : Type 0 where
  pub adds : RunAdds slots told old new
  pub limit : new.service.limit ≡ old.service.limit
  pub table : new.service.table ≡ old.service.table
  pub bound : new.bound ≡ old.bound
  pub others : (k : ℕ) → k < slot_count → is_staged_at slots k ≡ false
      → is_some (conn_from (sap_of_slot k) new.served) ≡ is_some (conn_from (sap_of_slot k) old.served)
  pub accords : Accords client new

-- A run that failed: by the link or by want of memory.
abbrev pub RunFails : List Slot → List Slot → PeerState → SnepFault → PeerState → Type 0
RunFails slots told old (LinkEnded c) new = RunAdds slots told old new
RunFails slots told old Memory new = RunAdds slots told old new
RunFails slots told old _ new = ⊥

-- An end with this project's server is a peer, as it is; and so is one whose payloads have given numbers of PDUs.
abbrev pub PeersServe : Type 0
PeersServe = IsPeer (Answers serving 0) (Stops serving) (λ (p : PeerState). p)

abbrev pub CountedServe : Type 0
CountedServe = IsPeer (AnswersCounted serving) (StopsCounted serving) (λ (p : Choosing PeerState). p.end)

-- A client accords with a peer whatever the peer's table for get is.
abbrev pub OffersAccord : Type 0
OffersAccord =
    (client : EndState) (peer : PeerState) (table : List Offer) → Accords client peer
    → Accords client (record peer { service = record peer.service { table = table } })
