-- What is given of an end, where its length is within what is left.
use Rattle.std.specs.Prelude.{◌≡◌, ◌<◌, ◌≤◌, ◌⊎◌, ℕ, ◌+◌, List, [], ◌∷◌, ◌++◌, length, true, false, Option, Some, None}
use Rattle.std.specs.Prelude.{option_map, if◌then◌else◌}
use Rattle.llcp_pdu.specs.declared.part.Part.{Part}
use Rattle.llcp_pdu.specs.declared.part.Part.TheVariants.{Info, Rr}
use Rattle.llcp_pdu.specs.Writing.{inner_bytes}
use Rattle.llcp_conn.specs.Conn.{ConnState, vs}
use Rattle.llcp_link.specs.State.{LlcState, OwnState, Queued, conn_from, with_conn}
use Rattle.llcp_link.specs.Own.{OwnGave}
use Rattle.llcp_link.specs.Kept.{IsSent, IsServed}
use Rattle.llcp_link.specs.Giving.{Gave, may_send}
use Rattle.llcp_link.specs.Halting.{LeavesService}
use Rattle.llcp_link.specs.Places.{IsPlace}
use Rattle.llcp_link.specs.Serving.{Serving}
use Rattle.llcp_link.specs.declared.giving.Next.{Next}
use Rattle.llcp_link.specs.declared.giving.Next.TheVariants.{Given, Nothing, TooLong}

-- Any PDU in an AGF has at most so many bytes.
abbrev pub most_inner : ℕ
most_inner = 2180

-- a PDU is due, and has more bytes in an AGF than are left
abbrev pub IsLonger : ℕ → Option Part → Type 0
IsLonger room None = ⊥
IsLonger room (Some p) = (room < length (inner_bytes p)) × (length (inner_bytes p) ≤ most_inner)

abbrev pub part_of : {S : Type 0} → Option (Gave S) → Option Part
part_of due = option_map (λ g. g.part) due

-- This PDU is due, or none, and so it was given; or it is longer than what is left, and nothing was done. It is told
-- with what is left behind it: of an end, or of one connection.
abbrev pub TriedBy : {A : Type 0} → {G : Type 0} → (A → Part → G) → (G → Part) → ℕ → Option G → A → A → Next → Type 0
TriedBy gave part room due old new Nothing = (due ≡ None) × (new ≡ old)
TriedBy gave part room due old new (Given p) = (due ≡ Some (gave new p)) × IsSent p × (length (inner_bytes p) ≤ room)
TriedBy gave part room due old new TooLong = (new ≡ old) × IsLonger room (option_map part due)

abbrev pub Tried : {S : Type 0} → ℕ → Option (Gave S) → LlcState S → LlcState S → Next → Type 0
Tried room due old new next = TriedBy (λ l p. record { llc = l; part = p }) (λ g. g.part) room due old new next

abbrev pub OwnTried : ℕ → Option OwnGave → OwnState → OwnState → Next → Type 0
OwnTried room due old new next = TriedBy (λ o p. record { own = o; part = p }) (λ g. g.part) room due old new next

-- a connection that was asked of this end, once it gave a unit as an I PDU
abbrev pub sent_on : ConnState → List ℕ → ConnState
sent_on c u = record c { queue = []; flight = c.flight ++ u ∷ []; vra = c.vr; owed = false }

abbrev pub info_of : ConnState → List ℕ → Part
info_of c u = Info c.there c.here (vs c) c.vr u

-- once it gave an acknowledgement
abbrev pub behind_ack : ConnState → ConnState
behind_ack c = record c { vra = c.vr; owed = false }

-- the oldest PDU that waits
abbrev pub queued_first : {S : Type 0} → LlcState S → List Queued → Option (Gave S)
queued_first l [] = None
queued_first l (q ∷ qs) = Some (record { llc = record l { queue = qs }; part = q.part })

-- the client's connection, where its window allows an I PDU
abbrev pub allowed : Option ConnState → Option ConnState
allowed None = None
allowed (Some c) = if may_send c then Some c else None

-- it stands at this place, and its client takes so many bytes
pub record Sends (s : ℕ) (cs : List ConnState) (place most : ℕ) : Type 0 where
  pub at : IsPlace s cs place
  pub found : conn_from s cs ≡ Some at.conn
  pub open_ : may_send at.conn ≡ true
  pub there : at.conn.there ≡ s
  pub served : IsServed at.conn
  pub miu : at.conn.far_miu ≡ most
  pub few : most ≤ 2175

abbrev pub IsSender : ℕ → List ConnState → Option (ℕ × ℕ) → Type 0
IsSender s cs None = allowed (conn_from s cs) ≡ None
IsSender s cs (Some (place, most)) = Sends s cs place most

-- a client's connection gave a unit
pub record SentBy (s most : ℕ) (u : List ℕ) (old : List ConnState) (p : Part) (new : List ConnState) : Type 0 where
  pub conn : ConnState
  pub found : conn_from s old ≡ Some conn
  pub open_ : may_send conn ≡ true
  pub miu : conn.far_miu ≡ most
  pub there : conn.there ≡ s
  pub served : IsServed conn
  pub part : p ≡ info_of conn u
  pub left : new ≡ with_conn (sent_on conn u) old
  pub sent : IsSent p
  pub size : length (inner_bytes p) ≡ 5 + length u

-- the client's connection, where it owes an acknowledgement
abbrev pub owing : Option ConnState → Option ConnState
owing None = None
owing (Some c) = if c.owed then Some c else None

pub record Owes (s : ℕ) (cs : List ConnState) (place : ℕ) : Type 0 where
  pub at : IsPlace s cs place
  pub owed : at.conn.owed ≡ true

abbrev pub IsOwer : ℕ → List ConnState → Option ℕ → Type 0
IsOwer s cs None = owing (conn_from s cs) ≡ None
IsOwer s cs (Some place) = Owes s cs place

-- a client's connection gave an acknowledgement
pub record AckedBy (s : ℕ) (old : List ConnState) (p : Part) (new : List ConnState) : Type 0 where
  pub conn : ConnState
  pub found : conn_from s old ≡ Some conn
  pub owed : conn.owed ≡ true
  pub there : conn.there ≡ s
  pub part : p ≡ Rr conn.there conn.here conn.vr
  pub left : new ≡ with_conn (behind_ack conn) old
  pub sent : IsSent p
  pub size : length (inner_bytes p) ≡ 5

-- Where memory was wanting as a PDU was due, the service is as it was, as a call of it leaves it that memory ended, or
-- as it is once the PDU was given.
abbrev pub LeftBy : {S : Type 0} → Option (Gave S) → S → Type 0
LeftBy None s = ⊥
LeftBy (Some g) s = s ≡ g.llc.service

abbrev pub LeavesNext : {S : Type 0} → Serving S → Option (Gave S) → S → S → Type 0
LeavesNext m due old new = LeavesService m old new ⊎ LeftBy due new
