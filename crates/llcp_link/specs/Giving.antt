-- What an end gives next (NFC Forum LLCP 1.3; the order is this project's own).
use Rattle.std.specs.Prelude.{◌≡◌, ◌≤◌, ◌⊎◌, ℕ, zero, suc, ◌+◌, ◌%◌, ◌&&◌, nat_le, not, Bool, List, [], ◌∷◌, length}
use Rattle.std.specs.Prelude.{Option, Some, None, if◌then◌else◌}
use Rattle.llcp_pdu.specs.declared.part.Part.{Part}
use Rattle.llcp_pdu.specs.declared.part.Part.TheVariants.{Symm}
use Rattle.llcp_pdu.specs.declared.pdu.Pdu.TheVariants.{Agf, One}
use Rattle.llcp_pdu.specs.Writing.{inner_bytes, pdu_bytes}
use Rattle.llcp_conn.specs.Conn.{ConnState, gives, queued, gives_ack, has_room}
use Rattle.llcp_link.specs.Serving.{Serving}
use Rattle.llcp_link.specs.State.{Queued, OwnState, LlcState, conn_from, with_conn, own_from, with_own}
use Rattle.llcp_pdu.specs.Wire.{sap_count}
use Rattle.llcp_link.specs.Own.{OwnGave, ack_on, unit_on}

-- a PDU that was given, and the end behind it
pub record Gave (S : Type 0) : Type 0 where
  pub llc : LlcState S
  pub part : Part

abbrev pub or_else : {A : Type 0} → Option A → Option A → Option A
or_else (Some x) o = Some x
or_else None o = o

-- The SAPs are a circle. It begins at the one after that which last gave an I or RR, or at the lowest.
abbrev pub sap_after : ℕ → ℕ
sap_after s = (s + 1) % sap_count

abbrev pub circle_start : Option ℕ → ℕ
circle_start None = 0
circle_start (Some s) = sap_after s

-- the first that is found at one of so many SAPs in the circle, from one on
unfoldable pub first_from : {A : Type 0} → ℕ → ℕ → (ℕ → Option A) → Option A
first_from zero s f = None
first_from (suc n) s f = or_else (f s) (first_from n (sap_after s) f)

abbrev pub first_of_all : {A : Type 0} → Option ℕ → (ℕ → Option A) → Option A
first_of_all last f = first_from sap_count (circle_start last) f

-- the window allows an I PDU
abbrev pub may_send : ConnState → Bool
may_send c = not c.held && has_room c

module _ {S : Type 0} where
  -- a connection gave a PDU, and its client's SAP is marked
  abbrev pub gave_conn : LlcState S → ConnState → Option Part → Option (Gave S)
  gave_conn l c None = None
  gave_conn l c (Some p) =
      Some (record { llc = record l { served = with_conn c l.served; last = Some c.there }; part = p })

  -- one that this end asked for gave a PDU, and its SAP is marked
  abbrev pub gave_own : LlcState S → Option OwnGave → Option (Gave S)
  gave_own l None = None
  gave_own l (Some g) =
      Some (record { llc = record l { own = with_own g.own l.own; last = Some g.own.here }; part = g.part })

  -- a unit that was submitted on it
  abbrev pub informs_own : LlcState S → Option OwnState → Option (Gave S)
  informs_own l None = None
  informs_own l (Some o) = gave_own l (unit_on o)

  -- an acknowledgement that is owed
  abbrev pub acknowledges_served : LlcState S → Option ConnState → Option (Gave S)
  acknowledges_served l None = None
  acknowledges_served l (Some c) = gave_conn l (gives_ack c).conn (gives_ack c).pdu

  abbrev pub acknowledges_own : LlcState S → Option OwnState → Option (Gave S)
  acknowledges_own l None = None
  acknowledges_own l (Some o) = gave_own l (ack_on o)

  abbrev pub acknowledges : LlcState S → ℕ → Option (Gave S)
  acknowledges l s = or_else (acknowledges_served l (conn_from s l.served)) (acknowledges_own l (own_from s l.own))

module _ {S : Type 0} (m : Serving S) where
  -- the service's next unit, as an I PDU
  abbrev pub sends : LlcState S → ConnState → Option (List ℕ) → Option (Gave S)
  sends l c None = None
  sends l c (Some u) =
      gave_conn (record l { service = m.sent l.service c.there c.far_miu }) (gives (queued c u)).conn
      (gives (queued c u)).pdu

  abbrev pub informs_served : LlcState S → Option ConnState → Option (Gave S)
  informs_served l None = None
  informs_served l (Some c) = if may_send c then sends l c (m.due l.service c.there c.far_miu) else None

  -- the next I PDU of a client's SAP; the connection that was asked of this end comes first
  abbrev pub informs : LlcState S → ℕ → Option (Gave S)
  informs l s = or_else (informs_served l (conn_from s l.served)) (informs_own l (own_from s l.own))

  -- behind the queue: in cyclic order the next I PDU that a window allows; else in the same order an acknowledgement
  abbrev pub gave_behind : LlcState S → Option (Gave S)
  gave_behind l = or_else (first_of_all l.last (informs l)) (first_of_all l.last (acknowledges l))

  -- the PDU that is due next, where one is: the oldest that waits comes first
  abbrev pub gave_from : LlcState S → List Queued → Option (Gave S)
  gave_from l [] = gave_behind l
  gave_from l (q ∷ qs) = Some (record { llc = record l { queue = qs }; part = q.part })

  abbrev pub gave : LlcState S → Option (Gave S)
  gave l = gave_from l l.queue

  -- PDUs that were given one after another, and the end behind them
  pub record GaveAll : Type 0 where
    pub llc : LlcState S
    pub parts : List Part

  abbrev pub gave_none : LlcState S → GaveAll
  gave_none l = record { llc = l; parts = [] }

  abbrev pub gave_first : Part → GaveAll → GaveAll
  gave_first p g = record { llc = g.llc; parts = p ∷ g.parts }

  -- The information of the AGF has so many bytes: one PDU more is joined where it is due and within the other end's
  -- MIU.
  abbrev pub joined_so : LlcState S → ℕ → Option (Gave S) → (ℕ → LlcState S → GaveAll) → GaveAll
  joined_so l used None more = gave_none l
  joined_so l used (Some g) more =
      if nat_le (used + length (inner_bytes g.part)) l.far_miu
      then gave_first g.part (more (used + length (inner_bytes g.part)) g.llc)
      else gave_none l

  abbrev pub joined : ℕ → ℕ → LlcState S → GaveAll
  joined zero used l = gave_none l
  joined (suc n) used l = joined_so l used (gave l) (joined n)

  abbrev pub given_so : LlcState S → Option (Gave S) → ℕ → GaveAll
  given_so l None others = gave_none l
  given_so l (Some g) others = gave_first g.part (joined others (length (inner_bytes g.part)) g.llc)

  -- how many others are joined to the first of so many: as many as fit, where the number is none
  abbrev pub others : LlcState S → ℕ → ℕ
  others l zero = l.far_miu
  others l (suc n) = n

  -- So many PDUs. Where they can't be joined in one AGF, as many as can.
  abbrev pub given_parts : ℕ → LlcState S → GaveAll
  given_parts n l = given_so l (gave l) (others l n)

  -- A payload may have so many PDUs: one, which is a SYMM where none is due, or several that are due and fit in one
  -- AGF.
  abbrev pub IsAllowed : LlcState S → ℕ → Type 0
  IsAllowed l n = (n ≡ 1) ⊎ ((2 ≤ n) × (length (given_parts n l).parts ≡ n))

-- the payload in which PDUs stand: SYMM where there is none, an AGF where there are several
abbrev pub payload_of : List Part → List ℕ
payload_of [] = pdu_bytes (One Symm)
payload_of (p ∷ []) = pdu_bytes (One p)
payload_of (p ∷ q ∷ ps) = pdu_bytes (Agf (p ∷ q ∷ ps))

module _ {S : Type 0} (m : Serving S) where
  -- what an end gives, so many PDUs in one payload, and the end behind it; one that couldn't read general bytes gives
  -- nothing
  abbrev pub given : ℕ → LlcState S → List ℕ
  given n l = if l.readable then payload_of (given_parts m n l).parts else []

  abbrev pub after_giving : ℕ → LlcState S → LlcState S
  after_giving n l = if l.readable then (given_parts m n l).llc else l
