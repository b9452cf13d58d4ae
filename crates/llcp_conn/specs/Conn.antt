-- One end of a numbered connection (NFC Forum LLCP 1.3): what it submits, takes and gives. Which of several faults
-- closes it is this project's own.
use Rattle.std.specs.Prelude.{◌≡◌, ◌<◌, ◌≤◌, ℕ, ◌+◌, ◌-◌, ◌*◌, ◌%◌, ◌==◌, nat_lt, Bool, true, false, List, [], ◌∷◌}
use Rattle.std.specs.Prelude.{◌++◌, length, drop, Option, Some, None, is_some, option_map, if◌then◌else◌}
use Rattle.llcp_pdu.specs.declared.part.Part.{Part}
use Rattle.llcp_pdu.specs.declared.part.Part.TheVariants.{Symm, Ui, Connect, Disc, Cc, Dm, Frmr, Snl, Info, Rr, Rnr}
use Rattle.llcp_pdu.specs.declared.part.FrmrReport.{FrmrReport}
use Rattle.llcp_pdu.specs.declared.pdu_view.PduView.{PduView}
use Rattle.llcp_pdu.specs.declared.pdu_view.PduView.TheVariants as view
use Rattle.llcp_pdu.specs.Wire.{info_type, rr_type, rnr_type, sap_count}
use Rattle.llcp_conn.specs.declared.conn.Taken.{Taken}
use Rattle.llcp_conn.specs.declared.conn.Taken.TheVariants as taken
use Rattle.llcp_conn.specs.declared.conn.ConnNumbers.{ConnNumbers}
use Rattle.llcp_conn.specs.declared.fault.ConnFault.{ConnFault}
use Rattle.llcp_conn.specs.declared.fault.ConnFault.TheVariants.{WindowFull, TooLong, NotOpen}
use Rattle.llcp_conn.specs.declared.fault.SharedCause.{SharedCause}
use Rattle.llcp_conn.specs.declared.fault.SharedCause.TheVariants as shared_cause
use Rattle.circular_buffer.specs.Buffer.{Buffer}

-- how many sequence numbers there are
abbrev pub modulus : ℕ
modulus = 16

-- the largest window
abbrev pub most_window : ℕ
most_window = 15

-- how far acknowledged units are counted
abbrev pub count_end : ℕ
count_end = 4294967296

-- An end from the SAP here to the SAP there: the most bytes of a unit that it takes, and that the other end takes; the
-- other end's window; the units that are submitted and not given, and those that are given and not acknowledged; V(SA),
-- V(R) and V(RA); whether an acknowledgement is owed, whether an RNR was taken after the last RR, and whether it is
-- open; and how many units were acknowledged.
pub record ConnState : Type 0 where
  pub here : ℕ
  pub there : ℕ
  pub near_miu : ℕ
  pub far_miu : ℕ
  pub window : ℕ
  pub queue : List (List ℕ)
  pub flight : List (List ℕ)
  pub vsa : ℕ
  pub vr : ℕ
  pub vra : ℕ
  pub owed : Bool
  pub held : Bool
  pub live : Bool
  pub acked : ℕ

-- V(S) is V(SA) and the units that are under way.
abbrev pub vs : ConnState → ℕ
vs c = (c.vsa + length c.flight) % modulus

abbrev pub numbers : ConnState → ConnNumbers
numbers c = record { vs = vs c; vr = c.vr; vsa = c.vsa; vra = c.vra }

abbrev pub has_room : ConnState → Bool
has_room c = nat_lt (length c.flight + length c.queue) c.window

-- SAPs of six bits; windows of 1 to 15
abbrev pub IsSap : ℕ → Type 0
IsSap sap = sap < sap_count

abbrev pub IsWindow : ℕ → Type 0
IsWindow rw = (1 ≤ rw) × (rw ≤ most_window)

abbrev pub fresh : (here there near_miu far_miu far_rw : ℕ) → ConnState
fresh here there near_miu far_miu far_rw =
    record {
      here = here;
      there = there;
      near_miu = near_miu;
      far_miu = far_miu;
      window = far_rw;
      queue = [];
      flight = [];
      vsa = 0;
      vr = 0;
      vra = 0;
      owed = false;
      held = false;
      live = true;
      acked = 0;
    }

-- why a unit of this length isn't submitted, if it isn't: the connection closed, then its size, then the window
abbrev pub refusal_of : ConnState → ℕ → Option ConnFault
refusal_of c n = if c.live then (if nat_lt c.far_miu n then Some TooLong
    else (if has_room c then None else Some WindowFull)) else Some NotOpen

abbrev pub refusal_to_submit : ConnState → List ℕ → Option ConnFault
refusal_to_submit c u = refusal_of c (length u)

-- the cause of a unit that comes back, among those of all units
abbrev pub shared : SharedCause → ConnFault
shared shared_cause.WindowFull = WindowFull
shared shared_cause.TooLong = TooLong
shared shared_cause.NotOpen = NotOpen

abbrev pub queued : ConnState → List ℕ → ConnState
queued c u = record c { queue = c.queue ++ u ∷ [] }

-- a unit that isn't refused is queued
pub record Queues (old : ConnState) (unit : List ℕ) (new : ConnState) : Type 0 where
  pub free : refusal_to_submit old unit ≡ None
  pub kept : new ≡ queued old unit

-- how many units an N(R) acknowledges
abbrev pub acks : ConnState → ℕ → ℕ
acks c nr = (nr + modulus - c.vsa) % modulus

abbrev pub acknowledged : ConnState → ℕ → ConnState
acknowledged c nr = record c { flight = drop (acks c nr) c.flight; vsa = nr; acked = (c.acked + acks c nr) % count_end }

-- what an end takes comes to
pub record Took : Type 0 where
  pub conn : ConnState
  pub does : Taken

abbrev pub took : ConnState → Taken → Took
took c t = record { conn = c; does = t }

-- the flags of a FRMR: an information field too long, a wrong N(R), a wrong N(S)
abbrev pub flag_i : ℕ
flag_i = 0x40

abbrev pub flag_r : ℕ
flag_r = 0x20

abbrev pub flag_s : ℕ
flag_s = 0x10

-- what is reported of a PDU of this type and sequence byte, with the numbers of the end before it
abbrev pub report : ConnState → ℕ → ℕ → ℕ → FrmrReport
report c flag ptype sequence = record {
  flags = flag;
  ptype = ptype;
  sequence = sequence;
  vs = vs c;
  vr = c.vr;
  vsa = c.vsa;
  vra = c.vra;
}

abbrev pub closes : ConnState → ℕ → ℕ → ℕ → Took
closes c flag ptype sequence = record {
  conn = record c { live = false };
  does = taken.Closed (report c flag ptype sequence);
}

-- an N(R) is outside V(SA) to V(S)
abbrev pub is_outside : ConnState → ℕ → Bool
is_outside c nr = nat_lt (length c.flight) (acks c nr)

abbrev pub takes_unit : ConnState → ℕ → ℕ → List ℕ → Took
takes_unit c ns nr xs =
    if nat_lt c.near_miu (length xs) then closes c flag_i info_type (16 * ns + nr)
    else (if is_outside c nr then closes c flag_r info_type (16 * ns + nr)
    else (if ns == c.vr
    then record { conn = record (acknowledged c nr) { vr = (c.vr + 1) % modulus; owed = true }; does = taken.Unit xs }
    else closes c flag_s info_type (16 * ns + nr)))

abbrev pub takes_nr : ConnState → ℕ → ℕ → Bool → Took
takes_nr c ptype nr held =
    if is_outside c nr then closes c flag_r ptype nr
    else record { conn = record (acknowledged c nr) { held = held }; does = taken.Nothing }

-- a PDU of the connection is taken; others say nothing to it
abbrev pub takes : ConnState → Part → Took
takes c (Info d s ns nr info) = takes_unit c ns nr info
takes c (Rr d s nr) = takes_nr c rr_type nr false
takes c (Rnr d s nr) = takes_nr c rnr_type nr true
takes c _ = record { conn = c; does = taken.Nothing }

-- the same of a PDU that is read in place
abbrev pub takes_view : ConnState → PduView → Took
takes_view c (view.Info d s ns nr info) = takes_unit c ns nr info.now
takes_view c (view.Rr d s nr) = takes_nr c rr_type nr false
takes_view c (view.Rnr d s nr) = takes_nr c rnr_type nr true
takes_view c _ = record { conn = c; does = taken.Nothing }

-- what an end gives
pub record Gave : Type 0 where
  pub conn : ConnState
  pub pdu : Option Part

abbrev pub gave : ConnState → Option Part → Gave
gave c p = record { conn = c; pdu = p }

abbrev pub gives_ack : ConnState → Gave
gives_ack c =
    if c.owed then record { conn = record c { vra = c.vr; owed = false }; pdu = Some (Rr c.there c.here c.vr) }
    else record { conn = c; pdu = None }

abbrev pub gives_from : ConnState → List (List ℕ) → Gave
gives_from c [] = gives_ack c
gives_from c (u ∷ rest) = record {
  conn = record c { queue = rest; flight = c.flight ++ u ∷ []; vra = c.vr; owed = false };
  pdu = Some (Info c.there c.here (vs c) c.vr u);
}

abbrev pub gives : ConnState → Gave
gives c = if c.live then (if c.held then gives_ack c else gives_from c c.queue) else record { conn = c; pdu = None }

abbrev pub first : List (List ℕ) → Option (List ℕ)
first [] = None
first (u ∷ rest) = Some u

-- a unit waits to be given
abbrev pub has_waiting : ConnState → Bool
has_waiting c = is_some (first c.queue)

-- the length of the unit that is given next as an I PDU
abbrev pub due : ConnState → Option ℕ
due c = if c.live then (if c.held then None else option_map length (first c.queue)) else None

-- A PDU of a connection from the SAP there to the SAP here: an I, RR or RNR, with its numbers in range.
abbrev pub IsPduBetween : ℕ → ℕ → Part → Type 0
IsPduBetween here there (Info d s ns nr info) = (d ≡ here) × (s ≡ there) × (ns < modulus) × (nr < modulus)
IsPduBetween here there (Rr d s nr) = (d ≡ here) × (s ≡ there) × (nr < modulus)
IsPduBetween here there (Rnr d s nr) = (d ≡ here) × (s ≡ there) × (nr < modulus)
IsPduBetween here there _ = ⊥

abbrev pub IsOfConn : ConnState → Part → Type 0
IsOfConn c p = IsPduBetween c.here c.there p

-- A view of such a PDU.
abbrev pub IsViewOfConn : ConnState → PduView → Type 0
IsViewOfConn c (view.Info d s ns nr info) = (d ≡ c.here) × (s ≡ c.there) × (ns < modulus) × (nr < modulus)
IsViewOfConn c (view.Rr d s nr) = (d ≡ c.here) × (s ≡ c.there) × (nr < modulus)
IsViewOfConn c (view.Rnr d s nr) = (d ≡ c.here) × (s ≡ c.there) × (nr < modulus)
IsViewOfConn c _ = ⊥

-- What an end keeps: its units in a ring, those that were given first, and its numbers below the modulus.
pub record IsKept (first : ℕ) (ring : Buffer (List ℕ)) (sa r ra : ℕ) : Type 0 where
  pub given : first ≤ length ring.items
  pub within : length ring.items ≤ ring.capacity
  pub window : ring.capacity ≤ most_window
  pub vsa : sa < modulus
  pub vr : r < modulus
  pub vra : ra < modulus
