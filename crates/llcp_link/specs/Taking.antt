-- What an end does with a payload that it takes (NFC Forum LLCP 1.3; the limits of its queue are this project's own).
use Rattle.std.specs.Prelude.{ℕ, ◌+◌, ◌/◌, ◌==◌, ◌&&◌, ◌||◌, nat_lt, nat_le, Bool, List, [], ◌∷◌, ◌++◌, length, map}
use Rattle.std.specs.Prelude.{Option, Some, None, is_none, if◌then◌else◌, Result, Ok, Err}
use Rattle.llcp_pdu.specs.declared.fault.PduRefusal.{PduRefusal}
use Rattle.llcp_pdu.specs.Views.{refusal_told}
use Rattle.llcp_pdu.specs.declared.param.Param.{Param}
use Rattle.llcp_pdu.specs.declared.part.Part.{Part}
use Rattle.llcp_pdu.specs.declared.part.Part.TheVariants.{Symm, Ui, Connect, Disc, Cc, Dm, Frmr, Snl, Info, Rr, Rnr}
use Rattle.llcp_pdu.specs.declared.pdu.Pdu.{Pdu}
use Rattle.llcp_pdu.specs.declared.pdu.Pdu.TheVariants.{Agf, One}
use Rattle.llcp_pdu.specs.declared.header.RawHeader.{RawHeader}
use Rattle.llcp_pdu.specs.Raw.{raw}
use Rattle.llcp_pdu.specs.Pdus.{pdu}
use Rattle.llcp_pdu.specs.Wire.{disc_type, info_type, rr_type, rnr_type}
use Rattle.llcp_conn.specs.declared.conn.Taken.{Taken}
use Rattle.llcp_conn.specs.declared.conn.Taken.TheVariants as taking
use Rattle.llcp_conn.specs.Conn.{ConnState, fresh, takes, Took, report}
use Rattle.llcp_link.specs.Serving.{Serving}
use Rattle.llcp_link.specs.State.{Queued, answer, OwnState, LlcState, most_answers, most_connections, conn_from}
use Rattle.llcp_link.specs.State.{with_conn, without_conn, own_from, with_own, Holder, Nobody, Served, Asked, holder}
use Rattle.llcp_link.specs.Own.{cc_on, closed_on, dm_on, if_there, on_own, took_on}
use Rattle.llcp_link.specs.Names.{reached, name_of, miu_of, rw_of, own_params, answers_to, lookups_told}

-- the flag of a FRMR for a malformed PDU
abbrev pub flag_w : ℕ
flag_w = 0x80

-- reasons of a DM
abbrev pub disconnected : ℕ
disconnected = 0

abbrev pub not_connected : ℕ
not_connected = 1

abbrev pub no_service : ℕ
no_service = 2

abbrev pub not_taken : ℕ
not_taken = 3

abbrev pub busy : ℕ
busy = 32

-- A PDU that came, or the type, SAPs and sequence byte of a malformed one that a connection minds.
pub data Item : Type 0 where
  Good : Part → Item
  Broken : ℕ → ℕ → ℕ → ℕ → Item

-- the byte behind the header, 0 where there is none
abbrev pub sequence_of : Option ℕ → ℕ
sequence_of None = 0
sequence_of (Some x) = x

-- a connection minds DISC, which has no sequence byte, and I, RR and RNR
abbrev pub minded : RawHeader → List Item
minded h =
    if h.ptype == disc_type then Broken h.ptype h.dsap h.ssap 0 ∷ []
    else (if (h.ptype == info_type) || ((h.ptype == rr_type) || (h.ptype == rnr_type))
    then Broken h.ptype h.dsap h.ssap (sequence_of h.third) ∷ []
    else [])

abbrev pub broken : Option RawHeader → List Item
broken None = []
broken (Some h) = minded h

abbrev pub items_of : List ℕ → Result Pdu PduRefusal → List Item
items_of b (Ok (One p)) = Good p ∷ []
items_of b (Ok (Agf ps)) = map Good ps
items_of b (Err r) = broken (raw b)

-- the PDUs of a payload: of a malformed AGF none
abbrev pub items : List ℕ → List Item
items b = items_of b (refusal_told (pdu b))

-- how many answers wait
abbrev pub answers_in : List Queued → ℕ
answers_in [] = 0
answers_in (q ∷ qs) = if q.own then answers_in qs else 1 + answers_in qs

module _ {S : Type 0} where
  abbrev pub is_full : LlcState S → Bool
  is_full l = nat_le most_answers (answers_in l.queue)

  -- an answer waits, unless too many do
  abbrev pub answered : LlcState S → Part → LlcState S
  answered l p = if is_full l then l else record l { queue = l.queue ++ answer p ∷ [] }

  abbrev pub is_free : LlcState S → ℕ → Bool
  is_free l s = is_none (conn_from s l.served) && nat_lt (length l.served) most_connections

  -- the SAP from which a CONNECT is answered with CC, where it is
  abbrev pub accepted_at : LlcState S → ℕ → Option ℕ → Option ℕ
  accepted_at l s None = None
  accepted_at l s (Some sap) = if is_free l s then Some sap else None

  abbrev pub accepted : LlcState S → ℕ → ℕ → List Param → Option ℕ
  accepted l d s ps =
      if is_full l then None else (if rw_of ps == 0 then None else accepted_at l s (reached l.bound d (name_of ps)))

  -- why a CONNECT isn't accepted: nothing is bound there, or the client or the end has connections enough
  abbrev pub refused_at : LlcState S → ℕ → ℕ → Option ℕ → LlcState S
  refused_at l d s None = answered l (Dm s d no_service)
  refused_at l d s (Some sap) = answered l (Dm s sap busy)

  abbrev pub refuses : LlcState S → ℕ → ℕ → List Param → LlcState S
  refuses l d s ps = if rw_of ps == 0 then answered l (Dm s d not_taken)
      else refused_at l d s (reached l.bound d (name_of ps))

  -- a connection ends
  abbrev pub ends : LlcState S → Holder → LlcState S
  ends l Nobody = l
  ends l (Served c) = record l { served = without_conn c.there l.served }
  ends l (Asked o c) = record l { own = with_own (closed_on o) l.own }

  abbrev pub leaves : LlcState S → ℕ → ℕ → Holder → LlcState S
  leaves l d s Nobody = answered l (Dm s d not_connected)
  leaves l d s h = answered (ends l h) (Dm s d disconnected)

  -- a fault of a PDU is told by a FRMR
  abbrev pub told_so : LlcState S → ConnState → Taken → LlcState S
  told_so l c (taking.Closed r) = answered l (Frmr c.there c.here r)
  told_so l c _ = l

  -- a PDU came of a connection that this end asked for
  abbrev pub asked_so : LlcState S → OwnState → ConnState → Taken → LlcState S
  asked_so l o c t = told_so (record l { own = with_own (took_on o c t) l.own }) c t

  -- an answer came to the one between two SAPs
  abbrev pub heard_own : LlcState S → ℕ → ℕ → (OwnState → OwnState) → LlcState S
  heard_own l d s f = record l { own = on_own (if_there s f) (own_from d l.own) l.own }

  -- service discovery: what was asked is answered in one SNL, and what is told is kept
  abbrev pub tells : LlcState S → List Param → LlcState S
  tells l [] = l
  tells l (p ∷ ps) = answered l (Snl (p ∷ ps))

  abbrev pub discovers : LlcState S → List Param → LlcState S
  discovers l ps = tells (record l { lookups = lookups_told ps l.lookups }) (answers_to l.bound (l.far_miu / 4) ps)

  -- a malformed PDU of a connection ends it
  abbrev pub breaks : LlcState S → ℕ → ℕ → Holder → LlcState S
  breaks l t q Nobody = l
  breaks l t q (Served c) = answered (ends l (Served c)) (Frmr c.there c.here (report c flag_w t q))
  breaks l t q (Asked o c) = answered (ends l (Asked o c)) (Frmr c.there c.here (report c flag_w t q))

  -- The PDUs that a payload brings to an end. One that couldn't read the other's general bytes takes none.
  abbrev pub brought : LlcState S → List ℕ → List Item
  brought l b = if l.readable then items b else []

module _ {S : Type 0} (m : Serving S) where
  -- a connection of a client's SAP opens, and the client is told with what MIU and window
  abbrev pub opens : LlcState S → ℕ → ℕ → ℕ → ℕ → LlcState S
  opens l sap s miu rw = record l {
    queue = l.queue ++ answer (Cc s sap (own_params l.miu l.window)) ∷ [];
    served = l.served ++ fresh sap s l.miu miu rw ∷ [];
    service = m.begun l.service s;
  }

  abbrev pub connects_to : LlcState S → ℕ → ℕ → List Param → Option ℕ → LlcState S
  connects_to l d s ps None = refuses l d s ps
  connects_to l d s ps (Some sap) = opens l sap s (miu_of ps) (rw_of ps)

  abbrev pub connects : LlcState S → ℕ → ℕ → List Param → LlcState S
  connects l d s ps = if is_full l then l else connects_to l d s ps (accepted l d s ps)

  -- what a PDU of a connection that was asked of this end did to it
  abbrev pub served_so : LlcState S → ConnState → Taken → LlcState S
  served_so l c taking.Nothing = record l { served = with_conn c l.served }
  served_so l c (taking.Unit u) = record l { served = with_conn c l.served; service = m.brought l.service c.there u }
  served_so l c (taking.Closed r) = answered (ends l (Served c)) (Frmr c.there c.here r)

  -- an I, RR or RNR between two SAPs, by what it is to a connection
  abbrev pub numbered : LlcState S → (ConnState → Took) → ℕ → ℕ → Holder → LlcState S
  numbered l takes d s Nobody = answered l (Dm s d not_connected)
  numbered l takes d s (Served c) = served_so l (takes c).conn (takes c).does
  numbered l takes d s (Asked o c) = asked_so l o (takes c).conn (takes c).does

  -- what an end does with one PDU
  abbrev pub steps_part : LlcState S → Part → LlcState S
  steps_part l Symm = l
  steps_part l (Ui d s info) = l
  steps_part l (Connect d s ps) = connects l d s ps
  steps_part l (Cc d s ps) = heard_own l d s (cc_on l.miu (miu_of ps) (rw_of ps))
  steps_part l (Dm d s reason) = heard_own l d s dm_on
  steps_part l (Disc d s) = leaves l d s (holder l d s)
  steps_part l (Frmr d s r) = ends l (holder l d s)
  steps_part l (Snl ps) = discovers l ps
  steps_part l (Info d s ns nr info) = numbered l (λ c. takes c (Info d s ns nr info)) d s (holder l d s)
  steps_part l (Rr d s nr) = numbered l (λ c. takes c (Rr d s nr)) d s (holder l d s)
  steps_part l (Rnr d s nr) = numbered l (λ c. takes c (Rnr d s nr)) d s (holder l d s)

  abbrev pub step : LlcState S → Item → LlcState S
  step l (Good p) = steps_part l p
  step l (Broken t d s q) = breaks l t q (holder l d s)

  abbrev pub steps : LlcState S → List Item → LlcState S
  steps l [] = l
  steps l (i ∷ is) = steps (step l i) is

  -- an end takes a payload
  abbrev pub taken_from : LlcState S → List ℕ → LlcState S
  taken_from l b = steps l (brought l b)
