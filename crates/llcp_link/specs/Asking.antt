-- What an end asks of the other: connections and lookups, and what becomes of them (NFC Forum LLCP 1.3).
use Rattle.std.specs.Prelude.{◌≡◌, ℕ, ◌+◌, ◌%◌, ◌==◌, Bool, true, false, List, [], ◌∷◌, ◌++◌, drop, Option, Some, None}
use Rattle.std.specs.Prelude.{if◌then◌else◌}
use Rattle.llcp_pdu.specs.declared.part.Part.{Part}
use Rattle.llcp_pdu.specs.declared.part.Part.TheVariants.{Connect, Disc, Snl}
use Rattle.llcp_pdu.specs.declared.param.Param.TheVariants.{SdReq}
use Rattle.llcp_conn.specs.Conn.{queued, refusal_to_submit, first, has_waiting}
use Rattle.llcp_conn.specs.declared.fault.ConnFault.{ConnFault}
use Rattle.llcp_conn.specs.declared.fault.ConnFault.TheVariants.{NotOpen}
use Rattle.llcp_link.specs.declared.fault.LlcFault.{LlcFault}
use Rattle.llcp_link.specs.declared.fault.LlcFault.TheVariants.{Busy}
use Rattle.llcp_link.specs.declared.standing.Standing.{Standing}
use Rattle.llcp_link.specs.declared.standing.Standing.TheVariants as stands
use Rattle.llcp_link.specs.State.{Queued, OwnIs, Asking, Open, Refused, Leaving, Closed, OwnState, Lookup, LlcState}
use Rattle.llcp_link.specs.State.{own_from, with_own}
use Rattle.llcp_link.specs.Own.{on_own}
use Rattle.llcp_link.specs.Names.{own_params}

-- the SAP from which an end connects where no other is named
abbrev pub first_sap : ℕ
first_sap = 32

-- one of this end's own requests
abbrev pub request : Part → Queued
request p = record { own = true; part = p }

-- a connection is there: a CC or DM is awaited on it, or it is open
abbrev pub is_there : OwnIs → Bool
is_there Asking = true
is_there (Open c) = true
is_there Refused = false
is_there Leaving = true
is_there Closed = false

abbrev pub is_busy_by : Option OwnState → Bool
is_busy_by None = false
is_busy_by (Some o) = is_there o.is

-- one that was just asked for
abbrev pub asked_from : ℕ → ℕ → OwnState
asked_from here there = record { here = here; there = there; is = Asking; units = [] }

-- those of this end once one more is asked for, in the place of an earlier one from its SAP
abbrev pub put_own : OwnState → List OwnState → List OwnState
put_own o [] = o ∷ []
put_own o (p ∷ ps) = if p.here == o.here then o ∷ ps else p ∷ put_own o ps

abbrev pub without_own : ℕ → List OwnState → List OwnState
without_own h [] = []
without_own h (o ∷ os) = if o.here == h then os else o ∷ without_own h os

-- how it stands, and with what MIU of the other end where it is open
abbrev pub standing_on : OwnIs → Standing
standing_on Asking = stands.Waiting
standing_on (Open c) = stands.Open c.far_miu
standing_on Refused = stands.Refused
standing_on Leaving = stands.Waiting
standing_on Closed = stands.Closed

abbrev pub standing_of : Option OwnState → Standing
standing_of None = stands.Nothing
standing_of (Some o) = standing_on o.is

-- how many units were acknowledged, 0 where none is open
abbrev pub acked_on : OwnIs → ℕ
acked_on (Open c) = c.acked
acked_on _ = 0

abbrev pub acked_of : Option OwnState → ℕ
acked_of None = 0
acked_of (Some o) = acked_on o.is

-- a unit that was submitted waits to be given
abbrev pub has_waiting_on : OwnIs → Bool
has_waiting_on (Open c) = has_waiting c
has_waiting_on _ = false

abbrev pub has_waiting_of : Option OwnState → Bool
has_waiting_of None = false
has_waiting_of (Some o) = has_waiting_on o.is

-- why a unit isn't submitted, if it isn't
abbrev pub refusal_on : OwnIs → List ℕ → Option ConnFault
refusal_on (Open c) u = refusal_to_submit c u
refusal_on _ u = Some NotOpen

abbrev pub refusal_of : Option OwnState → List ℕ → Option ConnFault
refusal_of None u = Some NotOpen
refusal_of (Some o) u = refusal_on o.is u

-- a unit that isn't refused waits on the connection
abbrev pub queued_on : OwnState → List ℕ → OwnIs → OwnState
queued_on o u (Open c) = record o { is = Open (queued c u) }
queued_on o u _ = o

pub record SubmitsOn (old : OwnState) (u : List ℕ) (new : OwnState) : Type 0 where
  pub free : refusal_on old.is u ≡ None
  pub kept : new ≡ queued_on old u old.is

-- the oldest unit that was handed up and not yet taken away
abbrev pub unit_of : Option OwnState → Option (List ℕ)
unit_of None = None
unit_of (Some o) = first o.units

abbrev pub unit_taken_on : OwnState → OwnState
unit_taken_on o = record o { units = drop 1 o.units }

abbrev pub is_open : OwnIs → Bool
is_open (Open c) = true
is_open _ = false

abbrev pub is_open_by : Option OwnState → Bool
is_open_by None = false
is_open_by (Some o) = is_open o.is

-- what was told for a number since it was last looked up
abbrev pub found_in : ℕ → List Lookup → Option ℕ
found_in tid [] = None
found_in tid (x ∷ xs) = if x.tid == tid then x.told else found_in tid xs

-- a number is looked up: an earlier lookup of it is forgotten, with its answer
abbrev pub put_lookup : ℕ → List Lookup → List Lookup
put_lookup tid [] = record { tid = tid; told = None } ∷ []
put_lookup tid (x ∷ xs) = if x.tid == tid then record { tid = tid; told = None } ∷ xs else x ∷ put_lookup tid xs

module _ {S : Type 0} where
  -- why a connection from a SAP isn't asked for, if it isn't: one is there
  abbrev pub connecting_refusal : LlcState S → ℕ → Option LlcFault
  connecting_refusal l here = if is_busy_by (own_from here l.own) then Some Busy else None

  -- one that isn't refused is asked for
  pub record Connects (old : LlcState S) (here there : ℕ) (new : LlcState S) : Type 0 where
    pub free : connecting_refusal old here ≡ None
    pub kept : new ≡ record old {
      queue = old.queue ++ request (Connect there here (own_params old.miu old.window)) ∷ [];
      own = put_own (asked_from here there) old.own;
    }

  -- a name is looked up, by the count of earlier lookups on this link modulo 256
  abbrev pub looked_up : LlcState S → List ℕ → LlcState S
  looked_up l name = record l {
    queue = l.queue ++ request (Snl (SdReq l.asked name ∷ [])) ∷ [];
    lookups = put_lookup l.asked l.lookups;
    asked = (l.asked + 1) % 256;
  }

  -- a unit is submitted on the connection from a SAP
  abbrev pub submitted_by : LlcState S → List ℕ → Option OwnState → LlcState S
  submitted_by l u o = record l { own = on_own (λ o. queued_on o u o.is) o l.own }

  pub record Submits (old : LlcState S) (here : ℕ) (u : List ℕ) (new : LlcState S) : Type 0 where
    pub free : refusal_of (own_from here old.own) u ≡ None
    pub kept : new ≡ submitted_by old u (own_from here old.own)

  -- the oldest unit is taken away
  abbrev pub unit_taken_by : LlcState S → Option OwnState → LlcState S
  unit_taken_by l o = record l { own = on_own unit_taken_on o l.own }

  -- an open connection is given up: its DISC waits, and a DM is awaited
  abbrev pub disconnected_by : LlcState S → Option OwnState → LlcState S
  disconnected_by l None = l
  disconnected_by l (Some o) = record l {
    queue = l.queue ++ request (Disc o.there o.here) ∷ [];
    own = with_own (record o { is = Leaving }) l.own;
  }

  -- a connection is given up without a PDU
  abbrev pub forgotten : LlcState S → ℕ → LlcState S
  forgotten l here = record l { own = without_own here l.own }
