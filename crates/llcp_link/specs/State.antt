-- What contracts see of an end of a link (NFC Forum LLCP 1.3).
use Rattle.std.specs.Prelude.{◌≡◌, ℕ, ◌==◌, Bool, true, false, List, [], ◌∷◌, Option, Some, None, if◌then◌else◌, Result}
use Rattle.std.specs.Prelude.{Ok, Err}
use Rattle.llcp_pdu.specs.declared.part.Part.{Part}
use Rattle.llcp_pdu.specs.declared.general.GeneralFault.{GeneralFault}
use Rattle.llcp_pdu.specs.declared.general.LinkParams.{LinkParams}
use Rattle.llcp_pdu.specs.General.{general}
use Rattle.llcp_pdu.specs.Wire.{least_miu}
use Rattle.llcp_conn.specs.Conn.{ConnState}
pub use Rattle.llcp_link.specs.declared.own.OwnIs.{OwnIs}
pub use Rattle.llcp_link.specs.declared.own.OwnIs.TheVariants.{Asking, Open, Refused, Leaving, Closed}
use Rattle.llcp_link.specs.Serving.{Serving}

-- the most answers that wait
abbrev pub most_answers : ℕ
most_answers = 16

-- the most connections that the other end may have here
abbrev pub most_connections : ℕ
most_connections = 8

-- a name and the SAP that it is bound to
pub record Bound : Type 0 where
  pub name : List ℕ
  pub sap : ℕ

-- a PDU that waits to be given: one of this end's own requests, or an answer
pub record Queued : Type 0 where
  pub own : Bool
  pub part : Part

abbrev pub answer : Part → Queued
answer p = record { own = false; part = p }

-- A connection that this end asked for from one SAP to another: a CC is awaited; it is open; it was refused; it was
-- given up, and a DM is awaited; or it is closed. And the units that were handed up on it and not yet taken away.
pub record OwnState : Type 0 where
  pub here : ℕ
  pub there : ℕ
  pub is : OwnIs
  pub units : List (List ℕ)

-- a lookup by its number, and the SAP that it was told
pub record Lookup : Type 0 where
  pub tid : ℕ
  pub told : Option ℕ

-- An end: its MIU and receive window, and the names that are bound; whether the other end's general bytes could be
-- read, and the MIU that they say; the PDUs that wait; the connections that the other end asked for, each named by its
-- client's SAP, and those that this end asked for, each by its own; its lookups, and how many there were, modulo 256;
-- the client's SAP that last gave an I or RR; whether want of memory ended a call on this link; and its service.
pub record LlcState (S : Type 0) : Type 0 where
  pub miu : ℕ
  pub window : ℕ
  pub bound : List Bound
  pub readable : Bool
  pub far_miu : ℕ
  pub queue : List Queued
  pub served : List ConnState
  pub own : List OwnState
  pub lookups : List Lookup
  pub asked : ℕ
  pub last : Option ℕ
  pub stuck : Bool
  pub service : S

abbrev pub readable_by : Result LinkParams GeneralFault → Bool
readable_by (Ok p) = true
readable_by (Err e) = false

abbrev pub miu_said : Result LinkParams GeneralFault → ℕ
miu_said (Ok p) = p.miu
miu_said (Err e) = least_miu

-- an end once a link begins on which the other end's general bytes said this: what is bound stays
abbrev pub restarted_by : {S : Type 0} → Serving S → LlcState S → Result LinkParams GeneralFault → LlcState S
restarted_by m l said = record {
  miu = l.miu;
  window = l.window;
  bound = l.bound;
  readable = readable_by said;
  far_miu = miu_said said;
  queue = [];
  served = [];
  own = [];
  lookups = [];
  asked = 0;
  last = None;
  stuck = false;
  service = m.renewed l.service;
}

abbrev pub restarted : {S : Type 0} → Serving S → LlcState S → List ℕ → LlcState S
restarted m l bytes = restarted_by m l (general bytes)

-- a new end with this MIU, window and service, as on a link to an end of MIU 128
abbrev pub fresh_end : {S : Type 0} → ℕ → ℕ → S → LlcState S
fresh_end miu window service = record {
  miu = miu;
  window = window;
  bound = [];
  readable = true;
  far_miu = least_miu;
  queue = [];
  served = [];
  own = [];
  lookups = [];
  asked = 0;
  last = None;
  stuck = false;
  service = service;
}

-- no connection that the other end asked for is open, and nothing waits to be given
abbrev pub IsIdle : {S : Type 0} → LlcState S → Type 0
IsIdle l = (l.served ≡ []) × (l.queue ≡ [])

-- the connection of a client's SAP
abbrev pub conn_from : ℕ → List ConnState → Option ConnState
conn_from s [] = None
conn_from s (c ∷ cs) = if c.there == s then Some c else conn_from s cs

abbrev pub with_conn : ConnState → List ConnState → List ConnState
with_conn c [] = []
with_conn c (d ∷ ds) = if d.there == c.there then c ∷ ds else d ∷ with_conn c ds

abbrev pub without_conn : ℕ → List ConnState → List ConnState
without_conn s [] = []
without_conn s (c ∷ cs) = if c.there == s then cs else c ∷ without_conn s cs

abbrev pub own_from : ℕ → List OwnState → Option OwnState
own_from h [] = None
own_from h (o ∷ os) = if o.here == h then Some o else own_from h os

abbrev pub with_own : OwnState → List OwnState → List OwnState
with_own o [] = []
with_own o (p ∷ ps) = if p.here == o.here then o ∷ ps else p ∷ with_own o ps

-- Who has the connection between a SAP of this end and one of the other: nobody; one that was asked of this end; an
-- open one that this end asked for.
pub data Holder : Type 0 where
  Nobody : Holder
  Served : ConnState → Holder
  Asked : OwnState → ConnState → Holder

abbrev pub holds_open : OwnState → ℕ → OwnIs → Holder
holds_open o s (Open c) = if o.there == s then Asked o c else Nobody
holds_open o s _ = Nobody

abbrev pub own_holder : ℕ → Option OwnState → Holder
own_holder s None = Nobody
own_holder s (Some o) = holds_open o s o.is

abbrev pub served_holder : ℕ → Option ConnState → Holder → Holder
served_holder d None other = other
served_holder d (Some c) other = if c.here == d then Served c else other

-- between the SAP d of this end and the SAP s of the other; one that was asked of this end comes first
abbrev pub holder : {S : Type 0} → LlcState S → ℕ → ℕ → Holder
holder l d s = served_holder d (conn_from s l.served) (own_holder s (own_from d l.own))
