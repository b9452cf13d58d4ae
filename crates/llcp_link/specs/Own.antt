-- What PDUs do to a connection that an end asked for, and what it gives (NFC Forum LLCP 1.3). What calls do to it is in
-- Asking.antt.
use Rattle.std.specs.Prelude.{ℕ, ◌==◌, List, [], ◌∷◌, ◌++◌, is_some, Option, Some, None, if◌then◌else◌}
use Rattle.llcp_pdu.specs.declared.part.Part.{Part}
use Rattle.llcp_conn.specs.declared.conn.Taken.{Taken}
use Rattle.llcp_conn.specs.declared.conn.Taken.TheVariants as taking
use Rattle.llcp_conn.specs.Conn.{ConnState, due, fresh, gives, gives_ack}
use Rattle.llcp_link.specs.State.{OwnIs, Asking, Open, Refused, Leaving, Closed, OwnState, with_own}

-- Of the connections that an end asked for this one becomes what f makes of it, where it is there. The others stay.
abbrev pub on_own : (OwnState → OwnState) → Option OwnState → List OwnState → List OwnState
on_own f None os = os
on_own f (Some o) os = with_own (f o) os

-- what comes from a SAP is to it, where it goes to that SAP
abbrev pub if_there : ℕ → (OwnState → OwnState) → OwnState → OwnState
if_there s f o = if o.there == s then f o else o

-- a CC with the other end's MIU and window, where one is awaited
abbrev pub cc_so : (miu far_miu rw : ℕ) → OwnState → OwnIs → OwnState
cc_so miu far_miu rw o Asking =
    record o { is = if rw == 0 then Refused else Open (fresh o.here o.there miu far_miu rw) }
cc_so miu far_miu rw o _ = o

abbrev pub cc_on : (miu far_miu rw : ℕ) → OwnState → OwnState
cc_on miu far_miu rw o = cc_so miu far_miu rw o o.is

-- a DM, where it is awaited
abbrev pub dm_so : OwnState → OwnIs → OwnState
dm_so o Asking = record o { is = Refused }
dm_so o Leaving = record o { is = Closed }
dm_so o _ = o

abbrev pub dm_on : OwnState → OwnState
dm_on o = dm_so o o.is

-- it ends
abbrev pub closed_on : OwnState → OwnState
closed_on o = record o { is = Closed }

-- an I, RR or RNR, by what its end comes to with it
abbrev pub took_on : OwnState → ConnState → Taken → OwnState
took_on o c taking.Nothing = record o { is = Open c }
took_on o c (taking.Unit u) = record o { is = Open c; units = o.units ++ u ∷ [] }
took_on o c (taking.Closed r) = closed_on o

-- it once it gave a PDU, and the PDU
pub record OwnGave : Type 0 where
  pub own : OwnState
  pub part : Part

abbrev pub gave_so : OwnState → ConnState → Option Part → Option OwnGave
gave_so o c None = None
gave_so o c (Some p) = Some (record { own = record o { is = Open c }; part = p })

-- the next unit that was submitted
abbrev pub unit_so : OwnState → OwnIs → Option OwnGave
unit_so o (Open c) = if is_some (due c) then gave_so o (gives c).conn (gives c).pdu else None
unit_so o _ = None

abbrev pub unit_on : OwnState → Option OwnGave
unit_on o = unit_so o o.is

-- an acknowledgement that is owed
abbrev pub ack_so : OwnState → OwnIs → Option OwnGave
ack_so o (Open c) = gave_so o (gives_ack c).conn (gives_ack c).pdu
ack_so o _ = None

abbrev pub ack_on : OwnState → Option OwnGave
ack_on o = ack_so o o.is
