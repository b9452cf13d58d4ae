-- A connection of which each unit goes into a payload alone stays one, whatever it takes and gives; so do those that an end keeps.
use Rattle.std.proofs.Common.{◌≤◌, ◌==◌, nat_lt, ℕ, Bool, List, [], ◌∷◌, length, Option, Some, None, if◌then◌else◌, arith}
use Rattle.std.specs.Prelude.{IfSome}
use Rattle.std.specs.List.{AllByRecursion}
use Rattle.llcp_pdu.specs.declared.part.Part.{Part}
use Rattle.llcp_pdu.specs.declared.part.Part.TheVariants.{Info, Rr}
use Rattle.llcp_pdu.specs.Writing.{part_bytes}
use Rattle.llcp_conn.specs.Conn as conn
use Rattle.llcp_conn.specs.Conn.{ConnState, Took, gives, gives_ack, gives_from, queued}
use Rattle.llcp_link.specs.declared.own.OwnIs.{OwnIs}
use Rattle.llcp_link.specs.declared.own.OwnIs.TheVariants.{Open}
use Rattle.llcp_link.specs.State.{OwnState, Holder, Nobody, Served, Asked, conn_from, holds_open, own_from, own_holder, served_holder, with_conn, with_own, without_conn}
use Rattle.llcp_link.specs.Asking.{put_own, without_own}
use Rattle.llcp_link.proofs.Ranged.{either}
use Rattle.bench_world.specs.Cutting.{ConnShort, OwnShort, StandsShort, UnitShort}
use Rattle.bench_world.proofs.sizes.SizedWorld.{all_more}

-- among several: the one of a SAP, one changed, and all but one
pub found_short : (s : ℕ) (cs : List ConnState) → AllByRecursion ConnShort cs → IfSome (conn_from s cs) ConnShort
found_short s [] h = tt
found_short s (c ∷ cs) h = either (λ o. IfSome o ConnShort) (c.there == s) (Some c) (conn_from s cs) (λ e. h.0) (λ e. found_short s cs h.1)

pub with_short : (c : ConnState) (cs : List ConnState) → ConnShort c → AllByRecursion ConnShort cs → AllByRecursion ConnShort (with_conn c cs)
with_short c [] k h = tt
with_short c (d ∷ ds) k h =
    either {X = List ConnState} (AllByRecursion ConnShort) (d.there == c.there) (c ∷ ds) (d ∷ with_conn c ds) (λ e. (k, h.1)) (λ e. (h.0, with_short c ds k h.1))

pub without_short : (s : ℕ) (cs : List ConnState) → AllByRecursion ConnShort cs → AllByRecursion ConnShort (without_conn s cs)
without_short s [] h = tt
without_short s (c ∷ cs) h = either {X = List ConnState} (AllByRecursion ConnShort) (c.there == s) cs (c ∷ without_conn s cs) (λ e. h.1) (λ e. (h.0, without_short s cs h.1))

-- what a connection takes leaves it so
pub unit_takes : (c : ConnState) (ns nr : ℕ) (xs : List ℕ) → ConnShort c → ConnShort (conn.takes_unit c ns nr xs).conn
unit_takes c ns nr xs h =
    either {X = Took} (λ x. ConnShort x.conn) (nat_lt c.near_miu (length xs)) _ _ (λ e. h)
    (λ e. either {X = Took} (λ x. ConnShort x.conn) (conn.is_outside c nr) _ _ (λ e. h) (λ e. either {X = Took} (λ x. ConnShort x.conn) (ns == c.vr) _ _ (λ e. h) (λ e. h)))

pub nr_takes : (c : ConnState) (ptype nr : ℕ) (held : Bool) → ConnShort c → ConnShort (conn.takes_nr c ptype nr held).conn
nr_takes c ptype nr held h = either {X = Took} (λ x. ConnShort x.conn) (conn.is_outside c nr) _ _ (λ e. h) (λ e. h)

-- what one gives leaves it so, and is short
abbrev pub PduShort : ConnState → Part → Type 0
PduShort c p = ConnShort c × (length (part_bytes p) ≤ 2178)

pub ack_short : (c : ConnState) → ConnShort c → IfSome (gives_ack c).pdu (PduShort (gives_ack c).conn)
ack_short c h = either {X = conn.Gave} (λ x. IfSome x.pdu (PduShort x.conn)) c.owed _ _ (λ e. (h, (let z : length (part_bytes (Rr c.there c.here c.vr)) ≤ 2178 = omega arith in z))) (λ e. tt)

-- a unit that waits, where the window allows one
from_short : (c : ConnState) (q : List (List ℕ)) → ConnShort c → AllByRecursion UnitShort q → IfSome (gives_from c q).pdu (PduShort (gives_from c q).conn)
from_short c [] h k = ack_short c h
from_short c (u ∷ rest) h k =
    ((h.0, k.1), (let unit : length u ≤ 2175 = k.0 in let z : length (part_bytes (Info c.there c.here (conn.vs c) c.vr u)) ≤ 2178 = omega (arith, unit) in z))

pub pdu_short : (c : ConnState) → ConnShort c → IfSome (gives c).pdu (PduShort (gives c).conn)
pdu_short c h =
    either {X = conn.Gave} (λ x. IfSome x.pdu (PduShort x.conn)) c.live (if c.held then gives_ack c else gives_from c c.queue) _
    (λ e. either {X = conn.Gave} (λ x. IfSome x.pdu (PduShort x.conn)) c.held (gives_ack c) (gives_from c c.queue) (λ i. ack_short c h) (λ i. from_short c c.queue h h.1))
    (λ e. tt)

-- one more unit waits, of no more bytes than the other end takes
pub queued_short : (c : ConnState) (u : List ℕ) → ConnShort c → length u ≤ c.far_miu → ConnShort (queued c u)
queued_short c u h k = (h.0, all_more UnitShort c.queue u h.1 (let miu : c.far_miu ≤ 2175 = h.0 in omega (arith, miu, k)))

-- those that this end asked for
abbrev pub OwnsShort : List OwnState → Type 0
OwnsShort os = AllByRecursion OwnShort os

pub own_found : (d : ℕ) (os : List OwnState) → OwnsShort os → IfSome (own_from d os) OwnShort
own_found d [] h = tt
own_found d (o ∷ os) h = either (λ q. IfSome q OwnShort) (o.here == d) (Some o) (own_from d os) (λ e. h.0) (λ e. own_found d os h.1)

pub with_own_short : (o : OwnState) (os : List OwnState) → OwnShort o → OwnsShort os → OwnsShort (with_own o os)
with_own_short o [] k h = tt
with_own_short o (p ∷ ps) k h =
    either {X = List OwnState} OwnsShort (p.here == o.here) (o ∷ ps) (p ∷ with_own o ps) (λ e. (k, h.1)) (λ e. (h.0, with_own_short o ps k h.1))

pub put_own_short : (o : OwnState) (os : List OwnState) → OwnShort o → OwnsShort os → OwnsShort (put_own o os)
put_own_short o [] k h = (k, tt)
put_own_short o (p ∷ ps) k h =
    either {X = List OwnState} OwnsShort (p.here == o.here) (o ∷ ps) (p ∷ put_own o ps) (λ e. (k, h.1)) (λ e. (h.0, put_own_short o ps k h.1))

pub without_own_short : (d : ℕ) (os : List OwnState) → OwnsShort os → OwnsShort (without_own d os)
without_own_short d [] h = tt
without_own_short d (o ∷ os) h = either {X = List OwnState} OwnsShort (o.here == d) os (o ∷ without_own d os) (λ e. h.1) (λ e. (h.0, without_own_short d os h.1))

-- who has a connection
abbrev pub HolderShort : Holder → Type 0
HolderShort Nobody = Unit {0}
HolderShort (Served c) = ConnShort c
HolderShort (Asked o c) = ConnShort c

open_holds : (o : OwnState) (s : ℕ) (i : OwnIs) → StandsShort i → HolderShort (holds_open o s i)
open_holds o s (Open c) h = either {X = Holder} HolderShort (o.there == s) (Asked o c) Nobody (λ e. h) (λ e. tt)
open_holds o s i h = tt

pub own_holds : (s : ℕ) (q : Option OwnState) → IfSome q OwnShort → HolderShort (own_holder s q)
own_holds s None h = tt
own_holds s (Some o) h = open_holds o s o.is h

pub holds_short : (d : ℕ) (q : Option ConnState) (x : Holder) → IfSome q ConnShort → HolderShort x → HolderShort (served_holder d q x)
holds_short d None x h k = k
holds_short d (Some c) x h k = either {X = Holder} HolderShort (c.here == d) (Served c) x (λ e. h) (λ e. k)
