-- Where a connection stands among those of an end, for private calls.
use Rattle.std.specs.Prelude.{◌≡◌, ◌<◌, ◌==◌, ℕ, suc, List, [], ◌∷◌, ◌++◌, length, remove, slice_index_or, slice_set}
use Rattle.std.specs.Prelude.{Option, Some, None, option_map, if◌then◌else◌}
use Rattle.llcp_pdu.specs.declared.pdu_view.PduView.{PduView}
use Rattle.llcp_pdu.specs.declared.pdu_view.PduView.TheVariants as view
use Rattle.llcp_pdu.specs.Spelling.{IsReport}
use Rattle.llcp_conn.specs.declared.conn.ConnNumbers.{ConnNumbers}
use Rattle.llcp_conn.specs.declared.conn.Taken.{Taken}
use Rattle.llcp_conn.specs.declared.conn.Taken.TheVariants as taking
use Rattle.llcp_conn.specs.Conn.{ConnState, modulus, numbers, takes_view}
use Rattle.llcp_link.specs.State.{conn_from, with_conn, without_conn, Nobody, OwnState, own_from, served_holder}
use Rattle.llcp_link.specs.State.{with_own}
use Rattle.llcp_link.specs.Asking.{put_own, without_own}
use Rattle.llcp_link.specs.Kept.{IsServed}

-- the place of the first of a number
abbrev pub place_by : {A : Type 0} → (A → ℕ) → ℕ → List A → Option ℕ
place_by number n [] = None
place_by number n (x ∷ xs) = if number x == n then Some 0 else option_map suc (place_by number n xs)

-- at this place stands the connection of a client's SAP, with those before it and those behind it
pub record IsPlace (s : ℕ) (cs : List ConnState) (place : ℕ) : Type 0 where
  pub before : List ConnState
  pub conn : ConnState
  pub behind : List ConnState
  pub all : cs ≡ before ++ conn ∷ behind
  pub at : length before ≡ place
  pub none : conn_from s before ≡ None
  pub there : conn.there ≡ s

abbrev pub IsPlaceOf : ℕ → List ConnState → Option ℕ → Type 0
IsPlaceOf s cs None = conn_from s cs ≡ None
IsPlaceOf s cs (Some place) = IsPlace s cs place

-- the connection between a SAP of this end and the client's
pub record IsHeld (d s : ℕ) (cs : List ConnState) (c : ConnState) : Type 0 where
  pub found : conn_from s cs ≡ Some c
  pub here : c.here ≡ d
  pub there : c.there ≡ s

abbrev pub IsNobodys : ℕ → ℕ → List ConnState → Type 0
IsNobodys d s cs = served_holder d (conn_from s cs) Nobody ≡ Nobody

abbrev pub IsBetweenOf : ℕ → ℕ → List ConnState → Option ℕ → Type 0
IsBetweenOf d s cs None = IsNobodys d s cs
IsBetweenOf d s cs (Some place) = (p : IsPlace s cs place) × (p.conn.here ≡ d)

-- the connections once one gave it up, whose numbers it had
abbrev pub ClosedBy : ℕ → ℕ → List ConnState → Option ConnNumbers → List ConnState → Type 0
ClosedBy d s old None new = IsNobodys d s old × (new ≡ old)
ClosedBy d s old (Some n) new = (c : ConnState) × IsHeld d s old c × IsServed c × (n ≡ numbers c)
    × (new ≡ without_conn s old)

-- what a PDU leaves of the connections: one that it closes is gone
abbrev pub left_so : List ConnState → ConnState → Taken → List ConnState
left_so cs c (taking.Closed r) = without_conn c.there cs
left_so cs c _ = with_conn c cs

-- a report's numbers are in range
abbrev pub IsTold : Taken → Type 0
IsTold (taking.Closed r) = IsReport r
IsTold _ = Unit {0}

-- a PDU came to a connection
pub record TakenOn (d s : ℕ) (v : PduView) (old : List ConnState) (t : Taken) (new : List ConnState) : Type 0 where
  pub conn : ConnState
  pub held : IsHeld d s old conn
  pub does : t ≡ (takes_view conn v).does
  pub left : new ≡ left_so old (takes_view conn v).conn t
  pub here : (takes_view conn v).conn.here ≡ d
  pub there : (takes_view conn v).conn.there ≡ s
  pub told : IsTold t

abbrev pub TakenBy : ℕ → ℕ → PduView → List ConnState → Option Taken → List ConnState → Type 0
TakenBy d s v old None new = IsNobodys d s old × (new ≡ old)
TakenBy d s v old (Some t) new = TakenOn d s v old t new

-- an I, RR or RNR from a client's SAP to one of this end
abbrev pub IsNumbered : ℕ → ℕ → PduView → Type 0
IsNumbered d s (view.Info e t ns nr info) = (e ≡ d) × (t ≡ s) × (ns < modulus) × (nr < modulus)
IsNumbered d s (view.Rr e t nr) = (e ≡ d) × (t ≡ s) × (nr < modulus)
IsNumbered d s (view.Rnr e t nr) = (e ≡ d) × (t ≡ s) × (nr < modulus)
IsNumbered d s _ = ⊥

-- the place of the connection that this end asked for from a SAP
abbrev pub own_place : ℕ → List OwnState → Option ℕ
own_place h os = place_by (λ (o : OwnState). o.here) h os

-- The connection from a SAP stands at this place: there it is read, changed, replaced and taken away.
pub record StandsAt (h : ℕ) (os : List OwnState) (place : ℕ) : Type 0 where
  pub own : OwnState
  pub low : place < length os
  pub found : own_from h os ≡ Some own
  pub here : own.here ≡ h
  pub read : (d : OwnState) → slice_index_or os place d ≡ own
  pub changed : (o : OwnState) → o.here ≡ h → slice_set os place o ≡ with_own o os
  pub unchanged : slice_set os place own ≡ os
  pub replaced : (o : OwnState) → o.here ≡ h → slice_set os place o ≡ put_own o os
  pub gone : remove os place ≡ without_own h os

-- there is none
pub record IsNowhere (h : ℕ) (os : List OwnState) : Type 0 where
  pub found : own_from h os ≡ None
  pub put : (o : OwnState) → o.here ≡ h → put_own o os ≡ os ++ o ∷ []
  pub gone : without_own h os ≡ os

abbrev pub PlaceOf : ℕ → List OwnState → Option ℕ → Type 0
PlaceOf h os None = IsNowhere h os
PlaceOf h os (Some place) = StandsAt h os place
