-- What a DISC, a FRMR, a malformed PDU, and an I, RR or RNR come to by who has the connection, for private calls: no
-- public contract speaks of it, the tables are Taking.antt and Own.antt.
use Rattle.std.specs.Prelude.{◌≡◌, ◌<◌, ℕ, Option, Some, None}
use Rattle.llcp_pdu.specs.declared.pdu_view.PduView.{PduView}
use Rattle.llcp_pdu.specs.Spelling.{IsReport}
use Rattle.llcp_conn.specs.declared.conn.ConnNumbers.{ConnNumbers}
use Rattle.llcp_conn.specs.declared.conn.Taken.{Taken}
use Rattle.llcp_conn.specs.declared.conn.Taken.TheVariants as taking
use Rattle.llcp_conn.specs.Conn.{ConnState, modulus, numbers, takes_view}
use Rattle.llcp_link.specs.declared.own.Heard.{Heard}
use Rattle.llcp_link.specs.declared.own.Heard.TheVariants as heard
use Rattle.llcp_link.specs.Own.{closed_on, took_on}
use Rattle.llcp_link.specs.State.{LlcState, OwnState, Holder, Nobody, Served, Asked, holder, holds_open}
use Rattle.llcp_link.specs.Taking.{ends}

-- numbers below the modulus
pub record AreNumbers (n : ConnNumbers) : Type 0 where
  pub vs : n.vs < modulus
  pub vr : n.vr < modulus
  pub vsa : n.vsa < modulus
  pub vra : n.vra < modulus

-- it is this connection
abbrev pub Holds : Holder → ConnState → Type 0
Holds Nobody c = ⊥
Holds (Served d) c = d ≡ c
Holds (Asked o d) c = d ≡ c

-- the connection between two SAPs, whose numbers are these
pub record IsConnBetween (h : Holder) (here there : ℕ) (n : ConnNumbers) : Type 0 where
  pub conn : ConnState
  pub holds : Holds h conn
  pub here_is : conn.here ≡ here
  pub there_is : conn.there ≡ there
  pub numbers_are : n ≡ numbers conn
  pub range : AreNumbers n

-- the connection between two SAPs is given up, where there is one, and tells its numbers
abbrev pub ClosesHeld : {S : Type 0} → LlcState S → ℕ → ℕ → Option ConnNumbers → LlcState S → Type 0
ClosesHeld old d s None new = (holder old d s ≡ Nobody) × (new ≡ old)
ClosesHeld old d s (Some n) new = IsConnBetween (holder old d s) d s n × (new ≡ ends old (holder old d s))

-- one that this end asked for, open to a SAP of the other end
pub record IsOpenTo (s : ℕ) (o : OwnState) (c : ConnState) : Type 0 where
  pub holds : holds_open o s o.is ≡ Asked o c
  pub here : c.here ≡ o.here
  pub there : c.there ≡ s

-- it is given up, where it is open to that SAP, and tells its numbers
abbrev pub ClosesOwn : ℕ → OwnState → Option ConnNumbers → OwnState → Type 0
ClosesOwn s old None new = (holds_open old s old.is ≡ Nobody) × (new ≡ old)
ClosesOwn s old (Some n) new =
    (c : ConnState) × IsOpenTo s old c × (n ≡ numbers c) × AreNumbers n × (new ≡ closed_on old)

-- what a PDU that doesn't close it leaves of it
abbrev pub KeepsOwn : OwnState → ConnState → Taken → OwnState → Type 0
KeepsOwn o c (taking.Closed r) new = ⊥
KeepsOwn o c t new = new ≡ took_on o c t

-- what an I, RR or RNR comes to on it
abbrev pub TakesOwn : ℕ → PduView → OwnState → Heard → OwnState → Type 0
TakesOwn s v old heard.Nothing new = (holds_open old s old.is ≡ Nobody) × (new ≡ old)
TakesOwn s v old heard.Taken new =
    (c : ConnState) × IsOpenTo s old c × KeepsOwn old (takes_view c v).conn (takes_view c v).does new
TakesOwn s v old (heard.Closed r) new =
    (c : ConnState) × IsOpenTo s old c × ((takes_view c v).does ≡ taking.Closed r) × IsReport r
    × ((takes_view c v).conn.here ≡ old.here) × ((takes_view c v).conn.there ≡ s) × (new ≡ closed_on old)
