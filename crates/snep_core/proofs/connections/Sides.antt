-- Two ends, SAP by SAP: what becomes of one connection leaves all others as they are.
use Rattle.std.proofs.Common.{◌≡◌, ◌<◌, ℕ, suc, ◌==◌, Bool, true, false, List, [], ◌∷◌, ◌++◌, length, Option, Some, None, IfSome, is_some, refl, sym, ◌∙◌, ap, subst, append_assoc, append-nil}
use Rattle.std.proofs.Common.{if◌then◌else◌}
use Rattle.std.proofs.lemmas.Bool.{eqb-true}
use Rattle.std.proofs.lemmas.List.{get_or-set_other, length-set}
use Rattle.llcp_conn.specs.Conn.{ConnState, IsSap}
use Rattle.llcp_link.specs.State.{Bound, OwnState, Queued, conn_from, own_from, with_conn, with_own}
use Rattle.llcp_link.proofs.Clients.{conn_with, conn_with_other, not_equal}
use Rattle.llcp_link.proofs.Submitted.{own_with}
use Rattle.snep_core.specs.Accord.{IsFair, PeerState, clients_in, last_sap, most_clients}
use Rattle.snep_core.specs.Payloads.{accepted_from}
use Rattle.snep_core.specs.Server.{Received, ServerState, brought_by, received, session_of, with_session}
use Rattle.snep_core.specs.Session.{Did, Offer, Session, fresh_session}
use Rattle.snep_core.specs.Talk.{EndState, client_sap}
use Rattle.snep_core.proofs.jobs.Readied.{elsewhere}
use Rattle.snep_core.proofs.sessions.Served.{Serves}
use Rattle.snep_core.proofs.sessions.SourcesTold.{received_other}
use Rattle.snep_core.proofs.connections.Reached.{IsReached}
use Rattle.snep_core.proofs.connections.Tally.{same}

-- A server did something for one SAP, and leaves the others.
pub record Leaves (sap : ℕ) (x y : ServerState) : Type 0 where
  pub session : (t : ℕ) → (sap == t) ≡ false → session_of y t ≡ session_of x t
  pub room : length y.sessions ≡ length x.sessions
  pub limit : y.limit ≡ x.limit
  pub table : y.table ≡ x.table
  pub what : Option (List ℕ)
  pub accepted : y.accepted ≡ x.accepted ++ received sap what

module _ (sap : ℕ) (x : ServerState) where
  pub leaves_same : Leaves sap x x
  leaves_same = record {
    session = λ t n. refl;
    room = refl;
    limit = refl;
    table = refl;
    what = None;
    accepted = sym (append-nil x.accepted);
  }

  pub leaves_with : (s : Session) → Leaves sap x (with_session x sap s)
  leaves_with s = record {
    session = λ t n. get_or-set_other x.sessions sap t s fresh_session (λ e. not_equal sap t n (sym e));
    room = length-set x.sessions sap s;
    limit = refl;
    table = refl;
    what = None;
    accepted = sym (append-nil x.accepted);
  }

  pub leaves_brought : (d : Did) → Leaves sap x (brought_by x sap d)
  leaves_brought d = record {
    session = λ t n. get_or-set_other x.sessions sap t d.session fresh_session (λ e. not_equal sap t n (sym e));
    room = length-set x.sessions sap d.session;
    limit = refl;
    table = refl;
    what = d.accepts;
    accepted = refl;
  }

module _ {sap : ℕ} {x y : ServerState} (v : Leaves sap x y) where
  pub accepted_left : (t : ℕ) → (sap == t) ≡ false → accepted_from t y.accepted ≡ accepted_from t x.accepted
  accepted_left t n = ap (accepted_from t) v.accepted ∙ received_other t sap x.accepted v.what n

  pub serves_left : {t limit : ℕ} {table : List Offer} {s : Session} {accepted : List Received} → (sap == t) ≡ false → Serves t limit table x s accepted
      → Serves t limit table y s accepted
  serves_left {t} n h = record {
    seats = subst (λ k. t < k) (sym v.room) h.seats;
    session = v.session t n ∙ h.session;
    got = accepted_left t n ∙ h.got;
    most = v.limit ∙ h.most;
    offers = v.table ∙ h.offers;
  }

-- What the two ends say of themselves as a connection is asked for; and the SAPs from which the peer had a connection as
-- the call began.
pub record Sizes : Type 0 where
  pub client_miu : ℕ
  pub client_window : ℕ
  pub server_miu : ℕ
  pub server_window : ℕ
  pub there : ℕ → Bool

-- what stands at a SAP: the client's connection, the peer's, and the server
abbrev pub Place : Type 1
Place = ℕ → Option OwnState → Option ConnState → ServerState → Type 0

-- Where one SAP's connections change, what stands there stands at each.
module _ (own own_now : List OwnState) (served served_now : List ConnState) (x y : ServerState) (At Then : Place) (sap : ℕ)
    (own_other : (t : ℕ) → (sap == t) ≡ false → own_from t own_now ≡ own_from t own)
    (served_other : (t : ℕ) → (sap == t) ≡ false → conn_from t served_now ≡ conn_from t served)
    (others : (t : ℕ) → (sap == t) ≡ false → (o : Option OwnState) (k : Option ConnState) → At t o k x → Then t o k y)
    (all : (t : ℕ) → At t (own_from t own) (conn_from t served) x) where
  pub at_changed : Then sap (own_from sap own_now) (conn_from sap served_now) y → (t : ℕ) → Then t (own_from t own_now) (conn_from t served_now) y
  at_changed now t = go (sap == t) refl
    where
      go : (b : Bool) → (sap == t) ≡ b → Then t (own_from t own_now) (conn_from t served_now) y
      go true e = subst (λ s. Then s (own_from s own_now) (conn_from s served_now) y) (eqb-true sap t e) now
      go false e =
          subst (λ q. Then t q (conn_from t served_now) y) (sym (own_other t e))
          (subst (λ k. Then t (own_from t own) k y) (sym (served_other t e)) (others t e (own_from t own) (conn_from t served) (all t)))

-- connections that are changed
with_length : (c : ConnState) (ks : List ConnState) → length (with_conn c ks) ≡ length ks
with_length c [] = refl
with_length c (k ∷ ks) = go (k.there == c.there) (with_length c ks)
  where
    go : (b : Bool) → length (with_conn c ks) ≡ length ks → length (if b then c ∷ ks else k ∷ with_conn c ks) ≡ length (k ∷ ks)
    go true e = refl
    go false e = ap suc e

module _ (sap : ℕ) (c k : ConnState) (ks : List ConnState) (there : conn_from sap ks ≡ Some k) (from : c.there ≡ sap) where
  pub conn_now : conn_from sap (with_conn c ks) ≡ Some c
  conn_now = subst (λ s. conn_from s (with_conn c ks) ≡ Some c) from (conn_with c ks k (subst (λ s. conn_from s ks ≡ Some k) (sym from) there))

  pub conn_other : (t : ℕ) → (sap == t) ≡ false → conn_from t (with_conn c ks) ≡ conn_from t ks
  conn_other t n = conn_with_other t c ks (ap (λ s. s == t) from ∙ n)

  pub some_still : (t : ℕ) → is_some (conn_from t (with_conn c ks)) ≡ is_some (conn_from t ks)
  some_still t = go (sap == t) refl
    where
      go : (b : Bool) → (sap == t) ≡ b → is_some (conn_from t (with_conn c ks)) ≡ is_some (conn_from t ks)
      go true e =
          subst (λ s. is_some (conn_from s (with_conn c ks)) ≡ is_some (conn_from s ks)) (eqb-true sap t e) (ap (λ q. is_some q) conn_now ∙ sym (ap (λ q. is_some q) there))
      go false e = ap (λ q. is_some q) (conn_other t e)

  -- there are as many, from as many
  pub clients_still : length ks ≡ clients_in ks → length (with_conn c ks) ≡ clients_in (with_conn c ks)
  clients_still e =
      with_length c ks ∙ e ∙ sym (same (λ t. is_some (conn_from t (with_conn c ks))) (λ t. is_some (conn_from t ks)) some_still most_clients client_sap)

module _ (limit : ℕ) (table : List Offer) (names : List Bound) (old : List Received) (z : Sizes) where
  -- The server has room for all clients' SAPs, and accepted something more.
  pub record Kept (x : ServerState) : Type 0 where
    pub seats : last_sap < length x.sessions
    pub most : x.limit ≡ limit
    pub offers : x.table ≡ table
    pub more : List Received
    pub grew : x.accepted ≡ old ++ more

  pub kept_left : {sap : ℕ} {x y : ServerState} → Leaves sap x y → Kept x → Kept y
  kept_left {sap} v h = record {
    seats = subst (λ n. last_sap < n) (sym v.room) h.seats;
    most = v.limit ∙ h.most;
    offers = v.table ∙ h.offers;
    more = h.more ++ received sap v.what;
    grew = v.accepted ∙ ap (λ xs. xs ++ received sap v.what) h.grew ∙ append_assoc old h.more (received sap v.what);
  }

  -- Both ends, with what waits to be given, and what stands at each SAP.
  pub record Sides (At : Place) (client_waits peer_waits : List Queued) (l : EndState) (p : PeerState) : Type 0 where
    pub client_fair : IsFair l
    pub peer_fair : IsFair p
    pub client_readable : l.readable ≡ true
    pub peer_readable : p.readable ≡ true
    pub client_queue : l.queue ≡ client_waits
    pub peer_queue : p.queue ≡ peer_waits
    pub client_served : l.served ≡ []
    pub peer_own : p.own ≡ []
    pub reached : IsReached names p
    pub client_miu : l.miu ≡ z.client_miu
    pub client_window : l.window ≡ z.client_window
    pub server_miu : p.miu ≡ z.server_miu
    pub server_window : p.window ≡ z.server_window
    pub no_other : length p.served ≡ clients_in p.served
    pub kept : Kept p.service
    pub at : (sap : ℕ) → At sap (own_from sap l.own) (conn_from sap p.served) p.service

  -- what a PDU of a connection does
  module _ (At Then : Place) (client_waits peer_waits : List Queued) (l : EndState) (p : PeerState) (h : Sides At client_waits peer_waits l p) (sap : ℕ)
      (o before : OwnState) (c there_before : ConnState) (y : ServerState) (own_is : own_from sap l.own ≡ Some before) (served_is : conn_from sap p.served ≡ Some there_before)
      (here : o.here ≡ sap) (there : c.there ≡ sap) (leaves : Leaves sap p.service y)
      (others : (t : ℕ) → (sap == t) ≡ false → (q : Option OwnState) (k : Option ConnState) → At t q k p.service → Then t q k y)
      (now : Then sap (Some o) (Some c) y) (client_last peer_last : Option ℕ) (client_mark : IfSome client_last IsSap) (peer_mark : IfSome peer_last IsSap) where
    pub sides_on : Sides Then client_waits peer_waits (record l { own = with_own o l.own; last = client_last })
        (record p { served = with_conn c p.served; last = peer_last; service = y })
    sides_on = record {
      client_fair = record { miu = h.client_fair.miu; window = h.client_fair.window; last = client_mark };
      peer_fair = record { miu = h.peer_fair.miu; window = h.peer_fair.window; last = peer_mark };
      client_readable = h.client_readable;
      peer_readable = h.peer_readable;
      client_queue = h.client_queue;
      peer_queue = h.peer_queue;
      client_served = h.client_served;
      peer_own = h.peer_own;
      reached = h.reached;
      client_miu = h.client_miu;
      client_window = h.client_window;
      server_miu = h.server_miu;
      server_window = h.server_window;
      no_other = clients_still sap c there_before p.served served_is there h.no_other;
      kept = kept_left leaves h.kept;
      at = at_changed l.own (with_own o l.own) p.served (with_conn c p.served) p.service y At Then sap
          (λ t n. elsewhere t o l.own (ap (λ s. s == t) here ∙ n)) (conn_other sap c there_before p.served served_is there) others h.at
          (subst (λ q. Then sap q (conn_from sap (with_conn c p.served)) y) (sym (own_with sap l.own o before own_is here))
          (subst (λ k. Then sap (Some o) k y) (sym (conn_now sap c there_before p.served served_is there)) now));
    }

  -- what the client does on one of its own
  module _ (At Then : Place) (client_waits peer_waits : List Queued) (l : EndState) (p : PeerState) (h : Sides At client_waits peer_waits l p) (sap : ℕ)
      (o before : OwnState) (own_is : own_from sap l.own ≡ Some before) (here : o.here ≡ sap)
      (others : (t : ℕ) → (sap == t) ≡ false → (q : Option OwnState) (k : Option ConnState) → At t q k p.service → Then t q k p.service)
      (now : Then sap (Some o) (conn_from sap p.served) p.service) where
    pub sides_own : Sides Then client_waits peer_waits (record l { own = with_own o l.own }) p
    sides_own = record {
      client_fair = record { miu = h.client_fair.miu; window = h.client_fair.window; last = h.client_fair.last };
      peer_fair = h.peer_fair;
      client_readable = h.client_readable;
      peer_readable = h.peer_readable;
      client_queue = h.client_queue;
      peer_queue = h.peer_queue;
      client_served = h.client_served;
      peer_own = h.peer_own;
      reached = h.reached;
      client_miu = h.client_miu;
      client_window = h.client_window;
      server_miu = h.server_miu;
      server_window = h.server_window;
      no_other = h.no_other;
      kept = h.kept;
      at = at_changed l.own (with_own o l.own) p.served p.served p.service p.service At Then sap
          (λ t n. elsewhere t o l.own (ap (λ s. s == t) here ∙ n)) (λ t n. refl) others h.at
          (subst (λ q. Then sap q (conn_from sap p.served) p.service) (sym (own_with sap l.own o before own_is here)) now);
    }
