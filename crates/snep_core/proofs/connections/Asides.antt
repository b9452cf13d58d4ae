-- A client and a peer between two calls, as PDUs go from one to the other that are of no request: acknowledgements, beside what waits in the
-- queues of both.
use Rattle.std.proofs.Common.{◌≡◌, ◌<◌, ◌≤◌, ◌⊎◌, ℕ, ◌+◌, Bool, List, [], ◌∷◌, length, Option, Some, None, IfSome, is_some, refl, sym, ◌∙◌, ap, subst, inl, inr, arith, append-nil}
use Rattle.llcp_conn.specs.Conn.{ConnState, IsSap, first}
use Rattle.llcp_link.specs.State.{Bound, Lookup, OwnState, Queued, conn_from, own_from, with_conn, with_own}
use Rattle.llcp_link.specs.Asking.{unit_of}
use Rattle.llcp_link.specs.Giving.{Gave, acknowledges, acknowledges_own, first_of_all, gave, gave_from, gave_own, informs, informs_own, or_else}
use Rattle.snep_core.specs.declared.silent.NoService.{NoService}
use Rattle.snep_core.specs.Accord.{Accords, IsApart, IsClientSap, IsJoined, IsOver, IsPaired, Numbers, PeerState, server_conn}
use Rattle.snep_core.specs.Server.{Received, ServerState, serving, session_of}
use Rattle.snep_core.specs.Session.{Offer, fresh_session, sent}
use Rattle.snep_core.specs.Talk.{EndState, client_sap, emptied, own_of, silent, units_of}
use Rattle.snep_core.proofs.connections.Around.{found_of}
use Rattle.snep_core.proofs.connections.Carrying.{HopSo}
use Rattle.snep_core.proofs.accord.Ends.{sizes_of}
use Rattle.snep_core.proofs.connections.OnConnection.{conn_at}
use Rattle.snep_core.proofs.connections.Owned.{emptied_none}
use Rattle.snep_core.proofs.connections.Pairs.{ack_over, bare_acks, bare_informs, client_ack, client_acks, client_gave, client_hears, client_quiet, client_settled, informs_is, acks_is, server_ack}
use Rattle.snep_core.proofs.connections.Pairs.{server_acks, server_gave, server_hears, server_quiet, server_settled, unit_over}
use Rattle.snep_core.proofs.connections.Places.{below, paired_client_acks, paired_server_acks}
use Rattle.snep_core.proofs.connections.Sides.{Place, Sides, Sizes, leaves_same, sides_on, some_still}

-- a connection that gives nothing, whatever its end is
abbrev pub IsStill : Option OwnState → Type 0
IsStill o = (l : EndState) → (informs_own l o ≡ None) × (acknowledges_own l o ≡ None)

pub over_still : (o : Option OwnState) → IsOver o → IsStill o
over_still None h l = (refl, refl)
over_still (Some o) h l = (ap (gave_own l) (unit_over o o.is h.0), ap (gave_own l) (ack_over o o.is h.0))

-- nothing is under way on the connection from a SAP, whose session is as at first
pub record Quiet (s : ServerState) (sap : ℕ) (o : Option OwnState) (c : Option ConnState) : Type 0 where
  pub range : IsClientSap sap
  pub n : Numbers
  pub paired : IsPaired n 0
  pub settled : n.asked ≡ []
  pub own : o ≡ Some (conn_at sap n [] [])
  pub served : c ≡ Some (server_conn sap n)
  pub session : session_of s sap ≡ fresh_session

-- no connection, or a quiet one
abbrev pub Rested : ServerState → ℕ → Option OwnState → Option ConnState → Type 0
Rested s sap o c = (IsOver o × (c ≡ None)) ⊎ Quiet s sap o c

-- at each SAP so
abbrev pub AllRested : ServerState → Place
AllRested s sap o c x = Rested s sap o c

-- What stands at a SAP gives nothing and has no connection at the peer, or is quiet, and stays so as it is acknowledged.
abbrev pub Splits : ServerState → Place → Type 0
Splits s At = (sap : ℕ) (o : Option OwnState) (c : Option ConnState) → At sap o c s
    → (IsStill o × (c ≡ None)) ⊎ (Quiet s sap o c × ((p : Option OwnState) (d : Option ConnState) → Quiet s sap p d → At sap p d s))

pub rested_splits : (s : ServerState) → Splits s (AllRested s)
rested_splits s sap o c (inl h) = inl (over_still o h.0, h.1)
rested_splits s sap o c (inr h) = inr (h, λ p d q. inr q)

module _ (Found : List Lookup → Type 0) (there : ℕ → Bool) (names : List Bound) (s : ServerState) (z : Sizes) (At : Place) (splits : Splits s At) where
  -- Nothing but these waits at the client and at the peer, which has a connection from these SAPs.
  pub record Calm (client_waits peer_waits : List Queued) (l : EndState) (p : PeerState) : Type 0 where
    pub sides : Sides s.limit s.table names s.accepted z At client_waits peer_waits l p
    pub service_is : p.service ≡ s
    pub found : Found l.lookups
    pub stays : (sap : ℕ) → is_some (conn_from sap p.served) ≡ there sap

  module _ (client_waits peer_waits : List Queued) (l : EndState) (p : PeerState) (h : Calm client_waits peer_waits l p) where
    at_ : (sap : ℕ) → At sap (own_from sap l.own) (conn_from sap p.served) s
    at_ sap = subst (λ x. At sap (own_from sap l.own) (conn_from sap p.served) x) h.service_is (h.sides.at sap)

    few_told : (n : Numbers) → IsPaired n 0 → length n.told ≤ 15
    few_told n k = let a = k.told in let b = k.client_window.1 in omega arith

    few_asked : (n : Numbers) → IsPaired n 0 → length n.asked ≤ 15
    few_asked n k = let a = k.asked in let b = k.server_window.1 in omega arith

    -- one that is quiet was acknowledged
    on_ : (sap : ℕ) (q : Quiet s sap (own_from sap l.own) (conn_from sap p.served)) → ((o : Option OwnState) (d : Option ConnState) → Quiet s sap o d → At sap o d s)
        → (n : Numbers) → IsPaired n 0 → n.asked ≡ [] → (client_last peer_last : Option ℕ) → IfSome client_last IsSap → IfSome peer_last IsSap
        → Calm client_waits peer_waits (record l { own = with_own (conn_at sap n [] []) l.own; last = client_last }) (record p { served = with_conn (server_conn sap n) p.served; last = peer_last })
    on_ sap q back n k e client_last peer_last client_mark peer_mark = record {
      sides = sides_on s.limit s.table names s.accepted z At At client_waits peer_waits l p h.sides sap (conn_at sap n [] []) _ (server_conn sap n) _ p.service q.own q.served refl refl
          (leaves_same sap p.service) (λ t m o d a. a)
          (subst (λ x. At sap (Some (conn_at sap n [] [])) (Some (server_conn sap n)) x) (sym h.service_is)
          (back (Some (conn_at sap n [] [])) (Some (server_conn sap n)) (record { range = q.range; n = n; paired = k; settled = e; own = refl; served = refl; session = q.session })))
          client_last peer_last client_mark peer_mark;
      service_is = h.service_is;
      found = h.found;
      stays = λ t. some_still sap (server_conn sap n) _ p.served q.served refl t ∙ h.stays t;
    }

    low : (sap : ℕ) → IsClientSap sap → sap < 64
    low sap r = let k = r.1 in omega arith

    abbrev Out : Option (Gave NoService) → Type 0
    Out o = HopSo silent serving (Calm client_waits peer_waits) p o

    none_ : l.served ≡ []
    none_ = h.sides.client_served

    quiet_informs : (sap : ℕ) → Out (informs silent l sap)
    quiet_informs sap = go (splits sap _ _ (at_ sap))
      where
        go : ((IsStill (own_from sap l.own) × (conn_from sap p.served ≡ None)) ⊎ (Quiet s sap (own_from sap l.own) (conn_from sap p.served)
            × ((o : Option OwnState) (d : Option ConnState) → Quiet s sap o d → At sap o d s)))
            → Out (informs silent l sap)
        go (inl y) = subst Out (sym (informs_is l none_ sap (own_from sap l.own) refl ∙ (y.0 l).0)) tt
        go (inr (q, back)) = subst Out (sym (client_quiet l none_ sap q.n [] q.own)) tt

    quiet_acks : (sap : ℕ) → Out (acknowledges l sap)
    quiet_acks sap = go (splits sap _ _ (at_ sap))
      where
        by_told : (q : Quiet s sap (own_from sap l.own) (conn_from sap p.served)) → ((o : Option OwnState) (d : Option ConnState) → Quiet s sap o d → At sap o d s)
            → (told : List (List ℕ)) → q.n.told ≡ told → Out (acknowledges l sap)
        by_told q back [] e = subst Out (sym (client_settled l none_ sap q.n [] [] q.own e)) tt
        by_told q back (v ∷ vs) e =
            subst Out (sym (client_ack l none_ sap q.n [] [] q.own v vs e)) (
              (((omega arith), low sap q.range, below (q.n.told_sa + length q.n.told)), omega arith),
              subst (λ w. Calm client_waits peer_waits (client_gave l (conn_at sap (client_acks q.n) [] [])) w)
                  (sym (server_hears serving p sap q.n q.served q.paired.told_sa (few_told q.n q.paired)))
                  (on_ sap q back (client_acks q.n) (paired_client_acks q.n 0 q.paired) q.settled (Some sap) p.last (low sap q.range) h.sides.peer_fair.last),
            )

        go : ((IsStill (own_from sap l.own) × (conn_from sap p.served ≡ None)) ⊎ (Quiet s sap (own_from sap l.own) (conn_from sap p.served)
            × ((o : Option OwnState) (d : Option ConnState) → Quiet s sap o d → At sap o d s)))
            → Out (acknowledges l sap)
        go (inl y) = subst Out (sym (acks_is l none_ sap (own_from sap l.own) refl ∙ (y.0 l).1)) tt
        go (inr (q, back)) = by_told q back q.n.told refl

    abbrev In : Option (Gave ServerState) → Type 0
    In o = HopSo serving silent (λ p l. Calm client_waits peer_waits l p) l o

    bare_ : p.own ≡ []
    bare_ = h.sides.peer_own

    nothing_due : (sap : ℕ) (q : Quiet s sap (own_from sap l.own) (conn_from sap p.served)) → serving.due p.service sap q.n.client_miu ≡ None
    nothing_due sap q = ap (λ y. (sent q.n.client_miu y).unit) (ap (λ w. session_of w sap) h.service_is ∙ q.session)

    idle_informs : (sap : ℕ) → In (informs serving p sap)
    idle_informs sap = go (splits sap _ _ (at_ sap))
      where
        go : ((IsStill (own_from sap l.own) × (conn_from sap p.served ≡ None)) ⊎ (Quiet s sap (own_from sap l.own) (conn_from sap p.served)
            × ((o : Option OwnState) (d : Option ConnState) → Quiet s sap o d → At sap o d s)))
            → In (informs serving p sap)
        go (inl y) = subst In (sym (bare_informs serving p bare_ sap y.1)) tt
        go (inr (q, back)) = subst In (sym (server_quiet serving p bare_ sap q.n q.served (inl (nothing_due sap q)))) tt

    idle_acks : (sap : ℕ) → In (acknowledges p sap)
    idle_acks sap = go (splits sap _ _ (at_ sap))
      where
        by_asked : (q : Quiet s sap (own_from sap l.own) (conn_from sap p.served)) → ((o : Option OwnState) (d : Option ConnState) → Quiet s sap o d → At sap o d s)
            → (asked : List (List ℕ)) → q.n.asked ≡ asked → In (acknowledges p sap)
        by_asked q back [] e = subst In (sym (server_settled serving p bare_ sap q.n q.served e)) tt
        by_asked q back (u ∷ us) e =
            subst In (sym (server_ack serving p bare_ sap q.n q.served u us e)) (
              ((low sap q.range, (omega arith), below (q.n.asked_sa + length q.n.asked)), omega arith),
              subst (λ w. Calm client_waits peer_waits w (server_gave p (server_conn sap (server_acks q.n)) p.service))
                  (sym (client_hears l none_ sap q.n [] [] q.own q.paired.asked_sa (few_asked q.n q.paired)))
                  (on_ sap q back (server_acks q.n) (paired_server_acks q.n 0 q.paired) refl l.last (Some sap) h.sides.client_fair.last (low sap q.range)),
            )

        go : ((IsStill (own_from sap l.own) × (conn_from sap p.served ≡ None)) ⊎ (Quiet s sap (own_from sap l.own) (conn_from sap p.served)
            × ((o : Option OwnState) (d : Option ConnState) → Quiet s sap o d → At sap o d s)))
            → In (acknowledges p sap)
        go (inl y) = subst In (sym (bare_acks serving p bare_ sap y.1)) tt
        go (inr (q, back)) = by_asked q back q.n.asked refl

  -- the client gives what it owes
  pub client_hop : (q : List Queued) (l : EndState) (p : PeerState) → Calm [] q l p → HopSo silent serving (Calm [] q) p (gave silent l)
  client_hop q l p h =
      subst (λ w. T (gave_from silent l w)) (sym h.sides.client_queue)
      (found_of (informs silent l) (λ o. T (or_else o (first_of_all l.last (acknowledges l)))) (λ s x i. subst T i (quiet_informs [] q l p h s)) l.last h.sides.client_fair.last
      (λ k. found_of (acknowledges l) T (λ s x i. subst T i (quiet_acks [] q l p h s)) l.last h.sides.client_fair.last (λ m. tt)))
    where
      T : Option (Gave NoService) → Type 0
      T o = HopSo silent serving (Calm [] q) p o

  -- the server gives what it owes
  pub peer_hop : (p : PeerState) (l : EndState) → Calm [] [] l p → HopSo serving silent (λ p l. Calm [] [] l p) l (gave serving p)
  peer_hop p l h =
      subst (λ w. T (gave_from serving p w)) (sym h.sides.peer_queue)
      (found_of (informs serving p) (λ o. T (or_else o (first_of_all p.last (acknowledges p)))) (λ s x i. subst T i (idle_informs [] [] l p h s)) p.last h.sides.peer_fair.last
      (λ k. found_of (acknowledges p) T (λ s x i. subst T i (idle_acks [] [] l p h s)) p.last h.sides.peer_fair.last (λ m. tt)))
    where
      T : Option (Gave ServerState) → Type 0
      T o = HopSo serving silent (λ p l. Calm [] [] l p) l o

-- What was heard on the client's first connection, and not taken up, is nothing.
module _ (s : ServerState) (l : EndState) (c : Option ConnState) (h : Rested s client_sap (own_of client_sap l) c) where
  no_unit : (o : Option OwnState) → Rested s client_sap o c → unit_of o ≡ None
  no_unit None h = refl
  no_unit (Some o) (inl (h, e)) = ap first h.1
  no_unit (Some o) (inr q) = ap unit_of q.own

  pub rested_units : units_of (own_of client_sap l) ≡ []
  rested_units = (emptied_none client_sap l (no_unit (own_of client_sap l) h)).0

  pub rested_emptied : emptied l client_sap ≡ l
  rested_emptied = (emptied_none client_sap l (no_unit (own_of client_sap l) h)).1

-- Where client and peer accord, each SAP rests.
module _ (client : EndState) (peer : PeerState) (a : Accords client peer) where
  stands_rested : (sap : ℕ) → (IsApart sap client peer ⊎ IsJoined sap client peer) → Rested peer.service sap (own_from sap client.own) (conn_from sap peer.served)
  stands_rested sap (inl h) = inl (h.own, h.served)
  stands_rested sap (inr h) = inr (record { range = h.range; n = h.numbers; paired = h.paired; settled = h.settled; own = h.own; served = h.served; session = h.session })

  pub sides_at : Sides peer.service.limit peer.service.table peer.bound peer.service.accepted (sizes_of client peer) (AllRested peer.service) [] [] client peer
  sides_at = record {
    client_fair = a.client_fair;
    peer_fair = a.peer_fair;
    client_readable = a.calm.client_readable;
    peer_readable = a.calm.peer_readable;
    client_queue = a.calm.client_queue;
    peer_queue = a.calm.peer_queue;
    client_served = a.calm.client_served;
    peer_own = a.calm.peer_own;
    reached = (refl, a.peer_serving.bound, a.peer_serving.far_miu);
    client_miu = refl;
    client_window = refl;
    server_miu = refl;
    server_window = refl;
    no_other = a.calm.no_other;
    kept = record { seats = a.peer_serving.seats; most = refl; offers = refl; more = []; grew = sym (append-nil peer.service.accepted) };
    at = λ sap. stands_rested sap (a.stands sap);
  }

-- And where each rests, and nothing waits, they accord.
module _ (names : List Bound) (s : ServerState) (z : Sizes) (l : EndState) (p : PeerState) (h : Sides s.limit s.table names s.accepted z (AllRested s) [] [] l p) (is : p.service ≡ s) where
  rested_stands : (sap : ℕ) → Rested s sap (own_from sap l.own) (conn_from sap p.served) → IsApart sap l p ⊎ IsJoined sap l p
  rested_stands sap (inl y) = inl (record { own = y.0; served = y.1 })
  rested_stands sap (inr q) = inr (record {
    range = q.range;
    numbers = q.n;
    paired = q.paired;
    settled = q.settled;
    own = q.own;
    served = q.served;
    session = ap (λ w. session_of w sap) is ∙ q.session;
  })

  pub accord_at : Accords l p
  accord_at = record {
    client_fair = h.client_fair;
    peer_fair = h.peer_fair;
    peer_serving = record { seats = h.kept.seats; bound = h.reached.1; far_miu = h.reached.2 };
    calm = record {
      client_readable = h.client_readable;
      client_queue = h.client_queue;
      client_served = h.client_served;
      peer_readable = h.peer_readable;
      peer_queue = h.peer_queue;
      peer_own = h.peer_own;
      no_other = h.no_other;
    };
    stands = λ sap. rested_stands sap (h.at sap);
  }

-- Other queues, and lookups, change nothing else.
module _ (limit : ℕ) (table : List Offer) (names : List Bound) (old : List Received) (z : Sizes) (At : Place) (client_waits peer_waits : List Queued) (l : EndState) (p : PeerState)
    (h : Sides limit table names old z At client_waits peer_waits l p) where
  pub client_queues : (q : List Queued) (found : List Lookup) (asked : ℕ) → Sides limit table names old z At q peer_waits (record l { queue = q; lookups = found; asked = asked }) p
  client_queues q found asked = record {
    client_fair = record { miu = h.client_fair.miu; window = h.client_fair.window; last = h.client_fair.last };
    peer_fair = h.peer_fair;
    client_readable = h.client_readable;
    peer_readable = h.peer_readable;
    client_queue = refl;
    peer_queue = h.peer_queue;
    client_served = h.client_served;
    peer_own = h.peer_own;
    reached = h.reached;
    client_miu = h.client_miu;
    client_window = h.client_window;
    server_miu = h.server_miu;
    server_window = h.server_window;
    no_other = h.no_other;
    kept = h.kept;
    at = h.at;
  }

  pub peer_queues : (q : List Queued) → Sides limit table names old z At client_waits q l (record p { queue = q })
  peer_queues q = record {
    client_fair = h.client_fair;
    peer_fair = record { miu = h.peer_fair.miu; window = h.peer_fair.window; last = h.peer_fair.last };
    client_readable = h.client_readable;
    peer_readable = h.peer_readable;
    client_queue = h.client_queue;
    peer_queue = refl;
    client_served = h.client_served;
    peer_own = h.peer_own;
    reached = h.reached;
    client_miu = h.client_miu;
    client_window = h.client_window;
    server_miu = h.server_miu;
    server_window = h.server_window;
    no_other = h.no_other;
    kept = h.kept;
    at = h.at;
  }

  -- what stands at each SAP, said in other words
  pub sides_by : (Then : Place) → ((sap : ℕ) → At sap (own_from sap l.own) (conn_from sap p.served) p.service → Then sap (own_from sap l.own) (conn_from sap p.served) p.service)
      → Sides limit table names old z Then client_waits peer_waits l p
  sides_by Then so = record {
    client_fair = h.client_fair;
    peer_fair = h.peer_fair;
    client_readable = h.client_readable;
    peer_readable = h.peer_readable;
    client_queue = h.client_queue;
    peer_queue = h.peer_queue;
    client_served = h.client_served;
    peer_own = h.peer_own;
    reached = h.reached;
    client_miu = h.client_miu;
    client_window = h.client_window;
    server_miu = h.server_miu;
    server_window = h.server_window;
    no_other = h.no_other;
    kept = h.kept;
    at = λ sap. so sap (h.at sap);
  }
