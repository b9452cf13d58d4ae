-- How a call of one request begins where a client and a peer accord.
use Rattle.std.proofs.Common.{◌≡◌, ◌<◌, ◌≤◌, ◌⊎◌, ℕ, ◌/◌, ◌==◌, ◌||◌, Bool, true, false, List, [], ◌∷◌, ◌++◌, length, Option, Some, None, IfSome, is_some, Result, Ok, Err, unwrap_or, refl, sym, ◌∙◌}
use Rattle.std.proofs.Common.{ap, subst, inl, inr, arith, append-nil, if◌then◌else◌}
use Rattle.std.proofs.lemmas.Bool.{eqb-true}
use Rattle.std.proofs.lemmas.List.{length-replicate}
use Rattle.llcp_pdu.specs.declared.param.Param.{Param}
use Rattle.llcp_pdu.specs.General.{IsMiu, general, miu_by, said, said_behind, spoken, unmasked}
use Rattle.llcp_pdu.specs.Params.{last_of, miux_in, params, version_in, wks_in}
use Rattle.llcp_pdu.specs.Wire.{least_miu, magic_length, major}
use Rattle.llcp_link.proofs.Clients.{is_self}
use Rattle.llcp_link.proofs.Ranged.{either}
use Rattle.llcp_pdu.specs.declared.part.Part.TheVariants.{Connect}
use Rattle.llcp_conn.specs.Conn.{ConnState, IsSap}
use Rattle.llcp_link.specs.State.{OwnState, conn_from, miu_said, own_from}
use Rattle.llcp_link.specs.Asking.{asked_from, is_busy_by, put_own, request}
use Rattle.llcp_link.specs.Names.{own_params}
use Rattle.snep_core.specs.Accord.{Accords, IsApart, IsBegun, IsClientSap, IsJoined, IsOver, IsPaired, PeerState, clients_in, last_sap}
use Rattle.snep_core.specs.Jobs.{Begins}
use Rattle.snep_core.specs.Server.{ServerState, session_of}
use Rattle.snep_core.specs.Session.{Session, fresh_session}
use Rattle.snep_core.specs.Talk.{EndState, connected, own_of, server_sap, units_of}
use Rattle.snep_core.proofs.jobs.CallsEnd.{put_elsewhere, put_there}
use Rattle.snep_core.proofs.requests.Conversations.{Conversation, Converses, Starts}
use Rattle.snep_core.proofs.requests.Idling.{Idles}
use Rattle.snep_core.proofs.connections.Meets.{is_in}
use Rattle.snep_core.proofs.connections.OnConnection.{conn_at}
use Rattle.snep_core.proofs.connections.Places.{StandsBy, starts_settled}
use Rattle.snep_core.proofs.sessions.Served.{Serves}
use Rattle.snep_core.proofs.connections.Sides.{Kept, Sizes}
use Rattle.snep_core.proofs.requests.OneJob.{OneRests, is_it, job_by, jobs, ours, plan_by}

-- general bytes say no MIU below the least one
miu_more : (o : Option ℕ) → least_miu ≤ miu_by least_miu o
miu_more None = omega arith
miu_more (Some n) = omega arith

spoken_more : (v : Option ℕ) (miu wks : ℕ) → least_miu ≤ miu → least_miu ≤ miu_said (spoken v miu wks)
spoken_more None miu wks h = omega arith
spoken_more (Some v) miu wks h = either (λ r. least_miu ≤ miu_said r) (v / 16 == major) _ _ (λ e. h) (λ e. (let z : 128 ≤ 128 = omega arith in z))

said_by : (r : Result (List Param) _) → least_miu ≤ miu_said (said r)
said_by (Err e) = omega arith
said_by (Ok ps) = spoken_more (last_of version_in ps) (miu_by least_miu (last_of miux_in ps)) (unwrap_or (last_of wks_in ps) 0) (miu_more (last_of miux_in ps))

behind_more : (o : Option (List ℕ)) → least_miu ≤ miu_said (said_behind o)
behind_more None = omega arith
behind_more (Some rest) = said_by (params rest 0 magic_length)

said_more : (b : List ℕ) → least_miu ≤ miu_said (general b)
said_more b = behind_more (unmasked b)

-- a link that begins
pub begun_accords : (client : EndState) (peer : PeerState) → IsBegun client peer → Accords client peer
begun_accords client peer h = record {
  client_fair = record { miu = h.client_miu; window = h.client_window; last = subst (λ (z : EndState). IfSome z.last IsSap) (sym h.client_is) tt };
  peer_fair = record { miu = h.peer_miu; window = h.peer_window; last = subst (λ (z : PeerState). IfSome z.last IsSap) (sym h.peer_is) tt };
  peer_serving = record {
    seats = subst (λ (z : PeerState). last_sap < length z.service.sessions) (sym h.peer_is) (subst (λ n. last_sap < n) (sym (length-replicate 64 fresh_session)) (omega arith));
    bound = h.bound;
    far_miu = subst (λ (z : PeerState). least_miu ≤ z.far_miu) (sym h.peer_is) (said_more h.peer_general);
  };
  calm = record {
    client_readable = h.client_readable;
    client_queue = ap (λ (z : EndState). z.queue) h.client_is;
    client_served = ap (λ (z : EndState). z.served) h.client_is;
    peer_readable = h.peer_readable;
    peer_queue = ap (λ (z : PeerState). z.queue) h.peer_is;
    peer_own = ap (λ (z : PeerState). z.own) h.peer_is;
    no_other = subst (λ (z : PeerState). length z.served ≡ clients_in z.served) (sym h.peer_is) refl;
  };
  stands = λ sap. inl (record {
    own = subst (λ (z : EndState). IsOver (own_of sap z)) (sym h.client_is) tt;
    served = ap (λ (z : PeerState). conn_from sap z.served) h.peer_is;
  });
}

-- what two ends say of themselves
abbrev pub sizes_of : EndState → PeerState → Sizes
sizes_of l p = record { client_miu = l.miu; client_window = l.window; server_miu = p.miu; server_window = p.window; there = λ s. is_some (conn_from s p.served) }

-- a connection that isn't there isn't busy
pub over_free : (o : Option OwnState) → IsOver o → is_busy_by o ≡ false
over_free None h = refl
over_free (Some o) h = h.0

-- where a request begins
module _ (client : EndState) (peer : PeerState) (a : Accords client peer) (sap : ℕ) (range : IsClientSap sap) (conv : ℕ → ℕ → Conversation) (most : Option ℕ) (bytes : List ℕ)
    (laws : (miu size : ℕ) → IsMiu miu → IsMiu size → Converses sap peer.service.limit peer.service.table (conv miu size) miu size)
    (starts : (miu size : ℕ) → Starts sap peer.service.limit peer.service.table (conv miu size) (Begins most bytes) peer.service.accepted) where
  abbrev x_ : ServerState
  x_ = peer.service

  abbrev z_ : Sizes
  z_ = sizes_of client peer

  abbrev By : ℕ → Bool → Bool → Option OwnState → Option ConnState → Type 0
  By s b w o c = StandsBy x_.limit x_.table x_.accepted z_ s (plan_by x_.limit x_.table peer.bound x_.accepted z_ sap conv most bytes range laws b)
      (job_by x_.limit x_.table peer.bound x_.accepted z_ sap conv most bytes range laws (Begins most bytes) b) w false o c x_

  kept_ : Kept x_.limit x_.table peer.bound x_.accepted z_ x_
  kept_ = record { seats = a.peer_serving.seats; most = refl; offers = refl; more = []; grew = sym (append-nil x_.accepted) }

  serves_at : (s : ℕ) → IsClientSap s → (ses : Session) → session_of x_ s ≡ ses → Serves s x_.limit x_.table x_ ses x_.accepted
  serves_at s r ses e = record {
    seats = (let k = a.peer_serving.seats in let m = r.1 in omega (arith, k, m));
    session = e;
    got = refl;
    most = refl;
    offers = refl;
  }

  -- at another SAP nothing goes on
  at_rest : (s : ℕ) → (IsApart s client peer ⊎ IsJoined s client peer) → By s false false (own_from s client.own) (conn_from s peer.served)
  at_rest s (inl h) = inl (record { own = h.own; served = h.served; none = refl; got = refl })
  at_rest s (inr h) = inr (record {
    range = h.range;
    n = h.numbers;
    phase = Idles;
    paired = h.paired;
    holds = tt;
    own = h.own;
    served = h.served;
    job_is = refl;
    serves = serves_at s h.range fresh_session h.session;
    settled = λ k. h.settled;
  })

  abbrev Begun_ : EndState → Type 0
  Begun_ l = OneRests x_.limit x_.table peer.bound x_.accepted z_ sap conv most bytes range laws
      (jobs x_.limit x_.table peer.bound x_.accepted z_ sap conv most bytes range laws (Begins most bytes)) l peer

  -- what is so of its SAP is so of all SAPs of the call
  at_ours : (l : EndState) → units_of (own_of sap l) ≡ [] → (s : ℕ) → is_in s (ours x_.limit x_.table peer.bound x_.accepted z_ sap conv most bytes range laws) ≡ true
      → units_of (own_of s l) ≡ []
  at_ours l e s i = subst (λ t. units_of (own_of t l) ≡ []) (is_it x_.limit x_.table peer.bound x_.accepted z_ sap conv most bytes range laws s i) e

  abbrev asked_ : EndState
  asked_ = record client { queue = client.queue ++ request (Connect server_sap sap (own_params client.miu client.window)) ∷ []; own = put_own (asked_from sap server_sap) client.own }

  own_asked : own_from sap asked_.own ≡ Some (asked_from sap server_sap)
  own_asked = put_there sap (asked_from sap server_sap) client.own (is_self sap)

  -- the CONNECT waits
  asks_at : IsApart sap client peer → (s : ℕ) → (b : Bool) → (sap == s) ≡ b → By s b (b || false) (own_from s asked_.own) (conn_from s peer.served)
  asks_at h s true e =
      subst (λ t. By t true true (own_from t asked_.own) (conn_from t peer.served)) (eqb-true sap s e) (record {
        range = range;
        own = own_asked;
        served = h.served;
        job_is = refl;
        got = refl;
        starts = starts;
        busy = refl;
      })
  asks_at h s false e =
      subst (λ o. By s false false o (conn_from s peer.served)) (sym (put_elsewhere s (asked_from sap server_sap) client.own e)) (at_rest s (a.stands s))

  apart_begins : IsApart sap client peer → Begun_ (connected client sap)
  apart_begins h =
      subst Begun_ (sym (ap (λ b. if b then client else asked_) (over_free (own_of sap client) h.own))) (record {
        meets = record {
          asked = sap ∷ [];
          awaited = [];
          unlike = (refl, tt);
          few = omega arith;
          stays = λ t m. refl;
          sides = record {
            client_fair = record { miu = a.client_fair.miu; window = a.client_fair.window; last = a.client_fair.last };
            peer_fair = a.peer_fair;
            client_readable = a.calm.client_readable;
            peer_readable = a.calm.peer_readable;
            client_queue = ap (λ q. q ++ request (Connect server_sap sap (own_params client.miu client.window)) ∷ []) a.calm.client_queue;
            peer_queue = a.calm.peer_queue;
            client_served = a.calm.client_served;
            peer_own = a.calm.peer_own;
            reached = (refl, a.peer_serving.bound, a.peer_serving.far_miu);
            client_miu = refl;
            client_window = refl;
            server_miu = refl;
            server_window = refl;
            no_other = a.calm.no_other;
            kept = kept_;
            at = λ s. asks_at h s (sap == s) refl;
          };
        };
        empty = at_ours asked_ (ap units_of own_asked);
      })

  -- the connection is there
  talks_at : IsJoined sap client peer → (s : ℕ) → (b : Bool) → (sap == s) ≡ b → By s b false (own_from s client.own) (conn_from s peer.served)
  talks_at h s true e =
      let n = h.numbers in
      let c = conv n.server_miu n.client_miu in
      let t = starts n.server_miu n.client_miu in
      subst (λ r. By r true false (own_from r client.own) (conn_from r peer.served)) (eqb-true sap s e) (inr (record {
        range = range;
        n = n;
        phase = t.at;
        paired = subst (λ q. IsPaired n (length q)) (sym t.queue_is) h.paired;
        holds = t.holds;
        own = h.own ∙ ap (λ q. Some (conn_at sap n q [])) (sym t.queue_is) ∙ ap (λ us. Some (conn_at sap n (c.queue_at t.at) us)) (sym t.units_is);
        served = h.served;
        job_is = sym t.job_is;
        serves = subst (λ w. Serves sap x_.limit x_.table x_ w (c.accepted_at t.at)) (sym t.session_is)
            (subst (λ w. Serves sap x_.limit x_.table x_ fresh_session w) (sym t.accepted_is) (serves_at sap range fresh_session h.session));
        settled = starts_settled most bytes t n;
      }))
  talks_at h s false e = at_rest s (a.stands s)

  joined_begins : IsJoined sap client peer → Begun_ (connected client sap)
  joined_begins h =
      subst Begun_ (sym (ap (λ o. if is_busy_by o then client else asked_) h.own)) (record {
        meets = record {
          asked = [];
          awaited = [];
          unlike = tt;
          few = omega arith;
          stays = λ t m. refl;
          sides = record {
            client_fair = a.client_fair;
            peer_fair = a.peer_fair;
            client_readable = a.calm.client_readable;
            peer_readable = a.calm.peer_readable;
            client_queue = a.calm.client_queue;
            peer_queue = a.calm.peer_queue;
            client_served = a.calm.client_served;
            peer_own = a.calm.peer_own;
            reached = (refl, a.peer_serving.bound, a.peer_serving.far_miu);
            client_miu = refl;
            client_window = refl;
            server_miu = refl;
            server_window = refl;
            no_other = a.calm.no_other;
            kept = kept_;
            at = λ s. talks_at h s (sap == s) refl;
          };
        };
        empty = at_ours client (ap units_of h.own);
      })

  pub accord_begins : Begun_ (connected client sap)
  accord_begins = go (a.stands sap)
    where
      go : (IsApart sap client peer ⊎ IsJoined sap client peer) → Begun_ (connected client sap)
      go (inl h) = apart_begins h
      go (inr h) = joined_begins h
