-- How a call of any requests begins where a client and a peer accord.
use Rattle.std.proofs.Common.{◌≡◌, ◌≤◌, ◌⊎◌, ℕ, Bool, true, false, List, [], ◌++◌, length, map, Option, Some, None, refl, sym, ◌∙◌, ap, subst, inl, inr, arith, append-nil}
use Rattle.llcp_pdu.specs.General.{IsMiu}
use Rattle.llcp_conn.specs.Conn.{ConnState}
use Rattle.llcp_link.specs.State.{OwnState, Queued, conn_from, own_from}
use Rattle.llcp_link.specs.Asking.{asked_from, is_busy_by}
use Rattle.snep_core.specs.Accord.{Accords, IsApart, IsClientSap, IsJoined, IsPaired, PeerState, most_clients}
use Rattle.snep_core.specs.Jobs.{Begins}
use Rattle.snep_core.specs.Server.{ServerState, session_of}
use Rattle.snep_core.specs.Session.{Session, fresh_session}
use Rattle.snep_core.specs.Talk.{EndState, own_of, server_sap, units_of}
use Rattle.snep_core.proofs.connections.Connects.{all_connect, connect_all, connect_by, wanted, wanted_busy, wanted_few, wanted_free, wanted_in, wanted_unlike}
use Rattle.snep_core.proofs.requests.Conversations.{Conversation, Converses, Starts}
use Rattle.snep_core.proofs.accord.Ends.{over_free, sizes_of}
use Rattle.snep_core.proofs.requests.Idling.{Idles}
use Rattle.snep_core.proofs.connections.Meets.{AreUnlike, is_in}
use Rattle.snep_core.proofs.connections.OnConnection.{conn_at}
use Rattle.snep_core.proofs.connections.Places.{StandsBy, starts_settled}
use Rattle.snep_core.proofs.accord.Requests.{first_by, firsts, keeps, mine, plan, plan_by, rests}
use Rattle.snep_core.proofs.sessions.Served.{Serves}
use Rattle.snep_core.proofs.connections.Sides.{Sizes}
use Rattle.snep_core.proofs.jobs.Turns.{Rests}

module _ (client : EndState) (peer : PeerState) (a : Accords client peer) (ours : List ℕ) (unlike : AreUnlike ours) (few : length ours ≤ most_clients)
    (ranges : (s : ℕ) → is_in s ours ≡ true → IsClientSap s) (conv : ℕ → ℕ → ℕ → Conversation) (most : ℕ → Option ℕ) (bytes : ℕ → List ℕ)
    (laws : (s : ℕ) → is_in s ours ≡ true → (miu size : ℕ) → IsMiu miu → IsMiu size → Converses s peer.service.limit peer.service.table (conv s miu size) miu size)
    (starts : (s : ℕ) → is_in s ours ≡ true → (miu size : ℕ) → Starts s peer.service.limit peer.service.table (conv s miu size) (Begins (most s) (bytes s)) peer.service.accepted) where
  abbrev x_ : ServerState
  x_ = peer.service

  abbrev z_ : Sizes
  z_ = sizes_of client peer

  abbrev By : ℕ → Bool → Bool → Option OwnState → Option ConnState → Type 0
  By s b w o c = StandsBy x_.limit x_.table x_.accepted z_ s (plan_by x_.limit x_.table peer.bound x_.accepted z_ ours conv most bytes laws s b)
      (first_by x_.limit x_.table peer.bound x_.accepted z_ ours conv most bytes laws s b) w false o c x_

  serves_at : (s : ℕ) → IsClientSap s → (ses : Session) → session_of x_ s ≡ ses → Serves s x_.limit x_.table x_ ses x_.accepted
  serves_at s r ses e = record {
    seats = (let k = a.peer_serving.seats in let m = r.1 in omega (arith, k, m));
    session = e;
    got = refl;
    most = refl;
    offers = refl;
  }

  -- where no job is, nothing goes on
  at_rest : (s : ℕ) → (IsApart s client peer ⊎ IsJoined s client peer) → By s false false (own_from s client.own) (conn_from s peer.served)
  at_rest s (inl h) = inl (record { own = h.own; served = h.served; none = refl; got = refl })
  at_rest s (inr h) = inr (record {
    range = h.range;
    n = h.numbers;
    phase = Idles;
    paired = h.paired;
    holds = tt;
    own = h.own;
    served = h.served;
    job_is = refl;
    serves = serves_at s h.range fresh_session h.session;
    settled = λ k. h.settled;
  })

  -- there is a connection, or there is none
  joined_busy : (s : ℕ) → IsJoined s client peer → is_busy_by (own_from s client.own) ≡ true
  joined_busy s h = ap is_busy_by h.own

  free_served : (s : ℕ) → is_busy_by (own_from s client.own) ≡ false → (IsApart s client peer ⊎ IsJoined s client peer) → conn_from s peer.served ≡ None
  free_served s f (inl h) = h.served
  free_served s f (inr h) = absurd (let k : true ≡ false = sym (joined_busy s h) ∙ f in cc)

  busy_joined : (s : ℕ) → is_busy_by (own_from s client.own) ≡ true → (IsApart s client peer ⊎ IsJoined s client peer) → IsJoined s client peer
  busy_joined s f (inl h) = absurd (let k : false ≡ true = sym (over_free (own_of s client) h.own) ∙ f in cc)
  busy_joined s f (inr h) = h

  -- the connection is there, and the request begins on it
  talks_at : (s : ℕ) → is_in s ours ≡ true → IsJoined s client peer → By s true false (own_from s client.own) (conn_from s peer.served)
  talks_at s i h =
      let n = h.numbers in
      let c = conv s n.server_miu n.client_miu in
      let t = starts s i n.server_miu n.client_miu in inr (record {
        range = h.range;
        n = n;
        phase = t.at;
        paired = subst (λ q. IsPaired n (length q)) (sym t.queue_is) h.paired;
        holds = t.holds;
        own = h.own ∙ ap (λ q. Some (conn_at s n q [])) (sym t.queue_is) ∙ ap (λ us. Some (conn_at s n (c.queue_at t.at) us)) (sym t.units_is);
        served = h.served;
        job_is = sym t.job_is;
        serves = subst (λ w. Serves s x_.limit x_.table x_ w (c.accepted_at t.at)) (sym t.session_is)
            (subst (λ w. Serves s x_.limit x_.table x_ fresh_session w) (sym t.accepted_is) (serves_at s h.range fresh_session h.session));
        settled = starts_settled (most s) (bytes s) t n;
      })

  -- the client with connections asked for
  module _ (queue : List Queued) (own : List OwnState) (queue_is : queue ≡ map (connect_by client.miu client.window) (wanted client ours))
      (asked : (t : ℕ) → is_in t (wanted client ours) ≡ true → own_from t own ≡ Some (asked_from t server_sap))
      (other : (t : ℕ) → is_in t (wanted client ours) ≡ false → own_from t own ≡ own_from t client.own) where
    at_ : (s : ℕ) (b w : Bool) → is_in s ours ≡ b → is_in s (wanted client ours) ≡ w → By s b w (own_from s own) (conn_from s peer.served)
    at_ s true true i j = record {
      range = ranges s i;
      own = asked s j;
      served = free_served s (wanted_free client s ours j) (a.stands s);
      job_is = refl;
      got = refl;
      starts = starts s i;
      busy = refl;
    }
    at_ s true false i j =
        subst (λ o. By s true false o (conn_from s peer.served)) (sym (other s j)) (talks_at s i (busy_joined s (wanted_busy client s ours i j) (a.stands s)))
    at_ s false true i j = absurd (let k : true ≡ false = sym (wanted_in client s ours j) ∙ i in cc)
    at_ s false false i j = subst (λ o. By s false false o (conn_from s peer.served)) (sym (other s j)) (at_rest s (a.stands s))

    empty_at : (s : ℕ) → is_in s ours ≡ true → units_of (own_from s own) ≡ []
    empty_at s i = go (is_in s (wanted client ours)) refl
      where
        go : (w : Bool) → is_in s (wanted client ours) ≡ w → units_of (own_from s own) ≡ []
        go true j = ap units_of (asked s j)
        go false j = ap units_of (other s j ∙ (busy_joined s (wanted_busy client s ours i j) (a.stands s)).own)

    with_asked : Rests x_.limit x_.table peer.bound x_.accepted z_ (plan x_.limit x_.table peer.bound x_.accepted z_ ours conv most bytes laws)
        (keeps x_.limit x_.table peer.bound x_.accepted z_ ours conv most bytes laws) (rests x_.limit x_.table peer.bound x_.accepted z_ ours conv most bytes laws)
        ours unlike ranges (mine x_.limit x_.table peer.bound x_.accepted z_ ours conv most bytes laws)
        (firsts x_.limit x_.table peer.bound x_.accepted z_ ours conv most bytes laws) (record client { queue = queue; own = own }) peer
    with_asked = record {
      meets = record {
        asked = wanted client ours;
        awaited = [];
        unlike = wanted_unlike client ours unlike;
        few = (let k = wanted_few client ours in omega (arith, k, few));
        stays = λ t m. refl;
        sides = record {
          client_fair = record { miu = a.client_fair.miu; window = a.client_fair.window; last = a.client_fair.last };
          peer_fair = a.peer_fair;
          client_readable = a.calm.client_readable;
          peer_readable = a.calm.peer_readable;
          client_queue = queue_is;
          peer_queue = a.calm.peer_queue;
          client_served = a.calm.client_served;
          peer_own = a.calm.peer_own;
          reached = (refl, a.peer_serving.bound, a.peer_serving.far_miu);
          client_miu = refl;
          client_window = refl;
          server_miu = refl;
          server_window = refl;
          no_other = a.calm.no_other;
          kept = record { seats = a.peer_serving.seats; most = refl; offers = refl; more = []; grew = sym (append-nil x_.accepted) };
          at = λ s. at_ s (is_in s ours) (is_in s (wanted client ours)) refl refl;
        };
      };
      empty = empty_at;
    }

  pub all_begin : Rests x_.limit x_.table peer.bound x_.accepted z_ (plan x_.limit x_.table peer.bound x_.accepted z_ ours conv most bytes laws)
      (keeps x_.limit x_.table peer.bound x_.accepted z_ ours conv most bytes laws) (rests x_.limit x_.table peer.bound x_.accepted z_ ours conv most bytes laws)
      ours unlike ranges (mine x_.limit x_.table peer.bound x_.accepted z_ ours conv most bytes laws)
      (firsts x_.limit x_.table peer.bound x_.accepted z_ ours conv most bytes laws) (connect_all ours client) peer
  all_begin =
      let k = all_connect client ours client unlike (λ t i. refl) in
      let to = connect_all ours client in
      subst (λ (l : EndState). Rests x_.limit x_.table peer.bound x_.accepted z_ (plan x_.limit x_.table peer.bound x_.accepted z_ ours conv most bytes laws)
      (keeps x_.limit x_.table peer.bound x_.accepted z_ ours conv most bytes laws) (rests x_.limit x_.table peer.bound x_.accepted z_ ours conv most bytes laws)
      ours unlike ranges (mine x_.limit x_.table peer.bound x_.accepted z_ ours conv most bytes laws)
      (firsts x_.limit x_.table peer.bound x_.accepted z_ ours conv most bytes laws) l peer) (sym k.all_else)
      (with_asked to.queue to.own (k.queue ∙ ap (λ q. q ++ map (connect_by client.miu client.window) (wanted client ours)) a.calm.client_queue) k.asked k.other)
