-- Each exchange of a client and a peer gives a job something, or leaves fewer acknowledgements to be given.
use Rattle.std.proofs.Common.{◌≡◌, ◌<◌, ◌≤◌, ◌⊎◌, nat_lt, ℕ, ◌+◌, ◌%◌, ◌==◌, ◌&&◌, not, Bool, true, false, List, [], ◌∷◌, ◌++◌, length, map, Some, None, IfSome, refl, sym, ◌∙◌, ap, subst, inl, inr}
use Rattle.std.proofs.Common.{arith}
use Rattle.std.proofs.lemmas.Bool.{eqb-true, lt-ltb}
use Rattle.std.proofs.lemmas.Bool.Decides.{nat_tests}
use Rattle.llcp_conn.specs.Conn.{ConnState, IsSap}
use Rattle.llcp_link.specs.Serving.{Serving}
use Rattle.llcp_link.specs.State.{Bound, LlcState, Queued, conn_from}
use Rattle.llcp_pdu.specs.Wire.{sap_count}
use Rattle.llcp_link.specs.Giving.{acknowledges, after_giving, first_of_all, gave, gave_from, given, informs}
use Rattle.llcp_link.specs.Taking.{taken_from}
use Rattle.llcp_link.proofs.Clients.{conn_more_other}
use Rattle.snep_core.specs.Accord.{PeerState, is_some_of, most_clients, server_conn}
use Rattle.snep_core.specs.Jobs.{Job, has_byte}
use Rattle.snep_core.specs.Server.{Received, serving}
use Rattle.snep_core.specs.Session.{Offer, fresh_session}
use Rattle.snep_core.specs.Talk.{EndState, client_sap, silent}
use Rattle.snep_core.proofs.connections.Around.{none_at, none_first, none_second}
use Rattle.snep_core.proofs.connections.Carrying.{FirstSo, HopSo, handed_first}
use Rattle.snep_core.proofs.requests.Conversations.{Conversation}
use Rattle.snep_core.proofs.connections.OnConnection.{conn_at}
use Rattle.snep_core.proofs.connections.Pairs.{asks, client_ack, client_acks, client_unit, server_ack, server_unit}
use Rattle.snep_core.proofs.connections.Places.{Plan}
use Rattle.snep_core.proofs.connections.Sides.{Sizes, conn_now}
use Rattle.snep_core.proofs.connections.Tally.{no_more}
use Rattle.snep_core.proofs.requests.Conversations.{no_unit}
use Rattle.snep_core.proofs.connections.Debts.{debts, debts_fewer, debts_left, other_debts, others_left, owes_conn}
use Rattle.snep_core.proofs.connections.Meets.{Keeps, Meets, OnAcks, OnAsks, OnConnects, TalksAt, acks_meets, asks_meets, cc_of, client_gives, conv_of, is_in, server_asked, HasUnit}
use Rattle.snep_core.proofs.connections.Opening.{accepting, conn, connect_meets, connect_short, now_there, taken}

-- there is one in these
pub record IsSome (us : List (List ℕ)) : Type 0 where
  pub first : List ℕ
  pub rest : List (List ℕ)
  pub is : us ≡ first ∷ rest

some_of : (us : List (List ℕ)) (u : List ℕ) → IsSome (us ++ u ∷ [])
some_of [] u = record { first = u; rest = []; is = refl }
some_of (x ∷ us) u = record { first = x; rest = us ++ u ∷ []; is = refl }

pub byte_of : (us : List (List ℕ)) (u : List ℕ) → 0 < length u → has_byte (us ++ u ∷ []) ≡ true
byte_of [] [] h = absurd (omega arith)
byte_of [] (b ∷ bs) h = refl
byte_of ([] ∷ us) u h = byte_of us u h
byte_of ((b ∷ bs) ∷ us) u h = refl

-- a count of up to 15 more is another one
pub other_count : (a k : ℕ) → 0 < k → k ≤ 15 → (((a + k) % 4294967296) == a) ≡ false
other_count a k h i =
    let e : (a + k) % 4294967296 ≡ a → ⊥ = λ e. omega arith in
    grind (arith, nat_tests, e)

pub some_owed : (us : List (List ℕ)) (u : List ℕ) (rest : List (List ℕ)) → us ≡ u ∷ rest → is_some_of us ≡ true
some_owed us u rest e = ap is_some_of e

-- where an end gives nothing, nothing waits, and no SAP has anything
pub record GivesNothing {S : Type 0} (m : Serving S) (l : LlcState S) : Type 0 where
  pub queue : l.queue ≡ []
  pub quiet : (s : ℕ) → s < sap_count → informs m l s ≡ None
  pub settled : (s : ℕ) → s < sap_count → acknowledges l s ≡ None

pub nothing : {S : Type 0} (m : Serving S) (l : LlcState S) → IfSome l.last IsSap → gave m l ≡ None → GivesNothing m l
nothing m l mark e = go l.queue refl e
  where
    go : (q : List Queued) → l.queue ≡ q → gave_from m l q ≡ None → GivesNothing m l
    go (x ∷ q) k e = absurd cc
    go [] k e = record {
      queue = k;
      quiet = λ s low. none_at (informs m l) s low l.last mark (none_first (first_of_all l.last (informs m l)) (first_of_all l.last (acknowledges l)) e);
      settled = λ s low. none_at (acknowledges l) s low l.last mark (none_second (first_of_all l.last (informs m l)) (first_of_all l.last (acknowledges l)) e);
    }

more_wait : {S : Type 0} (m : Serving S) (p : LlcState S) (q : List Queued) (x : Queued) → gave_from m p (q ++ x ∷ []) ≡ None → ⊥
more_wait m p [] x e = cc
more_wait m p (y ∷ q) x e = cc

both_not : (b : Bool) → (b && false) ≡ true → ⊥
both_not true e = cc
both_not false e = cc

module _ (limit : ℕ) (table : List Offer) (names : List Bound) (old : List Received) (z : Sizes) (plan : ℕ → Plan) (job : ℕ → Job) (keeps : Keeps limit table names old z plan)
    (rests : (s miu size : ℕ) → (plan s).is_job ≡ false → (ph : ((plan s).conv miu size).Phase) → ((plan s).conv miu size).Holds ph
    → (((plan s).conv miu size).queue_at ph ≡ []) × (((plan s).conv miu size).session_at ph ≡ fresh_session)) where
  abbrev M : EndState → PeerState → Type 0
  M l p = Meets limit table names old z plan job l p

  -- the SAPs of jobs
  abbrev pub mine : ℕ → Bool
  mine s = (plan s).is_job

  -- The client acknowledged something, or the peer has something to give; this many acknowledgements are owed at most.
  module _ (a b : ℕ) where
    pub record Pressed (l : EndState) (p : PeerState) : Type 0 where
      pub meets : M l p
      pub left : debts l.own ≤ a
      pub others : other_debts mine p.served ≤ b
      pub pressed : (debts l.own + 1 ≤ a) ⊎ (gave serving p ≡ None → ⊥)

    module _ (l : EndState) (p : PeerState) (h : M l p) (left : debts l.own ≤ a) (others : other_debts mine p.served ≤ b) where
      abbrev T_ : ℕ → Type 0
      T_ s = TalksAt limit table names old z plan job keeps l p h s

      unit_mine : (s : ℕ) (t : T_ s) (u : List ℕ) (queue : List (List ℕ)) → (conv_of limit table names old z plan job keeps l p h s t).queue_at t.phase ≡ u ∷ queue → mine s ≡ false → ⊥
      unit_mine s t u queue e m = no_unit u queue (sym (rests s t.n.server_miu t.n.client_miu m t.phase t.holds).0 ∙ e)

      asks_come : (s : ℕ) (t : T_ s) (u : List ℕ) → gave serving (server_asked limit table names old z plan job keeps l p h s t u) ≡ None → ⊥
      asks_come s t u e =
          let q = server_asked limit table names old z plan job keeps l p h s t u in
          let none = nothing serving q h.sides.peer_fair.last e in
          let x = some_of t.n.asked u in
          let k : acknowledges q s ≡ None = none.settled s (let r = t.range.1 in omega arith) in
          let i = server_ack serving q h.sides.peer_own s (asks t.n u) (conn_now s (server_conn s (asks t.n u)) _ p.served t.served refl) x.first x.rest x.is in
          (let n = sym k ∙ i in cc)

      on_asks : OnAsks limit table names old z plan job keeps l p h Pressed
      on_asks s t free u queue e = record {
        meets = asks_meets limit table names old z plan job keeps l p h s t free u queue e;
        left = (let d = debts_left s (conn_at s (asks t.n u) queue ((conv_of limit table names old z plan job keeps l p h s t).units_at t.phase)) _ l.own t.own refl (λ k. absurd cc) in
            omega (arith, d, left));
        others = (let d = others_left mine s (server_conn s (asks t.n u)) _ p.served t.served refl (λ m k. absurd (unit_mine s t u queue e m)) in omega (arith, d, others));
        pressed = inr (asks_come s t u);
      }

      on_acks : OnAcks limit table names old z plan job keeps l p h Pressed
      on_acks s t free v vs e =
          let c = conv_of limit table names old z plan job keeps l p h s t in
          let d = debts_fewer s (conn_at s (client_acks t.n) (c.queue_at t.phase) (c.units_at t.phase)) _ l.own t.own refl refl (some_owed t.n.told v vs e) t.range.0
          (let r = t.range.1 in omega arith) in record {
            meets = acks_meets limit table names old z plan job keeps l p h s t free;
            left = omega (arith, d, left);
            others = (let i = others_left mine s (server_conn s (client_acks t.n)) _ p.served t.served refl (λ m k. k) in omega (arith, i, others));
            pressed = inl (omega (arith, d, left));
          }

      opens_others : (s : ℕ) (rest : List ℕ) (e : h.asked ≡ s ∷ rest) → other_debts mine (p.served ++ conn limit table names old z plan job l p h s rest e ∷ []) ≤ b
      opens_others s rest e =
          let i = no_more (λ t. not (mine t) && owes_conn (conn_from t now)) (λ t. not (mine t) && owes_conn (conn_from t p.served)) all most_clients client_sap in omega (arith, i, others)
        where
          k : ConnState
          k = conn limit table names old z plan job l p h s rest e

          now : List ConnState
          now = p.served ++ k ∷ []

          all : (t : ℕ) → (not (mine t) && owes_conn (conn_from t now)) ≡ true → (not (mine t) && owes_conn (conn_from t p.served)) ≡ true
          all t y = go (s == t) refl
            where
              go : (c : Bool) → (s == t) ≡ c → (not (mine t) && owes_conn (conn_from t p.served)) ≡ true
              go true n =
                  let same : s ≡ t = eqb-true s t n in
                  let fresh_ : conn_from t now ≡ Some k = subst (λ r. conn_from r now ≡ Some k) same (now_there limit table names old z plan job l p h s rest e) in
                  absurd (both_not (not (mine t)) (sym (ap (λ q. not (mine t) && owes_conn q) fresh_) ∙ y))
              go false n = ap (λ q. not (mine t) && owes_conn q) (sym (conn_more_other t p.served k n)) ∙ y

      on_connects : OnConnects limit table names old z plan job keeps l p h Pressed
      on_connects s rest e = (
        connect_short limit table names old z plan job l p h s rest e,
        record {
          meets = connect_meets limit table names old z plan job l p h s rest e;
          left = left;
          others = subst (λ (q : PeerState). other_debts mine q.served ≤ b) (sym (taken limit table names old z plan job l p h s rest e)) (opens_others s rest e);
          pressed = inr (subst (λ (q : PeerState). gave serving q ≡ None → ⊥) (sym (taken limit table names old z plan job l p h s rest e))
              (more_wait serving (accepting limit table names old z plan job l p h s rest e) p.queue _));
        },
      )

    press_hop : (l : EndState) (p : PeerState) → Pressed l p → HopSo silent serving Pressed p (gave silent l)
    press_hop l p x =
        client_gives limit table names old z plan job keeps l p x.meets Pressed (λ o. HopSo silent serving Pressed p o) (λ g y. y)
        (on_connects l p x.meets x.left x.others) (on_asks l p x.meets x.left x.others) (on_acks l p x.meets x.left x.others) (λ e q s. tt)

    -- The client is ready, at some SAP: its CONNECT or CC waits; or where it is to give nothing, and nothing of it is unacknowledged,
    -- the server has a unit.
    pub record IsReady (l : EndState) (p : PeerState) : Type 0 where
      pub meets : M l p
      pub left : debts l.own ≤ a
      pub others : other_debts mine p.served ≤ b
      pub sap : ℕ
      pub works : (is_in sap meets.asked ≡ true) ⊎ ((is_in sap meets.awaited ≡ true) ⊎ ((t : TalksAt limit table names old z plan job keeps l p meets sap)
          × ((conv_of limit table names old z plan job keeps l p meets sap t).queue_at t.phase ≡ [] → t.n.asked ≡ [] → HasUnit limit table names old z plan job keeps l p meets sap t)))

    no_waits : (s : ℕ) (xs : List ℕ) → map (cc_of limit table names old z plan) xs ≡ [] → is_in s xs ≡ true → ⊥
    no_waits s [] e i = cc
    no_waits s (x ∷ xs) e i = cc

    module _ (l : EndState) (p : PeerState) (x : IsReady l p) where
      abbrev R_ : Type 0
      R_ = TalksAt limit table names old z plan job keeps l p x.meets x.sap

      abbrev d_ : R_ → Conversation
      d_ t = conv_of limit table names old z plan job keeps l p x.meets x.sap t

      -- the client gives nothing, so the peer has something to give
      comes : x.meets.asked ≡ [] → ((s : ℕ) → s < sap_count → informs silent l s ≡ None) → ((s : ℕ) → s < sap_count → acknowledges l s ≡ None) → gave serving p ≡ None → ⊥
      comes none quiet settled e = go x.works
        where
          away : GivesNothing serving p
          away = nothing serving p x.meets.sides.peer_fair.last e

          by_asked : (t : R_) → x.sap < 64 → t.n.told ≡ [] → (t.n.asked ≡ [] → HasUnit limit table names old z plan job keeps l p x.meets x.sap t) → (asked : List (List ℕ)) → t.n.asked ≡ asked → ⊥
          by_asked t low told busy (u ∷ us) a =
              let i = server_ack serving p x.meets.sides.peer_own x.sap t.n t.served u us a in
              let k = away.settled x.sap low in (let n = sym k ∙ i in cc)
          by_asked t low told busy [] a =
              let y = busy a in
              let room : nat_lt (length t.n.told + 0) t.n.client_window ≡ true =
              ap (λ w. nat_lt (length w + 0) t.n.client_window) told ∙ lt-ltb 0 t.n.client_window (let w = t.paired.client_window.0 in omega arith) in
              let i = server_unit serving p x.meets.sides.peer_own x.sap t.n t.served y.unit y.due room in
              let k = away.quiet x.sap low in (let n = sym k ∙ i in cc)

          by_told : (t : R_) → x.sap < 64 → (d_ t).queue_at t.phase ≡ [] → (t.n.asked ≡ [] → HasUnit limit table names old z plan job keeps l p x.meets x.sap t) → (told : List (List ℕ))
              → t.n.told ≡ told → ⊥
          by_told t low q busy [] a = by_asked t low a busy t.n.asked refl
          by_told t low q busy (v ∷ vs) a =
              let i = client_ack l x.meets.sides.client_served x.sap t.n ((d_ t).units_at t.phase) ((d_ t).queue_at t.phase) t.own v vs a in
              let k = settled x.sap low in (let n = sym k ∙ i in cc)

          by_queue : (t : R_) → x.sap < 64 → ((d_ t).queue_at t.phase ≡ [] → t.n.asked ≡ [] → HasUnit limit table names old z plan job keeps l p x.meets x.sap t)
              → (queue : List (List ℕ)) → (d_ t).queue_at t.phase ≡ queue → ⊥
          by_queue t low busy [] q = by_told t low q (busy q) t.n.told refl
          by_queue t low busy (u ∷ queue) q =
              let i = client_unit l x.meets.sides.client_served x.sap t.n ((d_ t).units_at t.phase) u queue (t.own ∙ ap (λ w. Some (conn_at x.sap t.n w ((d_ t).units_at t.phase))) q) in
              let k = quiet x.sap low in (let n = sym k ∙ i in cc)

          go : ((is_in x.sap x.meets.asked ≡ true) ⊎ ((is_in x.sap x.meets.awaited ≡ true) ⊎ ((t : R_)
              × ((d_ t).queue_at t.phase ≡ [] → t.n.asked ≡ [] → HasUnit limit table names old z plan job keeps l p x.meets x.sap t)))) → ⊥
          go (inl i) = (let n = sym (ap (is_in x.sap) none) ∙ i in cc)
          go (inr (inl i)) = no_waits x.sap x.meets.awaited (sym x.meets.sides.peer_queue ∙ away.queue) i
          go (inr (inr (t, busy))) = by_queue t (let r = t.range.1 in omega arith) busy ((d_ t).queue_at t.phase) refl

      -- its payload is given and taken, whatever its first PDU is
      pub ready_gives : FirstSo silent serving Pressed l p (gave silent l)
      ready_gives =
          client_gives limit table names old z plan job keeps l p x.meets Pressed (λ o. FirstSo silent serving Pressed l p o) (λ g y. y)
          (on_connects l p x.meets x.left x.others) (on_asks l p x.meets x.left x.others) (on_acks l p x.meets x.left x.others)
          (λ e q s. record { meets = x.meets; left = x.left; others = x.others; pressed = inr (comes e q s) })

      pub ready_presses : (k : ℕ) → Pressed (after_giving silent k l) (taken_from serving p (given silent k l))
      ready_presses k =
          handed_first silent serving Pressed press_hop k l p x.meets.sides.client_readable x.meets.sides.peer_readable ready_gives
