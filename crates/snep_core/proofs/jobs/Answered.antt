-- What a reply of a peer gives a client's jobs, PDU by PDU.
use Rattle.std.proofs.Common.{◌≡◌, ◌<◌, ◌≤◌, ◌⊎◌, ℕ, ◌+◌, ◌%◌, ◌==◌, ◌&&◌, ◌||◌, not, Bool, true, false, List, [], ◌∷◌, ◌++◌, length, Option, Some, None, refl, sym, ◌∙◌, ap, subst, inl, inr, arith}
use Rattle.std.proofs.Common.{if◌then◌else◌}
use Rattle.std.proofs.lemmas.Bool.{eqb-true}
use Rattle.llcp_conn.specs.Conn.{ConnState, count_end}
use Rattle.llcp_link.specs.State.{Bound, OwnState, conn_from, own_from, with_own}
use Rattle.llcp_link.specs.Asking.{acked_of, asked_from, has_waiting_of, is_open_by, standing_of}
use Rattle.llcp_link.specs.Giving.{after_giving, gave, given}
use Rattle.llcp_link.specs.Taking.{taken_from}
use Rattle.snep_core.specs.Accord.{PeerState, server_conn}
use Rattle.snep_core.specs.Jobs.{Job, has_byte}
use Rattle.snep_core.specs.Server.{Received, serving}
use Rattle.snep_core.specs.Session.{Offer, fresh_session, sent}
use Rattle.snep_core.specs.Talk.{EndState, gave_something, is_waiting, server_sap, silent, units_of}
use Rattle.snep_core.proofs.connections.Carrying.{FirstSo, HopSo, handed_first}
use Rattle.snep_core.proofs.requests.Conversations.{Conversation}
use Rattle.snep_core.proofs.connections.Debts.{debts, debts_left, other_debts, others_fewer, own_else, own_is, owes_conn, waits_still}
use Rattle.snep_core.proofs.connections.Meets.{HasUnit, Keeps, Meets, OnAccepts, OnHears, OnTells, TalksAt, cc_out, client_heard, conv_of, hears_meets, server_acked, server_gives, tells_meets}
use Rattle.snep_core.proofs.connections.OnConnection.{conn_at}
use Rattle.snep_core.proofs.connections.Opening.{cc_meets, cc_short, now_own, opens_, waits}
use Rattle.snep_core.proofs.connections.Pairs.{server_acks, tells}
use Rattle.snep_core.proofs.connections.Places.{Plan, few_asked}
use Rattle.snep_core.proofs.connections.Meets.{laws_of}
use Rattle.snep_core.proofs.jobs.Pressing.{Pressed, byte_of, other_count, some_owed}
use Rattle.snep_core.proofs.connections.Sides.{Sizes, conn_now, conn_other}

-- Since the client stood so, something came on one of its connections: a unit with a byte, a CC, or an acknowledgement, and no other
-- is owed there.
abbrev pub CameOn : Option OwnState → Option OwnState → Option ConnState → Type 0
CameOn before now there =
    (has_byte (units_of now) ≡ true)
    ⊎ (((is_waiting (standing_of before) ≡ true) × (is_open_by now ≡ true))
    ⊎ ((is_open_by before ≡ true) × (is_open_by now ≡ true) × (owes_conn there ≡ false) × ((acked_of now == acked_of before) ≡ false)))

pub true_or : (a b : Bool) → b ≡ true → (a || b) ≡ true
true_or true b e = refl
true_or false b e = e

pub or_true : (a b : Bool) → a ≡ true → (a || b) ≡ true
or_true a b e = ap (λ c. c || b) e

-- so the reply gave something there
pub came_gives : (before now : Option OwnState) (there : Option ConnState) → CameOn before now there
    → (gave_something before now || has_byte (units_of now)) ≡ true
came_gives before now there (inl e) = true_or (gave_something before now) (has_byte (units_of now)) e
came_gives before now there (inr (inl (w, o))) = or_true (gave_something before now) (has_byte (units_of now)) (go now o)
  where
    shut : (n : OwnState) → is_open_by (Some n) ≡ true → is_waiting (standing_of (Some n)) ≡ false
    shut n o = grind arith

    go : (n : Option OwnState) → is_open_by n ≡ true → gave_something before n ≡ true
    go None o = absurd cc
    go (Some n) o =
        ap (λ b. if b && not (is_waiting (standing_of (Some n))) then true else (if is_open_by before && is_open_by (Some n) then not (acked_of (Some n) == acked_of before) else false)) w
        ∙ ap (λ b. if not b then true else (if is_open_by before && is_open_by (Some n) then not (acked_of (Some n) == acked_of before) else false)) (shut n o)
came_gives before now there (inr (inr (o, p, q, e))) = or_true (gave_something before now) (has_byte (units_of now)) (go (is_waiting (standing_of before) && not (is_waiting (standing_of now))))
  where
    go : (b : Bool) → (if b then true else (if is_open_by before && is_open_by now then not (acked_of now == acked_of before) else false)) ≡ true
    go true = refl
    go false =
        ap (λ c. if c && is_open_by now then not (acked_of now == acked_of before) else false) o
        ∙ ap (λ c. if c then not (acked_of now == acked_of before) else false) p ∙ ap not e

module _ (limit : ℕ) (table : List Offer) (names : List Bound) (old : List Received) (z : Sizes) (plan : ℕ → Plan) (job : ℕ → Job) (keeps : Keeps limit table names old z plan)
    (rests : (s miu size : ℕ) → (plan s).is_job ≡ false → (ph : ((plan s).conv miu size).Phase) → ((plan s).conv miu size).Holds ph
    → (((plan s).conv miu size).queue_at ph ≡ []) × (((plan s).conv miu size).session_at ph ≡ fresh_session)) (mid : EndState) (total : ℕ) where
  abbrev M : EndState → PeerState → Type 0
  M l p = Meets limit table names old z plan job l p

  abbrev mine : ℕ → Bool
  mine s = (plan s).is_job

  -- something came for one of the jobs
  pub record Came (l : EndState) (p : PeerState) : Type 0 where
    pub sap : ℕ
    pub is_mine : mine sap ≡ true
    pub came : CameOn (own_from sap mid.own) (own_from sap l.own) (conn_from sap p.served)

  -- nothing came for any, and so many acknowledgements fewer are owed
  pub record Nothing (fewer : ℕ) (l : EndState) (p : PeerState) : Type 0 where
    pub same : (s : ℕ) → mine s ≡ true → own_from s l.own ≡ own_from s mid.own
    pub left : debts l.own + other_debts mine p.served + fewer ≤ total

  -- where a unit waits to be given, one did, and where one did, one waits
  abbrev pub WaitsSo : EndState → Type 0
  WaitsSo l = (s : ℕ) → has_waiting_of (own_from s l.own) ≡ has_waiting_of (own_from s mid.own)

  pub record Replied (p : PeerState) (l : EndState) : Type 0 where
    pub meets : M l p
    pub waiting : WaitsSo l
    pub so_far : Came l p ⊎ Nothing 1 l p

  module _ (l : EndState) (p : PeerState) (h : M l p) (waiting : WaitsSo l) (so_far : Came l p ⊎ Nothing 0 l p) where
    abbrev T_ : ℕ → Type 0
    T_ s = TalksAt limit table names old z plan job keeps l p h s

    abbrev c_ : (s : ℕ) → T_ s → Conversation
    c_ s t = conv_of limit table names old z plan job keeps l p h s t

    mine_told : (s : ℕ) (t : T_ s) → HasUnit limit table names old z plan job keeps l p h s t → (b : Bool) → mine s ≡ b → mine s ≡ true
    mine_told s t y true e = e
    mine_told s t y false e =
        let r = rests s t.n.server_miu t.n.client_miu e t.phase t.holds in
        let none : serving.due p.service s t.n.client_miu ≡ None = ap (λ q. (sent t.n.client_miu q).unit) (t.serves.session ∙ r.1) in
        absurd (let n = sym none ∙ y.due in cc)

    on_tells : OnTells limit table names old z plan job keeps l p h Replied
    on_tells s t free y room =
        let o = conn_at s (tells t.n y.unit) ((c_ s t).queue_at t.phase) ((c_ s t).units_at t.phase ++ y.unit ∷ []) in record {
          meets = tells_meets limit table names old z plan job keeps l p h s t free y room;
          waiting = λ r. (waits_still s o _ l.own t.own refl refl r ∙ waiting r);
          so_far = inl (record {
            sap = s;
            is_mine = mine_told s t y (mine s) refl;
            came = inl (ap (λ q. has_byte (units_of q)) (own_is s o _ l.own t.own refl) ∙ byte_of ((c_ s t).units_at t.phase) y.unit y.some);
          });
        }

    on_hears : OnHears limit table names old z plan job keeps l p h Replied
    on_hears s t free u us e = record {
      meets = hears_meets limit table names old z plan job keeps l p h s t free;
      waiting = λ r. (waits_still s o before l.own t.own refl refl r ∙ waiting r);
      so_far = go so_far;
    }
      where
        before : OwnState
        before = conn_at s t.n ((c_ s t).queue_at t.phase) ((c_ s t).units_at t.phase)

        o : OwnState
        o = conn_at s (server_acks t.n) ((c_ s t).queue_at t.phase) ((c_ s t).units_at t.phase)

        k : ConnState
        k = server_conn s (server_acks t.n)

        l_ : EndState
        l_ = client_heard limit table names old z plan job keeps l p h s t

        p_ : PeerState
        p_ = server_acked limit table names old z plan job keeps l p h s t

        is_now : own_from s l_.own ≡ Some o
        is_now = own_is s o before l.own t.own refl

        there_now : conn_from s p_.served ≡ Some k
        there_now = conn_now s k (server_conn s t.n) p.served t.served refl

        -- it was this one's
        again : mine s ≡ true → CameOn (own_from s mid.own) (Some before) (Some (server_conn s t.n)) → Came l_ p_
        again m (inl b) = record { sap = s; is_mine = m; came = inl (ap (λ q. has_byte (units_of q)) is_now ∙ b) }
        again m (inr (inl (w, b))) = record { sap = s; is_mine = m; came = inr (inl (w, ap is_open_by is_now)) }
        again m (inr (inr (a, b, q, c))) = absurd (let n = sym (some_owed t.n.asked u us e) ∙ q in cc)

        came_still : Came l p → Came l_ p_
        came_still x = by (s == x.sap) refl
          where
            by : (b : Bool) → (s == x.sap) ≡ b → Came l_ p_
            by true n =
                let same = sym (eqb-true s x.sap n) in
                again (subst (λ r. mine r ≡ true) same x.is_mine)
                (subst (λ q. CameOn (own_from s mid.own) q (Some (server_conn s t.n))) t.own
                (subst (λ q. CameOn (own_from s mid.own) (own_from s l.own) q) t.served
                (subst (λ r. CameOn (own_from r mid.own) (own_from r l.own) (conn_from r p.served)) same x.came)))
            by false n = record {
              sap = x.sap;
              is_mine = x.is_mine;
              came = subst (λ q. CameOn (own_from x.sap mid.own) q (conn_from x.sap p_.served)) (sym (own_else s o before l.own t.own refl x.sap n))
                  (subst (λ q. CameOn (own_from x.sap mid.own) (own_from x.sap l.own) q) (sym (conn_other s k (server_conn s t.n) p.served t.served refl x.sap n)) x.came);
            }

        first_here : Nothing 0 l p → mine s ≡ true → Came l_ p_
        first_here x m =
            let was : own_from s mid.own ≡ Some before = sym (x.same s m) ∙ t.own in
            let some_ : 0 < length t.n.asked = subst (λ w. 0 < length w) (sym e) (omega arith) in
            let few = few_asked limit table old z s (plan s) (job s) t.range t.n p.service (laws_of limit table names old z plan job keeps l p h s t) t.phase t.paired t.holds t.job_is t.serves
            t.settled in
            record {
              sap = s;
              is_mine = m;
              came = inr (inr (
                ap is_open_by was,
                ap is_open_by is_now,
                ap owes_conn there_now,
                ap (λ q. acked_of q == acked_of (own_from s mid.own)) is_now
                    ∙ ap (λ q. ((t.n.asked_count + length t.n.asked) % count_end) == acked_of q) was
                    ∙ other_count t.n.asked_count (length t.n.asked) some_ few,
              ));
            }

        other_here : Nothing 0 l p → mine s ≡ false → Nothing 1 l_ p_
        other_here x m =
            let d = debts_left s o before l.own t.own refl (λ z. z) in
            let f = others_fewer mine s k (server_conn s t.n) p.served t.served refl m refl (some_owed t.n.asked u us e) t.range.0 (let r = t.range.1 in omega arith) in
            let w = x.left in record {
              same = λ r n. own_else s o before l.own t.own refl r (apart r n (s == r) refl) ∙ x.same r n;
              left = omega (arith, d, f, w);
            }
          where
            apart : (r : ℕ) → mine r ≡ true → (b : Bool) → (s == r) ≡ b → (s == r) ≡ false
            apart r n false q = q
            apart r n true q = absurd (let y = sym n ∙ ap mine (sym (eqb-true s r q)) ∙ m in cc)

        by_mine : Nothing 0 l p → (b : Bool) → mine s ≡ b → Came l_ p_ ⊎ Nothing 1 l_ p_
        by_mine x true m = inl (first_here x m)
        by_mine x false m = inr (other_here x m)

        go : (Came l p ⊎ Nothing 0 l p) → Came l_ p_ ⊎ Nothing 1 l_ p_
        go (inl x) = inl (came_still x)
        go (inr x) = by_mine x (mine s) refl

    on_accepts : OnAccepts limit table names old z plan job keeps l p h Replied
    on_accepts s rest e = (
      cc_short limit table names old z plan job l p h s rest e,
      record {
        meets = cc_meets limit table names old z plan job l p h s rest e;
        waiting = subst WaitsSo (sym (opens_ limit table names old z plan job l p h s rest e)) (λ r. waits_still s o (asked_from s server_sap) l.own w_ refl refl r ∙ waiting r);
        so_far = inl (subst (λ q. Came q p_) (sym (opens_ limit table names old z plan job l p h s rest e)) (go so_far));
      },
    )
      where
        o : OwnState
        o = now_own limit table names old z plan job l p h s rest e z.client_miu

        p_ : PeerState
        p_ = cc_out limit table names old z plan job keeps l p h Replied rest

        l_ : EndState
        l_ = record l { own = with_own o l.own }

        w_ : own_from s l.own ≡ Some (asked_from s server_sap)
        w_ = (waits limit table names old z plan job l p h s rest e).own

        is_now : own_from s l_.own ≡ Some o
        is_now = own_is s o (asked_from s server_sap) l.own w_ refl

        is_mine_ : mine s ≡ true
        is_mine_ = (waits limit table names old z plan job l p h s rest e).busy

        not_yet : (there : Option ConnState) → CameOn (own_from s mid.own) (Some (asked_from s server_sap)) there → ⊥
        not_yet there (inl b) = cc
        not_yet there (inr (inl (w, b))) = cc
        not_yet there (inr (inr (a, b, q, c))) = cc

        go : (Came l p ⊎ Nothing 0 l p) → Came l_ p_
        go (inr x) = record {
          sap = s;
          is_mine = is_mine_;
          came = inr (inl (ap (λ q. is_waiting (standing_of q)) (sym (x.same s is_mine_) ∙ w_), ap is_open_by is_now));
        }
        go (inl x) = by (s == x.sap) refl
          where
            by : (b : Bool) → (s == x.sap) ≡ b → Came l_ p_
            by true n =
                let same = sym (eqb-true s x.sap n) in
                absurd (not_yet (conn_from s p.served) (subst (λ q. CameOn (own_from s mid.own) q (conn_from s p.served)) w_
                (subst (λ r. CameOn (own_from r mid.own) (own_from r l.own) (conn_from r p.served)) same x.came)))
            by false n = record {
              sap = x.sap;
              is_mine = x.is_mine;
              came = subst (λ q. CameOn (own_from x.sap mid.own) q (conn_from x.sap p.served)) (sym (own_else s o (asked_from s server_sap) l.own w_ refl x.sap n)) x.came;
            }

  reply_hop : (p : PeerState) (l : EndState) → Replied p l → HopSo serving silent Replied l (gave serving p)
  reply_hop p l x =
      server_gives limit table names old z plan job keeps l p x.meets Replied (λ o. HopSo serving silent Replied l o) (λ g y. y)
      (on_accepts l p x.meets x.waiting f) (on_tells l p x.meets x.waiting f) (on_hears l p x.meets x.waiting f) (λ e q s. tt)
    where
      weaken : Nothing 1 l p → Nothing 0 l p
      weaken y = record { same = y.same; left = (let w = y.left in omega (arith, w)) }

      f : Came l p ⊎ Nothing 0 l p
      f = go x.so_far
        where
          go : (Came l p ⊎ Nothing 1 l p) → Came l p ⊎ Nothing 0 l p
          go (inl y) = inl y
          go (inr y) = inr (weaken y)

-- A whole reply, where the client acknowledged something or the peer has something to give.
module _ (limit : ℕ) (table : List Offer) (names : List Bound) (old : List Received) (z : Sizes) (plan : ℕ → Plan) (job : ℕ → Job) (keeps : Keeps limit table names old z plan)
    (rests : (s miu size : ℕ) → (plan s).is_job ≡ false → (ph : ((plan s).conv miu size).Phase) → ((plan s).conv miu size).Holds ph
    → (((plan s).conv miu size).queue_at ph ≡ []) × (((plan s).conv miu size).session_at ph ≡ fresh_session)) (a b : ℕ) (l : EndState) (p : PeerState)
    (x : Pressed limit table names old z plan job keeps rests a b l p) where
  abbrev R_ : PeerState → EndState → Type 0
  R_ q e = Replied limit table names old z plan job keeps rests l (a + b) q e

  at_first : Came limit table names old z plan job keeps rests l (a + b) l p ⊎ Nothing limit table names old z plan job keeps rests l (a + b) 0 l p
  at_first = inr (record { same = λ s n. refl; left = (let u = x.left in let v = x.others in omega (arith, u, v)) })

  silent_then : gave serving p ≡ None → R_ p l
  silent_then none = go x.pressed
    where
      go : ((debts l.own + 1 ≤ a) ⊎ (gave serving p ≡ None → ⊥)) → R_ p l
      go (inl d) = record { meets = x.meets; waiting = λ s. refl; so_far = inr (record { same = λ s n. refl; left = (let v = x.others in omega (arith, d, v)) }) }
      go (inr f) = absurd (f none)

  first_back : FirstSo serving silent R_ p l (gave serving p)
  first_back =
      server_gives limit table names old z plan job keeps l p x.meets R_ (λ o. gave serving p ≡ o → FirstSo serving silent R_ p l o) (λ g y e. y)
      (on_accepts limit table names old z plan job keeps rests l (a + b) l p x.meets (λ s. refl) at_first)
      (on_tells limit table names old z plan job keeps rests l (a + b) l p x.meets (λ s. refl) at_first)
      (on_hears limit table names old z plan job keeps rests l (a + b) l p x.meets (λ s. refl) at_first)
      (λ e q s none. silent_then none) refl

  pub pressed_answers : (k : ℕ) → R_ (after_giving serving k p) (taken_from silent l (given serving k p))
  pressed_answers k =
      handed_first serving silent R_ (reply_hop limit table names old z plan job keeps rests l (a + b)) k p l x.meets.sides.peer_readable x.meets.sides.client_readable first_back
