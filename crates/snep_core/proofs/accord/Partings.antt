-- A client that ends its connections and a peer that it accords with, PDU by PDU: DISCs that wait at the client, DMs that wait at the peer.
use Rattle.std.proofs.Common.{◌≡◌, ◌<◌, ◌≤◌, nat_le, ℕ, ◌+◌, ◌==◌, Bool, true, false, List, [], ◌∷◌, ◌++◌, append_assoc, length, length-append, map, Option, Some, None, refl, sym, ◌∙◌, ap, subst, inl}
use Rattle.std.proofs.Common.{arith, if◌then◌else◌}
use Rattle.std.proofs.lemmas.Bool.Decides.{nat_tests}
use Rattle.std.proofs.lemmas.List.{map-append}
use Rattle.llcp_pdu.specs.declared.part.Part.TheVariants.{Disc, Dm}
use Rattle.llcp_conn.specs.Conn.{ConnState}
use Rattle.llcp_link.specs.Asking.{request}
use Rattle.llcp_link.specs.Own.{dm_on, if_there, on_own}
use Rattle.llcp_link.specs.Giving.{acknowledges, first_of_all, gave, gave_from, informs, or_else}
use Rattle.llcp_link.specs.State.{Bound, OwnState, Queued, answer, conn_from, most_answers, own_from, own_holder, served_holder, with_own, without_conn}
use Rattle.llcp_link.specs.declared.own.OwnIs.{OwnIs}
use Rattle.llcp_link.specs.declared.own.OwnIs.TheVariants.{Closed, Leaving}
use Rattle.llcp_link.specs.Taking.{answers_in, disconnected, leaves, steps_part}
use Rattle.llcp_link.proofs.Clients.{conn_without_other}
use Rattle.snep_core.specs.Accord.{IsClientSap, IsOver, Numbers, PeerState, is_in, most_clients, server_conn}
use Rattle.snep_core.specs.Server.{ServerState, serving, session_of}
use Rattle.snep_core.specs.Session.{fresh_session, sent}
use Rattle.snep_core.specs.Talk.{EndState, server_sap, silent}
use Rattle.snep_core.proofs.connections.Around.{found_of}
use Rattle.snep_core.proofs.connections.Asides.{over_still, peer_queues}
use Rattle.snep_core.proofs.connections.Carrying.{FirstSo, HopSo, IsShort}
use Rattle.snep_core.proofs.connections.Meets.{AreUnlike}
use Rattle.snep_core.proofs.connections.Opening.{in_both, in_last, in_last_other, in_other, in_self, neither}
use Rattle.snep_core.proofs.connections.Pairs.{acks_is, bare_acks, bare_informs, informs_is, server_quiet, server_settled}
use Rattle.snep_core.proofs.sessions.Removed.{none_left, still_counted}
use Rattle.snep_core.proofs.connections.Sides.{Place, Sides, Sizes, at_changed, sides_own}

-- the client's connection from a SAP once it was given up, and once it is closed
abbrev pub given_up : ℕ → OwnIs → OwnState
given_up s is = record { here = s; there = server_sap; is = is; units = [] }

abbrev pub disc : ℕ → Queued
disc s = request (Disc server_sap s)

abbrev pub dm : ℕ → Queued
dm s = answer (Dm s server_sap disconnected)

-- What stands at a SAP: the client gave it up, and the peer has it still; or not any more; or there is none.
pub record Giving (sap : ℕ) (o : Option OwnState) (c : Option ConnState) (x : ServerState) : Type 0 where
  pub range : IsClientSap sap
  pub own : o ≡ Some (given_up sap Leaving)
  pub n : Numbers
  pub settled : n.asked ≡ []
  pub served : c ≡ Some (server_conn sap n)
  pub session : session_of x sap ≡ fresh_session

pub record Given (sap : ℕ) (o : Option OwnState) (c : Option ConnState) : Type 0 where
  pub range : IsClientSap sap
  pub own : o ≡ Some (given_up sap Leaving)
  pub served : c ≡ None

pub record Gone (o : Option OwnState) (c : Option ConnState) : Type 0 where
  pub own : IsOver o
  pub served : c ≡ None

-- by whether its DM waits, and its DISC
abbrev pub ByQueues : Bool → Bool → Place
ByQueues told true sap o c x = Giving sap o c x
ByQueues true false sap o c x = Given sap o c
ByQueues false false sap o c x = Gone o c

abbrev pub Parting : List ℕ → List ℕ → Place
Parting told waits sap o c x = ByQueues (is_in sap told) (is_in sap waits) sap o c x

pub unlike_behind : (xs ys : List ℕ) → AreUnlike (xs ++ ys) → AreUnlike ys
unlike_behind [] ys u = u
unlike_behind (x ∷ xs) ys u = unlike_behind xs ys u.1

count_answers : (xs : List ℕ) → answers_in (map dm xs) ≡ length xs
count_answers [] = refl
count_answers (x ∷ xs) = let e = count_answers xs in omega (arith, e)

few_answers : (n : ℕ) → n ≤ most_clients → nat_le most_answers n ≡ false
few_answers n h = grind (arith, nat_tests, h)

module _ (names : List Bound) (s : ServerState) (z : Sizes) where
  -- The DISCs of these SAPs wait, the DMs of those; the others are gone.
  pub record Stands (told waits : List ℕ) (l : EndState) (p : PeerState) : Type 0 where
    pub sides : Sides s.limit s.table names s.accepted z (Parting told waits) (map disc waits) (map dm told) l p
    pub service_is : p.service ≡ s
    pub unlike : AreUnlike (told ++ waits)
    pub few : length told + length waits ≤ most_clients

  -- A DISC was given: the peer has the connection no more, and its DM waits.
  module _ (told : List ℕ) (sap : ℕ) (rest : List ℕ) (l : EndState) (p : PeerState) (h : Stands told (sap ∷ rest) l p) where
    abbrev Here_ : Bool → Type 0
    Here_ w = ByQueues (is_in sap told) w sap (own_from sap l.own) (conn_from sap p.served) p.service

    giving : Giving sap (own_from sap l.own) (conn_from sap p.served) p.service
    giving = go (is_in sap told) (subst Here_ (in_self sap rest) (h.sides.at sap))
      where
        go : (b : Bool) → ByQueues b true sap (own_from sap l.own) (conn_from sap p.served) p.service → Giving sap (own_from sap l.own) (conn_from sap p.served) p.service
        go true y = y
        go false y = y

    low : sap < 64
    low = let r = giving.range.1 in omega arith

    no_more : is_in sap rest ≡ false
    no_more = (unlike_behind told (sap ∷ rest) h.unlike).0

    abbrev now_ : PeerState
    now_ = record p { served = without_conn sap p.served; queue = map dm told ++ dm sap ∷ [] }

    not_full : nat_le most_answers (answers_in (map dm told)) ≡ false
    not_full = ap (nat_le most_answers) (count_answers told) ∙ (let f = h.few in few_answers (length told) (omega (arith, f)))

    disc_taken : steps_part serving p (Disc server_sap sap) ≡ now_
    disc_taken =
        ap (λ q. leaves p server_sap sap (served_holder server_sap q (own_holder sap (own_from server_sap p.own)))) giving.served
        ∙ ap (λ q. if nat_le most_answers (answers_in q) then record p { served = without_conn sap p.served }
        else record p { served = without_conn sap p.served; queue = q ++ dm sap ∷ [] }) h.sides.peer_queue
        ∙ ap (λ b. if b then record p { served = without_conn sap p.served } else now_) not_full

    others : (t : ℕ) → (sap == t) ≡ false → (o : Option OwnState) (k : Option ConnState) → Parting told (sap ∷ rest) t o k p.service → Parting (told ++ sap ∷ []) rest t o k p.service
    others t n o k a =
        subst (λ b. ByQueues b (is_in t rest) t o k p.service) (sym (in_last_other sap t told n)) (subst (λ b. ByQueues (is_in t told) b t o k p.service) (in_other sap t rest n) a)

    abbrev gone_served : conn_from sap (without_conn sap p.served) ≡ None
    gone_served = none_left sap p.served (server_conn sap giving.n) giving.served h.sides.no_other

    here : Parting (told ++ sap ∷ []) rest sap (own_from sap l.own) (conn_from sap (without_conn sap p.served)) p.service
    here =
        subst (λ b. ByQueues b (is_in sap rest) sap (own_from sap l.own) (conn_from sap (without_conn sap p.served)) p.service) (sym (in_last sap told))
        (subst (λ b. ByQueues true b sap (own_from sap l.own) (conn_from sap (without_conn sap p.served)) p.service) (sym no_more)
        (record { range = giving.range; own = giving.own; served = gone_served }))

    stands_now : Stands (told ++ sap ∷ []) rest (record l { queue = map disc rest }) now_
    stands_now = record {
      sides = record {
        client_fair = record { miu = h.sides.client_fair.miu; window = h.sides.client_fair.window; last = h.sides.client_fair.last };
        peer_fair = record { miu = h.sides.peer_fair.miu; window = h.sides.peer_fair.window; last = h.sides.peer_fair.last };
        client_readable = h.sides.client_readable;
        peer_readable = h.sides.peer_readable;
        client_queue = refl;
        peer_queue = sym (map-append dm told (sap ∷ []));
        client_served = h.sides.client_served;
        peer_own = h.sides.peer_own;
        reached = h.sides.reached;
        client_miu = h.sides.client_miu;
        client_window = h.sides.client_window;
        server_miu = h.sides.server_miu;
        server_window = h.sides.server_window;
        no_other = (let r = giving.range.0 in let t = giving.range.1 in still_counted sap p.served (server_conn sap giving.n) giving.served h.sides.no_other r (omega (arith, t)));
        kept = h.sides.kept;
        at = at_changed l.own l.own p.served (without_conn sap p.served) p.service p.service (Parting told (sap ∷ rest)) (Parting (told ++ sap ∷ []) rest) sap (λ t n. refl)
            (λ t n. conn_without_other t sap p.served n) others h.sides.at here;
      };
      service_is = h.service_is;
      unlike = subst AreUnlike (sym (append_assoc told (sap ∷ []) rest)) h.unlike;
      few = (let e = length-append told (sap ∷ []) in let f = h.few in omega (arith, e, f));
    }

    pub disc_goes : IsShort (Disc server_sap sap) × Stands (told ++ sap ∷ []) rest (record l { queue = map disc rest }) (steps_part serving p (Disc server_sap sap))
    disc_goes = ((((omega arith), low), omega arith), subst (λ q. Stands (told ++ sap ∷ []) rest (record l { queue = map disc rest }) q) (sym disc_taken) stands_now)

  -- A DM was given: the client's connection is closed.
  module _ (sap : ℕ) (told waits : List ℕ) (l : EndState) (p : PeerState) (h : Stands (sap ∷ told) waits l p) where
    apart : (is_in sap told ≡ false) × (is_in sap waits ≡ false)
    apart = neither (is_in sap told) (is_in sap waits) (sym (in_both sap told waits) ∙ h.unlike.0)

    given : Given sap (own_from sap l.own) (conn_from sap p.served)
    given =
        subst (λ b. ByQueues b false sap (own_from sap l.own) (conn_from sap p.served) p.service) (in_self sap told)
        (subst (λ b. ByQueues (is_in sap (sap ∷ told)) b sap (own_from sap l.own) (conn_from sap p.served) p.service) apart.1 (h.sides.at sap))

    low_ : sap < 64
    low_ = let r = given.range.1 in omega arith

    dm_taken : steps_part silent l (Dm sap server_sap disconnected) ≡ record l { own = with_own (given_up sap Closed) l.own }
    dm_taken = ap (λ o. record l { own = on_own (if_there server_sap dm_on) o l.own }) given.own

    others_ : (t : ℕ) → (sap == t) ≡ false → (o : Option OwnState) (k : Option ConnState) → Parting (sap ∷ told) waits t o k p.service → Parting told waits t o k p.service
    others_ t n o k a = subst (λ b. ByQueues b (is_in t waits) t o k p.service) (in_other sap t told n) a

    here_ : Parting told waits sap (Some (given_up sap Closed)) (conn_from sap p.served) p.service
    here_ =
        subst (λ b. ByQueues b (is_in sap waits) sap (Some (given_up sap Closed)) (conn_from sap p.served) p.service) (sym apart.0)
        (subst (λ b. ByQueues false b sap (Some (given_up sap Closed)) (conn_from sap p.served) p.service) (sym apart.1)
        (record { own = (refl, refl); served = given.served }))

    parts : Stands told waits (record l { own = with_own (given_up sap Closed) l.own }) (record p { queue = map dm told })
    parts = record {
      sides = sides_own s.limit s.table names s.accepted z (Parting (sap ∷ told) waits) (Parting told waits) (map disc waits) (map dm told) l (record p { queue = map dm told })
          (peer_queues s.limit s.table names s.accepted z (Parting (sap ∷ told) waits) (map disc waits) (map dm (sap ∷ told)) l p h.sides (map dm told)) sap
          (given_up sap Closed) (given_up sap Leaving) given.own refl others_ here_;
      service_is = h.service_is;
      unlike = h.unlike.1;
      few = (let f = h.few in omega (arith, f));
    }

    pub dm_comes : IsShort (Dm sap server_sap disconnected) × Stands told waits (steps_part silent l (Dm sap server_sap disconnected)) (record p { queue = map dm told })
    dm_comes = ((((low_), omega arith), omega arith), subst (λ e. Stands told waits e (record p { queue = map dm told })) (sym dm_taken) parts)

  -- Where no DISC waits, the client gives nothing; where no DM waits, nor does the peer.
  module _ (told : List ℕ) (l : EndState) (p : PeerState) (h : Stands told [] l p) where
    still : (sap : ℕ) → (informs silent l sap ≡ None) × (acknowledges l sap ≡ None)
    still sap = go (is_in sap told) (h.sides.at sap)
      where
        go : (b : Bool) → ByQueues b false sap (own_from sap l.own) (conn_from sap p.served) p.service → (informs silent l sap ≡ None) × (acknowledges l sap ≡ None)
        go true y = (informs_is l h.sides.client_served sap (Some (given_up sap Leaving)) y.own, acks_is l h.sides.client_served sap (Some (given_up sap Leaving)) y.own)
        go false y = (
          informs_is l h.sides.client_served sap (own_from sap l.own) refl ∙ (over_still (own_from sap l.own) y.own l).0,
          acks_is l h.sides.client_served sap (own_from sap l.own) refl ∙ (over_still (own_from sap l.own) y.own l).1,
        )

    pub client_quiet : gave silent l ≡ None
    client_quiet =
        subst (λ w. gave_from silent l w ≡ None) (sym h.sides.client_queue)
        (found_of (informs silent l) (λ o. or_else o (first_of_all l.last (acknowledges l)) ≡ None) (λ t x i. absurd (let e : None ≡ Some x = sym (still t).0 ∙ i in cc)) l.last
        h.sides.client_fair.last
        (λ k. found_of (acknowledges l) (λ o. o ≡ None) (λ t x i. absurd (let e : None ≡ Some x = sym (still t).1 ∙ i in cc)) l.last h.sides.client_fair.last (λ m. refl)))

  module _ (waits : List ℕ) (l : EndState) (p : PeerState) (h : Stands [] waits l p) where
    rests : (sap : ℕ) → (informs serving p sap ≡ None) × (acknowledges p sap ≡ None)
    rests sap = go (is_in sap waits) (h.sides.at sap)
      where
        go : (b : Bool) → ByQueues false b sap (own_from sap l.own) (conn_from sap p.served) p.service → (informs serving p sap ≡ None) × (acknowledges p sap ≡ None)
        go true y = (
          server_quiet serving p h.sides.peer_own sap y.n y.served (inl (ap (λ q. (sent y.n.client_miu q).unit) y.session)),
          server_settled serving p h.sides.peer_own sap y.n y.served y.settled,
        )
        go false y = (bare_informs serving p h.sides.peer_own sap y.served, bare_acks serving p h.sides.peer_own sap y.served)

    pub peer_quiet : gave serving p ≡ None
    peer_quiet =
        subst (λ w. gave_from serving p w ≡ None) (sym h.sides.peer_queue)
        (found_of (informs serving p) (λ o. or_else o (first_of_all p.last (acknowledges p)) ≡ None) (λ t x i. absurd (let e : None ≡ Some x = sym (rests t).0 ∙ i in cc)) p.last h.sides.peer_fair.last
        (λ k. found_of (acknowledges p) (λ o. o ≡ None) (λ t x i. absurd (let e : None ≡ Some x = sym (rests t).1 ∙ i in cc)) p.last h.sides.peer_fair.last (λ m. refl)))

  -- What a PDU that the client gives does, and one of the peer.
  module _ (P : EndState → PeerState → Type 0) (l : EndState) (p : PeerState) where
    pub client_gives : (told waits : List ℕ) → Stands told waits l p
        → ((sap : ℕ) (rest : List ℕ) → waits ≡ sap ∷ rest → (new : EndState) (q : PeerState) → Stands (told ++ sap ∷ []) rest new q → P new q) → HopSo silent serving P p (gave silent l)
    client_gives told [] h on = subst (HopSo silent serving P p) (sym (client_quiet told l p h)) tt
    client_gives told (sap ∷ rest) h on =
        let g = disc_goes told sap rest l p h in
        subst (λ q. HopSo silent serving P p (gave_from silent l q)) (sym h.sides.client_queue) (g.0, on sap rest refl _ _ g.1)

    pub client_first : (told waits : List ℕ) → Stands told waits l p
        → ((sap : ℕ) (rest : List ℕ) → waits ≡ sap ∷ rest → (new : EndState) (q : PeerState) → Stands (told ++ sap ∷ []) rest new q → P new q) → (waits ≡ [] → P l p)
        → FirstSo silent serving P l p (gave silent l)
    client_first told [] h on none = subst (FirstSo silent serving P l p) (sym (client_quiet told l p h)) (none refl)
    client_first told (sap ∷ rest) h on none =
        let g = disc_goes told sap rest l p h in
        subst (λ q. FirstSo silent serving P l p (gave_from silent l q)) (sym h.sides.client_queue) (g.0, on sap rest refl _ _ g.1)

  module _ (P : PeerState → EndState → Type 0) (l : EndState) (p : PeerState) where
    pub peer_gives : (told waits : List ℕ) → Stands told waits l p
        → ((sap : ℕ) (rest : List ℕ) → told ≡ sap ∷ rest → (new : EndState) (q : PeerState) → Stands rest waits new q → P q new) → HopSo serving silent P l (gave serving p)
    peer_gives [] waits h on = subst (HopSo serving silent P l) (sym (peer_quiet waits l p h)) tt
    peer_gives (sap ∷ rest) waits h on =
        let g = dm_comes sap rest waits l p h in
        subst (λ q. HopSo serving silent P l (gave_from serving p q)) (sym h.sides.peer_queue) (g.0, on sap rest refl _ _ g.1)

    pub peer_first : (sap : ℕ) (rest waits : List ℕ) → Stands (sap ∷ rest) waits l p
        → ((new : EndState) (q : PeerState) → Stands rest waits new q → P q new) → FirstSo serving silent P p l (gave serving p)
    peer_first sap rest waits h on =
        let g = dm_comes sap rest waits l p h in
        subst (λ q. FirstSo serving silent P p l (gave_from serving p q)) (sym h.sides.peer_queue) (g.0, on _ _ g.1)
