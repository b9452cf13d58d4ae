-- What an end gives changes nothing of the units that were brought.
use Rattle.std.proofs.Common.{◌≡◌, ◌<◌, ◌≤◌, nat_lt, nat_le, ℕ, zero, suc, ◌+◌, ◌==◌, Bool, true, false, ◌&&◌, not, List, [], ◌∷◌, length, Option, Some, None, refl, sym, ◌∙◌, subst, arith}
use Rattle.std.proofs.Common.{length-append, if◌then◌else◌}
use Rattle.std.proofs.lemmas.Bool.{eqb-true, ltb-true}
use Rattle.llcp_pdu.specs.declared.part.Part.{Part}
use Rattle.llcp_pdu.specs.Writing.{inner_bytes}
use Rattle.llcp_conn.specs.Conn.{ConnState, queued, gives, gives_ack, gives_from, Gave as GaveConn}
use Rattle.llcp_link.specs.Serving.{Serving}
use Rattle.llcp_link.specs.State.{LlcState, Queued, OwnState, conn_from, own_from, with_conn}
use Rattle.llcp_pdu.specs.Wire.{sap_count}
use Rattle.llcp_link.specs.Giving as g
use Rattle.llcp_link.specs.Giving.{Gave, GaveAll, first_from, gave, gave_first, gave_none, joined, given_so, given_parts, after_giving, may_send, or_else, sap_after}
use Rattle.llcp_link.specs.Own.{OwnGave, ack_on, unit_on}
use Rattle.llcp_link.specs.Units.{UnitsSoFar}
use Rattle.llcp_link.proofs.Clients.{conn_there, conn_with, conn_with_other, distinct_with}
use Rattle.llcp_link.proofs.Ranged.{either}
use Rattle.llcp_link.proofs.Following.{Follows, Fits, Linked, same_fits}
use Rattle.llcp_link.proofs.SameRows.{beside}

-- what a connection that gives leaves of it
record Keeps (k j : ConnState) : Type 0 where
  pub there : j.there ≡ k.there
  pub here : j.here ≡ k.here
  pub near : j.near_miu ≡ k.near_miu
  pub window : j.window ≡ k.window
  pub vsa : j.vsa ≡ k.vsa
  pub vr : j.vr ≡ k.vr
  pub flight : length j.flight ≤ length k.flight + 1

ack_keeps : (k : ConnState) → Keeps k (gives_ack k).conn
ack_keeps k = either {X = GaveConn} (λ z. Keeps k z.conn) k.owed _ _
    (λ e. record { there = refl; here = refl; near = refl; window = refl; vsa = refl; vr = refl; flight = omega arith })
    (λ e. record { there = refl; here = refl; near = refl; window = refl; vsa = refl; vr = refl; flight = omega arith })

from_keeps : (k : ConnState) (q : List (List ℕ)) → Keeps k (gives_from k q).conn
from_keeps k [] = ack_keeps k
from_keeps k (u ∷ rest) = record {
  there = refl;
  here = refl;
  near = refl;
  window = refl;
  vsa = refl;
  vr = refl;
  flight = (let e = length-append k.flight (u ∷ []) in omega arith);
}

conn_keeps : (k : ConnState) → Keeps k (gives k).conn
conn_keeps k = either {X = GaveConn} (λ z. Keeps k z.conn) k.live _ _
    (λ e. either {X = GaveConn} (λ z. Keeps k z.conn) k.held _ _ (λ e. ack_keeps k) (λ e. from_keeps k k.queue))
    (λ e. record { there = refl; here = refl; near = refl; window = refl; vsa = refl; vr = refl; flight = omega arith })

queued_keeps : (k : ConnState) (u : List ℕ) → Keeps k (gives (queued k u)).conn
queued_keeps k u =
    let z = conn_keeps (queued k u) in record {
      there = z.there;
      here = z.here;
      near = z.near;
      window = z.window;
      vsa = z.vsa;
      vr = z.vr;
      flight = z.flight;
    }

ack_flight : (k : ConnState) → length k.flight ≤ k.window → length (gives_ack k).conn.flight ≤ k.window
ack_flight k x = either {X = GaveConn} (λ z. length z.conn.flight ≤ k.window) k.owed _ _ (λ e. x) (λ e. x)

-- where a window allows a unit there is room
room_of : (k : ConnState) → may_send k ≡ true → length k.flight < k.window
room_of k e = go k.held e
  where
    go : (b : Bool) → (not b && nat_lt (length k.flight + length k.queue) k.window) ≡ true → length k.flight < k.window
    go true e = absurd cc
    go false e = let h : length k.flight + length k.queue < k.window = ltb-true (length k.flight + length k.queue) k.window e in omega arith

joined_on : (miu : ℕ) (k j : ConnState) → Keeps k j → (length k.flight ≤ k.window → length j.flight ≤ k.window) → (o : Option UnitsSoFar) → Linked miu (Some k) o → Linked miu (Some j) o
joined_on miu k j q w None x = absurd x
joined_on miu k j q w (Some o) x = record {
  goes = q.here ∙ x.goes;
  near = q.near ∙ x.near;
  under = rw q.window (w x.under);
  few = rw q.window x.few;
  sa = rw q.vsa x.sa;
  counted = q.vr ∙ x.counted;
}

module _ {S : Type 0} (m : Serving S) (told : S → List (List (List ℕ)) → Type 0) (c miu : ℕ) (f : Follows m c told) (o : Option UnitsSoFar) (done : List (List (List ℕ))) where
  abbrev AllFit : Option (Gave S) → Type 0
  AllFit q = (x : Gave S) → q ≡ Some x → Fits told c miu x.llc o done

  none_fits : AllFit None
  none_fits x e = absurd cc

  one_fits : (l : LlcState S) (p : Part) → Fits told c miu l o done → AllFit (Some (record { llc = l; part = p }))
  one_fits l p h x e = let q : record { llc = l; part = p } ≡ x = cc in subst (λ z. Fits told c miu z.llc o done) q h

  else_fits : (a b : Option (Gave S)) → AllFit a → AllFit b → AllFit (or_else a b)
  else_fits None b h k = k
  else_fits (Some x) b h k = h

  round_fits : (n s : ℕ) (h : ℕ → Option (Gave S)) → ((s : ℕ) → AllFit (h s)) → AllFit (first_from n s h)
  unfolding first_from
  round_fits zero s h all = none_fits
  round_fits (suc n) s h all = else_fits (h s) (first_from n (sap_after s) h) (all s) (round_fits n (sap_after s) h all)

  -- a client's connection gives
  conn_link : (l : LlcState S) (k j : ConnState) → conn_from k.there l.served ≡ Some k → Keeps k j → (length k.flight ≤ k.window → length j.flight ≤ k.window) → Fits told c miu l o done
      → Linked miu (conn_from c (with_conn j l.served)) o
  conn_link l k j e q w h = go (j.there == c) refl
    where
      go : (b : Bool) → (j.there == c) ≡ b → Linked miu (conn_from c (with_conn j l.served)) o
      go false i = subst (λ z. Linked miu z o) (sym (conn_with_other c j l.served i)) h.link
      go true i =
          (let r : j.there ≡ c = eqb-true j.there c i in
          let mine : conn_from c l.served ≡ Some k = subst (λ z. conn_from z l.served ≡ Some k) (sym q.there ∙ r) e in
          let new : conn_from c (with_conn j l.served) ≡ Some j =
          subst (λ z. conn_from z (with_conn j l.served) ≡ Some j) r (conn_with j l.served k (subst (λ z. conn_from z l.served ≡ Some k) (sym q.there) e)) in
          subst (λ z. Linked miu z o) (sym new) (joined_on miu k j q w o (subst (λ z. Linked miu z o) mine h.link)))

  conn_fits : (l : LlcState S) (k j : ConnState) (p : Option Part) → conn_from k.there l.served ≡ Some k → Keeps k j → (length k.flight ≤ k.window → length j.flight ≤ k.window)
      → Fits told c miu l o done → AllFit (g.gave_conn l j p)
  conn_fits l k j None e q w h = none_fits
  conn_fits l k j (Some p) e q w h = one_fits _ p (record {
    near = h.near;
    distinct = distinct_with j l.served h.distinct;
    link = conn_link l k j e q w h;
    tells = h.tells;
  })

  own_fits : (l : LlcState S) (q : Option OwnGave) → Fits told c miu l o done → AllFit (g.gave_own l q)
  own_fits l None h = none_fits
  own_fits l (Some x) h = one_fits _ x.part (same_fits told c miu l _ o done (beside m told c miu f l _ refl refl refl) h)

  sent_fits : (l : LlcState S) (d most : ℕ) → Fits told c miu l o done → Fits told c miu (record l { service = m.sent l.service d most }) o done
  sent_fits l d most h = record { near = h.near; distinct = h.distinct; link = h.link; tells = f.sent l.service d most _ h.tells }

  sends_fits : (l : LlcState S) (k : ConnState) → conn_from k.there l.served ≡ Some k → may_send k ≡ true → (q : Option (List ℕ)) → Fits told c miu l o done → AllFit (g.sends m l k q)
  sends_fits l k e i None h = none_fits
  sends_fits l k e i (Some u) h =
      conn_fits (record l { service = m.sent l.service k.there k.far_miu }) k (gives (queued k u)).conn (gives (queued k u)).pdu e (queued_keeps k u)
      (λ x. (let a = (queued_keeps k u).flight in let b = room_of k i in omega arith)) (sent_fits l k.there k.far_miu h)

  own_there : (l : LlcState S) (s : ℕ) (k : ConnState) → conn_from s l.served ≡ Some k → conn_from k.there l.served ≡ Some k
  own_there l s k e = subst (λ z. conn_from z l.served ≡ Some k) (sym (conn_there s l.served k e)) e

  informs_fits : (l : LlcState S) (s : ℕ) → Fits told c miu l o done → AllFit (g.informs m l s)
  informs_fits l s h = else_fits _ _ (by_served (conn_from s l.served) refl) (by_own (own_from s l.own))
    where
      by_served : (q : Option ConnState) → conn_from s l.served ≡ q → AllFit (g.informs_served m l q)
      by_served None e = none_fits
      by_served (Some k) e = by_send (may_send k) refl
        where
          by_send : (b : Bool) → may_send k ≡ b → AllFit (if b then g.sends m l k (m.due l.service k.there k.far_miu) else None)
          by_send false i = none_fits
          by_send true i = sends_fits l k (own_there l s k e) i (m.due l.service k.there k.far_miu) h

      by_own : (q : Option OwnState) → AllFit (g.informs_own l q)
      by_own None = none_fits
      by_own (Some x) = own_fits l (unit_on x) h

  acks_fits : (l : LlcState S) (s : ℕ) → Fits told c miu l o done → AllFit (g.acknowledges l s)
  acks_fits l s h = else_fits _ _ (by_served (conn_from s l.served) refl) (by_own (own_from s l.own))
    where
      by_served : (q : Option ConnState) → conn_from s l.served ≡ q → AllFit (g.acknowledges_served l q)
      by_served None e = none_fits
      by_served (Some k) e = conn_fits l k (gives_ack k).conn (gives_ack k).pdu (own_there l s k e) (ack_keeps k) (λ x. ack_flight k x) h

      by_own : (q : Option OwnState) → AllFit (g.acknowledges_own l q)
      by_own None = none_fits
      by_own (Some x) = own_fits l (ack_on x) h

  gave_fits : (l : LlcState S) → Fits told c miu l o done → AllFit (gave m l)
  gave_fits l h = go l.queue
    where
      go : (q : List Queued) → AllFit (g.gave_from m l q)
      go [] =
          else_fits _ _ (round_fits sap_count (g.circle_start l.last) (g.informs m l) (λ s. informs_fits l s h))
          (round_fits sap_count (g.circle_start l.last) (g.acknowledges l) (λ s. acks_fits l s h))
      go (p ∷ ps) = one_fits _ p.part (same_fits told c miu l _ o done (beside m told c miu f l _ refl refl refl) h)

  joined_fits : (n used : ℕ) (l : LlcState S) → Fits told c miu l o done → Fits told c miu (joined m n used l).llc o done
  joined_fits zero used l h = h
  joined_fits (suc n) used l h = go (gave m l) refl (joined_fits n)
    where
      go : (q : Option (Gave S)) → gave m l ≡ q → ((used : ℕ) (k : LlcState S) → Fits told c miu k o done → Fits told c miu (joined m n used k).llc o done)
          → Fits told c miu (g.joined_so m l used q (joined m n)).llc o done
      go None e more = h
      go (Some x) e more =
          either {X = GaveAll m} (λ z. Fits told c miu z.llc o done) (nat_le (used + length (inner_bytes x.part)) l.far_miu) _ _
          (λ i. more (used + length (inner_bytes x.part)) x.llc (gave_fits l h x e)) (λ i. h)

  given_fits : (l : LlcState S) (q : Option (Gave S)) → gave m l ≡ q → (n : ℕ) → Fits told c miu l o done → Fits told c miu (given_so m l q n).llc o done
  given_fits l None e n h = h
  given_fits l (Some x) e n h = joined_fits n (length (inner_bytes x.part)) x.llc (gave_fits l h x e)

  pub after_fits : (n : ℕ) (l : LlcState S) → Fits told c miu l o done → Fits told c miu (after_giving m n l) o done
  after_fits n l h = either {X = LlcState S} (λ z. Fits told c miu z o done) l.readable (given_parts m n l).llc l (λ e. given_fits l (gave m l) refl _ h) (λ e. h)
