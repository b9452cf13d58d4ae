-- A connection is given up, or minds a PDU, by who has it.
use Rattle.std.proofs.Common.{◌≡◌, ℕ, ◌==◌, Bool, true, false, List, slice_index_or, slice_set, Option, Some, None, refl, sym, ap, subst, ◌∙◌, arith, if◌then◌else◌}
use Rattle.std.proofs.lemmas.Bool.{eq-eqb}
use Rattle.llcp_pdu.specs.declared.part.FrmrReport.{FrmrReport}
use Rattle.llcp_pdu.specs.declared.part.Part.TheVariants.{Dm, Frmr}
use Rattle.llcp_conn.specs.declared.conn.ConnNumbers.{ConnNumbers}
use Rattle.llcp_conn.specs.declared.conn.Taken.{Taken}
use Rattle.llcp_conn.specs.declared.conn.Taken.TheVariants as taking
use Rattle.llcp_pdu.specs.declared.pdu_view.PduView.{PduView}
use Rattle.llcp_conn.specs.Conn.{ConnState, numbers, report, takes_view}
use Rattle.llcp_link.specs.Serving.{Serving}
use Rattle.llcp_link.specs.State.{LlcState, Holder, Nobody, Served, Asked, OwnState, conn_from, own_from, own_holder, served_holder, holder, holds_open, with_own, without_conn}
use Rattle.llcp_link.specs.Kept.{IsServed}
use Rattle.llcp_link.specs.Own.{closed_on}
use Rattle.llcp_link.specs.Places.{ClosedBy, IsHeld, IsNowhere, StandsAt}
use Rattle.llcp_link.specs.private.Closing.{AreNumbers, ClosesHeld, ClosesOwn, Holds, IsConnBetween, KeepsOwn, TakesOwn}
use Rattle.llcp_link.specs.declared.own.Heard.TheVariants as heard
use Rattle.llcp_link.specs.Taking.{answered, asked_so, breaks, disconnected, ends, flag_w, leaves, not_connected, numbered}

held_if : (b : Bool) (c : ConnState) (other : Holder) → (if b then Served c else Nobody) ≡ Nobody → (if b then Served c else other) ≡ other
held_if true c other e = absurd cc
held_if false c other e = refl

-- one that wasn't asked of this end
pub not_served : (d : ℕ) (o : Option ConnState) (other : Holder) → served_holder d o Nobody ≡ Nobody → served_holder d o other ≡ other
not_served d None other e = refl
not_served d (Some c) other e = held_if (c.here == d) c other e

pub served_here : (d s : ℕ) (cs : List ConnState) (c : ConnState) (other : Holder) → IsHeld d s cs c → served_holder d (conn_from s cs) other ≡ Served c
served_here d s cs c other h = ap (λ o. served_holder d o other) h.found ∙ ap (λ b. if b then Served c else other) (eq-eqb c.here d h.here)

numbers_of : (c : ConnState) (n : ConnNumbers) → IsServed c → n ≡ numbers c → AreNumbers n
numbers_of c n h e = subst AreNumbers (sym e) (record { vs = omega arith; vr = h.vr; vsa = h.vsa; vra = h.vra })

module _ {S : Type 0} (l : LlcState S) (d s : ℕ) where
  -- one that was asked of this end
  pub closes_served : (n : ConnNumbers) (served : List ConnState) → ClosedBy d s l.served (Some n) served → ClosesHeld l d s (Some n) (record l { served = served })
  closes_served n served k =
      let c = k.0 in
      let h : holder l d s ≡ Served c = served_here d s l.served c (own_holder s (own_from d l.own)) k.1 in
      let is : IsConnBetween (Served c) d s n = record { conn = c; holds = refl; here_is = k.1.here; there_is = k.1.there; numbers_are = k.3; range = numbers_of c n k.2 k.3 } in (
        subst (λ x. IsConnBetween x d s n) (sym h) is,
        ap (λ cs. record l { served = cs }) (k.4 ∙ ap (λ x. without_conn x l.served) (sym k.1.there)) ∙ ap (ends l) (sym h),
      )

  -- there is none
  pub closes_none : (served : List ConnState) → ClosedBy d s l.served None served → IsNowhere d l.own → ClosesHeld l d s None (record l { served = served })
  closes_none served k n =
      (not_served d (conn_from s l.served) (own_holder s (own_from d l.own)) k.0 ∙ ap (own_holder s) n.found, ap (λ x. record l { served = x }) k.1)

  module _ (place : ℕ) (p : StandsAt d l.own place) where
    -- one that this end asked for is put back at its place
    put_back : (old new : OwnState) → new ≡ old → old.here ≡ d → record l { own = slice_set l.own place new } ≡ record l { own = with_own old l.own }
    put_back old new e here = ap (λ x. record l { own = x }) (p.changed new (ap (λ x. x.here) e ∙ here) ∙ ap (λ x. with_own x l.own) e)

    as_it_was : (new : OwnState) → new ≡ p.own → record l { own = slice_set l.own place new } ≡ l
    as_it_was new e = ap (λ x. record l { own = x }) (ap (slice_set l.own place) e ∙ p.unchanged)

    -- or given up
    closes_there : (r : Option ConnNumbers) (served : List ConnState) (new : OwnState) → ClosedBy d s l.served None served → ClosesOwn s p.own r new
        → ClosesHeld l d s r (record l { served = served; own = slice_set l.own place new })
    closes_there None served new k j =
        let h : holder l d s ≡ Nobody = not_served d (conn_from s l.served) (own_holder s (own_from d l.own)) k.0 ∙ ap (own_holder s) p.found ∙ j.0 in
        (h, ap (λ x. record l { served = x; own = slice_set l.own place new }) k.1 ∙ as_it_was new j.1)
    closes_there (Some n) served new k j =
        let c = j.0 in
        let h : holder l d s ≡ Asked p.own c = not_served d (conn_from s l.served) (own_holder s (own_from d l.own)) k.0 ∙ ap (own_holder s) p.found ∙ j.1.holds in
        let is : IsConnBetween (Asked p.own c) d s n = record { conn = c; holds = refl; here_is = j.1.here ∙ p.here; there_is = j.1.there; numbers_are = j.2; range = j.3 } in (
          subst (λ x. IsConnBetween x d s n) (sym h) is,
          ap (λ x. record l { served = x; own = slice_set l.own place new }) k.1 ∙ put_back (closed_on p.own) new j.4 p.here ∙ ap (ends l) (sym h),
        )

    pub closes_asked : (r : Option ConnNumbers) (served : List ConnState) (o new : OwnState) → ClosedBy d s l.served None served → o ≡ slice_index_or l.own place o
        → ClosesOwn s o r new → ClosesHeld l d s r (record l { served = served; own = slice_set l.own place new })
    closes_asked r served o new k is j = closes_there r served new k (subst (λ x. ClosesOwn s x r new) (is ∙ p.read o) j)

  -- a DISC
  pub leaves_nobody : (new : LlcState S) → ClosesHeld l d s None new → answered new (Dm s d not_connected) ≡ leaves l d s (holder l d s)
  leaves_nobody new k = ap (λ x. answered x (Dm s d not_connected)) k.1 ∙ ap (leaves l d s) (sym k.0)

  left_by : (h : Holder) (c : ConnState) → Holds h c → answered (ends l h) (Dm s d disconnected) ≡ leaves l d s h
  left_by Nobody c k = absurd k
  left_by (Served x) c k = refl
  left_by (Asked o x) c k = refl

  pub leaves_held : (n : ConnNumbers) (new : LlcState S) → ClosesHeld l d s (Some n) new → answered new (Dm s d disconnected) ≡ leaves l d s (holder l d s)
  leaves_held n new k = ap (λ x. answered x (Dm s d disconnected)) k.1 ∙ left_by (holder l d s) k.0.conn k.0.holds

  -- a FRMR
  pub ends_so : (r : Option ConnNumbers) (new : LlcState S) → ClosesHeld l d s r new → new ≡ ends l (holder l d s)
  ends_so None new k = k.1 ∙ ap (ends l) (sym k.0)
  ends_so (Some n) new k = k.1

  -- a malformed PDU
  pub breaks_nobody : (t q : ℕ) (new : LlcState S) → ClosesHeld l d s None new → new ≡ breaks l t q (holder l d s)
  breaks_nobody t q new k = k.1 ∙ ap (breaks l t q) (sym k.0)

  abbrev told : ConnNumbers → ℕ → ℕ → FrmrReport
  told n t q = record { flags = flag_w; ptype = t; sequence = q; vs = n.vs; vr = n.vr; vsa = n.vsa; vra = n.vra }

  broken_by : (h : Holder) (n : ConnNumbers) (t q : ℕ) → IsConnBetween h d s n → answered (ends l h) (Frmr s d (told n t q)) ≡ breaks l t q h
  broken_by Nobody n t q k = absurd k.holds
  broken_by (Served x) n t q k =
      ap (λ y. answered (ends l (Served x)) (Frmr s d (told y t q))) (k.numbers_are ∙ ap numbers (sym k.holds))
      ∙ ap (λ y. answered (ends l (Served x)) (Frmr y d (report x flag_w t q))) (sym (ap (λ c. c.there) k.holds ∙ k.there_is))
      ∙ ap (λ y. answered (ends l (Served x)) (Frmr x.there y (report x flag_w t q))) (sym (ap (λ c. c.here) k.holds ∙ k.here_is))
  broken_by (Asked o x) n t q k =
      ap (λ y. answered (ends l (Asked o x)) (Frmr s d (told y t q))) (k.numbers_are ∙ ap numbers (sym k.holds))
      ∙ ap (λ y. answered (ends l (Asked o x)) (Frmr y d (report x flag_w t q))) (sym (ap (λ c. c.there) k.holds ∙ k.there_is))
      ∙ ap (λ y. answered (ends l (Asked o x)) (Frmr x.there y (report x flag_w t q))) (sym (ap (λ c. c.here) k.holds ∙ k.here_is))

  pub breaks_held : (n : ConnNumbers) (t q : ℕ) (new : LlcState S) → ClosesHeld l d s (Some n) new → answered new (Frmr s d (told n t q)) ≡ breaks l t q (holder l d s)
  breaks_held n t q new k = ap (λ x. answered x (Frmr s d (told n t q))) k.1 ∙ broken_by (holder l d s) n t q k.0

  module _ (m : Serving S) (v : PduView) where
    -- an I, RR or RNR of no connection
    pub asked_none : IsNowhere d l.own → answered l (Dm s d not_connected) ≡ numbered m l (λ c. takes_view c v) d s (own_holder s (own_from d l.own))
    asked_none n = ap (λ x. numbered m l (λ c. takes_view c v) d s (own_holder s x)) (sym n.found)

    kept_so : (o new : OwnState) (c : ConnState) (t : Taken) → KeepsOwn o c t new → record l { own = with_own new l.own } ≡ asked_so l o c t
    kept_so o new c taking.Nothing k = ap (λ x. record l { own = with_own x l.own }) k
    kept_so o new c (taking.Unit u) k = ap (λ x. record l { own = with_own x l.own }) k
    kept_so o new c (taking.Closed r) k = absurd k

    kept_here : (o new : OwnState) (c : ConnState) (t : Taken) → KeepsOwn o c t new → new.here ≡ o.here
    kept_here o new c taking.Nothing k = ap (λ x. x.here) k
    kept_here o new c (taking.Unit u) k = ap (λ x. x.here) k
    kept_here o new c (taking.Closed r) k = absurd k

    module _ (place : ℕ) (p : StandsAt d l.own place) (o new : OwnState) (is : o ≡ slice_index_or l.own place o) where
      found_own : o ≡ p.own
      found_own = is ∙ p.read o

      by_holder : (h : Holder) → holds_open p.own s p.own.is ≡ h → numbered m l (λ c. takes_view c v) d s h ≡ numbered m l (λ c. takes_view c v) d s (own_holder s (own_from d l.own))
      by_holder h e = ap (numbered m l (λ c. takes_view c v) d s) (sym (ap (own_holder s) p.found ∙ e))

      -- of another one
      pub asked_other : TakesOwn s v o heard.Nothing new
          → answered (record l { own = slice_set l.own place new }) (Dm s d not_connected) ≡ numbered m l (λ c. takes_view c v) d s (own_holder s (own_from d l.own))
      asked_other t =
          ap (λ x. answered x (Dm s d not_connected)) (as_it_was place p new (t.1 ∙ found_own)) ∙ by_holder Nobody (subst (λ x. holds_open x s x.is ≡ Nobody) found_own t.0)

      -- one that stays open
      pub asked_kept : TakesOwn s v o heard.Taken new → record l { own = slice_set l.own place new } ≡ numbered m l (λ c. takes_view c v) d s (own_holder s (own_from d l.own))
      asked_kept t =
          let k = subst (λ x. TakesOwn s v x heard.Taken new) found_own t in
          let c = k.0 in
          ap (λ x. record l { own = x }) (p.changed new (kept_here p.own new (takes_view c v).conn (takes_view c v).does k.2 ∙ p.here))
          ∙ kept_so p.own new (takes_view c v).conn (takes_view c v).does k.2 ∙ by_holder (Asked p.own c) k.1.holds

      -- one that a fault closes
      pub asked_closed : (r : FrmrReport) → TakesOwn s v o (heard.Closed r) new
          → answered (record l { own = slice_set l.own place new }) (Frmr s d r) ≡ numbered m l (λ c. takes_view c v) d s (own_holder s (own_from d l.own))
      asked_closed r t =
          let k = subst (λ x. TakesOwn s v x (heard.Closed r) new) found_own t in
          let c = k.0 in
          let gone : LlcState S = record l { own = with_own (closed_on p.own) l.own } in
          ap (λ x. answered x (Frmr s d r)) (put_back place p (closed_on p.own) new k.6 p.here)
          ∙ ap (λ x. answered gone (Frmr x d r)) (sym k.5)
          ∙ ap (λ x. answered gone (Frmr (takes_view c v).conn.there x r)) (sym (k.4 ∙ p.here))
          ∙ ap (asked_so l p.own (takes_view c v).conn) (sym k.2) ∙ by_holder (Asked p.own c) k.1.holds
