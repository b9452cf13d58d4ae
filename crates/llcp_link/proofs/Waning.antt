-- What is still to come on a connection that an end asked for never grows as payloads are taken and given.
use Rattle.std.proofs.Common.{◌≡◌, ◌<◌, ◌≤◌, ◌⊎◌, ℕ, zero, suc, ◌+◌, ◌-◌, ◌%◌, ◌/◌, ◌==◌, nat_lt, nat_le, Bool, true, false, List, [], ◌∷◌, ◌++◌, length, drop, Option, Some, None, refl, sym, ap}
use Rattle.std.proofs.Common.{subst, ◌∙◌, inl, inr, arith, is_some, if◌then◌else◌, length-append, length-drop}
use Rattle.std.proofs.lemmas.Bool.{eqb-true, ltb-false}
use Rattle.llcp_pdu.specs.declared.part.Part.{Part}
use Rattle.llcp_pdu.specs.declared.part.Part.TheVariants.{Symm, Ui, Connect, Disc, Cc, Dm, Frmr, Snl, Info, Rr, Rnr}
use Rattle.llcp_pdu.specs.declared.param.Param.{Param}
use Rattle.llcp_pdu.specs.Writing.{inner_bytes}
use Rattle.llcp_conn.specs.declared.conn.Taken.{Taken}
use Rattle.llcp_conn.specs.declared.conn.Taken.TheVariants as taking
use Rattle.llcp_conn.specs.Conn.{ConnState, Gave as GaveConn, Took, queued, acks, count_end, due, fresh, gives, gives_ack, gives_from, is_outside, report, takes, takes_nr, takes_unit}
use Rattle.llcp_link.specs.Serving.{Serving}
use Rattle.llcp_link.specs.State.{LlcState, Queued, OwnIs, Asking, Open, Refused, Leaving, Closed, OwnState, Holder, Nobody, Served, Asked, conn_from, own_from, own_holder, holds_open, served_holder}
use Rattle.llcp_link.specs.State.{holder, with_own, with_conn}
use Rattle.llcp_link.specs.Asking.{acked_of, acked_on, is_open, is_open_by, standing_of, standing_on}
use Rattle.llcp_link.specs.declared.standing.Standing.TheVariants as stands
use Rattle.llcp_link.specs.Names.{rw_of, reached, name_of, miu_of, answers_to, lookups_told}
use Rattle.llcp_link.specs.Taking as t
use Rattle.llcp_link.specs.Taking.{Item, Good, Broken, taken_from, brought, step, steps, steps_part}
use Rattle.llcp_link.specs.Giving as g
use Rattle.llcp_link.specs.Giving.{Gave, GaveAll, first_from, gave, joined, given_so, given_parts, after_giving, or_else, sap_after}
use Rattle.llcp_link.specs.Waning.{pending, pending_on}
use Rattle.llcp_pdu.specs.Wire.{rr_type, rnr_type, sap_count}
use Rattle.llcp_link.specs.Own.{OwnGave, ack_on, ack_so, cc_on, cc_so, dm_on, dm_so, gave_so, if_there, on_own, unit_on, unit_so}
use Rattle.llcp_link.proofs.OwnHeard.{cc_here, dm_here}
use Rattle.llcp_link.proofs.OwnPlaces.{here_of}
use Rattle.llcp_link.proofs.Ranged.{either}

-- by how it stands: an answer is awaited; it is asked for; it is open
abbrev pub waits_on : OwnIs → ℕ
waits_on Asking = 1
waits_on (Open c) = 0
waits_on Refused = 0
waits_on Leaving = 1
waits_on Closed = 0

abbrev asking_on : OwnIs → ℕ
asking_on Asking = 1
asking_on (Open c) = 0
asking_on Refused = 0
asking_on Leaving = 0
asking_on Closed = 0

abbrev pub open_on : OwnIs → ℕ
open_on Asking = 0
open_on (Open c) = 1
open_on Refused = 0
open_on Leaving = 0
open_on Closed = 0

abbrev under_way : OwnIs → ℕ
under_way Asking = 0
under_way (Open c) = length c.flight + length c.queue
under_way Refused = 0
under_way Leaving = 0
under_way Closed = 0

abbrev counted : OwnIs → ℕ
counted Asking = 0
counted (Open c) = c.acked
counted Refused = 0
counted Leaving = 0
counted Closed = 0

-- what becomes of one
pub record Wanes (a b : OwnIs) : Type 0 where
  pub waits : waits_on b ≤ waits_on a
  pub asking : asking_on b ≤ asking_on a
  pub open_ : open_on b ≤ open_on a + asking_on a
  pub under : under_way b ≤ under_way a
  pub bound : counted a < count_end → counted b < count_end
  pub same : open_on a ≡ 1 → open_on b ≡ 1 → counted a < count_end → (counted b ≡ counted a) ⊎ (under_way b < under_way a)

once : (a : OwnIs) → open_on a + asking_on a ≤ 1
once Asking = omega arith
once (Open c) = omega arith
once Refused = omega arith
once Leaving = omega arith
once Closed = omega arith

stays : (a : OwnIs) → Wanes a a
stays a = record { waits = omega arith; asking = omega arith; open_ = omega arith; under = omega arith; bound = λ h. h; same = λ i j h. inl refl }

then_wanes : (a b c : OwnIs) → Wanes a b → Wanes b c → Wanes a c
then_wanes a b c x y = record {
  waits = (let p = x.waits in let q = y.waits in omega arith);
  asking = (let p = x.asking in let q = y.asking in omega arith);
  open_ = (let p = x.open_ in let q = y.open_ in let r = x.asking in let o = once b in omega arith);
  under = (let p = x.under in let q = y.under in omega arith);
  bound = λ h. y.bound (x.bound h);
  same = λ i j h. go i j h;
}
  where
    go : open_on a ≡ 1 → open_on c ≡ 1 → counted a < count_end → (counted c ≡ counted a) ⊎ (under_way c < under_way a)
    go i j h =
        (let o = once a in let n = once b in let p = x.asking in let q = y.open_ in let r = x.open_ in
        let mid : open_on b ≡ 1 = omega arith in
        by (x.same i mid h) (y.same mid j (x.bound h)))
      where
        by : (counted b ≡ counted a) ⊎ (under_way b < under_way a) → (counted c ≡ counted b) ⊎ (under_way c < under_way b)
            → (counted c ≡ counted a) ⊎ (under_way c < under_way a)
        by (inl e) (inl f) = inl (f ∙ e)
        by (inl e) (inr f) = (let z = x.under in inr (omega arith))
        by (inr e) f = (let z = y.under in inr (omega arith))

-- one that ends, or is refused
ends_so : (a : OwnIs) → Wanes a Closed
ends_so a = record { waits = omega arith; asking = omega arith; open_ = omega arith; under = omega arith; bound = λ h. omega arith; same = λ i j h. absurd (omega arith) }

refused_so : (a : OwnIs) → Wanes a Refused
refused_so a = record { waits = omega arith; asking = omega arith; open_ = omega arith; under = omega arith; bound = λ h. omega arith; same = λ i j h. absurd (omega arith) }

opens_so : (here there near far window : ℕ) → Wanes Asking (Open (fresh here there near far window))
opens_so here there near far window = record {
  waits = omega arith;
  asking = omega arith;
  open_ = omega arith;
  under = omega arith;
  bound = λ h. omega arith;
  same = λ i j h. absurd (omega arith);
}

-- a connection after an acknowledgement
acked_so : (c d : ConnState) (n : ℕ) → d.flight ≡ drop n c.flight → d.queue ≡ c.queue → d.acked ≡ (c.acked + n) % count_end → n ≤ length c.flight
    → Wanes (Open c) (Open d)
acked_so c d n f q a few =
    let fl : length d.flight ≡ length c.flight - n = ap length f ∙ length-drop n c.flight in
    let ql : length d.queue ≡ length c.queue = ap length q in record {
      waits = omega arith;
      asking = omega arith;
      open_ = omega arith;
      under = omega arith;
      bound = λ h. omega arith;
      same = λ i j h. go n refl fl ql h;
    }
  where
    go : (k : ℕ) → n ≡ k → length d.flight ≡ length c.flight - n → length d.queue ≡ length c.queue → c.acked < count_end
        → (d.acked ≡ c.acked) ⊎ (length d.flight + length d.queue < length c.flight + length c.queue)
    go zero e fl ql h = (let z : (c.acked + n) % count_end ≡ c.acked = omega arith in inl (a ∙ z))
    go (suc k) e fl ql h = inr (omega arith)

some_is : (x p : OwnState) → Some x ≡ Some p → x ≡ p
some_is x p e = cc

ack_wanes : (c : ConnState) → Wanes (Open c) (Open (gives_ack c).conn)
ack_wanes c =
    either {X = GaveConn} (λ z. Wanes (Open c) (Open z.conn)) c.owed _ _
    (λ e. record { waits = omega arith; asking = omega arith; open_ = omega arith; under = omega arith; bound = λ h. h; same = λ i j h. inl refl })
    (λ e. stays (Open c))

-- one of a SAP after another took its place
module _ (h : ℕ) where
  abbrev pub is_of : Option OwnState → OwnIs
  is_of None = Closed
  is_of (Some o) = o.is

  -- of all that an end asked for, the one of this SAP
  abbrev pub WanesIn : List OwnState → List OwnState → Type 0
  WanesIn os ns = Wanes (is_of (own_from h os)) (is_of (own_from h ns))

  wanes_with : (o : OwnState) (os : List OwnState) (p : OwnState) → own_from o.here os ≡ Some p → Wanes p.is o.is → WanesIn os (with_own o os)
  wanes_with o [] p e w = absurd cc
  wanes_with o (x ∷ os) p e w = go (λ k. wanes_with o os p k w) (x.here == o.here) refl
    where
      taken : (x.here == o.here) ≡ true → (b : Bool) → (o.here == h) ≡ b → Wanes (is_of (own_from h (x ∷ os))) (is_of (if b then Some o else own_from h os))
      taken i true j =
          (let q : x ≡ p = some_is x p (sym (ap (λ b. if b then Some x else own_from o.here os) i) ∙ e) in
          let n : (x.here == h) ≡ true = ap (λ k. k == h) (eqb-true x.here o.here i) ∙ j in
          subst (λ z. Wanes (is_of z) o.is) (sym (ap (λ b. if b then Some x else own_from h os) n)) (subst (λ z. Wanes z.is o.is) (sym q) w))
      taken i false j =
          (let n : (x.here == h) ≡ false = ap (λ k. k == h) (eqb-true x.here o.here i) ∙ j in
          subst (λ z. Wanes (is_of z) (is_of (own_from h os))) (sym (ap (λ b. if b then Some x else own_from h os) n)) (stays (is_of (own_from h os))))

      behind : WanesIn os (with_own o os) → (b : Bool)
          → Wanes (is_of (if b then Some x else own_from h os)) (is_of (if b then Some x else own_from h (with_own o os)))
      behind more true = stays x.is
      behind more false = more

      go : (own_from o.here os ≡ Some p → WanesIn os (with_own o os)) → (b : Bool) → (x.here == o.here) ≡ b
          → Wanes (is_of (own_from h (x ∷ os))) (is_of (own_from h (if b then o ∷ os else x ∷ with_own o os)))
      go more true i = taken i (o.here == h) refl
      go more false i = behind (more (sym (ap (λ b. if b then Some x else own_from o.here os) i) ∙ e)) (x.here == h)

-- what a connection takes
abbrev IsTook : ConnState → Took → Taken → Type 0
IsTook c k taking.Nothing = Wanes (Open c) (Open k.conn)
IsTook c k (taking.Unit u) = Wanes (Open c) (Open k.conn)
IsTook c k (taking.Closed r) = Unit {0}

few_acked : (c : ConnState) (nr : ℕ) → is_outside c nr ≡ false → acks c nr ≤ length c.flight
few_acked c nr e = ltb-false (length c.flight) (acks c nr) e

unit_took : (c : ConnState) (ns nr : ℕ) (xs : List ℕ) → IsTook c (takes_unit c ns nr xs) (takes_unit c ns nr xs).does
unit_took c ns nr xs =
    either {X = Took} (λ k. IsTook c k k.does) (nat_lt c.near_miu (length xs)) _ _ (λ e. tt)
    (λ e. either {X = Took} (λ k. IsTook c k k.does) (is_outside c nr) _ _ (λ i. tt)
    (λ i. either {X = Took} (λ k. IsTook c k k.does) (ns == c.vr) _ _ (λ j. acked_so c _ (acks c nr) refl refl refl (few_acked c nr i)) (λ j. tt)))

nr_took : (c : ConnState) (ptype nr : ℕ) (held : Bool) → IsTook c (takes_nr c ptype nr held) (takes_nr c ptype nr held).does
nr_took c ptype nr held =
    either {X = Took} (λ k. IsTook c k k.does) (is_outside c nr) _ _ (λ i. tt) (λ i. acked_so c _ (acks c nr) refl refl refl (few_acked c nr i))

-- what one gives
from_wanes : (c : ConnState) (q : List (List ℕ)) → q ≡ c.queue → Wanes (Open c) (Open (gives_from c q).conn)
from_wanes c [] e = ack_wanes c
from_wanes c (u ∷ rest) e =
    let l = length-append c.flight (u ∷ []) in
    let k : length (u ∷ rest) ≡ length c.queue = ap length e in record {
      waits = omega arith;
      asking = omega arith;
      open_ = omega arith;
      under = omega arith;
      bound = λ h. h;
      same = λ i j h. inl refl;
    }

gives_wane : (c : ConnState) → Wanes (Open c) (Open (gives c).conn)
gives_wane c =
    either {X = GaveConn} (λ z. Wanes (Open c) (Open z.conn)) c.live _ _
    (λ e. either {X = GaveConn} (λ z. Wanes (Open c) (Open z.conn)) c.held _ _ (λ e. ack_wanes c) (λ e. from_wanes c c.queue refl))
    (λ e. stays (Open c))

module _ {S : Type 0} (m : Serving S) (h : ℕ) where
  abbrev W : LlcState S → LlcState S → Type 0
  W l n = WanesIn h l.own n.own

  same_own : (l n : LlcState S) → n.own ≡ l.own → W l n
  same_own l n e = subst (WanesIn h l.own) (sym e) (stays (is_of h (own_from h l.own)))

  answered_own : (l : LlcState S) (p : Part) → (t.answered l p).own ≡ l.own
  answered_own l p = either {X = LlcState S} (λ z. z.own ≡ l.own) (t.is_full l) l _ (λ e. refl) (λ e. refl)

  answered_wanes : (l n : LlcState S) (p : Part) → W l n → W l (t.answered n p)
  answered_wanes l n p w = subst (WanesIn h l.own) (sym (answered_own n p)) w

  -- it is the one that this end asked for
  abbrev IsMine : LlcState S → Holder → Type 0
  IsMine l Nobody = Unit {0}
  IsMine l (Served c) = Unit {0}
  IsMine l (Asked o c) = (own_from o.here l.own ≡ Some o) × (o.is ≡ Open c)

  own_mine : (l : LlcState S) (d s : ℕ) (q : Option OwnState) → own_from d l.own ≡ q → IsMine l (own_holder s q)
  own_mine l d s None e = tt
  own_mine l d s (Some o) e = by o.is refl
    where
      by : (i : OwnIs) → o.is ≡ i → IsMine l (holds_open o s i)
      by Asking j = tt
      by (Open c) j =
          either (IsMine l) (o.there == s) (Asked o c) Nobody
          (λ k. (subst (λ z. own_from z l.own ≡ Some o) (sym (here_of d l.own o e)) e, j)) (λ k. tt)
      by Refused j = tt
      by Leaving j = tt
      by Closed j = tt

  holder_mine : (l : LlcState S) (d s : ℕ) → IsMine l (holder l d s)
  holder_mine l d s = by (conn_from s l.served)
    where
      by : (q : Option ConnState) → IsMine l (served_holder d q (own_holder s (own_from d l.own)))
      by None = own_mine l d s (own_from d l.own) refl
      by (Some c) = either (IsMine l) (c.here == d) (Served c) _ (λ e. tt) (λ e. own_mine l d s (own_from d l.own) refl)

  put_wanes : (l : LlcState S) (o : OwnState) (i : OwnIs) (us : List (List ℕ)) → own_from o.here l.own ≡ Some o → Wanes o.is i
      → W l (record l { own = with_own (record o { is = i; units = us }) l.own })
  put_wanes l o i us e w = wanes_with h (record o { is = i; units = us }) l.own o e w

  ends_wane : (l : LlcState S) (x : Holder) → IsMine l x → W l (t.ends l x)
  ends_wane l Nobody e = same_own l l refl
  ends_wane l (Served c) e = same_own l (t.ends l (Served c)) refl
  ends_wane l (Asked o c) e = put_wanes l o Closed o.units e.0 (ends_so o.is)

  leaves_wane : (l : LlcState S) (d s : ℕ) (x : Holder) → IsMine l x → W l (t.leaves l d s x)
  leaves_wane l d s Nobody e = answered_wanes l l (Dm s d t.not_connected) (same_own l l refl)
  leaves_wane l d s (Served c) e = answered_wanes l (t.ends l (Served c)) (Dm s d t.disconnected) (ends_wane l (Served c) e)
  leaves_wane l d s (Asked o c) e = answered_wanes l (t.ends l (Asked o c)) (Dm s d t.disconnected) (ends_wane l (Asked o c) e)

  breaks_wane : (l : LlcState S) (ty q : ℕ) (x : Holder) → IsMine l x → W l (t.breaks l ty q x)
  breaks_wane l ty q Nobody e = same_own l l refl
  breaks_wane l ty q (Served c) e =
      answered_wanes l (t.ends l (Served c)) (Frmr c.there c.here (report c t.flag_w ty q)) (ends_wane l (Served c) e)
  breaks_wane l ty q (Asked o c) e =
      answered_wanes l (t.ends l (Asked o c)) (Frmr c.there c.here (report c t.flag_w ty q)) (ends_wane l (Asked o c) e)

  asked_wanes : (l : LlcState S) (o : OwnState) (c : ConnState) (k : Took) (x : Taken) → own_from o.here l.own ≡ Some o → o.is ≡ Open c → IsTook c k x
      → W l (t.asked_so l o k.conn x)
  asked_wanes l o c k taking.Nothing e i w = put_wanes l o (Open k.conn) o.units e (subst (λ z. Wanes z (Open k.conn)) (sym i) w)
  asked_wanes l o c k (taking.Unit u) e i w = put_wanes l o (Open k.conn) (o.units ++ u ∷ []) e (subst (λ z. Wanes z (Open k.conn)) (sym i) w)
  asked_wanes l o c k (taking.Closed r) e i w =
      answered_wanes l (t.ends l (Asked o k.conn)) (Frmr k.conn.there k.conn.here r) (put_wanes l o Closed o.units e (ends_so o.is))

  served_wanes : (l : LlcState S) (c : ConnState) (x : Taken) → W l (t.served_so m l c x)
  served_wanes l c taking.Nothing = same_own l (t.served_so m l c taking.Nothing) refl
  served_wanes l c (taking.Unit u) = same_own l (t.served_so m l c (taking.Unit u)) refl
  served_wanes l c (taking.Closed r) =
      answered_wanes l (t.ends l (Served c)) (Frmr c.there c.here r) (same_own l (t.ends l (Served c)) refl)

  numbered_wane : (l : LlcState S) (f : ConnState → Took) → ((c : ConnState) → IsTook c (f c) (f c).does) → (d s : ℕ) (x : Holder) → IsMine l x
      → W l (t.numbered m l f d s x)
  numbered_wane l f took d s Nobody e = answered_wanes l l (Dm s d t.not_connected) (same_own l l refl)
  numbered_wane l f took d s (Served c) e = served_wanes l (f c).conn (f c).does
  numbered_wane l f took d s (Asked o c) e = asked_wanes l o c (f c) (f c).does e.0 e.1 (took c)

  cc_wanes : (miu far_miu rw : ℕ) (o : OwnState) (i : OwnIs) → o.is ≡ i → Wanes o.is (cc_so miu far_miu rw o i).is
  cc_wanes miu far_miu rw o Asking j =
      let new : ConnState = fresh o.here o.there miu far_miu rw in
      either {X = OwnIs} (Wanes o.is) (rw == 0) Refused (Open new) (λ k. refused_so o.is) (λ k. subst (λ z. Wanes z (Open new)) (sym j) (opens_so o.here o.there miu far_miu rw))
  cc_wanes miu far_miu rw o (Open c) j = stays o.is
  cc_wanes miu far_miu rw o Refused j = stays o.is
  cc_wanes miu far_miu rw o Leaving j = stays o.is
  cc_wanes miu far_miu rw o Closed j = stays o.is

  dm_wanes : (o : OwnState) (i : OwnIs) → Wanes o.is (dm_so o i).is
  dm_wanes o Asking = refused_so o.is
  dm_wanes o (Open c) = stays o.is
  dm_wanes o Refused = stays o.is
  dm_wanes o Leaving = ends_so o.is
  dm_wanes o Closed = stays o.is

  heard_wanes : (l : LlcState S) (d s : ℕ) (f : OwnState → OwnState) → ((o : OwnState) → (f o).here ≡ o.here) → ((o : OwnState) → Wanes o.is (f o).is)
      → W l (t.heard_own l d s f)
  heard_wanes l d s f keeps each = go (own_from d l.own) refl
    where
      go : (q : Option OwnState) → own_from d l.own ≡ q → WanesIn h l.own (on_own (if_there s f) q l.own)
      go None e = stays (is_of h (own_from h l.own))
      go (Some o) e =
          either {X = OwnState} (λ z. WanesIn h l.own (with_own z l.own)) (o.there == s) (f o) o (λ k. put (f o) (keeps o) (each o)) (λ k. put o refl (stays o.is))
        where
          put : (z : OwnState) → z.here ≡ o.here → Wanes o.is z.is → WanesIn h l.own (with_own z l.own)
          put z i w = wanes_with h z l.own o (subst (λ x. own_from x l.own ≡ Some o) (sym (i ∙ here_of d l.own o e)) e) w

  refused_wanes : (l : LlcState S) (d s : ℕ) (q : Option ℕ) → W l (t.refused_at l d s q)
  refused_wanes l d s None = answered_wanes l l (Dm s d t.no_service) (same_own l l refl)
  refused_wanes l d s (Some sap) = answered_wanes l l (Dm s sap t.busy) (same_own l l refl)

  connects_wane : (l : LlcState S) (d s : ℕ) (ps : List Param) → W l (t.connects m l d s ps)
  connects_wane l d s ps = either {X = LlcState S} (W l) (t.is_full l) l _ (λ e. same_own l l refl) (λ e. by (t.accepted l d s ps))
    where
      by : (q : Option ℕ) → W l (t.connects_to m l d s ps q)
      by None =
          either {X = LlcState S} (W l) (rw_of ps == 0) _ _ (λ e. answered_wanes l l (Dm s d t.not_taken) (same_own l l refl))
          (λ e. refused_wanes l d s (reached l.bound d (name_of ps)))
      by (Some sap) = same_own l (t.opens m l sap s (miu_of ps) (rw_of ps)) refl

  tells_wane : (l n : LlcState S) (ps : List Param) → n.own ≡ l.own → W l (t.tells n ps)
  tells_wane l n [] e = same_own l n e
  tells_wane l n (p ∷ ps) e = answered_wanes l n (Snl (p ∷ ps)) (same_own l n e)

  part_wanes : (l : LlcState S) (p : Part) → W l (steps_part m l p)
  part_wanes l Symm = same_own l l refl
  part_wanes l (Ui d s info) = same_own l l refl
  part_wanes l (Connect d s ps) = connects_wane l d s ps
  part_wanes l (Cc d s ps) =
      heard_wanes l d s (cc_on l.miu (miu_of ps) (rw_of ps)) (λ o. cc_here l.miu (miu_of ps) (rw_of ps) o o.is) (λ o. cc_wanes l.miu (miu_of ps) (rw_of ps) o o.is refl)
  part_wanes l (Dm d s reason) = heard_wanes l d s dm_on (λ o. dm_here o o.is) (λ o. dm_wanes o o.is)
  part_wanes l (Disc d s) = leaves_wane l d s (holder l d s) (holder_mine l d s)
  part_wanes l (Frmr d s r) = ends_wane l (holder l d s) (holder_mine l d s)
  part_wanes l (Snl ps) = tells_wane l (record l { lookups = lookups_told ps l.lookups }) (answers_to l.bound (l.far_miu / 4) ps) refl
  part_wanes l (Info d s ns nr info) =
      numbered_wane l (λ c. takes c (Info d s ns nr info)) (λ c. unit_took c ns nr info) d s (holder l d s) (holder_mine l d s)
  part_wanes l (Rr d s nr) = numbered_wane l (λ c. takes c (Rr d s nr)) (λ c. nr_took c rr_type nr false) d s (holder l d s) (holder_mine l d s)
  part_wanes l (Rnr d s nr) = numbered_wane l (λ c. takes c (Rnr d s nr)) (λ c. nr_took c rnr_type nr true) d s (holder l d s) (holder_mine l d s)

  item_wanes : (l : LlcState S) (i : Item) → W l (step m l i)
  item_wanes l (Good p) = part_wanes l p
  item_wanes l (Broken ty d s q) = breaks_wane l ty q (holder l d s) (holder_mine l d s)

  then_on : (a b c : LlcState S) → W a b → W b c → W a c
  then_on a b c x y = then_wanes (is_of h (own_from h a.own)) (is_of h (own_from h b.own)) (is_of h (own_from h c.own)) x y

  items_wane : (l : LlcState S) (is : List Item) → W l (steps m l is)
  items_wane l [] = same_own l l refl
  items_wane l (i ∷ is) = then_on l (step m l i) (steps m (step m l i) is) (item_wanes l i) (items_wane (step m l i) is)

  pub taken_wanes : (l : LlcState S) (b : List ℕ) → W l (taken_from m l b)
  taken_wanes l b = items_wane l (brought l b)

  -- what is given
  abbrev AllWane : LlcState S → Option (Gave S) → Type 0
  AllWane l q = (x : Gave S) → q ≡ Some x → W l x.llc

  none_wane : (l : LlcState S) → AllWane l None
  none_wane l x e = absurd cc

  one_wane : (l n : LlcState S) (p : Part) → W l n → AllWane l (Some (record { llc = n; part = p }))
  one_wane l n p w x e = let q : record { llc = n; part = p } ≡ x = cc in subst (λ z. W l z.llc) q w

  else_wane : (l : LlcState S) (a b : Option (Gave S)) → AllWane l a → AllWane l b → AllWane l (or_else a b)
  else_wane l None b x y = y
  else_wane l (Some g) b x y = x

  round_wane : (l : LlcState S) (n s : ℕ) (f : ℕ → Option (Gave S)) → ((s : ℕ) → AllWane l (f s)) → AllWane l (first_from n s f)
  unfolding first_from
  round_wane l zero s f all = none_wane l
  round_wane l (suc n) s f all = else_wane l (f s) (first_from n (sap_after s) f) (all s) (round_wane l n (sap_after s) f all)

  conn_wane : (l : LlcState S) (c : ConnState) (p : Option Part) → AllWane l (g.gave_conn l c p)
  conn_wane l c None = none_wane l
  conn_wane l c (Some p) =
      let n : LlcState S = record l { served = with_conn c l.served; last = Some c.there } in one_wane l n p (same_own l n refl)

  abbrev OwnWanes : OwnState → Option OwnGave → Type 0
  OwnWanes o None = Unit {0}
  OwnWanes o (Some x) = (x.own.here ≡ o.here) × Wanes o.is x.own.is

  gave_wanes : (o : OwnState) (c d : ConnState) (p : Option Part) → o.is ≡ Open c → Wanes (Open c) (Open d) → OwnWanes o (gave_so o d p)
  gave_wanes o c d None i w = tt
  gave_wanes o c d (Some p) i w = (refl, subst (λ z. Wanes z (Open d)) (sym i) w)

  unit_wanes : (o : OwnState) (i : OwnIs) → o.is ≡ i → OwnWanes o (unit_so o i)
  unit_wanes o (Open c) j =
      either {X = Option OwnGave} (OwnWanes o) (is_some (due c)) (gave_so o (gives c).conn (gives c).pdu) None
      (λ k. gave_wanes o c (gives c).conn (gives c).pdu j (gives_wane c)) (λ k. tt)
  unit_wanes o Asking j = tt
  unit_wanes o Refused j = tt
  unit_wanes o Leaving j = tt
  unit_wanes o Closed j = tt

  owed_wanes : (o : OwnState) (i : OwnIs) → o.is ≡ i → OwnWanes o (ack_so o i)
  owed_wanes o (Open c) j = gave_wanes o c (gives_ack c).conn (gives_ack c).pdu j (ack_wanes c)
  owed_wanes o Asking j = tt
  owed_wanes o Refused j = tt
  owed_wanes o Leaving j = tt
  owed_wanes o Closed j = tt

  own_wane : (l : LlcState S) (s : ℕ) (o : OwnState) (q : Option OwnGave) → own_from s l.own ≡ Some o → OwnWanes o q → AllWane l (g.gave_own l q)
  own_wane l s o None e w = none_wane l
  own_wane l s o (Some x) e w =
      one_wane l (record l { own = with_own x.own l.own; last = Some x.own.here }) x.part
      (wanes_with h x.own l.own o (subst (λ z. own_from z l.own ≡ Some o) (sym (w.0 ∙ here_of s l.own o e)) e) w.1)

  sends_wane : (l : LlcState S) (c : ConnState) (q : Option (List ℕ)) → AllWane l (g.sends m l c q)
  sends_wane l c None = none_wane l
  sends_wane l c (Some u) =
      λ x e. conn_wane (record l { service = m.sent l.service c.there c.far_miu }) (gives (queued c u)).conn (gives (queued c u)).pdu x e

  informs_wane : (l : LlcState S) (s : ℕ) → AllWane l (g.informs m l s)
  informs_wane l s = else_wane l _ _ (by_served (conn_from s l.served)) (by_own (own_from s l.own) refl)
    where
      by_served : (q : Option ConnState) → AllWane l (g.informs_served m l q)
      by_served None = none_wane l
      by_served (Some c) = either (AllWane l) (g.may_send c) _ _ (λ e. sends_wane l c (m.due l.service c.there c.far_miu)) (λ e. none_wane l)

      by_own : (q : Option OwnState) → own_from s l.own ≡ q → AllWane l (g.informs_own l q)
      by_own None e = none_wane l
      by_own (Some o) e = own_wane l s o (unit_on o) e (unit_wanes o o.is refl)

  acks_wane : (l : LlcState S) (s : ℕ) → AllWane l (g.acknowledges l s)
  acks_wane l s = else_wane l _ _ (by_served (conn_from s l.served)) (by_own (own_from s l.own) refl)
    where
      by_served : (q : Option ConnState) → AllWane l (g.acknowledges_served l q)
      by_served None = none_wane l
      by_served (Some c) = conn_wane l (gives_ack c).conn (gives_ack c).pdu

      by_own : (q : Option OwnState) → own_from s l.own ≡ q → AllWane l (g.acknowledges_own l q)
      by_own None e = none_wane l
      by_own (Some o) e = own_wane l s o (ack_on o) e (owed_wanes o o.is refl)

  gave_wane : (l : LlcState S) → AllWane l (gave m l)
  gave_wane l = go l.queue
    where
      go : (q : List Queued) → AllWane l (g.gave_from m l q)
      go [] =
          else_wane l _ _ (round_wane l sap_count (g.circle_start l.last) (g.informs m l) (informs_wane l))
          (round_wane l sap_count (g.circle_start l.last) (g.acknowledges l) (acks_wane l))
      go (p ∷ ps) = one_wane l (record l { queue = ps }) p.part (same_own l (record l { queue = ps }) refl)

  joined_wane : (n used : ℕ) (l : LlcState S) → W l (joined m n used l).llc
  joined_wane zero used l = same_own l l refl
  joined_wane (suc n) used l = go (gave m l) refl (joined_wane n)
    where
      go : (q : Option (Gave S)) → gave m l ≡ q → ((used : ℕ) (k : LlcState S) → W k (joined m n used k).llc) → W l (g.joined_so m l used q (joined m n)).llc
      go None e more = same_own l l refl
      go (Some x) e more =
          either {X = GaveAll m} (λ z. W l z.llc) (nat_le (used + length (inner_bytes x.part)) l.far_miu) _ _
          (λ i. then_on l x.llc (joined m n (used + length (inner_bytes x.part)) x.llc).llc (gave_wane l x e) (more (used + length (inner_bytes x.part)) x.llc)) (λ i. same_own l l refl)

  given_wane : (l : LlcState S) (q : Option (Gave S)) → gave m l ≡ q → (n : ℕ) → W l (given_so m l q n).llc
  given_wane l None e n = same_own l l refl
  given_wane l (Some x) e n = then_on l x.llc (joined m n (length (inner_bytes x.part)) x.llc).llc (gave_wane l x e) (joined_wane n (length (inner_bytes x.part)) x.llc)

  pub given_wanes : (n : ℕ) (l : LlcState S) → W l (after_giving m n l)
  given_wanes n l = either {X = LlcState S} (W l) l.readable (given_parts m n l).llc l (λ e. given_wane l (gave m l) refl _) (λ e. same_own l l refl)

pending_is : (i : OwnIs) → pending_on i ≡ waits_on i + under_way i
pending_is Asking = refl
pending_is (Open c) = omega arith
pending_is Refused = refl
pending_is Leaving = refl
pending_is Closed = refl

module _ (h : ℕ) where
  pending_of : (o : Option OwnState) → pending o ≡ waits_on (is_of h o) + under_way (is_of h o)
  pending_of None = refl
  pending_of (Some o) = pending_is o.is

  -- what is still to come doesn't grow
  pub pending_wanes : (a b : Option OwnState) → Wanes (is_of h a) (is_of h b) → pending b ≤ pending a
  pending_wanes a b w = let p = pending_of a in let q = pending_of b in let x = w.waits in let y = w.under in omega arith

  waits_so : (i : OwnIs) → standing_on i ≡ stands.Waiting → waits_on i ≡ 1
  waits_so Asking e = refl
  waits_so (Open c) e = absurd cc
  waits_so Refused e = absurd cc
  waits_so Leaving e = refl
  waits_so Closed e = absurd cc

  rests_so : (i : OwnIs) → (standing_on i ≡ stands.Waiting → ⊥) → waits_on i ≡ 0
  rests_so Asking n = absurd (n refl)
  rests_so (Open c) n = refl
  rests_so Refused n = refl
  rests_so Leaving n = absurd (n refl)
  rests_so Closed n = refl

  waits_by : (o : Option OwnState) → standing_of o ≡ stands.Waiting → waits_on (is_of h o) ≡ 1
  waits_by None e = absurd cc
  waits_by (Some o) e = waits_so o.is e

  rests_by : (o : Option OwnState) → (standing_of o ≡ stands.Waiting → ⊥) → waits_on (is_of h o) ≡ 0
  rests_by None n = refl
  rests_by (Some o) n = rests_so o.is n

  -- an answer that was awaited came
  pub answer_falls : (a b : Option OwnState) → Wanes (is_of h a) (is_of h b) → standing_of a ≡ stands.Waiting → (standing_of b ≡ stands.Waiting → ⊥)
      → pending b < pending a
  answer_falls a b w e n =
      let p = pending_of a in let q = pending_of b in let y = w.under in let i = waits_by a e in let j = rests_by b n in omega arith

  open_so : (i : OwnIs) → is_open i ≡ true → open_on i ≡ 1
  open_so Asking e = absurd cc
  open_so (Open c) e = refl
  open_so Refused e = absurd cc
  open_so Leaving e = absurd cc
  open_so Closed e = absurd cc

  open_by : (o : Option OwnState) → is_open_by o ≡ true → open_on (is_of h o) ≡ 1
  open_by None e = absurd cc
  open_by (Some o) e = open_so o.is e

  counted_is : (i : OwnIs) → acked_on i ≡ counted i
  counted_is Asking = refl
  counted_is (Open c) = refl
  counted_is Refused = refl
  counted_is Leaving = refl
  counted_is Closed = refl

  counted_by : (o : Option OwnState) → acked_of o ≡ counted (is_of h o)
  counted_by None = refl
  counted_by (Some o) = counted_is o.is

  -- a unit was acknowledged
  pub acknowledged_falls : (a b : Option OwnState) → Wanes (is_of h a) (is_of h b) → is_open_by a ≡ true → is_open_by b ≡ true → acked_of a < count_end
      → (acked_of b ≡ acked_of a → ⊥) → pending b < pending a
  acknowledged_falls a b w e f few other =
      let few2 : counted (is_of h a) < count_end = subst (λ n. n < count_end) (counted_by a) few in
      go (w.same (open_by a e) (open_by b f) few2)
    where
      go : (counted (is_of h b) ≡ counted (is_of h a)) ⊎ (under_way (is_of h b) < under_way (is_of h a)) → pending b < pending a
      go (inl i) = absurd (other (counted_by b ∙ i ∙ sym (counted_by a)))
      go (inr i) = (let p = pending_of a in let q = pending_of b in let x = w.waits in omega arith)
