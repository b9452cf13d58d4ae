-- A client's connection at its place gives a unit or an acknowledgement.
use Rattle.std.proofs.Common.{◌≡◌, ◌≤◌, ℕ, ◌+◌, true, false, List, length, Some, None, slice_index_or, slice_set, refl, sym, ap, subst, ◌∙◌, arith, if◌then◌else◌}
use Rattle.llcp_pdu.specs.declared.part.Part.{Part}
use Rattle.llcp_pdu.specs.declared.part.Part.TheVariants.{Rr}
use Rattle.llcp_pdu.specs.Writing.{inner_bytes}
use Rattle.llcp_conn.specs.Conn.{ConnState}
use Rattle.llcp_link.specs.State.{conn_from, with_conn}
use Rattle.llcp_link.specs.Giving.{may_send}
use Rattle.llcp_link.specs.Kept.{AllServed, IsSent, IsServed}
use Rattle.llcp_link.specs.Offering.{AckedBy, Owes, Sends, SentBy, allowed, owing, behind_ack, info_of, sent_on}
use Rattle.llcp_link.specs.Places.{IsPlace}
use Rattle.llcp_link.proofs.Places.{found_there, read_at, set_at}
use Rattle.llcp_link.proofs.Held.{all_set, served_there}

pub not_allowed : (s : ℕ) (cs : List ConnState) (place : ℕ) (p : IsPlace s cs place) (c : ConnState) → c ≡ slice_index_or cs place c → may_send c ≡ false → allowed (conn_from s cs) ≡ None
not_allowed s cs place p c is e =
    let q : c ≡ p.conn = is ∙ read_at s cs place p c in
    ap allowed (found_there s cs place p) ∙ ap (λ b. if b then Some p.conn else None) (ap may_send (sym q) ∙ e)

pub not_owing : (s : ℕ) (cs : List ConnState) (place : ℕ) (p : IsPlace s cs place) (c : ConnState) → c ≡ slice_index_or cs place c → c.owed ≡ false → owing (conn_from s cs) ≡ None
not_owing s cs place p c is e =
    let q : c ≡ p.conn = is ∙ read_at s cs place p c in
    ap owing (found_there s cs place p) ∙ ap (λ b. if b then Some p.conn else None) (ap (λ x. x.owed) (sym q) ∙ e)

pub sends_there : (s : ℕ) (cs : List ConnState) (place : ℕ) (p : IsPlace s cs place) (all : AllServed cs) (c : ConnState) (most : ℕ) → c ≡ slice_index_or cs place c → may_send c ≡ true
    → most ≡ c.far_miu
    → Sends s cs place most
sends_there s cs place p all c most is e n =
    let q : c ≡ p.conn = is ∙ read_at s cs place p c in
    let h : IsServed p.conn = served_there p.conn.here s cs place p refl all in
    let m : most ≡ p.conn.far_miu = n ∙ ap (λ x. x.far_miu) q in record {
      at = p;
      found = found_there s cs place p;
      open_ = ap may_send (sym q) ∙ e;
      there = p.there;
      served = h;
      miu = sym m;
      few = (let f = h.far_miu.1 in omega arith);
    }

pub owes_there : (s : ℕ) (cs : List ConnState) (place : ℕ) (p : IsPlace s cs place) (c : ConnState) → c ≡ slice_index_or cs place c → c.owed ≡ true → Owes s cs place
owes_there s cs place p c is e = record { at = p; owed = ap (λ x. x.owed) (sym (is ∙ read_at s cs place p c)) ∙ e }

pub sent_there : (s most : ℕ) (u : List ℕ) (old : List ConnState) (place : ℕ) (o : Sends s old place most) (c now : ConnState) (p : Part) → length u ≤ most
    → c ≡ slice_index_or old place c → now ≡ sent_on c u → p ≡ info_of c u → SentBy s most u old p (slice_set old place now)
sent_there s most u old place o c now p fits is e i =
    let q : c ≡ o.at.conn = is ∙ read_at s old place o.at c in
    let n : now ≡ sent_on o.at.conn u = e ∙ ap (λ x. sent_on x u) q in
    let t : now.there ≡ s = ap (λ x. x.there) n ∙ o.there in
    let r : p ≡ info_of o.at.conn u = i ∙ ap (λ x. info_of x u) q in
    let h = o.served in record {
      conn = o.at.conn;
      found = o.found;
      open_ = o.open_;
      miu = o.miu;
      there = o.there;
      served = h;
      part = r;
      left = set_at s old place o.at now t ∙ ap (λ x. with_conn x old) n;
      sent = subst IsSent (sym r) (record { part = (h.there, h.here, omega arith, h.vr); size = (let f = o.few in omega arith) });
      size = ap (λ x. length (inner_bytes x)) r ∙ (let z : length (inner_bytes (info_of o.at.conn u)) ≡ 5 + length u = omega arith in z);
    }

pub sent_all : (s most : ℕ) (u : List ℕ) (old : List ConnState) (place : ℕ) (o : Sends s old place most) (all : AllServed old) (c now : ConnState)
    → c ≡ slice_index_or old place c → now ≡ sent_on c u → AllServed (slice_set old place now)
sent_all s most u old place o all c now is e =
    let q : c ≡ o.at.conn = is ∙ read_at s old place o.at c in
    let h = o.served in
    let k : IsServed (sent_on o.at.conn u) = record { here = h.here; there = h.there; far_miu = h.far_miu; vr = h.vr; vsa = h.vsa; vra = h.vr; live = h.live; queue = refl } in
    all_set o.at.conn.here s old place o.at refl all now (subst IsServed (sym (e ∙ ap (λ x. sent_on x u) q)) k)

pub acked_there : (s : ℕ) (old : List ConnState) (place : ℕ) (o : Owes s old place) (all : AllServed old) (c now : ConnState) (p : Part)
    → c ≡ slice_index_or old place c → now ≡ behind_ack c → p ≡ Rr c.there c.here c.vr → AckedBy s old p (slice_set old place now)
acked_there s old place o all c now p is e i =
    let q : c ≡ o.at.conn = is ∙ read_at s old place o.at c in
    let n : now ≡ behind_ack o.at.conn = e ∙ ap behind_ack q in
    let t : now.there ≡ s = ap (λ x. x.there) n ∙ o.at.there in
    let r : p ≡ Rr o.at.conn.there o.at.conn.here o.at.conn.vr = i ∙ ap (λ x. Rr x.there x.here x.vr) q in
    let h : IsServed o.at.conn = served_there o.at.conn.here s old place o.at refl all in record {
      conn = o.at.conn;
      found = found_there s old place o.at;
      owed = o.owed;
      there = o.at.there;
      part = r;
      left = set_at s old place o.at now t ∙ ap (λ x. with_conn x old) n;
      sent = subst IsSent (sym r) (record { part = (h.there, h.here, h.vr); size = omega arith });
      size = ap (λ x. length (inner_bytes x)) r;
    }

pub acked_all : (s : ℕ) (old : List ConnState) (place : ℕ) (o : Owes s old place) (all : AllServed old) (c now : ConnState) → c ≡ slice_index_or old place c → now ≡ behind_ack c
    → AllServed (slice_set old place now)
acked_all s old place o all c now is e =
    let q : c ≡ o.at.conn = is ∙ read_at s old place o.at c in
    let h : IsServed o.at.conn = served_there o.at.conn.here s old place o.at refl all in
    let k : IsServed (behind_ack o.at.conn) = record { here = h.here; there = h.there; far_miu = h.far_miu; vr = h.vr; vsa = h.vsa; vra = h.vr; live = h.live; queue = h.queue } in
    all_set o.at.conn.here s old place o.at refl all now (subst IsServed (sym (e ∙ ap behind_ack q)) k)
