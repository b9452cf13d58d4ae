-- What a connection at its place comes to where it is given up, and where a PDU comes.
use Rattle.std.proofs.Common.{◌≡◌, ◌<◌, ℕ, ◌+◌, ◌*◌, ◌%◌, ◌==◌, Bool, true, false, List, [], ◌∷◌, ◌++◌, length, slice_set, slice_index_or, remove, Some, refl, sym, ap, subst, ◌∙◌, arith}
use Rattle.std.proofs.Common.{if◌then◌else◌, nat_lt}
use Rattle.std.proofs.Math.Seq.{set-append_seam}
use Rattle.llcp_pdu.specs.declared.pdu_view.PduView.{PduView}
use Rattle.llcp_pdu.specs.declared.pdu_view.PduView.TheVariants as view
use Rattle.llcp_pdu.specs.Spelling.{IsReport}
use Rattle.llcp_pdu.specs.Wire.{info_type, rr_type, rnr_type}
use Rattle.llcp_conn.specs.declared.conn.ConnNumbers.{ConnNumbers}
use Rattle.llcp_conn.specs.declared.conn.Taken.{Taken}
use Rattle.llcp_conn.specs.declared.conn.Taken.TheVariants as taking
use Rattle.llcp_conn.specs.Conn.{ConnState, Took, took, numbers, acknowledged, closes, flag_i, flag_r, flag_s, is_outside, modulus, report, takes_view}
use Rattle.llcp_link.specs.State.{with_conn, without_conn}
use Rattle.llcp_link.specs.Kept.{AllServed, IsServed}
use Rattle.llcp_link.specs.Places.{IsPlace, IsHeld, IsNumbered, ClosedBy, IsTold, TakenBy, left_so}
use Rattle.llcp_link.proofs.Places.{found_there, read_at, set_at, gone_at, remove_seam}

all_before : (xs ys : List ConnState) → AllServed (xs ++ ys) → AllServed xs
all_before [] ys h = tt
all_before (x ∷ xs) ys h = (h.0, all_before xs ys h.1)

all_behind : (xs ys : List ConnState) → AllServed (xs ++ ys) → AllServed ys
all_behind [] ys h = h
all_behind (x ∷ xs) ys h = all_behind xs ys h.1

all_joined : (xs ys : List ConnState) → AllServed xs → AllServed ys → AllServed (xs ++ ys)
all_joined [] ys h k = k
all_joined (x ∷ xs) ys h k = (h.0, all_joined xs ys h.1 k)

-- what a PDU leaves of a connection that it doesn't close
abbrev pub Stays : Taken → ConnState → Type 0
Stays (taking.Closed r) c = Unit {0}
Stays _ c = IsServed c

pub record Fine (c : ConnState) (t : Took) : Type 0 where
  pub here : t.conn.here ≡ c.here
  pub there : t.conn.there ≡ c.there
  pub stays : Stays t.does t.conn
  pub told : IsTold t.does

told_of : (c : ConnState) (flag ptype q : ℕ) → flag % 16 ≡ 0 → ptype < 16 → IsServed c → IsReport (report c flag ptype q)
told_of c flag ptype q f p h = record { flags = f; ptype = p; vs = omega arith; vr = h.vr; vsa = h.vsa; vra = h.vra }

fine_nr : (c : ConnState) (t nr : ℕ) (held b : Bool) → t < 16 → nr < 16 → IsServed c
    → Fine c (if b then closes c flag_r t nr else record { conn = record (acknowledged c nr) { held = held }; does = taking.Nothing })
fine_nr c t nr held true j k h = record { here = refl; there = refl; stays = tt; told = told_of c flag_r t nr refl j h }
fine_nr c t nr held false j k h = record {
  here = refl;
  there = refl;
  stays = record { here = h.here; there = h.there; far_miu = h.far_miu; vr = h.vr; vsa = k; vra = h.vra; live = h.live; queue = h.queue };
  told = tt;
}

fine_unit : (c : ConnState) (q nr : ℕ) (xs : List ℕ) (a b e : Bool) → nr < 16 → IsServed c
    → Fine c (if a then closes c flag_i info_type q else (if b then closes c flag_r info_type q else (if e
    then record { conn = record (acknowledged c nr) { vr = (c.vr + 1) % modulus; owed = true }; does = taking.Unit xs }
    else closes c flag_s info_type q)))
fine_unit c q nr xs true b e k h = record { here = refl; there = refl; stays = tt; told = told_of c flag_i info_type q refl (omega arith) h }
fine_unit c q nr xs false true e k h = record { here = refl; there = refl; stays = tt; told = told_of c flag_r info_type q refl (omega arith) h }
fine_unit c q nr xs false false false k h = record { here = refl; there = refl; stays = tt; told = told_of c flag_s info_type q refl (omega arith) h }
fine_unit c q nr xs false false true k h = record {
  here = refl;
  there = refl;
  stays = record { here = h.here; there = h.there; far_miu = h.far_miu; vr = omega arith; vsa = k; vra = h.vra; live = h.live; queue = h.queue };
  told = tt;
}

pub fine : (c : ConnState) (d s : ℕ) (v : PduView) → IsNumbered d s v → IsServed c → Fine c (takes_view c v)
fine c d s (view.Info e t ns nr info) n h =
    fine_unit c (16 * ns + nr) nr info.now (nat_lt c.near_miu (length info.now)) (is_outside c nr) (ns == c.vr) n.3 h
fine c d s (view.Rr e t nr) n h = fine_nr c rr_type nr false (is_outside c nr) (omega arith) n.2 h
fine c d s (view.Rnr e t nr) n h = fine_nr c rnr_type nr true (is_outside c nr) (omega arith) n.2 h
fine c d s _ n h = absurd n

module _ (d s : ℕ) (old : List ConnState) (place : ℕ) (p : IsPlace s old place) (here : p.conn.here ≡ d) (all : AllServed old) where
  split : AllServed (p.before ++ p.conn ∷ p.behind)
  split = subst AllServed p.all all

  pub served_there : IsServed p.conn
  served_there = (all_behind p.before (p.conn ∷ p.behind) split).0

  pub held_there : IsHeld d s old p.conn
  held_there = record { found = found_there s old place p; here = here; there = p.there }

  left : AllServed (p.before ++ p.behind)
  left = all_joined p.before p.behind (all_before p.before (p.conn ∷ p.behind) split) (all_behind p.before (p.conn ∷ p.behind) split).1

  removed : remove old place ≡ p.before ++ p.behind
  removed = ap (λ xs. remove xs place) p.all ∙ ap (λ n. remove (p.before ++ p.conn ∷ p.behind) n) (sym p.at) ∙ remove_seam p.before p.conn p.behind

  changed : (c : ConnState) → slice_set old place c ≡ p.before ++ c ∷ p.behind
  changed c =
      ap (λ xs. slice_set xs place c) p.all ∙ ap (λ n. slice_set (p.before ++ p.conn ∷ p.behind) n c) (sym p.at)
      ∙ set-append_seam p.before p.conn p.behind c

  pub all_gone : AllServed (remove old place)
  all_gone = subst AllServed (sym removed) left

  pub all_set : (c : ConnState) → IsServed c → AllServed (slice_set old place c)
  all_set c h =
      subst AllServed (sym (changed c))
      (all_joined p.before (c ∷ p.behind) (all_before p.before (p.conn ∷ p.behind) split) (h, (all_behind p.before (p.conn ∷ p.behind) split).1))

  changed_gone : (c : ConnState) → remove (slice_set old place c) place ≡ p.before ++ p.behind
  changed_gone c =
      ap (λ xs. remove xs place) (changed c) ∙ ap (λ n. remove (p.before ++ c ∷ p.behind) n) (sym p.at) ∙ remove_seam p.before c p.behind

  pub all_changed_gone : (c : ConnState) → AllServed (remove (slice_set old place c) place)
  all_changed_gone c = subst AllServed (sym (changed_gone c)) left

  pub closed_there : (c : ConnState) (n : ConnNumbers) (new : List ConnState) → c ≡ slice_index_or old place c → n ≡ numbers c → new ≡ remove old place → ClosedBy d s old (Some n) new
  closed_there c n new is e i = (p.conn, held_there, served_there, e ∙ ap numbers (is ∙ read_at s old place p c), i ∙ gone_at s old place p)

  -- a PDU left the connection open
  pub taken_there : (v : PduView) (c now : ConnState) (t : Taken) (new : List ConnState)
      → c ≡ slice_index_or old place c → took now t ≡ takes_view c v → Fine c (took now t) → new ≡ slice_set old place now → left_so old now t ≡ with_conn now old
      → TakenBy d s v old (Some t) new
  taken_there v c now t new is e good i kept =
      let q : c ≡ p.conn = is ∙ read_at s old place p c in
      let k : took now t ≡ takes_view p.conn v = e ∙ ap (λ x. takes_view x v) q in
      let there : now.there ≡ s = good.there ∙ ap (λ x. x.there) q ∙ p.there in record {
        conn = p.conn;
        held = held_there;
        does = ap (λ x. x.does) k;
        left = i ∙ set_at s old place p now there ∙ sym kept ∙ ap (λ x. left_so old x t) (ap (λ x. x.conn) k);
        here = ap (λ x. x.conn.here) (sym k) ∙ good.here ∙ ap (λ x. x.here) q ∙ here;
        there = ap (λ x. x.conn.there) (sym k) ∙ there;
        told = good.told;
      }

  -- a PDU closed it
  pub broken_there : (v : PduView) (c now : ConnState) (t : Taken) (new : List ConnState)
      → c ≡ slice_index_or old place c → took now t ≡ takes_view c v → Fine c (took now t) → new ≡ remove (slice_set old place now) place
      → left_so old now t ≡ without_conn now.there old
      → TakenBy d s v old (Some t) new
  broken_there v c now t new is e good i kept =
      let q : c ≡ p.conn = is ∙ read_at s old place p c in
      let k : took now t ≡ takes_view p.conn v = e ∙ ap (λ x. takes_view x v) q in
      let there : now.there ≡ s = good.there ∙ ap (λ x. x.there) q ∙ p.there in
      let gone : new ≡ without_conn s old = i ∙ changed_gone now ∙ sym removed ∙ gone_at s old place p in record {
        conn = p.conn;
        held = held_there;
        does = ap (λ x. x.does) k;
        left = gone ∙ ap (λ n. without_conn n old) (sym there) ∙ sym kept ∙ ap (λ x. left_so old x t) (ap (λ x. x.conn) k);
        here = ap (λ x. x.conn.here) (sym k) ∙ good.here ∙ ap (λ x. x.here) q ∙ here;
        there = ap (λ x. x.conn.there) (sym k) ∙ there;
        told = good.told;
      }
