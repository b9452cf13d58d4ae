-- What the calls of a service keep, an end keeps with whatever PDUs it takes and gives.
use Rattle.std.proofs.Common.{nat_le, ℕ, zero, suc, ◌+◌, ◌/◌, ◌==◌, List, [], ◌∷◌, length, Option, Some, None, ◌≡◌, refl, sym, subst}
use Rattle.llcp_pdu.specs.declared.param.Param.{Param}
use Rattle.llcp_pdu.specs.declared.part.Part.{Part}
use Rattle.llcp_pdu.specs.declared.part.Part.TheVariants.{Symm, Ui, Connect, Disc, Cc, Dm, Frmr, Snl, Info, Rr, Rnr}
use Rattle.llcp_pdu.specs.Writing.{inner_bytes}
use Rattle.llcp_conn.specs.declared.conn.Taken.{Taken}
use Rattle.llcp_conn.specs.declared.conn.Taken.TheVariants as taking
use Rattle.llcp_conn.specs.Conn.{ConnState, Took, gives, gives_ack, queued, takes}
use Rattle.llcp_link.specs.Serving.{Serving}
use Rattle.llcp_link.specs.State.{LlcState, Queued, OwnState, Holder, Nobody, Served, Asked, conn_from, holder, own_from}
use Rattle.llcp_pdu.specs.Wire.{sap_count}
use Rattle.llcp_link.specs.Names.{rw_of, reached, name_of, answers_to, lookups_told}
use Rattle.llcp_link.specs.Taking as t
use Rattle.llcp_link.specs.Taking.{Item, Good, Broken, step, steps}
use Rattle.llcp_link.specs.Own.{OwnGave, ack_on, unit_on}
use Rattle.llcp_link.specs.Giving as g
use Rattle.llcp_link.specs.Giving.{Gave, GaveAll, first_from, gave, given_parts, after_giving, joined, may_send, or_else, sap_after}
use Rattle.llcp_link.proofs.Ranged.{either}

module _ {S : Type 0} where
  -- the service that is left
  abbrev left : LlcState S → Option (Gave S) → S
  left l None = l.service
  left l (Some x) = x.llc.service

  own_left : (l : LlcState S) (q : Option OwnGave) → left l (g.gave_own l q) ≡ l.service
  own_left l None = refl
  own_left l (Some x) = refl

module _ {S : Type 0} (m : Serving S) (P : S → Type 0) (begun : (s : S) (c : ℕ) → P s → P (m.begun s c)) (brought : (s : S) (c : ℕ) (u : List ℕ) → P s → P (m.brought s c u)) where
  answered_keeps : (l : LlcState S) (p : Part) → P l.service → P (t.answered l p).service
  answered_keeps l p h = either {X = LlcState S} (λ z. P z.service) (t.is_full l) l _ (λ e. h) (λ e. h)

  asked_keeps : (l : LlcState S) (o : OwnState) (k : ConnState) (x : Taken) → P l.service → P (t.asked_so l o k x).service
  asked_keeps l o k taking.Nothing h = h
  asked_keeps l o k (taking.Unit u) h = h
  asked_keeps l o k (taking.Closed r) h = answered_keeps (t.ends l (Asked o k)) _ h

  tells_keeps : (l : LlcState S) (ps : List Param) → P l.service → P (t.tells l ps).service
  tells_keeps l [] h = h
  tells_keeps l (p ∷ ps) h = answered_keeps l _ h

  ends_keeps : (l : LlcState S) (x : Holder) → P l.service → P (t.ends l x).service
  ends_keeps l Nobody h = h
  ends_keeps l (Served k) h = h
  ends_keeps l (Asked o k) h = h

  leaves_keeps : (l : LlcState S) (d s : ℕ) (x : Holder) → P l.service → P (t.leaves l d s x).service
  leaves_keeps l d s Nobody h = answered_keeps l _ h
  leaves_keeps l d s (Served k) h = answered_keeps (t.ends l (Served k)) _ h
  leaves_keeps l d s (Asked o k) h = answered_keeps (t.ends l (Asked o k)) _ h

  breaks_keeps : (l : LlcState S) (ty q : ℕ) (x : Holder) → P l.service → P (t.breaks l ty q x).service
  breaks_keeps l ty q Nobody h = h
  breaks_keeps l ty q (Served k) h = answered_keeps (t.ends l (Served k)) _ h
  breaks_keeps l ty q (Asked o k) h = answered_keeps (t.ends l (Asked o k)) _ h

  served_keeps : (l : LlcState S) (k : ConnState) (x : Taken) → P l.service → P (t.served_so m l k x).service
  served_keeps l k taking.Nothing h = h
  served_keeps l k (taking.Unit u) h = brought l.service k.there u h
  served_keeps l k (taking.Closed r) h = answered_keeps (t.ends l (Served k)) _ h

  numbered_keeps : (l : LlcState S) (f : ConnState → Took) (d s : ℕ) (x : Holder) → P l.service → P (t.numbered m l f d s x).service
  numbered_keeps l f d s Nobody h = answered_keeps l _ h
  numbered_keeps l f d s (Served k) h = served_keeps l (f k).conn (f k).does h
  numbered_keeps l f d s (Asked o k) h = asked_keeps l o (f k).conn (f k).does h

  refused_keeps : (l : LlcState S) (d s : ℕ) (q : Option ℕ) → P l.service → P (t.refused_at l d s q).service
  refused_keeps l d s None h = answered_keeps l _ h
  refused_keeps l d s (Some sap) h = answered_keeps l _ h

  connects_keeps : (l : LlcState S) (d s : ℕ) (ps : List Param) (q : Option ℕ) → P l.service → P (t.connects_to m l d s ps q).service
  connects_keeps l d s ps (Some sap) h = begun l.service s h
  connects_keeps l d s ps None h =
      either {X = LlcState S} (λ z. P z.service) (rw_of ps == 0) (t.answered l (Dm s d t.not_taken)) (t.refused_at l d s (reached l.bound d (name_of ps)))
      (λ e. answered_keeps l _ h) (λ e. refused_keeps l d s (reached l.bound d (name_of ps)) h)

  step_keeps : (l : LlcState S) (i : Item) → P l.service → P (step m l i).service
  step_keeps l (Good Symm) h = h
  step_keeps l (Good (Ui d s info)) h = h
  step_keeps l (Good (Connect d s ps)) h =
      either {X = LlcState S} (λ z. P z.service) (t.is_full l) l (t.connects_to m l d s ps (t.accepted l d s ps)) (λ e. h) (λ e. connects_keeps l d s ps (t.accepted l d s ps) h)
  step_keeps l (Good (Cc d s ps)) h = h
  step_keeps l (Good (Dm d s r)) h = h
  step_keeps l (Good (Disc d s)) h = leaves_keeps l d s (holder l d s) h
  step_keeps l (Good (Frmr d s r)) h = ends_keeps l (holder l d s) h
  step_keeps l (Good (Snl ps)) h = tells_keeps (record l { lookups = lookups_told ps l.lookups }) (answers_to l.bound (l.far_miu / 4) ps) h
  step_keeps l (Good (Info d s ns nr xs)) h = numbered_keeps l (λ k. takes k (Info d s ns nr xs)) d s (holder l d s) h
  step_keeps l (Good (Rr d s nr)) h = numbered_keeps l (λ k. takes k (Rr d s nr)) d s (holder l d s) h
  step_keeps l (Good (Rnr d s nr)) h = numbered_keeps l (λ k. takes k (Rnr d s nr)) d s (holder l d s) h
  step_keeps l (Broken ty d s q) h = breaks_keeps l ty q (holder l d s) h

  pub steps_keep : (l : LlcState S) (is : List Item) → P l.service → P (steps m l is).service
  steps_keep l [] h = h
  steps_keep l (i ∷ is) h = steps_keep (step m l i) is (step_keeps l i h)

module _ {S : Type 0} (m : Serving S) (P : S → Type 0) (sent : (s : S) (c miu : ℕ) → P s → P (m.sent s c miu)) where
  abbrev pub Keeps : Option (Gave S) → Type 0
  Keeps None = Unit {0}
  Keeps (Some x) = P x.llc.service

  else_keeps : (a b : Option (Gave S)) → Keeps a → Keeps b → Keeps (or_else a b)
  else_keeps None b h k = k
  else_keeps (Some x) b h k = h

  round_keeps : (n s : ℕ) (f : ℕ → Option (Gave S)) → ((s : ℕ) → Keeps (f s)) → Keeps (first_from n s f)
  unfolding first_from
  round_keeps zero s f all = tt
  round_keeps (suc n) s f all = else_keeps (f s) (first_from n (sap_after s) f) (all s) (round_keeps n (sap_after s) f all)

  conn_keeps : (l : LlcState S) (k : ConnState) (p : Option Part) → P l.service → Keeps (g.gave_conn l k p)
  conn_keeps l k None h = tt
  conn_keeps l k (Some p) h = h

  left_keeps : (l : LlcState S) (q : Option (Gave S)) → left l q ≡ l.service → P l.service → Keeps q
  left_keeps l None e h = tt
  left_keeps l (Some x) e h = subst P (sym e) h

  sends_keeps : (l : LlcState S) (k : ConnState) (q : Option (List ℕ)) → P l.service → Keeps (g.sends m l k q)
  sends_keeps l k None h = tt
  sends_keeps l k (Some u) h = conn_keeps (record l { service = m.sent l.service k.there k.far_miu }) (gives (queued k u)).conn (gives (queued k u)).pdu (sent l.service k.there k.far_miu h)

  informs_keeps : (l : LlcState S) (s : ℕ) → P l.service → Keeps (g.informs m l s)
  informs_keeps l s h = else_keeps _ _ (by_served (conn_from s l.served)) (by_own (own_from s l.own))
    where
      by_served : (q : Option ConnState) → Keeps (g.informs_served m l q)
      by_served None = tt
      by_served (Some k) = either Keeps (may_send k) (g.sends m l k (m.due l.service k.there k.far_miu)) None (λ e. sends_keeps l k (m.due l.service k.there k.far_miu) h) (λ e. tt)

      by_own : (q : Option OwnState) → Keeps (g.informs_own l q)
      by_own None = tt
      by_own (Some o) = left_keeps l (g.gave_own l (unit_on o)) (own_left l (unit_on o)) h

  acks_keep : (l : LlcState S) (s : ℕ) → P l.service → Keeps (g.acknowledges l s)
  acks_keep l s h = else_keeps _ _ (by_served (conn_from s l.served)) (by_own (own_from s l.own))
    where
      by_served : (q : Option ConnState) → Keeps (g.acknowledges_served l q)
      by_served None = tt
      by_served (Some k) = conn_keeps l (gives_ack k).conn (gives_ack k).pdu h

      by_own : (q : Option OwnState) → Keeps (g.acknowledges_own l q)
      by_own None = tt
      by_own (Some o) = left_keeps l (g.gave_own l (ack_on o)) (own_left l (ack_on o)) h

  pub gave_keeps : (l : LlcState S) → P l.service → Keeps (gave m l)
  gave_keeps l h = go l.queue
    where
      go : (q : List Queued) → Keeps (g.gave_from m l q)
      go [] =
          else_keeps _ _ (round_keeps sap_count (g.circle_start l.last) (g.informs m l) (λ s. informs_keeps l s h))
          (round_keeps sap_count (g.circle_start l.last) (g.acknowledges l) (λ s. acks_keep l s h))
      go (p ∷ ps) = h

  joined_keeps : (n used : ℕ) (l : LlcState S) → P l.service → P (joined m n used l).llc.service
  joined_keeps zero used l h = h
  joined_keeps (suc n) used l h = go (gave m l) (gave_keeps l h) (joined_keeps n)
    where
      go : (q : Option (Gave S)) → Keeps q → ((used : ℕ) (k : LlcState S) → P k.service → P (joined m n used k).llc.service) → P (g.joined_so m l used q (joined m n)).llc.service
      go None k more = h
      go (Some x) k more =
          either {X = GaveAll m} (λ z. P z.llc.service) (nat_le (used + length (inner_bytes x.part)) l.far_miu) _ _
          (λ i. more (used + length (inner_bytes x.part)) x.llc k) (λ i. h)

  so_keeps : (l : LlcState S) (q : Option (Gave S)) → Keeps q → (n : ℕ) → P l.service → P (g.given_so m l q n).llc.service
  so_keeps l None k n h = h
  so_keeps l (Some x) k n h = joined_keeps n (length (inner_bytes x.part)) x.llc k

  pub parts_keep : (n : ℕ) (l : LlcState S) → P l.service → P (given_parts m n l).llc.service
  parts_keep n l h = so_keeps l (gave m l) (gave_keeps l h) (g.others m l n) h

  pub giving_keeps : (n : ℕ) (l : LlcState S) → P l.service → P (after_giving m n l).service
  giving_keeps n l h = either {X = LlcState S} (λ z. P z.service) l.readable (given_parts m n l).llc l (λ e. parts_keep n l h) (λ e. h)
