-- No payload changes what is set of a peer's end.
use Rattle.std.proofs.Common.{◌≡◌, ℕ, zero, suc, ◌+◌, ◌/◌, ◌==◌, nat_le, List, [], ◌∷◌, length, Option, Some, None, refl, sym, ap, subst, ◌∙◌, inl, inr}
use Rattle.nfc_base.specs.Choosing.{Choosing, first_number}
use Rattle.nfc_base.specs.Links.{FarStep, Stepped, Stopped, FarMoved}
use Rattle.llcp_pdu.specs.declared.part.Part.{Part}
use Rattle.llcp_pdu.specs.declared.part.Part.TheVariants.{Symm, Ui, Connect, Disc, Cc, Dm, Frmr, Snl, Info, Rr, Rnr}
use Rattle.llcp_pdu.specs.declared.param.Param.{Param}
use Rattle.llcp_pdu.specs.Writing.{inner_bytes}
use Rattle.llcp_conn.specs.declared.conn.Taken.{Taken}
use Rattle.llcp_conn.specs.declared.conn.Taken.TheVariants as taking
use Rattle.llcp_conn.specs.Conn.{ConnState, Took, queued, gives, gives_ack, report, takes}
use Rattle.llcp_link.specs.Own.{OwnGave, ack_on, unit_on}
use Rattle.llcp_link.specs.State.{Queued, OwnState, Holder, Nobody, Served, Asked, conn_from, own_from, holder, with_own, with_conn}
use Rattle.llcp_pdu.specs.Wire.{sap_count}
use Rattle.llcp_link.specs.Names.{rw_of, reached, name_of, answers_to, lookups_told}
use Rattle.llcp_link.specs.Taking as t
use Rattle.llcp_link.specs.Taking.{Item, Good, Broken, taken_from, brought, step, steps, steps_part}
use Rattle.llcp_link.specs.Giving as g
use Rattle.llcp_link.specs.Giving.{Gave, GaveAll, first_from, gave, gave_none, joined, given_so, given_parts, after_giving, or_else, sap_after}
use Rattle.llcp_link.specs.Answering.{Answers, IsStuckGiving, Stops}
use Rattle.llcp_link.specs.Counting.{AnswersCounted, StopsCounted}
use Rattle.llcp_link.specs.Halting.{IsStuck, LeavesService}
use Rattle.llcp_link.specs.Offering.{LeavesNext, LeftBy}
use Rattle.llcp_link.proofs.Ranged.{either}
use Rattle.snep_core.specs.Accord.{PeerState}
use Rattle.snep_core.specs.Server.{ServerState, serving}
use Rattle.link_calls.specs.Arriving.{answered}
use Rattle.link_calls.specs.Staying.{Setting, setting_of}

module _ (z : Setting) where
  -- an end of this setting
  abbrev Is : PeerState → Type 0
  Is l = setting_of l ≡ z

  answered_is : (l : PeerState) (p : Part) → Is l → Is (t.answered l p)
  answered_is l p h = either {X = PeerState} Is (t.is_full l) l _ (λ e. h) (λ e. h)

  refused_is : (l : PeerState) (d s : ℕ) (o : Option ℕ) → Is l → Is (t.refused_at l d s o)
  refused_is l d s None h = answered_is l (Dm s d t.no_service) h
  refused_is l d s (Some sap) h = answered_is l (Dm s sap t.busy) h

  ends_is : (l : PeerState) (o : Holder) → Is l → Is (t.ends l o)
  ends_is l Nobody h = h
  ends_is l (Served c) h = h
  ends_is l (Asked o c) h = h

  leaves_is : (l : PeerState) (d s : ℕ) (o : Holder) → Is l → Is (t.leaves l d s o)
  leaves_is l d s Nobody h = answered_is l (Dm s d t.not_connected) h
  leaves_is l d s (Served c) h = answered_is (t.ends l (Served c)) (Dm s d t.disconnected) h
  leaves_is l d s (Asked o c) h = answered_is (t.ends l (Asked o c)) (Dm s d t.disconnected) h

  asked_is : (l : PeerState) (o : OwnState) (c : ConnState) (k : Taken) → Is l → Is (t.asked_so l o c k)
  asked_is l o c taking.Nothing h = h
  asked_is l o c (taking.Unit u) h = h
  asked_is l o c (taking.Closed r) h = answered_is (t.ends l (Asked o c)) (Frmr c.there c.here r) h

  tells_is : (l : PeerState) (ps : List Param) → Is l → Is (t.tells l ps)
  tells_is l [] h = h
  tells_is l (p ∷ ps) h = answered_is l (Snl (p ∷ ps)) h

  breaks_is : (l : PeerState) (ty q : ℕ) (o : Holder) → Is l → Is (t.breaks l ty q o)
  breaks_is l ty q Nobody h = h
  breaks_is l ty q (Served c) h = answered_is (t.ends l (Served c)) (Frmr c.there c.here (report c t.flag_w ty q)) h
  breaks_is l ty q (Asked o c) h = answered_is (t.ends l (Asked o c)) (Frmr c.there c.here (report c t.flag_w ty q)) h

  connects_is : (l : PeerState) (d s : ℕ) (ps : List Param) → Is l → Is (t.connects serving l d s ps)
  connects_is l d s ps h = either {X = PeerState} Is (t.is_full l) l _ (λ e. h) (λ e. by (t.accepted l d s ps))
    where
      by : (o : Option ℕ) → Is (t.connects_to serving l d s ps o)
      by None =
          either {X = PeerState} Is (rw_of ps == 0) _ _ (λ e. answered_is l (Dm s d t.not_taken) h) (λ e. refused_is l d s (reached l.bound d (name_of ps)) h)
      by (Some sap) = h

  served_is : (l : PeerState) (c : ConnState) (k : Taken) → Is l → Is (t.served_so serving l c k)
  served_is l c taking.Nothing h = h
  served_is l c (taking.Unit u) h = h
  served_is l c (taking.Closed r) h = answered_is (t.ends l (Served c)) (Frmr c.there c.here r) h

  numbered_is : (l : PeerState) (take : ConnState → Took) (d s : ℕ) (o : Holder) → Is l → Is (t.numbered serving l take d s o)
  numbered_is l take d s Nobody h = answered_is l (Dm s d t.not_connected) h
  numbered_is l take d s (Served c) h = served_is l (take c).conn (take c).does h
  numbered_is l take d s (Asked o c) h = asked_is l o (take c).conn (take c).does h

  part_is : (l : PeerState) (p : Part) → Is l → Is (steps_part serving l p)
  part_is l Symm h = h
  part_is l (Ui d s info) h = h
  part_is l (Connect d s ps) h = connects_is l d s ps h
  part_is l (Cc d s ps) h = h
  part_is l (Dm d s reason) h = h
  part_is l (Disc d s) h = leaves_is l d s (holder l d s) h
  part_is l (Frmr d s r) h = ends_is l (holder l d s) h
  part_is l (Snl ps) h = tells_is (record l { lookups = lookups_told ps l.lookups }) (answers_to l.bound (l.far_miu / 4) ps) h
  part_is l (Info d s ns nr info) h = numbered_is l (λ c. takes c (Info d s ns nr info)) d s (holder l d s) h
  part_is l (Rr d s nr) h = numbered_is l (λ c. takes c (Rr d s nr)) d s (holder l d s) h
  part_is l (Rnr d s nr) h = numbered_is l (λ c. takes c (Rnr d s nr)) d s (holder l d s) h

  item_is : (l : PeerState) (i : Item) → Is l → Is (step serving l i)
  item_is l (Good p) h = part_is l p h
  item_is l (Broken ty d s q) h = breaks_is l ty q (holder l d s) h

  items_are : (l : PeerState) (is : List Item) → Is l → Is (steps serving l is)
  items_are l [] h = h
  items_are l (i ∷ is) h = items_are (step serving l i) is (item_is l i h)

  taken_is : (l : PeerState) (b : List ℕ) → Is l → Is (taken_from serving l b)
  taken_is l b h = items_are l (brought l b) h

  -- what is given
  abbrev AllAre : Option (Gave ServerState) → Type 0
  AllAre q = (x : Gave ServerState) → q ≡ Some x → Is x.llc

  none_is : AllAre None
  none_is x e = absurd cc

  one_is : (n : PeerState) (p : Part) → Is n → AllAre (Some (record { llc = n; part = p }))
  one_is n p h x e = let q : record { llc = n; part = p } ≡ x = cc in subst (λ (y : Gave ServerState). Is y.llc) q h

  else_is : (a b : Option (Gave ServerState)) → AllAre a → AllAre b → AllAre (or_else a b)
  else_is None b x y = y
  else_is (Some k) b x y = x

  round_is : (n s : ℕ) (f : ℕ → Option (Gave ServerState)) → ((s : ℕ) → AllAre (f s)) → AllAre (first_from n s f)
  unfolding first_from
  round_is zero s f all = none_is
  round_is (suc n) s f all = else_is (f s) (first_from n (sap_after s) f) (all s) (round_is n (sap_after s) f all)

  conn_is : (l : PeerState) (c : ConnState) (p : Option Part) → Is l → AllAre (g.gave_conn l c p)
  conn_is l c None h = none_is
  conn_is l c (Some p) h = one_is (record l { served = with_conn c l.served; last = Some c.there }) p h

  own_is : (l : PeerState) (q : Option OwnGave) → Is l → AllAre (g.gave_own l q)
  own_is l None h = none_is
  own_is l (Some x) h = one_is (record l { own = with_own x.own l.own; last = Some x.own.here }) x.part h

  sends_is : (l : PeerState) (c : ConnState) (q : Option (List ℕ)) → Is l → AllAre (g.sends serving l c q)
  sends_is l c None h = none_is
  sends_is l c (Some u) h = conn_is (record l { service = serving.sent l.service c.there c.far_miu }) (gives (queued c u)).conn (gives (queued c u)).pdu h

  informs_are : (l : PeerState) (s : ℕ) → Is l → AllAre (g.informs serving l s)
  informs_are l s h = else_is _ _ (by_served (conn_from s l.served)) (by_own (own_from s l.own))
    where
      by_served : (q : Option ConnState) → AllAre (g.informs_served serving l q)
      by_served None = none_is
      by_served (Some c) = either AllAre (g.may_send c) _ _ (λ e. sends_is l c (serving.due l.service c.there c.far_miu) h) (λ e. none_is)

      by_own : (q : Option OwnState) → AllAre (g.informs_own l q)
      by_own None = none_is
      by_own (Some o) = own_is l (unit_on o) h

  acks_are : (l : PeerState) (s : ℕ) → Is l → AllAre (g.acknowledges l s)
  acks_are l s h = else_is _ _ (by_served (conn_from s l.served)) (by_own (own_from s l.own))
    where
      by_served : (q : Option ConnState) → AllAre (g.acknowledges_served l q)
      by_served None = none_is
      by_served (Some c) = conn_is l (gives_ack c).conn (gives_ack c).pdu h

      by_own : (q : Option OwnState) → AllAre (g.acknowledges_own l q)
      by_own None = none_is
      by_own (Some o) = own_is l (ack_on o) h

  gave_is : (l : PeerState) → Is l → AllAre (gave serving l)
  gave_is l h = go l.queue
    where
      go : (q : List Queued) → AllAre (g.gave_from serving l q)
      go [] =
          else_is _ _ (round_is sap_count (g.circle_start l.last) (g.informs serving l) (λ s. informs_are l s h))
          (round_is sap_count (g.circle_start l.last) (g.acknowledges l) (λ s. acks_are l s h))
      go (p ∷ ps) = one_is (record l { queue = ps }) p.part h

  joined_is : (n used : ℕ) (l : PeerState) → Is l → Is (joined serving n used l).llc
  joined_is zero used l h = h
  joined_is (suc n) used l h = go (gave serving l) refl (joined_is n)
    where
      go : (q : Option (Gave ServerState)) → gave serving l ≡ q → ((used : ℕ) (k : PeerState) → Is k → Is (joined serving n used k).llc) → Is (g.joined_so serving l used q (joined serving n)).llc
      go None e more = h
      go (Some x) e more =
          either {X = GaveAll serving} (λ y. Is y.llc) (nat_le (used + length (inner_bytes x.part)) l.far_miu) _ _
          (λ i. more (used + length (inner_bytes x.part)) x.llc (gave_is l h x e)) (λ i. h)

  given_is : (l : PeerState) → Is l → (q : Option (Gave ServerState)) → gave serving l ≡ q → (n : ℕ) → Is (given_so serving l q n).llc
  given_is l h None e n = h
  given_is l h (Some x) e n = joined_is n (length (inner_bytes x.part)) x.llc (gave_is l h x e)

  after_is : (n : ℕ) (l : PeerState) → Is l → Is (after_giving serving n l)
  after_is n l h = either {X = PeerState} Is l.readable (given_parts serving n l).llc l (λ e. given_is l h (gave serving l) refl _) (λ e. h)

  pub answers_is : (count : ℕ) (l : PeerState) (payload reply : List ℕ) (k : PeerState) → Answers serving count l payload reply k → Is l → Is k
  answers_is count l payload reply k a h = subst Is (sym a.gives.left) (after_is count (taken_from serving l payload) (taken_is l payload h))

-- by its parts
by_parts : (a b : PeerState) → a.miu ≡ b.miu → a.window ≡ b.window → a.bound ≡ b.bound → a.service.limit ≡ b.service.limit → a.service.table ≡ b.service.table → setting_of a ≡ setting_of b
by_parts a b m w n l t =
    ap (λ x. record (setting_of a) { miu = x }) m ∙ ap (λ x. record (setting_of a) { miu = b.miu; window = x }) w
    ∙ ap (λ x. record (setting_of a) { miu = b.miu; window = b.window; bound = x }) n
    ∙ ap (λ x. record (setting_of a) { miu = b.miu; window = b.window; bound = b.bound; limit = x }) l
    ∙ ap (λ x. record (setting_of b) { table = x }) t

-- want of memory leaves of a server its limit and its table
record IsSet (old new : ServerState) : Type 0 where
  pub limit : new.limit ≡ old.limit
  pub table : new.table ≡ old.table

left_set : (old new : ServerState) → LeavesService serving old new → IsSet old new
left_set old new (inl e) = record { limit = ap (λ s. s.limit) e; table = ap (λ s. s.table) e }
left_set old new (inr k) = record { limit = k.limit; table = k.table }

of_setting : (a b : PeerState) → setting_of a ≡ setting_of b → IsSet b.service a.service
of_setting a b e = record { limit = ap (λ (x : Setting). x.limit) e; table = ap (λ (x : Setting). x.table) e }

set_then : (a b c : ServerState) → IsSet a b → IsSet b c → IsSet a c
set_then a b c x y = record { limit = y.limit ∙ x.limit; table = y.table ∙ x.table }

next_set : (l : PeerState) (s : ServerState) → LeavesNext serving (gave serving l) l.service s → IsSet l.service s
next_set l s (inl k) = left_set l.service s k
next_set l s (inr k) = go (gave serving l) refl k
  where
    go : (q : Option (Gave ServerState)) → gave serving l ≡ q → LeftBy q s → IsSet l.service s
    go None e b = absurd b
    go (Some x) e b = subst (IsSet l.service) (sym b) (of_setting x.llc l (gave_is (setting_of l) l refl x e))

stuck_is : (old new : PeerState) (items : List Item) → IsStuck serving old items new → setting_of new ≡ setting_of old
stuck_is old new items k =
    let front : PeerState = steps serving old k.halts.front in
    let set : IsSet old.service new.service =
    set_then old.service front.service new.service (of_setting front old (items_are (setting_of old) old k.halts.front refl)) (left_set front.service new.service k.halts.service) in
    by_parts new old k.miu k.window k.bound set.limit set.table

giving_is : (old new : PeerState) → IsStuckGiving serving old new → setting_of new ≡ setting_of old
giving_is old new k =
    let front : PeerState = k.halts.front in
    let front_is : setting_of front ≡ setting_of old = elim k.halts.is_front [
      | inl e ↦ ap setting_of e
      | inr (n, a, e) ↦ ap setting_of e ∙ given_is (setting_of old) old refl (gave serving old) refl _
    ] in
    let set : IsSet old.service new.service =
    set_then old.service front.service new.service (of_setting front old front_is) (next_set front new.service k.halts.service) in
    by_parts new old k.miu k.window k.bound set.limit set.table

pub stops_is : (old : PeerState) (payload : List ℕ) (new : PeerState) → Stops serving old payload new → setting_of new ≡ setting_of old
stops_is old payload new (inl k) = stuck_is old new (brought old payload) k
stops_is old payload new (inr k) = giving_is (taken_from serving old payload) new k ∙ taken_is (setting_of old) old payload refl

-- So do all steps, also one that want of memory left unfinished.
pub set_still : (did : List FarStep) (far after : Choosing PeerState) → FarMoved (AnswersCounted serving) (StopsCounted serving) did far after → setting_of after.end ≡ setting_of far.end
set_still [] far after moved = ap (λ (c : Choosing PeerState). setting_of c.end) moved
set_still (Stepped payload reply ∷ did) far after (mid, step, moved) =
    set_still did mid after moved ∙ answers_is (setting_of far.end) (first_number far.numbers) far.end payload reply mid.end step.answers refl
set_still (Stopped payload ∷ did) far after moved = stops_is far.end payload after.end moved.0

-- So does an end that answers a payload.
pub answered_set : (payload : List ℕ) (count : ℕ) (l : PeerState) → setting_of (answered payload count l) ≡ setting_of l
answered_set payload count l = after_is (setting_of l) count (taken_from serving l payload) (taken_is (setting_of l) l payload refl)
