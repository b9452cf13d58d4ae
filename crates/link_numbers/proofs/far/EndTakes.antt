-- What an end takes and gives leaves the other end's MIU; and one that couldn't read general bytes takes and gives nothing.
use Rattle.std.proofs.Common.{◌≡◌, nat_le, ℕ, zero, suc, ◌+◌, ◌/◌, ◌==◌, Bool, false, List, [], ◌∷◌, length, Option, Some, None, if◌then◌else◌, refl, ap, ◌∙◌}
use Rattle.llcp_pdu.specs.declared.param.Param.{Param}
use Rattle.llcp_pdu.specs.declared.part.Part.{Part}
use Rattle.llcp_pdu.specs.declared.part.Part.TheVariants.{Symm, Ui, Connect, Disc, Cc, Dm, Frmr, Snl, Info, Rr, Rnr}
use Rattle.llcp_pdu.specs.Writing.{inner_bytes}
use Rattle.llcp_conn.specs.declared.conn.Taken.{Taken}
use Rattle.llcp_conn.specs.declared.conn.Taken.TheVariants as taking
use Rattle.llcp_conn.specs.Conn.{ConnState, Took, takes}
use Rattle.llcp_link.specs.Serving.{Serving}
use Rattle.llcp_link.specs.State.{LlcState, OwnState, Holder, Nobody, Served, Asked, holder}
use Rattle.llcp_link.specs.Names.{rw_of, reached, name_of, answers_to, lookups_told}
use Rattle.llcp_link.specs.Taking as t
use Rattle.llcp_link.specs.Taking.{Item, Good, Broken, items, step, steps, taken_from}
use Rattle.llcp_link.specs.Giving.{Gave, GaveAll, after_giving, gave, gave_first, gave_none, given, given_parts, given_so, joined, joined_so, others, payload_of}
use Rattle.llcp_link.proofs.MostGiven.{gave_keeps}
use Rattle.llcp_link.proofs.Ranged.{either}

module _ {S : Type 0} (m : Serving S) (miu : ℕ) where
  abbrev Has : LlcState S → Type 0
  Has l = l.far_miu ≡ miu

  answered_has : (l : LlcState S) (p : Part) → Has l → Has (t.answered l p)
  answered_has l p h = either {X = LlcState S} Has (t.is_full l) l _ (λ e. h) (λ e. h)

  asked_has : (l : LlcState S) (o : OwnState) (k : ConnState) (x : Taken) → Has l → Has (t.asked_so l o k x)
  asked_has l o k taking.Nothing h = h
  asked_has l o k (taking.Unit u) h = h
  asked_has l o k (taking.Closed r) h = answered_has (t.ends l (Asked o k)) _ h

  tells_has : (l : LlcState S) (ps : List Param) → Has l → Has (t.tells l ps)
  tells_has l [] h = h
  tells_has l (p ∷ ps) h = answered_has l _ h

  ends_has : (l : LlcState S) (x : Holder) → Has l → Has (t.ends l x)
  ends_has l Nobody h = h
  ends_has l (Served k) h = h
  ends_has l (Asked o k) h = h

  leaves_has : (l : LlcState S) (d s : ℕ) (x : Holder) → Has l → Has (t.leaves l d s x)
  leaves_has l d s Nobody h = answered_has l _ h
  leaves_has l d s (Served k) h = answered_has (t.ends l (Served k)) _ h
  leaves_has l d s (Asked o k) h = answered_has (t.ends l (Asked o k)) _ h

  breaks_has : (l : LlcState S) (ty q : ℕ) (x : Holder) → Has l → Has (t.breaks l ty q x)
  breaks_has l ty q Nobody h = h
  breaks_has l ty q (Served k) h = answered_has (t.ends l (Served k)) _ h
  breaks_has l ty q (Asked o k) h = answered_has (t.ends l (Asked o k)) _ h

  served_has : (l : LlcState S) (k : ConnState) (x : Taken) → Has l → Has (t.served_so m l k x)
  served_has l k taking.Nothing h = h
  served_has l k (taking.Unit u) h = h
  served_has l k (taking.Closed r) h = answered_has (t.ends l (Served k)) _ h

  numbered_has : (l : LlcState S) (f : ConnState → Took) (d s : ℕ) (x : Holder) → Has l → Has (t.numbered m l f d s x)
  numbered_has l f d s Nobody h = answered_has l _ h
  numbered_has l f d s (Served k) h = served_has l (f k).conn (f k).does h
  numbered_has l f d s (Asked o k) h = asked_has l o (f k).conn (f k).does h

  refused_has : (l : LlcState S) (d s : ℕ) (q : Option ℕ) → Has l → Has (t.refused_at l d s q)
  refused_has l d s None h = answered_has l _ h
  refused_has l d s (Some sap) h = answered_has l _ h

  connects_has : (l : LlcState S) (d s : ℕ) (ps : List Param) (q : Option ℕ) → Has l → Has (t.connects_to m l d s ps q)
  connects_has l d s ps (Some sap) h = h
  connects_has l d s ps None h =
      either {X = LlcState S} Has (rw_of ps == 0) (t.answered l (Dm s d t.not_taken)) (t.refused_at l d s (reached l.bound d (name_of ps)))
      (λ e. answered_has l _ h) (λ e. refused_has l d s (reached l.bound d (name_of ps)) h)

  step_has : (l : LlcState S) (i : Item) → Has l → Has (step m l i)
  step_has l (Good Symm) h = h
  step_has l (Good (Ui d s info)) h = h
  step_has l (Good (Connect d s ps)) h =
      either {X = LlcState S} Has (t.is_full l) l (t.connects_to m l d s ps (t.accepted l d s ps)) (λ e. h) (λ e. connects_has l d s ps (t.accepted l d s ps) h)
  step_has l (Good (Cc d s ps)) h = h
  step_has l (Good (Dm d s r)) h = h
  step_has l (Good (Disc d s)) h = leaves_has l d s (holder l d s) h
  step_has l (Good (Frmr d s r)) h = ends_has l (holder l d s) h
  step_has l (Good (Snl ps)) h = tells_has (record l { lookups = lookups_told ps l.lookups }) (answers_to l.bound (l.far_miu / 4) ps) h
  step_has l (Good (Info d s ns nr xs)) h = numbered_has l (λ k. takes k (Info d s ns nr xs)) d s (holder l d s) h
  step_has l (Good (Rr d s nr)) h = numbered_has l (λ k. takes k (Rr d s nr)) d s (holder l d s) h
  step_has l (Good (Rnr d s nr)) h = numbered_has l (λ k. takes k (Rnr d s nr)) d s (holder l d s) h
  step_has l (Broken ty d s q) h = breaks_has l ty q (holder l d s) h

  steps_have : (l : LlcState S) (is : List Item) → Has l → Has (steps m l is)
  steps_have l [] h = h
  steps_have l (i ∷ is) h = steps_have (step m l i) is (step_has l i h)

  so_has : (l : LlcState S) (used : ℕ) (o : Option (Gave S)) → gave m l ≡ o → (more : ℕ → LlcState S → GaveAll m) → ((u : ℕ) (k : LlcState S) → Has k → Has (more u k).llc)
      → Has l → Has (joined_so m l used o more).llc
  so_has l used None e more all h = h
  so_has l used (Some g) e more all h =
      either {X = GaveAll m} (λ x. Has x.llc) (nat_le (used + length (inner_bytes g.part)) l.far_miu)
      (gave_first m g.part (more (used + length (inner_bytes g.part)) g.llc)) (gave_none m l) (λ q. all (used + length (inner_bytes g.part)) g.llc (gave_keeps m l g e ∙ h)) (λ q. h)

  joined_has : (n used : ℕ) (l : LlcState S) → Has l → Has (joined m n used l).llc
  joined_has zero used l h = h
  joined_has (suc n) used l h = so_has l used (gave m l) refl (joined m n) (joined_has n) h

  first_has : (l : LlcState S) (o : Option (Gave S)) → gave m l ≡ o → (n : ℕ) → Has l → Has (given_so m l o n).llc
  first_has l None e n h = h
  first_has l (Some g) e n h = joined_has n (length (inner_bytes g.part)) g.llc (gave_keeps m l g e ∙ h)

  pub after_has : (n : ℕ) (l : LlcState S) → Has l → Has (after_giving m n l)
  after_has n l h = either {X = LlcState S} Has l.readable (given_parts m n l).llc l (λ e. first_has l (gave m l) refl (others m l n) h) (λ e. h)

  pub taken_has : (l : LlcState S) (b : List ℕ) → Has l → Has (taken_from m l b)
  taken_has l b h = steps_have l (t.brought l b) h

-- an end that couldn't read general bytes
module _ {S : Type 0} (m : Serving S) (l : LlcState S) (unread : l.readable ≡ false) where
  pub unread_takes : (b : List ℕ) → taken_from m l b ≡ l
  unread_takes b = ap (λ (t : Bool). steps m l (if t then items b else [])) unread

  pub unread_given : (n : ℕ) → given m n l ≡ []
  unread_given n = ap (λ (t : Bool). if t then payload_of (given_parts m n l).parts else []) unread

  pub unread_after : (n : ℕ) → after_giving m n l ≡ l
  unread_after n = ap (λ (t : Bool). if t then (given_parts m n l).llc else l) unread
