-- Rows that change nothing for a client's SAP.
use Rattle.std.proofs.Common.{◌≡◌, ℕ, ◌/◌, ◌==◌, false, List, [], ◌∷◌, Option, Some, None, refl, sym, ap, subst, ◌∙◌}
use Rattle.llcp_pdu.specs.declared.param.Param.{Param}
use Rattle.llcp_pdu.specs.declared.part.Part.{Part}
use Rattle.llcp_pdu.specs.declared.part.Part.TheVariants.{Dm, Snl}
use Rattle.llcp_conn.specs.declared.conn.Taken.{Taken}
use Rattle.llcp_conn.specs.declared.conn.Taken.TheVariants as taking
use Rattle.llcp_conn.specs.Conn.{ConnState, Took, fresh}
use Rattle.llcp_link.specs.Serving.{Serving}
use Rattle.llcp_link.specs.State.{LlcState, OwnIs, Asking, Open, Refused, Leaving, Closed, OwnState, Holder, Nobody, Served, Asked, conn_from, with_conn, own_holder, holds_open}
use Rattle.llcp_link.specs.Names.{rw_of, reached, name_of, answers_to, lookups_told}
use Rattle.llcp_link.specs.Taking as t
use Rattle.llcp_link.proofs.Clients.{AreDistinct, not_equal, conn_with_other, conn_without_other, conn_more_other, distinct_with, distinct_without, distinct_more}
use Rattle.llcp_link.proofs.Ranged.{either}
use Rattle.llcp_link.proofs.Following.{Follows, Same, still, then_same}

-- nobody has the connection, or it is one of this end's own
abbrev pub IsOther : Holder → Type 0
IsOther Nobody = Unit {0}
IsOther (Served k) = ⊥
IsOther (Asked o k) = Unit {0}

pub own_other : (s : ℕ) (q : Option OwnState) → IsOther (own_holder s q)
own_other s None = tt
own_other s (Some o) = by_is o.is
  where
    by_is : (x : OwnIs) → IsOther (holds_open o s x)
    by_is Asking = tt
    by_is (Open k) = either IsOther (o.there == s) (Asked o k) Nobody (λ e. tt) (λ e. tt)
    by_is Refused = tt
    by_is Leaving = tt
    by_is Closed = tt

module _ {S : Type 0} (m : Serving S) (told : S → List (List (List ℕ)) → Type 0) (c miu : ℕ) (f : Follows m c told) where
  -- what isn't a connection of a client, nor the service
  pub beside : (l n : LlcState S) → n.miu ≡ l.miu → n.served ≡ l.served → n.service ≡ l.service → Same told c miu l n
  beside l n e d s = record {
    near = e;
    distinct = λ h. subst AreDistinct (sym d) h;
    link = ap (conn_from c) d;
    tells = λ us h. subst (λ z. told z us) (sym s) h;
  }

  pub answered_same : (l : LlcState S) (p : Part) → Same told c miu l (t.answered l p)
  answered_same l p = either (λ z. Same told c miu l z) (t.is_full l) l _ (λ e. still told c miu l) (λ e. beside l _ refl refl refl)

  pub answered_then : (l n : LlcState S) (p : Part) → Same told c miu l n → Same told c miu l (t.answered n p)
  answered_then l n p s = then_same told c miu l n (t.answered n p) s (answered_same n p)

  pub own_same : (l : LlcState S) (os : List OwnState) → Same told c miu l (record l { own = os })
  own_same l os = beside l _ refl refl refl

  asked_same : (l : LlcState S) (o : OwnState) (k : ConnState) (x : Taken) → Same told c miu l (t.asked_so l o k x)
  asked_same l o k taking.Nothing = own_same l _
  asked_same l o k (taking.Unit u) = own_same l _
  asked_same l o k (taking.Closed r) = answered_then l _ _ (own_same l _)

  tells_same : (l : LlcState S) (ps : List Param) → Same told c miu l (t.tells l ps)
  tells_same l [] = still told c miu l
  tells_same l (p ∷ ps) = answered_same l (Snl (p ∷ ps))

  pub discovers_same : (l : LlcState S) (ps : List Param) → Same told c miu l (t.discovers l ps)
  discovers_same l ps =
      then_same told c miu l (record l { lookups = lookups_told ps l.lookups }) _ (beside l _ refl refl refl)
      (tells_same (record l { lookups = lookups_told ps l.lookups }) (answers_to l.bound (l.far_miu / 4) ps))

  -- a connection of another client
  conn_same : (l : LlcState S) (k : ConnState) → (k.there == c) ≡ false → Same told c miu l (record l { served = with_conn k l.served })
  conn_same l k e = record {
    near = refl;
    distinct = λ h. distinct_with k l.served h;
    link = conn_with_other c k l.served e;
    tells = λ us h. h;
  }

  pub ends_same : (l : LlcState S) (k : ConnState) → (k.there == c) ≡ false → Same told c miu l (t.ends l (Served k))
  ends_same l k e = record {
    near = refl;
    distinct = λ h. distinct_without k.there l.served h;
    link = conn_without_other c k.there l.served e;
    tells = λ us h. h;
  }

  served_same : (l : LlcState S) (k : ConnState) (x : Taken) → (k.there == c) ≡ false → Same told c miu l (t.served_so m l k x)
  served_same l k taking.Nothing e = conn_same l k e
  served_same l k (taking.Unit u) e = record {
    near = refl;
    distinct = λ h. distinct_with k l.served h;
    link = conn_with_other c k l.served e;
    tells = λ us h. f.brought_else l.service k.there u us (not_equal k.there c e) h;
  }
  served_same l k (taking.Closed r) e = answered_then l _ _ (ends_same l k e)

  -- by who has the connection
  pub numbered_other : (l : LlcState S) (takes : ConnState → Took) (d s : ℕ) (h : Holder) → IsOther h → Same told c miu l (t.numbered m l takes d s h)
  numbered_other l takes d s Nobody i = answered_same l _
  numbered_other l takes d s (Served k) i = absurd i
  numbered_other l takes d s (Asked o k) i = asked_same l o (takes k).conn (takes k).does

  pub numbered_else : (l : LlcState S) (takes : ConnState → Took) (k : ConnState) → (takes k).conn.there ≡ k.there → (k.there == c) ≡ false
      → Same told c miu l (t.served_so m l (takes k).conn (takes k).does)
  numbered_else l takes k q e = served_same l (takes k).conn (takes k).does (ap (λ z. z == c) q ∙ e)

  pub breaks_other : (l : LlcState S) (ty q : ℕ) (h : Holder) → IsOther h → Same told c miu l (t.breaks l ty q h)
  breaks_other l ty q Nobody i = still told c miu l
  breaks_other l ty q (Served k) i = absurd i
  breaks_other l ty q (Asked o k) i = answered_then l _ _ (own_same l _)

  pub leaves_other : (l : LlcState S) (d s : ℕ) (h : Holder) → IsOther h → Same told c miu l (t.leaves l d s h)
  leaves_other l d s Nobody i = answered_same l _
  leaves_other l d s (Served k) i = absurd i
  leaves_other l d s (Asked o k) i = answered_then l _ _ (own_same l _)

  pub ends_other : (l : LlcState S) (h : Holder) → IsOther h → Same told c miu l (t.ends l h)
  ends_other l Nobody i = still told c miu l
  ends_other l (Served k) i = absurd i
  ends_other l (Asked o k) i = own_same l _

  -- a CONNECT that is refused, or that another client sent
  pub refuses_same : (l : LlcState S) (d s : ℕ) (ps : List Param) → Same told c miu l (t.refuses l d s ps)
  refuses_same l d s ps =
      either (λ z. Same told c miu l z) (rw_of ps == 0) (t.answered l (Dm s d t.not_taken)) (t.refused_at l d s (reached l.bound d (name_of ps)))
      (λ e. answered_same l _) (λ e. by_reach (reached l.bound d (name_of ps)))
    where
      by_reach : (q : Option ℕ) → Same told c miu l (t.refused_at l d s q)
      by_reach None = answered_same l _
      by_reach (Some sap) = answered_same l _

  pub opens_same : (l : LlcState S) (sap s far rw : ℕ) → (s == c) ≡ false → conn_from s l.served ≡ None → Same told c miu l (t.opens m l sap s far rw)
  opens_same l sap s far rw e n = record {
    near = refl;
    distinct = λ h. distinct_more l.served (fresh sap s l.miu far rw) h n;
    link = conn_more_other c l.served (fresh sap s l.miu far rw) e;
    tells = λ us h. f.begun_else l.service s us (not_equal s c e) h;
  }
