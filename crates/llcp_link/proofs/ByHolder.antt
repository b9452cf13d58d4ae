-- A PDU between two SAPs does to the client's connection what the definition of units says.
use Rattle.std.proofs.Common.{◌≡◌, ℕ, ◌==◌, ◌&&◌, Bool, true, false, List, [], Option, Some, None, refl, sym, ◌∙◌, ap, subst, if◌then◌else◌}
use Rattle.std.proofs.lemmas.Bool.{eqb-true}
use Rattle.llcp_conn.specs.Conn.{ConnState}
use Rattle.llcp_link.specs.State.{LlcState, Holder, Served, conn_from, own_from, own_holder, served_holder, holder}
use Rattle.llcp_link.specs.Units.{Does, UnitsSoFar, Turn, of_it, turn_of}
use Rattle.llcp_link.proofs.Clients.{conn_there, flipped, is_self}
use Rattle.llcp_link.proofs.Ranged.{either}
use Rattle.llcp_link.proofs.Following.{Fits, FitsBehind, Joined, Linked, Same, same_stays}
use Rattle.llcp_link.proofs.SameRows.{IsOther, own_other}

abbrev pub after_does : ℕ → ℕ → ℕ → (UnitsSoFar → Does) → Option UnitsSoFar → Turn
after_does c d s does None = record { open_ = None; over = [] }
after_does c d s does (Some o) = turn_of o (of_it c o d s (does o))

no_and : (b : Bool) → (b && false) ≡ false
no_and true = refl
no_and false = refl

module _ {S : Type 0} (told : S → List (List (List ℕ)) → Type 0) (c miu : ℕ) (l : LlcState S) (done : List (List (List ℕ)))
    (act : Holder → LlcState S) (d s : ℕ) (does : UnitsSoFar → Does) where
  abbrev Ends : Holder → Option UnitsSoFar → Type 0
  Ends h o = FitsBehind told c miu (act h) (after_does c d s does o) done

  -- what happens to nobody's connection, to another client's, and to the one of the client
  pub record Rows : Type 0 where
    pub other : (h : Holder) → IsOther h → Same told c miu l (act h)
    pub elsewhere : (k : ConnState) → k.there ≡ s → (s == c) ≡ false → Same told c miu l (act (Served k))
    pub own : (k : ConnState) (o : UnitsSoFar) → k.there ≡ c → conn_from c l.served ≡ Some k → Fits told c miu l (Some o) done → Joined miu k o
        → FitsBehind told c miu (act (Served k)) (turn_of o (does o)) done

  -- it is none of the client's connection
  untouched : (o : Option UnitsSoFar) → Fits told c miu l o done → ((x : UnitsSoFar) → ((d == x.here) && (s == c)) ≡ false) → (h : Holder) → Same told c miu l (act h) → Ends h o
  untouched None f e h q = same_stays told c miu l (act h) None done q f
  untouched (Some x) f e h q = rw (e x) (same_stays told c miu l (act h) (Some x) done q f)

  by_other : Rows → (o : Option UnitsSoFar) → Fits told c miu l o done → (s == c) ≡ false → (q : Option ConnState) → conn_from s l.served ≡ q
      → Ends (served_holder d q (own_holder s (own_from d l.own))) o
  by_other r o f e None i = untouched o f (λ x. rw e (no_and (d == x.here))) _ (r.other _ (own_other s (own_from d l.own)))
  by_other r o f e (Some k) i =
      either (λ z. Ends z o) (k.here == d) (Served k) (own_holder s (own_from d l.own))
      (λ z. untouched o f (λ x. rw e (no_and (d == x.here))) _ (r.elsewhere k (conn_there s l.served k i) e))
      (λ z. untouched o f (λ x. rw e (no_and (d == x.here))) _ (r.other _ (own_other s (own_from d l.own))))

  by_here : Rows → (k : ConnState) (x : UnitsSoFar) → conn_from c l.served ≡ Some k → Fits told c miu l (Some x) done → Joined miu k x → s ≡ c
      → (b : Bool) → (k.here == d) ≡ b → Ends (if b then Served k else own_holder s (own_from d l.own)) (Some x)
  by_here r k x i f j e true z =
      let y : (d == x.here) ≡ true = ap (λ n. d == n) (sym j.goes) ∙ flipped k.here d true z in
      let w : (s == c) ≡ true = rw e (is_self c) in
      rw (y, w) (r.own k x (conn_there c l.served k i) i f j)
  by_here r k x i f j e false z =
      let y : (d == x.here) ≡ false = ap (λ n. d == n) (sym j.goes) ∙ flipped k.here d false z in
      rw y (same_stays told c miu l _ (Some x) done (r.other _ (own_other s (own_from d l.own))) f)

  by_mine : Rows → s ≡ c → (q : Option ConnState) → conn_from c l.served ≡ q → (o : Option UnitsSoFar) → Fits told c miu l o done → Linked miu q o
      → Ends (served_holder d q (own_holder s (own_from d l.own))) o
  by_mine r e None i None f j = same_stays told c miu l _ None done (r.other _ (own_other s (own_from d l.own))) f
  by_mine r e None i (Some x) f j = absurd j
  by_mine r e (Some k) i None f j = absurd j
  by_mine r e (Some k) i (Some x) f j = by_here r k x i f j e (k.here == d) refl

  pub by_holder : Rows → (o : Option UnitsSoFar) → Fits told c miu l o done → Ends (holder l d s) o
  by_holder r o f = by_sap (s == c) refl
    where
      by_sap : (b : Bool) → (s == c) ≡ b → Ends (holder l d s) o
      by_sap false e = by_other r o f e (conn_from s l.served) refl
      by_sap true e = (let q = eqb-true s c e in
          subst (λ z. Ends (served_holder d z (own_holder s (own_from d l.own))) o) (ap (λ z. conn_from z l.served) (sym q))
          (by_mine r q (conn_from c l.served) refl o f f.link))
