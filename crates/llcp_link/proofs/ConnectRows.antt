-- What a CONNECT does to a client's connections.
use Rattle.std.proofs.Common.{◌≡◌, ◌≤◌, ℕ, ◌==◌, nat_lt, Bool, true, false, ◌&&◌, List, [], ◌∷◌, ◌++◌, length, Option, Some, None, is_none, refl, sym, ◌∙◌, ap, subst, arith, append-nil, if◌then◌else◌}
use Rattle.std.proofs.lemmas.Bool.{eqb-true}
use Rattle.llcp_pdu.specs.declared.param.Param.{Param}
use Rattle.llcp_pdu.specs.declared.part.Part.TheVariants.{Connect}
use Rattle.llcp_pdu.specs.Ranges.{AreParams}
use Rattle.llcp_conn.specs.Conn.{ConnState, fresh}
use Rattle.llcp_link.specs.Serving.{Serving}
use Rattle.llcp_link.specs.State.{LlcState, conn_from, most_connections}
use Rattle.llcp_link.specs.Names.{rw_of, reached, name_of, miu_of}
use Rattle.llcp_link.specs.Taking as t
use Rattle.llcp_link.specs.Taking.{Good}
use Rattle.llcp_link.specs.Units.{UnitsSoFar, Turn, begun_at, begun_by}
use Rattle.llcp_link.proofs.Clients.{conn_more, distinct_more, is_self}
use Rattle.llcp_link.proofs.Ranged.{window_small}
use Rattle.llcp_link.proofs.Following.{Follows, Fits, FitsBehind, Linked, same_fits, same_stays, stays}
use Rattle.llcp_link.proofs.SameRows.{refuses_same, opens_same}

free_none : {S : Type 0} (l : LlcState S) (s : ℕ) → t.is_free l s ≡ true → conn_from s l.served ≡ None
free_none l s e = go (conn_from s l.served) e
  where
    go : (q : Option ConnState) → (is_none q && nat_lt (length l.served) most_connections) ≡ true → q ≡ None
    go None e = refl
    go (Some k) e = absurd cc

-- where a CONNECT is accepted, the client has no connection
pub accepted_free : {S : Type 0} (l : LlcState S) (d s : ℕ) (ps : List Param) (sap : ℕ) → t.accepted l d s ps ≡ Some sap → conn_from s l.served ≡ None
accepted_free l d s ps sap = by_full (t.is_full l)
  where
    by_free : (b : Bool) → t.is_free l s ≡ b → (x : ℕ) → (if b then Some x else None) ≡ Some sap → conn_from s l.served ≡ None
    by_free true f x e = free_none l s f
    by_free false f x e = absurd cc

    by_reach : (q : Option ℕ) → t.accepted_at l s q ≡ Some sap → conn_from s l.served ≡ None
    by_reach None e = absurd cc
    by_reach (Some x) e = by_free (t.is_free l s) refl x e

    by_rw : (b : Bool) → (if b then None else t.accepted_at l s (reached l.bound d (name_of ps))) ≡ Some sap → conn_from s l.served ≡ None
    by_rw true e = absurd cc
    by_rw false e = by_reach (reached l.bound d (name_of ps)) e

    by_full : (b : Bool) → (if b then None else (if rw_of ps == 0 then None else t.accepted_at l s (reached l.bound d (name_of ps)))) ≡ Some sap
        → conn_from s l.served ≡ None
    by_full true e = absurd cc
    by_full false e = by_rw (rw_of ps == 0) e

full_none : {S : Type 0} (l : LlcState S) (d s : ℕ) (ps : List Param) → t.is_full l ≡ true → t.accepted l d s ps ≡ None
full_none l d s ps e =
    ap (λ b. if b then None else (if rw_of ps == 0 then None else t.accepted_at l s (reached l.bound d (name_of ps)))) e

-- what the definition of units says of it
abbrev pub connect_turn : ℕ → Option ℕ → ℕ → ℕ → List Param → Option UnitsSoFar → Turn
connect_turn c acc d s ps None = record { open_ = begun_by c acc (Good (Connect d s ps)); over = [] }
connect_turn c acc d s ps (Some o) = record { open_ = Some o; over = [] }

linked_none : (miu : ℕ) (q : Option ConnState) (o : UnitsSoFar) → q ≡ None → Linked miu q (Some o) → ⊥
linked_none miu None o e j = j
linked_none miu (Some k) o e j = absurd cc

module _ {S : Type 0} (m : Serving S) (told : S → List (List (List ℕ)) → Type 0) (c miu : ℕ) (f : Follows m c told) (l : LlcState S) (done : List (List (List ℕ))) where
  opens_own : (sap s far rw : ℕ) → rw ≤ 15 → s ≡ c → conn_from s l.served ≡ None → Fits told c miu l None done
      → FitsBehind told c miu (t.opens m l sap s far rw) (record { open_ = Some (record { here = sap; units = [] }); over = [] }) done
  opens_own sap s far rw w e n h =
      let now = fresh sap s l.miu far rw in
      let mine : conn_from c l.served ≡ None = subst (λ z. conn_from z l.served ≡ None) e n in
      let found : conn_from c (l.served ++ now ∷ []) ≡ Some now = conn_more c l.served now mine (ap (λ z. z == c) e ∙ is_self c) in record {
        near = h.near;
        distinct = distinct_more l.served now h.distinct n;
        link = subst (λ z. Linked miu z (Some (record { here = sap; units = [] }))) (sym found) (record {
          goes = refl;
          near = h.near;
          under = omega arith;
          few = w;
          sa = omega arith;
          counted = refl;
        });
        tells = subst (λ z. told (m.begun l.service s) (z ++ [] ∷ [])) (sym (append-nil done))
            (subst (λ z. told (m.begun l.service z) (done ++ [] ∷ [])) (sym e) (f.begun l.service done (subst (told l.service) (append-nil done) h.tells)));
      }

  not_begun : (n : LlcState S) (b : Bool) → Fits told c miu n None done → FitsBehind told c miu n (record { open_ = (if b then begun_at None else None); over = [] }) done
  not_begun n true h = stays told c miu n None done h
  not_begun n false h = stays told c miu n None done h

  accepts_steps : (d s : ℕ) (ps : List Param) → AreParams ps → (sap : ℕ) → conn_from s l.served ≡ None → (b : Bool) → (s == c) ≡ b → (o : Option UnitsSoFar)
      → Fits told c miu l o done → FitsBehind told c miu (t.opens m l sap s (miu_of ps) (rw_of ps)) (connect_turn c (Some sap) d s ps o) done
  accepts_steps d s ps w sap n false e None h = rw e (same_stays told c miu l _ None done (opens_same m told c miu f l sap s (miu_of ps) (rw_of ps) e n) h)
  accepts_steps d s ps w sap n false e (Some o) h = same_stays told c miu l _ (Some o) done (opens_same m told c miu f l sap s (miu_of ps) (rw_of ps) e n) h
  accepts_steps d s ps w sap n true e None h = rw e (opens_own sap s (miu_of ps) (rw_of ps) (window_small ps w) (eqb-true s c e) n h)
  accepts_steps d s ps w sap n true e (Some o) h =
      absurd (linked_none miu (conn_from c l.served) o (subst (λ z. conn_from z l.served ≡ None) (eqb-true s c e) n) h.link)

  connects_steps : (d s : ℕ) (ps : List Param) → AreParams ps → (acc : Option ℕ) → t.accepted l d s ps ≡ acc → (o : Option UnitsSoFar) → Fits told c miu l o done
      → FitsBehind told c miu (t.connects_to m l d s ps acc) (connect_turn c acc d s ps o) done
  connects_steps d s ps w None e None h = not_begun (t.refuses l d s ps) (s == c) (same_fits told c miu l _ None done (refuses_same m told c miu f l d s ps) h)
  connects_steps d s ps w None e (Some o) h = same_stays told c miu l _ (Some o) done (refuses_same m told c miu f l d s ps) h
  connects_steps d s ps w (Some sap) e o h = accepts_steps d s ps w sap (accepted_free l d s ps sap e) (s == c) refl o h

  full_steps : (d s : ℕ) (ps : List Param) (o : Option UnitsSoFar) → Fits told c miu l o done → FitsBehind told c miu l (connect_turn c None d s ps o) done
  full_steps d s ps None h = not_begun l (s == c) h
  full_steps d s ps (Some o) h = stays told c miu l (Some o) done h

  pub connect_steps : (d s : ℕ) (ps : List Param) → AreParams ps → (o : Option UnitsSoFar) → Fits told c miu l o done
      → FitsBehind told c miu (t.connects m l d s ps) (connect_turn c (t.accepted l d s ps) d s ps o) done
  connect_steps d s ps w o h = go (t.is_full l) refl
    where
      go : (b : Bool) → t.is_full l ≡ b → FitsBehind told c miu (if b then l else t.connects_to m l d s ps (t.accepted l d s ps)) (connect_turn c (t.accepted l d s ps) d s ps o) done
      go true e = subst (λ z. FitsBehind told c miu l (connect_turn c z d s ps o) done) (sym (full_none l d s ps e)) (full_steps d s ps o h)
      go false e = connects_steps d s ps w (t.accepted l d s ps) refl o h
