-- A connection at its place: found, changed and taken away there.
use Rattle.std.proofs.Common.{◌≡◌, ℕ, suc, option_map, subst, ◌==◌, Bool, true, false, List, [], ◌∷◌, ◌++◌, length, slice_set, slice_index_or, Option, Some, None, refl, sym, ap, ◌∙◌, if◌then◌else◌}
use Rattle.std.proofs.Common.{arith, remove}
use Rattle.std.proofs.Math.Seq.{set-append_seam}
use Rattle.std.proofs.lemmas.Bool.{eq-eqb}
use Rattle.std.proofs.lemmas.Bool.Decides.{nat_tests}
use Rattle.llcp_conn.specs.Conn.{ConnState}
use Rattle.llcp_link.specs.State.{conn_from, with_conn, without_conn}
use Rattle.llcp_link.specs.Places.{IsPlace, IsPlaceOf, place_by}

none_first : (b : Bool) (c : ConnState) (o : Option ConnState) → (if b then Some c else o) ≡ None → (b ≡ false) × (o ≡ None)
none_first true c o e = cc
none_first false c o e = (refl, e)

pub found_at : (s : ℕ) (before : List ConnState) (c : ConnState) (behind : List ConnState) → conn_from s before ≡ None → c.there ≡ s → conn_from s (before ++ c ∷ behind) ≡ Some c
found_at s [] c behind n e = ap (λ b. if b then Some c else conn_from s behind) (eq-eqb c.there s e)
found_at s (d ∷ ds) c behind n e =
    let k = none_first (d.there == s) d (conn_from s ds) n in
    ap (λ b. if b then Some d else conn_from s (ds ++ c ∷ behind)) k.0 ∙ found_at s ds c behind k.1 e

pub with_at : (s : ℕ) (before : List ConnState) (c : ConnState) (behind : List ConnState) (new : ConnState)
    → conn_from s before ≡ None → c.there ≡ s → new.there ≡ s → with_conn new (before ++ c ∷ behind) ≡ before ++ new ∷ behind
with_at s [] c behind new n e i = ap (λ b. if b then new ∷ behind else c ∷ with_conn new behind) (eq-eqb c.there new.there (e ∙ sym i))
with_at s (d ∷ ds) c behind new n e i =
    let k = none_first (d.there == s) d (conn_from s ds) n in
    let f : (d.there == new.there) ≡ false = ap (λ x. d.there == x) i ∙ k.0 in
    ap (λ b. if b then new ∷ (ds ++ c ∷ behind) else d ∷ with_conn new (ds ++ c ∷ behind)) f ∙ ap (λ xs. d ∷ xs) (with_at s ds c behind new k.1 e i)

pub without_at : (s : ℕ) (before : List ConnState) (c : ConnState) (behind : List ConnState) → conn_from s before ≡ None → c.there ≡ s → without_conn s (before ++ c ∷ behind) ≡ before ++ behind
without_at s [] c behind n e = ap (λ b. if b then behind else c ∷ without_conn s behind) (eq-eqb c.there s e)
without_at s (d ∷ ds) c behind n e =
    let k = none_first (d.there == s) d (conn_from s ds) n in
    ap (λ b. if b then (ds ++ c ∷ behind) else d ∷ without_conn s (ds ++ c ∷ behind)) k.0 ∙ ap (λ xs. d ∷ xs) (without_at s ds c behind k.1 e)

-- what is written at the place
pub set_at : (s : ℕ) (cs : List ConnState) (place : ℕ) (p : IsPlace s cs place) (new : ConnState) → new.there ≡ s → slice_set cs place new ≡ with_conn new cs
set_at s cs place p new i =
    ap (λ xs. slice_set xs place new) p.all ∙ ap (λ n. slice_set (p.before ++ p.conn ∷ p.behind) n new) (sym p.at)
    ∙ set-append_seam p.before p.conn p.behind new
    ∙ sym (ap (with_conn new) p.all ∙ with_at s p.before p.conn p.behind new p.none p.there i)

pub remove_seam : (xs : List ConnState) (c : ConnState) (ys : List ConnState) → remove (xs ++ c ∷ ys) (length xs) ≡ xs ++ ys
remove_seam [] c ys = refl
remove_seam (x ∷ xs) c ys = ap (λ z. x ∷ z) (remove_seam xs c ys)

-- what is left where it is taken away
pub gone_at : (s : ℕ) (cs : List ConnState) (place : ℕ) (p : IsPlace s cs place) → remove cs place ≡ without_conn s cs
gone_at s cs place p =
    ap (λ xs. remove xs place) p.all ∙ ap (λ n. remove (p.before ++ p.conn ∷ p.behind) n) (sym p.at) ∙ remove_seam p.before p.conn p.behind
    ∙ sym (ap (without_conn s) p.all ∙ without_at s p.before p.conn p.behind p.none p.there)

pub found_there : (s : ℕ) (cs : List ConnState) (place : ℕ) (p : IsPlace s cs place) → conn_from s cs ≡ Some p.conn
found_there s cs place p = ap (conn_from s) p.all ∙ found_at s p.before p.conn p.behind p.none p.there

index_seam : (xs : List ConnState) (c : ConnState) (ys : List ConnState) (d : ConnState) → slice_index_or (xs ++ c ∷ ys) (length xs) d ≡ c
index_seam [] c ys d = refl
index_seam (x ∷ xs) c ys d = index_seam xs c ys d

-- what is read at the place
pub read_at : (s : ℕ) (cs : List ConnState) (place : ℕ) (p : IsPlace s cs place) (d : ConnState) → slice_index_or cs place d ≡ p.conn
read_at s cs place p d =
    ap (λ xs. slice_index_or xs place d) p.all ∙ ap (λ n. slice_index_or (p.before ++ p.conn ∷ p.behind) n d) (sym p.at) ∙ index_seam p.before p.conn p.behind d

pub none_more : (s : ℕ) (xs : List ConnState) (c : ConnState) → conn_from s xs ≡ None → (c.there == s) ≡ false → conn_from s (xs ++ c ∷ []) ≡ None
none_more s [] c n e = ap (λ b. if b then Some c else None) e
none_more s (x ∷ xs) c n e =
    let k = none_first (x.there == s) x (conn_from s xs) n in
    ap (λ b. if b then Some x else conn_from s (xs ++ c ∷ [])) k.0 ∙ none_more s xs c k.1 e

first_here : (s : ℕ) (c : ConnState) (cs : List ConnState) → (c.there == s) ≡ true → IsPlace s (c ∷ cs) 0
first_here s c cs e = record { before = []; conn = c; behind = cs; all = refl; at = refl; none = refl; there = grind (arith, nat_tests) }

behind_it : (s : ℕ) (c : ConnState) (cs : List ConnState) (n : ℕ) → (c.there == s) ≡ false → IsPlace s cs n → IsPlace s (c ∷ cs) (suc n)
behind_it s c cs n e p = record {
  before = c ∷ p.before;
  conn = p.conn;
  behind = p.behind;
  all = ap (λ xs. c ∷ xs) p.all;
  at = ap suc p.at;
  none = ap (λ b. if b then Some c else conn_from s p.before) e ∙ p.none;
  there = p.there;
}

behind_both : (s : ℕ) (c : ConnState) (cs : List ConnState) (r : Option ℕ) → (c.there == s) ≡ false → IsPlaceOf s cs r → IsPlaceOf s (c ∷ cs) (option_map suc r)
behind_both s c cs None e h = ap (λ b. if b then Some c else conn_from s cs) e ∙ h
behind_both s c cs (Some n) e h = behind_it s c cs n e h

place_found : (s : ℕ) (cs : List ConnState) → IsPlaceOf s cs (place_by (λ (c : ConnState). c.there) s cs)
place_found s [] = refl
place_found s (c ∷ cs) = go (c.there == s) refl (place_found s cs)
  where
    go : (b : Bool) → (c.there == s) ≡ b → IsPlaceOf s cs (place_by (λ (c : ConnState). c.there) s cs)
        → IsPlaceOf s (c ∷ cs) (if b then Some 0 else option_map suc (place_by (λ (c : ConnState). c.there) s cs))
    go true e h = first_here s c cs e
    go false e h = behind_both s c cs (place_by (λ (c : ConnState). c.there) s cs) e h

pub place_is : (s : ℕ) (cs : List ConnState) (r : Option ℕ) → r ≡ place_by (λ (c : ConnState). c.there) s cs → IsPlaceOf s cs r
place_is s cs r e = subst (IsPlaceOf s cs) (sym e) (place_found s cs)
