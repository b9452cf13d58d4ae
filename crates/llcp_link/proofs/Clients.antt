-- The connections of an end, by their clients' SAPs: no two have one client, whatever becomes of them.
use Rattle.std.proofs.Common.{◌≡◌, ◌≢◌, ℕ, ◌==◌, Bool, true, false, List, [], ◌∷◌, ◌++◌, Some, None, refl, sym, ◌∙◌, ap, subst, if◌then◌else◌}
use Rattle.std.proofs.lemmas.Bool.{eqb-true, eq-eqb}
use Rattle.llcp_conn.specs.Conn.{ConnState}
use Rattle.llcp_link.specs.State.{conn_from, with_conn, without_conn}
use Rattle.llcp_link.proofs.Places.{none_more}

pub is_self : (n : ℕ) → (n == n) ≡ true
is_self n = eq-eqb n n refl

pub not_equal : (m n : ℕ) → (m == n) ≡ false → m ≢ n
not_equal m n h e = let k : (m == n) ≡ true = eq-eqb m n e in (let z : true ≡ false = sym k ∙ h in cc)

pub flipped : (m n : ℕ) (b : Bool) → (m == n) ≡ b → (n == m) ≡ b
flipped m n true h = eq-eqb n m (sym (eqb-true m n h))
flipped m n false h = go (n == m) refl
  where
    go : (b : Bool) → (n == m) ≡ b → b ≡ false
    go false e = refl
    go true e = absurd (not_equal m n h (sym (eqb-true n m e)))

pub conn_there : (s : ℕ) (ks : List ConnState) (k : ConnState) → conn_from s ks ≡ Some k → k.there ≡ s
conn_there s [] k e = cc
conn_there s (j ∷ ks) k e = go (j.there == s) refl e (conn_there s ks k)
  where
    go : (b : Bool) → (j.there == s) ≡ b → (if b then Some j else conn_from s ks) ≡ Some k → (conn_from s ks ≡ Some k → k.there ≡ s) → k.there ≡ s
    go true i f h = (let q : j ≡ k = cc in ap (λ z. z.there) (sym q) ∙ eqb-true j.there s i)
    go false i f h = h f

-- a connection that is changed
pub conn_with : (k : ConnState) (ks : List ConnState) (j : ConnState) → conn_from k.there ks ≡ Some j → conn_from k.there (with_conn k ks) ≡ Some k
conn_with k [] j f = cc
conn_with k (i ∷ ks) j f = go (i.there == k.there) refl f (conn_with k ks j)
  where
    go : (b : Bool) → (i.there == k.there) ≡ b → (if b then Some i else conn_from k.there ks) ≡ Some j → (conn_from k.there ks ≡ Some j → conn_from k.there (with_conn k ks) ≡ Some k)
        → conn_from k.there (if b then k ∷ ks else i ∷ with_conn k ks) ≡ Some k
    go true x f h = rw (is_self k.there) refl
    go false x f h = rw x (h f)

pub conn_with_other : (s : ℕ) (k : ConnState) (ks : List ConnState) → (k.there == s) ≡ false → conn_from s (with_conn k ks) ≡ conn_from s ks
conn_with_other s k [] e = refl
conn_with_other s k (i ∷ ks) e = go (i.there == k.there) refl (conn_with_other s k ks e)
  where
    go : (b : Bool) → (i.there == k.there) ≡ b → conn_from s (with_conn k ks) ≡ conn_from s ks
        → conn_from s (if b then k ∷ ks else i ∷ with_conn k ks) ≡ (if i.there == s then Some i else conn_from s ks)
    go true x h = (let q : i.there ≡ k.there = eqb-true i.there k.there x in let n : (i.there == s) ≡ false = rw q e in rw (e, n) refl)
    go false x h = ap (λ z. if i.there == s then Some i else z) h

-- a connection more
pub conn_more : (s : ℕ) (ks : List ConnState) (k : ConnState) → conn_from s ks ≡ None → (k.there == s) ≡ true → conn_from s (ks ++ k ∷ []) ≡ Some k
conn_more s [] k e t = rw t refl
conn_more s (j ∷ ks) k e t = go (j.there == s) e (λ e. conn_more s ks k e t)
  where
    go : (b : Bool) → (if b then Some j else conn_from s ks) ≡ None → (conn_from s ks ≡ None → conn_from s (ks ++ k ∷ []) ≡ Some k)
        → (if b then Some j else conn_from s (ks ++ k ∷ [])) ≡ Some k
    go true e more = absurd cc
    go false e more = more e

pub conn_more_other : (s : ℕ) (ks : List ConnState) (k : ConnState) → (k.there == s) ≡ false → conn_from s (ks ++ k ∷ []) ≡ conn_from s ks
conn_more_other s [] k t = rw t refl
conn_more_other s (j ∷ ks) k t = ap (λ z. if j.there == s then Some j else z) (conn_more_other s ks k t)

-- no two connections have one client
abbrev pub AreDistinct : List ConnState → Type 0
AreDistinct [] = Unit {0}
AreDistinct (k ∷ ks) = (conn_from k.there ks ≡ None) × AreDistinct ks

-- a connection that ends
pub conn_without : (s : ℕ) (ks : List ConnState) → AreDistinct ks → conn_from s (without_conn s ks) ≡ None
conn_without s [] h = refl
conn_without s (k ∷ ks) h = go (k.there == s) refl (conn_without s ks h.1)
  where
    go : (b : Bool) → (k.there == s) ≡ b → conn_from s (without_conn s ks) ≡ None → conn_from s (if b then ks else k ∷ without_conn s ks) ≡ None
    go true x more = subst (λ z. conn_from z ks ≡ None) (eqb-true k.there s x) h.0
    go false x more = rw x more

pub conn_without_other : (s t : ℕ) (ks : List ConnState) → (t == s) ≡ false → conn_from s (without_conn t ks) ≡ conn_from s ks
conn_without_other s t [] e = refl
conn_without_other s t (k ∷ ks) e = go (k.there == t) refl (conn_without_other s t ks e)
  where
    go : (b : Bool) → (k.there == t) ≡ b → conn_from s (without_conn t ks) ≡ conn_from s ks
        → conn_from s (if b then ks else k ∷ without_conn t ks) ≡ (if k.there == s then Some k else conn_from s ks)
    go true x h = (let q : k.there ≡ t = eqb-true k.there t x in let n : (k.there == s) ≡ false = rw q e in rw n refl)
    go false x h = ap (λ z. if k.there == s then Some k else z) h

none_with : (s : ℕ) (k : ConnState) (ks : List ConnState) → conn_from s ks ≡ None → conn_from s (with_conn k ks) ≡ None
none_with s k [] e = refl
none_with s k (j ∷ ks) e = go (j.there == s) refl e (none_with s k ks)
  where
    inner : (b : Bool) → (j.there == k.there) ≡ b → (j.there == s) ≡ false → conn_from s ks ≡ None → (conn_from s ks ≡ None → conn_from s (with_conn k ks) ≡ None)
        → conn_from s (if b then k ∷ ks else j ∷ with_conn k ks) ≡ None
    inner true x y f more = (let q : j.there ≡ k.there = eqb-true j.there k.there x in let n : (k.there == s) ≡ false = rw (← q) y in rw n f)
    inner false x y f more = rw y (more f)

    go : (b : Bool) → (j.there == s) ≡ b → (if b then Some j else conn_from s ks) ≡ None → (conn_from s ks ≡ None → conn_from s (with_conn k ks) ≡ None)
        → conn_from s (with_conn k (j ∷ ks)) ≡ None
    go true x f more = absurd cc
    go false x f more = inner (j.there == k.there) refl x f more

none_without : (s t : ℕ) (ks : List ConnState) → conn_from s ks ≡ None → conn_from s (without_conn t ks) ≡ None
none_without s t [] e = refl
none_without s t (j ∷ ks) e = go (j.there == s) refl e (none_without s t ks)
  where
    inner : (b : Bool) → (j.there == s) ≡ false → conn_from s ks ≡ None → conn_from s (without_conn t ks) ≡ None → conn_from s (if b then ks else j ∷ without_conn t ks) ≡ None
    inner true y f more = f
    inner false y f more = rw y more

    go : (b : Bool) → (j.there == s) ≡ b → (if b then Some j else conn_from s ks) ≡ None → (conn_from s ks ≡ None → conn_from s (without_conn t ks) ≡ None)
        → conn_from s (without_conn t (j ∷ ks)) ≡ None
    go true x f more = absurd cc
    go false x f more = inner (j.there == t) x f (more f)

pub distinct_with : (k : ConnState) (ks : List ConnState) → AreDistinct ks → AreDistinct (with_conn k ks)
distinct_with k [] h = tt
distinct_with k (j ∷ ks) h = go (j.there == k.there) refl (distinct_with k ks h.1)
  where
    go : (b : Bool) → (j.there == k.there) ≡ b → AreDistinct (with_conn k ks) → AreDistinct (if b then k ∷ ks else j ∷ with_conn k ks)
    go true x more = (let q : j.there ≡ k.there = eqb-true j.there k.there x in (rw (← q) h.0, h.1))
    go false x more = (none_with j.there k ks h.0, more)

pub distinct_without : (t : ℕ) (ks : List ConnState) → AreDistinct ks → AreDistinct (without_conn t ks)
distinct_without t [] h = tt
distinct_without t (j ∷ ks) h = go (j.there == t) (distinct_without t ks h.1)
  where
    go : (b : Bool) → AreDistinct (without_conn t ks) → AreDistinct (if b then ks else j ∷ without_conn t ks)
    go true more = h.1
    go false more = (none_without j.there t ks h.0, more)

pub distinct_more : (ks : List ConnState) (k : ConnState) → AreDistinct ks → conn_from k.there ks ≡ None → AreDistinct (ks ++ k ∷ [])
distinct_more [] k h e = (refl, tt)
distinct_more (j ∷ ks) k h e = go (j.there == k.there) refl e (distinct_more ks k h.1)
  where
    go : (b : Bool) → (j.there == k.there) ≡ b → (if b then Some j else conn_from k.there ks) ≡ None → (conn_from k.there ks ≡ None → AreDistinct (ks ++ k ∷ []))
        → AreDistinct ((j ∷ ks) ++ k ∷ [])
    go true x f more = absurd cc
    go false x f more = (none_more j.there ks k h.0 (flipped j.there k.there false x), more f)
