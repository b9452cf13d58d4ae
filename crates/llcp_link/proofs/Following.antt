-- The connection of a client's SAP is the one that the units are counted by.
use Rattle.std.proofs.Common.{◌≡◌, ◌≢◌, ◌<◌, ◌≤◌, ℕ, ◌%◌, List, [], ◌∷◌, ◌++◌, length, Option, Some, None, refl, ◌∙◌, append-nil, subst, sym}
use Rattle.llcp_conn.specs.Conn.{ConnState}
use Rattle.llcp_link.specs.Serving.{Serving}
use Rattle.llcp_link.specs.State.{LlcState, conn_from}
use Rattle.llcp_link.specs.Units.{UnitsSoFar, Turn, last}
use Rattle.llcp_link.proofs.Clients.{AreDistinct}

-- A service of which a relation tells the units that were brought on each connection of a client's SAP, the last one last.
pub record Follows {S : Type 0} (m : Serving S) (c : ℕ) (told : S → List (List (List ℕ)) → Type 0) : Type 0 where
  pub begun : (s : S) (us : List (List (List ℕ))) → told s us → told (m.begun s c) (us ++ [] ∷ [])
  pub begun_else : (s : S) (d : ℕ) (us : List (List (List ℕ))) → d ≢ c → told s us → told (m.begun s d) us
  pub brought : (s : S) (us : List (List (List ℕ))) (now : List (List ℕ)) (u : List ℕ) → told s (us ++ now ∷ [])
      → told (m.brought s c u) (us ++ (now ++ u ∷ []) ∷ [])
  pub brought_else : (s : S) (d : ℕ) (u : List ℕ) (us : List (List (List ℕ))) → d ≢ c → told s us → told (m.brought s d u) us
  pub sent : (s : S) (d miu : ℕ) (us : List (List (List ℕ))) → told s us → told (m.sent s d miu) us

-- the connection of the table and that of the definition
pub record Joined (miu : ℕ) (k : ConnState) (o : UnitsSoFar) : Type 0 where
  pub goes : k.here ≡ o.here
  pub near : k.near_miu ≡ miu
  pub under : length k.flight ≤ k.window
  pub few : k.window ≤ 15
  pub sa : k.vsa < 16
  pub counted : k.vr ≡ length o.units % 16

abbrev pub Linked : ℕ → Option ConnState → Option UnitsSoFar → Type 0
Linked miu None None = Unit {0}
Linked miu None (Some o) = ⊥
Linked miu (Some k) None = ⊥
Linked miu (Some k) (Some o) = Joined miu k o

module _ {S : Type 0} (told : S → List (List (List ℕ)) → Type 0) (c miu : ℕ) where
  -- an end, the connection that is open, and the units of those that are over
  pub record Fits (l : LlcState S) (o : Option UnitsSoFar) (done : List (List (List ℕ))) : Type 0 where
    pub near : l.miu ≡ miu
    pub distinct : AreDistinct l.served
    pub link : Linked miu (conn_from c l.served) o
    pub tells : told l.service (done ++ last o)

  -- behind a PDU
  abbrev pub FitsBehind : LlcState S → Turn → List (List (List ℕ)) → Type 0
  FitsBehind l x done = Fits l x.open_ (done ++ x.over)

  -- nothing changed for the SAP
  pub record Same (l m : LlcState S) : Type 0 where
    pub near : m.miu ≡ l.miu
    pub distinct : AreDistinct l.served → AreDistinct m.served
    pub link : conn_from c m.served ≡ conn_from c l.served
    pub tells : (us : List (List (List ℕ))) → told l.service us → told m.service us

  pub still : (l : LlcState S) → Same l l
  still l = record { near = refl; distinct = λ h. h; link = refl; tells = λ us h. h }

  pub then_same : (l m n : LlcState S) → Same l m → Same m n → Same l n
  then_same l m n a b = record {
    near = b.near ∙ a.near;
    distinct = λ h. b.distinct (a.distinct h);
    link = b.link ∙ a.link;
    tells = λ us h. b.tells us (a.tells us h);
  }

  pub same_fits : (l m : LlcState S) (o : Option UnitsSoFar) (done : List (List (List ℕ))) → Same l m → Fits l o done → Fits m o done
  same_fits l m o done s h = record {
    near = s.near ∙ h.near;
    distinct = s.distinct h.distinct;
    link = subst (λ z. Linked miu z o) (sym s.link) h.link;
    tells = s.tells (done ++ last o) h.tells;
  }

  pub stays : (l : LlcState S) (o : Option UnitsSoFar) (done : List (List (List ℕ))) → Fits l o done → FitsBehind l (record { open_ = o; over = [] }) done
  stays l o done h = subst (Fits l o) (sym (append-nil done)) h

  pub same_stays : (l m : LlcState S) (o : Option UnitsSoFar) (done : List (List (List ℕ))) → Same l m → Fits l o done
      → FitsBehind m (record { open_ = o; over = [] }) done
  same_stays l m o done s h = stays m o done (same_fits l m o done s h)
