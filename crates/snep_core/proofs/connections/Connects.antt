-- Connections that are asked for one after the other, where none is there: their CONNECTs wait in this order, and all else stays.
use Rattle.std.proofs.Common.{◌≡◌, ◌≤◌, ℕ, ◌==◌, ◌||◌, Bool, true, false, List, [], ◌∷◌, ◌++◌, length, map, Some, refl, sym, ◌∙◌, ap, subst, arith, append-nil, append_assoc, if◌then◌else◌}
use Rattle.std.proofs.lemmas.Bool.{eqb-true}
use Rattle.llcp_pdu.specs.declared.part.Part.TheVariants.{Connect}
use Rattle.llcp_link.proofs.Clients.{is_self}
use Rattle.llcp_link.specs.State.{Queued, own_from}
use Rattle.llcp_link.specs.Asking.{asked_from, is_busy_by, put_own, request}
use Rattle.llcp_link.specs.Names.{own_params}
use Rattle.snep_core.specs.Talk.{EndState, connected, server_sap}
use Rattle.snep_core.proofs.jobs.CallsEnd.{put_elsewhere, put_there}
use Rattle.snep_core.proofs.connections.Meets.{AreUnlike, is_in}
use Rattle.snep_core.proofs.connections.Opening.{neither}

abbrev pub connect_all : List ℕ → EndState → EndState
connect_all [] l = l
connect_all (s ∷ ss) l = connect_all ss (connected l s)

-- the SAPs of these from which there is no connection
abbrev wanted_by : ℕ → List ℕ → Bool → List ℕ
wanted_by s more true = more
wanted_by s more false = s ∷ more

abbrev pub wanted : EndState → List ℕ → List ℕ
wanted base [] = []
wanted base (s ∷ ss) = wanted_by s (wanted base ss) (is_busy_by (own_from s base.own))

abbrev pub connect_by : ℕ → ℕ → ℕ → Queued
connect_by miu window s = request (Connect server_sap s (own_params miu window))

abbrev asked_one : EndState → ℕ → EndState
asked_one l s = record l { queue = l.queue ++ connect_by l.miu l.window s ∷ []; own = put_own (asked_from s server_sap) l.own }

pub wanted_in : (base : EndState) (t : ℕ) (ss : List ℕ) → is_in t (wanted base ss) ≡ true → is_in t ss ≡ true
wanted_in base t [] i = absurd cc
wanted_in base t (s ∷ ss) i = go (is_busy_by (own_from s base.own)) i (wanted_in base t ss)
  where
    later : (b : Bool) → is_in t ss ≡ true → (b || is_in t ss) ≡ true
    later true e = refl
    later false e = e

    here : (b : Bool) → (b || is_in t (wanted base ss)) ≡ true → (is_in t (wanted base ss) ≡ true → is_in t ss ≡ true) → (b || is_in t ss) ≡ true
    here true e more = refl
    here false e more = more e

    go : (b : Bool) → is_in t (wanted_by s (wanted base ss) b) ≡ true → (is_in t (wanted base ss) ≡ true → is_in t ss ≡ true) → is_in t (s ∷ ss) ≡ true
    go true e more = later (s == t) (more e)
    go false e more = here (s == t) e more

pub not_wanted : (base : EndState) (t : ℕ) (ss : List ℕ) → is_in t ss ≡ false → is_in t (wanted base ss) ≡ false
not_wanted base t ss n = go (is_in t (wanted base ss)) refl
  where
    go : (b : Bool) → is_in t (wanted base ss) ≡ b → is_in t (wanted base ss) ≡ false
    go false e = e
    go true e = absurd (let k : true ≡ false = sym (wanted_in base t ss e) ∙ n in cc)

-- from these there is none
pub wanted_free : (base : EndState) (t : ℕ) (ss : List ℕ) → is_in t (wanted base ss) ≡ true → is_busy_by (own_from t base.own) ≡ false
wanted_free base t [] i = absurd cc
wanted_free base t (s ∷ ss) i = go (is_busy_by (own_from s base.own)) refl i (wanted_free base t ss)
  where
    here : is_busy_by (own_from s base.own) ≡ false → (b : Bool) → (s == t) ≡ b → (b || is_in t (wanted base ss)) ≡ true
        → (is_in t (wanted base ss) ≡ true → is_busy_by (own_from t base.own) ≡ false) → is_busy_by (own_from t base.own) ≡ false
    here f true e k more = subst (λ r. is_busy_by (own_from r base.own) ≡ false) (eqb-true s t e) f
    here f false e k more = more k

    go : (b : Bool) → is_busy_by (own_from s base.own) ≡ b → is_in t (wanted_by s (wanted base ss) b) ≡ true
        → (is_in t (wanted base ss) ≡ true → is_busy_by (own_from t base.own) ≡ false) → is_busy_by (own_from t base.own) ≡ false
    go true f k more = more k
    go false f k more = here f (s == t) refl k more

-- and from the others there is
pub wanted_busy : (base : EndState) (t : ℕ) (ss : List ℕ) → is_in t ss ≡ true → is_in t (wanted base ss) ≡ false → is_busy_by (own_from t base.own) ≡ true
wanted_busy base t [] i n = absurd cc
wanted_busy base t (s ∷ ss) i n = go (is_busy_by (own_from s base.own)) refl i n (wanted_busy base t ss)
  where
    busy : is_busy_by (own_from s base.own) ≡ true → (c : Bool) → (s == t) ≡ c → (c || is_in t ss) ≡ true → is_in t (wanted base ss) ≡ false
        → (is_in t ss ≡ true → is_in t (wanted base ss) ≡ false → is_busy_by (own_from t base.own) ≡ true) → is_busy_by (own_from t base.own) ≡ true
    busy f true e j k more = subst (λ r. is_busy_by (own_from r base.own) ≡ true) (eqb-true s t e) f
    busy f false e j k more = more j k

    free : (c : Bool) → (c || is_in t ss) ≡ true → (c || is_in t (wanted base ss)) ≡ false
        → (is_in t ss ≡ true → is_in t (wanted base ss) ≡ false → is_busy_by (own_from t base.own) ≡ true) → is_busy_by (own_from t base.own) ≡ true
    free true j k more = absurd cc
    free false j k more = more j k

    go : (b : Bool) → is_busy_by (own_from s base.own) ≡ b → ((s == t) || is_in t ss) ≡ true → is_in t (wanted_by s (wanted base ss) b) ≡ false
        → (is_in t ss ≡ true → is_in t (wanted base ss) ≡ false → is_busy_by (own_from t base.own) ≡ true) → is_busy_by (own_from t base.own) ≡ true
    go true f j k more = busy f (s == t) refl j k more
    go false f j k more = free (s == t) j k more

pub wanted_unlike : (base : EndState) (ss : List ℕ) → AreUnlike ss → AreUnlike (wanted base ss)
wanted_unlike base [] u = tt
wanted_unlike base (s ∷ ss) u = go (is_busy_by (own_from s base.own)) (wanted_unlike base ss u.1)
  where
    go : (b : Bool) → AreUnlike (wanted base ss) → AreUnlike (wanted_by s (wanted base ss) b)
    go true more = more
    go false more = (not_wanted base s ss u.0, more)

pub wanted_few : (base : EndState) (ss : List ℕ) → length (wanted base ss) ≤ length ss
wanted_few base [] = omega arith
wanted_few base (s ∷ ss) = go (is_busy_by (own_from s base.own)) (wanted_few base ss)
  where
    go : (b : Bool) → length (wanted base ss) ≤ length ss → length (wanted_by s (wanted base ss) b) ≤ length (s ∷ ss)
    go true more = omega (arith, more)
    go false more = omega (arith, more)

-- what becomes of an end
pub record Connects (base : EndState) (ss : List ℕ) (l to : EndState) : Type 0 where
  pub all_else : to ≡ record l { queue = to.queue; own = to.own }
  pub queue : to.queue ≡ l.queue ++ map (connect_by l.miu l.window) (wanted base ss)
  pub asked : (t : ℕ) → is_in t (wanted base ss) ≡ true → own_from t to.own ≡ Some (asked_from t server_sap)
  pub other : (t : ℕ) → is_in t (wanted base ss) ≡ false → own_from t to.own ≡ own_from t l.own

module _ (base : EndState) (s : ℕ) (ss : List ℕ) (l : EndState) (unlike : is_in s ss ≡ false) where
  record Joined (w : List ℕ) (to : EndState) : Type 0 where
    all_else : to ≡ record l { queue = to.queue; own = to.own }
    queue : to.queue ≡ l.queue ++ map (connect_by l.miu l.window) w
    asked : (t : ℕ) → is_in t w ≡ true → own_from t to.own ≡ Some (asked_from t server_sap)
    other : (t : ℕ) → is_in t w ≡ false → own_from t to.own ≡ own_from t l.own

  -- there was one
  kept : (to : EndState) → Connects base ss l to → Joined (wanted base ss) to
  kept to x = record { all_else = x.all_else; queue = x.queue; asked = x.asked; other = x.other }

  -- there was none
  one_more : (to : EndState) → Connects base ss (asked_one l s) to → Joined (s ∷ wanted base ss) to
  one_more to x = record {
    all_else = x.all_else;
    queue = x.queue ∙ append_assoc l.queue (connect_by l.miu l.window s ∷ []) (map (connect_by l.miu l.window) (wanted base ss));
    asked = λ t i. go t (s == t) refl i;
    other = λ t n. (let k = neither (s == t) (is_in t (wanted base ss)) n in x.other t k.1 ∙ put_elsewhere t (asked_from s server_sap) l.own k.0);
  }
    where
      go : (t : ℕ) (b : Bool) → (s == t) ≡ b → (b || is_in t (wanted base ss)) ≡ true → own_from t to.own ≡ Some (asked_from t server_sap)
      go t true e i =
          subst (λ r. own_from r to.own ≡ Some (asked_from r server_sap)) (eqb-true s t e)
          (x.other s (not_wanted base s ss unlike) ∙ put_there s (asked_from s server_sap) l.own (is_self s))
      go t false e i = x.asked t i

  joined : (w : List ℕ) (to : EndState) → wanted base (s ∷ ss) ≡ w → Joined w to → Connects base (s ∷ ss) l to
  joined w to e x = record {
    all_else = x.all_else;
    queue = x.queue ∙ ap (λ v. l.queue ++ map (connect_by l.miu l.window) v) (sym e);
    asked = λ t i. x.asked t (ap (is_in t) (sym e) ∙ i);
    other = λ t n. x.other t (ap (is_in t) (sym e) ∙ n);
  }

  step : own_from s l.own ≡ own_from s base.own → Connects base ss l (connect_all ss l) → Connects base ss (asked_one l s) (connect_all ss (asked_one l s))
      → Connects base (s ∷ ss) l (connect_all (s ∷ ss) l)
  step it busy free = go (is_busy_by (own_from s base.own)) refl
    where
      go : (b : Bool) → is_busy_by (own_from s base.own) ≡ b → Connects base (s ∷ ss) l (connect_all (s ∷ ss) l)
      go true e =
          subst (λ k. Connects base (s ∷ ss) l (connect_all ss k)) (sym (ap (λ b. if b then l else asked_one l s) (ap is_busy_by it ∙ e)))
          (joined (wanted base ss) (connect_all ss l) (ap (wanted_by s (wanted base ss)) e) (kept (connect_all ss l) busy))
      go false e =
          subst (λ k. Connects base (s ∷ ss) l (connect_all ss k)) (sym (ap (λ b. if b then l else asked_one l s) (ap is_busy_by it ∙ e)))
          (joined (s ∷ wanted base ss) (connect_all ss (asked_one l s)) (ap (wanted_by s (wanted base ss)) e) (one_more (connect_all ss (asked_one l s)) free))

pub all_connect : (base : EndState) (ss : List ℕ) (l : EndState) → AreUnlike ss → ((t : ℕ) → is_in t ss ≡ true → own_from t l.own ≡ own_from t base.own)
    → Connects base ss l (connect_all ss l)
all_connect base [] l u it = record { all_else = refl; queue = sym (append-nil l.queue); asked = λ t i. absurd cc; other = λ t n. refl }
all_connect base (s ∷ ss) l u it =
    step base s ss l u.0 (it s (ap (λ b. b || is_in s ss) (is_self s))) (all_connect base ss l u.1 (λ t i. it t (later t i)))
    (all_connect base ss (asked_one l s) u.1 (λ t i. put_elsewhere t (asked_from s server_sap) l.own (apart t i) ∙ it t (later t i)))
  where
    later : (t : ℕ) → is_in t ss ≡ true → ((s == t) || is_in t ss) ≡ true
    later t i = go (s == t)
      where
        go : (b : Bool) → (b || is_in t ss) ≡ true
        go true = refl
        go false = i

    apart : (t : ℕ) → is_in t ss ≡ true → (s == t) ≡ false
    apart t i = go (s == t) refl
      where
        go : (b : Bool) → (s == t) ≡ b → (s == t) ≡ false
        go false e = e
        go true e = absurd (let k : false ≡ true = sym u.0 ∙ ap (λ r. is_in r ss) (eqb-true s t e) ∙ i in cc)
