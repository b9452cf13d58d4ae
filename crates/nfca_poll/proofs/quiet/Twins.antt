-- Behind SENS_REQ a field in any state hears a resolution as a crowd at rest does, whose devices are idle where those of the field
-- are ready, and asleep or off where they are not.
use Rattle.std.proofs.Common.{◌≡◌, ◌≢◌, ◌⊎◌, ℕ, ◌+◌, List, [], ◌∷◌, ◌++◌, length, map, filter_map, Bool, true, false, nat_lt, if◌then◌else◌, inl, inr, refl, sym, ◌∙◌, ap, subst, None}
use Rattle.std.specs.List.{cons_option}
use Rattle.nfc_base.specs.Signal.{Signal}
use Rattle.nfca_poll.specs.declared.kind.Kind.{Kind}
use Rattle.nfca_poll.specs.Ident.{IsIdent}
use Rattle.nfca_poll.specs.Levels.{levels}
use Rattle.nfca_poll.specs.Calls.{Reading, Calls, Other, Sens, All, Slp, Sdd, Sel}
use Rattle.nfca_poll.specs.Front.{Front, Off, Idle, Sleep, Ready, Active, home, is_asked, is_taken, is_ready, is_active, front_next, front_says}
use Rattle.nfca_poll.specs.Crowd.{Card, Each, with_front, is_idle, is_rest, AreDistinct}
use Rattle.nfca_poll.proofs.quiet.CrowdParts.{IsFirst}
use Rattle.nfca_poll.specs.AnyStart.{Pairs, Keeps, home_of}
use Rattle.nfca_poll.proofs.quiet.Clashes.{wrong, wrong_back, Has}
use Rattle.nfca_poll.proofs.identifiers.Fitting.{card_next, card_says, card_at, asked_if}
use Rattle.nfca_poll.proofs.quiet.Choosing.{IsCard, has_levels, some_levels}
use Rattle.nfca_poll.proofs.noise.NobodyIdle.{Sleeps}
use Rattle.nfca_poll.proofs.quiet.Causes.{Leads, none, some, leads}
use Rattle.nfca_poll.proofs.noise.Moves.{Moves}

-- pairs
pub pairs_map : (P Q : Card → Card → Type 0) → ((c d : Card) → P c d → Q c d) → (v u : List Card) → Pairs P v u → Pairs Q v u
pairs_map P Q f [] [] e = tt
pairs_map P Q f [] (d ∷ u) e = e
pairs_map P Q f (c ∷ v) [] e = e
pairs_map P Q f (c ∷ v) (d ∷ u) e = (f c d e.0, pairs_map P Q f v u e.1)

pub pairs_same : (P : Card → Card → Type 0) → ((c : Card) → P c c) → (v : List Card) → Pairs P v v
pairs_same P f [] = tt
pairs_same P f (c ∷ v) = (f c, pairs_same P f v)

pub pairs_with : (P Q R : Card → Card → Type 0) → ((c d e : Card) → P c d → Q d e → R c e) → (v u w : List Card) → Pairs P v u → Pairs Q u w → Pairs R v w
pairs_with P Q R f [] [] [] p q = tt
pairs_with P Q R f [] [] (e ∷ w) p q = q
pairs_with P Q R f [] (d ∷ u) w p q = absurd p
pairs_with P Q R f (c ∷ v) [] w p q = absurd p
pairs_with P Q R f (c ∷ v) (d ∷ u) [] p q = q
pairs_with P Q R f (c ∷ v) (d ∷ u) (e ∷ w) p q = (f c d e p.0 q.0, pairs_with P Q R f v u w p.1 q.1)

pub pairs_both : (P Q : Card → Card → Type 0) → (v u : List Card) → Pairs P v u → Pairs Q v u → Pairs (λ c d. P c d × Q c d) v u
pairs_both P Q [] [] p q = tt
pairs_both P Q [] (d ∷ u) p q = p
pairs_both P Q (c ∷ v) [] p q = p
pairs_both P Q (c ∷ v) (d ∷ u) p q = ((p.0, q.0), pairs_both P Q v u p.1 q.1)

-- what each of one list has, and what that says of the other
pub pairs_each : (P : Card → Card → Type 0) (Q R : Card → Type 0) → ((c d : Card) → P c d → Q d → R c) → (v u : List Card) → Pairs P v u → Each Q u → Each R v
pairs_each P Q R f [] [] p q = tt
pairs_each P Q R f [] (d ∷ u) p q = absurd p
pairs_each P Q R f (c ∷ v) [] p q = absurd p
pairs_each P Q R f (c ∷ v) (d ∷ u) p q = (f c d p.0 q.0, pairs_each P Q R f v u p.1 q.1)

pub each_onward : (P : Card → Card → Type 0) (Q R : Card → Type 0) → ((c d : Card) → P c d → Q c → R d) → (v u : List Card) → Pairs P v u → Each Q v → Each R u
each_onward P Q R f [] [] p q = tt
each_onward P Q R f [] (d ∷ u) p q = absurd p
each_onward P Q R f (c ∷ v) [] p q = absurd p
each_onward P Q R f (c ∷ v) (d ∷ u) p q = (f c d p.0 q.0, each_onward P Q R f v u p.1 q.1)

-- a device keeps its identifier, its kind and its home at calls but SLP_REQ and ALL_REQ
abbrev pub polls : Reading → Bool
polls (Calls Sens) = true
polls (Calls All) = false
polls (Calls Slp) = false
polls (Calls (Sdd level known)) = true
polls (Calls (Sel level bytes)) = true
polls Other = false

home_home : (s : Bool) → home_of (home s) ≡ home s
home_home true = refl
home_home false = refl

same_home : (ls : List (List ℕ)) (front : Front) (r : Reading) → polls r ≡ true → home_of (front_next ls front r) ≡ home_of front
same_home ls front (Calls All) p = wrong p
same_home ls front (Calls Slp) p = wrong p
same_home ls front Other p = wrong p
same_home ls Off (Calls Sens) p = refl
same_home ls Off (Calls (Sdd level known)) p = refl
same_home ls Off (Calls (Sel level bytes)) p = refl
same_home ls Idle (Calls Sens) p = refl
same_home ls Idle (Calls (Sdd level known)) p = refl
same_home ls Idle (Calls (Sel level bytes)) p = refl
same_home ls Sleep (Calls Sens) p = refl
same_home ls Sleep (Calls (Sdd level known)) p = refl
same_home ls Sleep (Calls (Sel level bytes)) p = refl
same_home ls (Ready k s) (Calls Sens) p = home_home s
same_home ls (Ready k s) (Calls (Sdd level known)) p = by_fit (is_asked ls k level known)
  where
    by_fit : (v : Bool) → home_of (if v then Ready k s else home s) ≡ home s
    by_fit true = refl
    by_fit false = home_home s
same_home ls (Ready k s) (Calls (Sel level bytes)) p = by_fit (is_taken ls k level bytes) (nat_lt k (length ls))
  where
    by_fit : (v t : Bool) → home_of (if v then (if t then Ready (k + 1) s else Active s) else home s) ≡ home s
    by_fit true true = refl
    by_fit true false = refl
    by_fit false t = home_home s
same_home ls (Active s) (Calls Sens) p = home_home s
same_home ls (Active s) (Calls (Sdd level known)) p = home_home s
same_home ls (Active s) (Calls (Sel level bytes)) p = home_home s

keeps_same : (c : Card) → Keeps c c
keeps_same c = record { id = refl; kind = refl; home = refl }

keeps_on : (c d e : Card) → Keeps c d → Keeps d e → Keeps c e
keeps_on c d e k l = record { id = l.id ∙ k.id; kind = l.kind ∙ k.kind; home = l.home ∙ k.home }

move_keeps : (may : Bool) (r : Reading) → polls r ≡ true → (c d : Card) → Moves may r c d → Keeps c d
move_keeps may r p c d (inl e) =
    let K : Card → Type 0 = λ x. Keeps c x in
    subst K (sym e) (record { id = refl; kind = refl; home = same_home (levels c.id) c.front r p })
move_keeps may r p c d (inr s) = let K : Card → Type 0 = λ x. Keeps c x in subst K (sym s.2) (keeps_same c)

pub kept_start : (w : List Card) → Pairs Keeps w w
kept_start w = pairs_same Keeps keeps_same w

pub kept_turn : (may : Bool) (r : Reading) → polls r ≡ true → (w v u : List Card) → Pairs Keeps w v → Pairs (Moves may r) v u → Pairs Keeps w u
kept_turn may r p w v u k e = pairs_with Keeps Keeps Keeps keeps_on w v u k (pairs_map (Moves may r) Keeps (move_keeps may r p) v u e)

-- what is said of identifiers stays true
pub each_kept : (P : List ℕ → Type 0) (w v : List Card) → Pairs Keeps w v → Each (λ c. P c.id) w → Each (λ c. P c.id) v
each_kept P w v k e = each_onward Keeps (λ c. P c.id) (λ c. P c.id) (λ c d h x. (let i : d.id ≡ c.id = h.id in subst P (sym i) x)) w v k e

pub distinct_kept : (w v : List Card) → Pairs Keeps w v → AreDistinct w → AreDistinct v
distinct_kept [] [] k e = tt
distinct_kept [] (d ∷ v) k e = absurd k
distinct_kept (c ∷ w) [] k e = absurd k
distinct_kept (c ∷ w) (d ∷ v) k e =
    let i : d.id ≡ c.id = k.0.id in
    let P : List ℕ → Type 0 = λ x. Each (λ (y : Card). y.id ≢ x) v in
    (subst P (sym i) (each_kept (λ x. x ≢ c.id) w v k.1 e.0), distinct_kept w v k.1 e.1)

-- A device of a crowd at rest, or one that has been woken there, and one of the field that does the same at SDD_REQ and SEL_REQ:
-- they are the same, or neither of them is ready.
abbrev pub Twin : Card → Card → Type 0
Twin x y = (x ≡ y) ⊎ ((y.id ≡ x.id) × (y.kind ≡ x.kind) × Sleeps x × (is_ready y.front ≡ false))

-- the device at rest for one behind SENS_REQ
abbrev pub rested : Front → Front
rested Off = Off
rested Idle = Sleep
rested Sleep = Sleep
rested (Ready k s) = Idle
rested (Active s) = Off

abbrev pub at_rest : Card → Card
at_rest c = with_front c (rested c.front)

rested_rests : (f : Front) → is_rest (rested f) ≡ true
rested_rests Off = refl
rested_rests Idle = refl
rested_rests Sleep = refl
rested_rests (Ready k s) = refl
rested_rests (Active s) = refl

each_at_rest : (v : List Card) → Each (λ c. IsIdent c.id) v → Each IsCard (map at_rest v)
each_at_rest [] e = tt
each_at_rest (c ∷ v) e = ((e.0, rested_rests c.front), each_at_rest v e.1)

each_rested : (P : List ℕ → Type 0) (v : List Card) → Each (λ c. P c.id) v → Each (λ c. P c.id) (map at_rest v)
each_rested P [] e = tt
each_rested P (c ∷ v) e = (e.0, each_rested P v e.1)

distinct_rested : (v : List Card) → AreDistinct v → AreDistinct (map at_rest v)
distinct_rested [] e = tt
distinct_rested (c ∷ v) e = (each_rested (λ x. x ≢ c.id) v e.0, distinct_rested v e.1)

-- SENS_REQ
woken_by : (id : List ℕ) (k : Kind) (f : Front) → IsIdent id → Twin (card_at [] [] (at_rest (card_next (Calls Sens) (record { id = id; kind = k; front = f }))))
    (card_next (Calls Sens) (record { id = id; kind = k; front = f }))
woken_by id k Off i = inl refl
woken_by id k Idle i = inl (ap (λ v. asked_if (record { id = id; kind = k; front = Idle }) 0 v) (has_levels (levels id) (some_levels id i)))
woken_by id k Sleep i = inl refl
woken_by id k (Ready j true) i = inl refl
woken_by id k (Ready j false) i = inr (refl, refl, (refl, refl), refl)
woken_by id k (Active true) i = inl refl
woken_by id k (Active false) i = inr (refl, refl, (refl, refl), refl)

stays_by : (id : List ℕ) (k : Kind) (f : Front) → is_active f ≡ true → Twin (card_at [] [] (at_rest (record { id = id; kind = k; front = f }))) (record { id = id; kind = k; front = f })
stays_by id k Off i = wrong_back (sym i)
stays_by id k Idle i = wrong_back (sym i)
stays_by id k Sleep i = wrong_back (sym i)
stays_by id k (Ready j s) i = wrong_back (sym i)
stays_by id k (Active s) i = inr (refl, refl, (refl, refl), refl)

woken_twin : (may : Bool) (c d : Card) → IsIdent c.id → Moves may (Calls Sens) c d → Twin (card_at [] [] (at_rest d)) d
woken_twin may c d i (inl e) = let T : Card → Type 0 = λ x. Twin (card_at [] [] (at_rest x)) x in subst T (sym e) (woken_by c.id c.kind c.front i)
woken_twin may c d i (inr s) = let T : Card → Type 0 = λ x. Twin (card_at [] [] (at_rest x)) x in subst T (sym s.2) (stays_by c.id c.kind c.front s.1)

woken_twins : (may : Bool) (v u : List Card) → Each (λ c. IsIdent c.id) v → Pairs (Moves may (Calls Sens)) v u → Pairs Twin (map (card_at [] []) (map at_rest u)) u
woken_twins may [] [] i e = tt
woken_twins may [] (d ∷ u) i e = absurd e
woken_twins may (c ∷ v) [] i e = absurd e
woken_twins may (c ∷ v) (d ∷ u) i e = (woken_twin may c d i.0 e.0, woken_twins may v u i.1 e.1)

-- one that has answered is idle in that crowd
answers_by : (may : Bool) (id : List ℕ) (k : Kind) (f : Front) (d : Card) → Moves may (Calls Sens) (record { id = id; kind = k; front = f }) d → Sleeps (at_rest d)
    → card_says (Calls Sens) (record { id = id; kind = k; front = f }) ≡ None
answers_by may id k Off d e s = refl
answers_by may id k Idle d (inl e) s = let T : Card → Type 0 = λ x. is_idle (rested x.front) ≡ false in wrong_back (subst T e s.1)
answers_by may id k Idle d (inr t) s = wrong t.1
answers_by may id k Sleep d e s = refl
answers_by may id k (Ready j t) d e s = refl
answers_by may id k (Active t) d e s = refl

none_answers : (may : Bool) (v u : List Card) → Pairs (Moves may (Calls Sens)) v u → Each Sleeps (map at_rest u) → filter_map (card_says (Calls Sens)) v ≡ []
none_answers may [] [] e s = refl
none_answers may [] (d ∷ u) e s = absurd e
none_answers may (c ∷ v) [] e s = absurd e
none_answers may (c ∷ v) (d ∷ u) e s =
    ap (λ o. cons_option o (filter_map (card_says (Calls Sens)) v)) (answers_by may c.id c.kind c.front d e.0 s.0) ∙ none_answers may v u e.1 s.1

-- a crowd at rest, and the devices of the field behind SENS_REQ
pub record Woken (u : List Card) : Type 0 where
  pub before : List Card
  pub first : Card
  pub behind : List Card
  pub leads : IsFirst before first behind
  pub rests : before ++ first ∷ behind ≡ map at_rest u
  pub twins : Pairs Twin (map (card_at [] []) (before ++ first ∷ behind)) u

pub woken : (may : Bool) (v u : List Card) (g : Signal) → Each (λ c. IsIdent c.id) v → Each (λ c. IsIdent c.id) u → AreDistinct u → Pairs (Moves may (Calls Sens)) v u
    → Has g (filter_map (card_says (Calls Sens)) v) → Woken u
woken may v u g i j d e h = by_lead (map at_rest u) refl (leads (map at_rest u) (each_at_rest u j) (distinct_rested u d))
  where
    by_lead : (w : List Card) → map at_rest u ≡ w → Leads w → Woken u
    by_lead _ q (none w s) =
        let S : List Card → Type 0 = λ x. Each Sleeps x in
        let H : List Signal → Type 0 = λ x. Has g x in
        absurd (subst H (none_answers may v u e (subst S (sym q) s)) h)
    by_lead _ q (some a m b F) =
        let T : List Card → Type 0 = λ x. Pairs Twin (map (card_at [] []) x) u in
        record { before = a; first = m; behind = b; leads = F; rests = sym q; twins = subst T q (woken_twins may v u i e) }

-- SDD_REQ and SEL_REQ
abbrev pub asks_ready : Reading → Bool
asks_ready (Calls Sens) = false
asks_ready (Calls All) = false
asks_ready (Calls Slp) = false
asks_ready (Calls (Sdd level known)) = true
asks_ready (Calls (Sel level bytes)) = true
asks_ready Other = false

pub ready_polls : (r : Reading) → asks_ready r ≡ true → polls r ≡ true
ready_polls (Calls Sens) a = wrong a
ready_polls (Calls All) a = wrong a
ready_polls (Calls Slp) a = wrong a
ready_polls (Calls (Sdd level known)) a = refl
ready_polls (Calls (Sel level bytes)) a = refl
ready_polls Other a = wrong a

-- at these a front that isn't ready says nothing, doesn't become ready, and isn't active afterwards
abbrev IsDeaf : List (List ℕ) → Kind → Front → Reading → Type 0
IsDeaf ls k f r = (front_says ls k f r ≡ None) × (is_ready (front_next ls f r) ≡ false) × (is_active (front_next ls f r) ≡ false)

home_deaf : (s : Bool) → (is_ready (home s) ≡ false) × (is_active (home s) ≡ false)
home_deaf true = (refl, refl)
home_deaf false = (refl, refl)

deaf_at : (ls : List (List ℕ)) (k : Kind) (f : Front) (r : Reading) → asks_ready r ≡ true → is_ready f ≡ false → IsDeaf ls k f r
deaf_at ls k f (Calls Sens) a n = wrong a
deaf_at ls k f (Calls All) a n = wrong a
deaf_at ls k f (Calls Slp) a n = wrong a
deaf_at ls k f Other a n = wrong a
deaf_at ls k Off (Calls (Sdd level known)) a n = (refl, refl, refl)
deaf_at ls k Idle (Calls (Sdd level known)) a n = (refl, refl, refl)
deaf_at ls k Sleep (Calls (Sdd level known)) a n = (refl, refl, refl)
deaf_at ls k (Ready j s) (Calls (Sdd level known)) a n = wrong_back n
deaf_at ls k (Active s) (Calls (Sdd level known)) a n = (refl, (home_deaf s).0, (home_deaf s).1)
deaf_at ls k Off (Calls (Sel level bytes)) a n = (refl, refl, refl)
deaf_at ls k Idle (Calls (Sel level bytes)) a n = (refl, refl, refl)
deaf_at ls k Sleep (Calls (Sel level bytes)) a n = (refl, refl, refl)
deaf_at ls k (Ready j s) (Calls (Sel level bytes)) a n = wrong_back n
deaf_at ls k (Active s) (Calls (Sel level bytes)) a n = (refl, (home_deaf s).0, (home_deaf s).1)

asleep_by : (id : List ℕ) (k : Kind) (f : Front) (r : Reading) → asks_ready r ≡ true → Sleeps (record { id = id; kind = k; front = f })
    → (card_next r (record { id = id; kind = k; front = f }) ≡ record { id = id; kind = k; front = f }) × (card_says r (record { id = id; kind = k; front = f }) ≡ None)
asleep_by id k f (Calls Sens) a s = wrong a
asleep_by id k f (Calls All) a s = wrong a
asleep_by id k f (Calls Slp) a s = wrong a
asleep_by id k f Other a s = wrong a
asleep_by id k Off (Calls (Sdd level known)) a s = (refl, refl)
asleep_by id k Idle (Calls (Sdd level known)) a s = wrong_back s.1
asleep_by id k Sleep (Calls (Sdd level known)) a s = (refl, refl)
asleep_by id k (Ready j t) (Calls (Sdd level known)) a s = wrong s.0
asleep_by id k (Active t) (Calls (Sdd level known)) a s = wrong s.0
asleep_by id k Off (Calls (Sel level bytes)) a s = (refl, refl)
asleep_by id k Idle (Calls (Sel level bytes)) a s = wrong_back s.1
asleep_by id k Sleep (Calls (Sel level bytes)) a s = (refl, refl)
asleep_by id k (Ready j t) (Calls (Sel level bytes)) a s = wrong s.0
asleep_by id k (Active t) (Calls (Sel level bytes)) a s = wrong s.0

module _ (r : Reading) (a : asks_ready r ≡ true) where
  -- twins say the same, and go on as twins
  twin_says : (x y : Card) → Twin x y → card_says r x ≡ card_says r y
  twin_says x y (inl e) = ap (card_says r) e
  twin_says x y (inr t) =
      let deaf : IsDeaf (levels y.id) y.kind y.front r = deaf_at (levels y.id) y.kind y.front r a t.3 in
      (asleep_by x.id x.kind x.front r a t.2).1 ∙ sym deaf.0

  twin_moves : (may : Bool) (x y z : Card) → Twin x y → is_active x.front ≡ false → Moves may r y z → Twin (card_next r x) z
  twin_moves may x y z (inl e) i (inl m) = inl (ap (card_next r) e ∙ sym m)
  twin_moves may x y z (inl e) i (inr m) = let C : Card → Bool = λ c. is_active c.front in wrong (sym i ∙ ap C e ∙ m.1)
  twin_moves may x y z (inr t) i m =
      let T : Card → Type 0 = λ c. Twin c z in
      subst T (sym (asleep_by x.id x.kind x.front r a t.2).0) (by_move m)
    where
      by_move : Moves may r y z → Twin x z
      by_move (inl e) =
          let U : Card → Type 0 = λ c. Twin x c in
          let deaf : IsDeaf (levels y.id) y.kind y.front r = deaf_at (levels y.id) y.kind y.front r a t.3 in
          subst U (sym e) (inr (t.0, t.1, t.2, deaf.1))
      by_move (inr s) = let U : Card → Type 0 = λ c. Twin x c in subst U (sym s.2) (inr t)

  -- one of the field becomes active only where its twin does
  twin_wakes : (may : Bool) (x y z : Card) → Twin x y → is_active x.front ≡ false → Moves may r y z → is_active z.front ≡ true → (is_active y.front ≡ true) ⊎ (card_next r x ≡ z)
  twin_wakes may x y z (inl e) i (inl m) v = inr (ap (card_next r) e ∙ sym m)
  twin_wakes may x y z t i (inr m) v = inl m.1
  twin_wakes may x y z (inr t) i (inl m) v =
      let C : Card → Bool = λ c. is_active c.front in
      let deaf : IsDeaf (levels y.id) y.kind y.front r = deaf_at (levels y.id) y.kind y.front r a t.3 in
      wrong (sym deaf.2 ∙ sym (ap C m) ∙ v)

  pub twins_say : (xs ys : List Card) → Pairs Twin xs ys → filter_map (card_says r) xs ≡ filter_map (card_says r) ys
  twins_say [] [] t = refl
  twins_say [] (y ∷ ys) t = absurd t
  twins_say (x ∷ xs) [] t = absurd t
  twins_say (x ∷ xs) (y ∷ ys) t =
      ap (λ o. cons_option o (filter_map (card_says r) xs)) (twin_says x y t.0) ∙ ap (cons_option (card_says r y)) (twins_say xs ys t.1)

  pub twins_move : (may : Bool) (xs ys zs : List Card) → Pairs Twin xs ys → Each (λ c. is_active c.front ≡ false) xs → Pairs (Moves may r) ys zs → Pairs Twin (map (card_next r) xs) zs
  twins_move may [] [] [] t i m = tt
  twins_move may [] [] (z ∷ zs) t i m = m
  twins_move may [] (y ∷ ys) zs t i m = absurd t
  twins_move may (x ∷ xs) [] zs t i m = absurd t
  twins_move may (x ∷ xs) (y ∷ ys) [] t i m = m
  twins_move may (x ∷ xs) (y ∷ ys) (z ∷ zs) t i m = (twin_moves may x y z t.0 i.0 m.0, twins_move may xs ys zs t.1 i.1 m.1)

  -- where only cards of this kind become active at rest, so in the field
  pub twins_wake : (may : Bool) (P : Card → Type 0) (xs ys zs : List Card) → Pairs Twin xs ys → Each (λ c. is_active c.front ≡ false) xs → Pairs (Moves may r) ys zs
      → Each (λ c. is_active c.front ≡ true → P c) (map (card_next r) xs) → Pairs (λ y z. is_active z.front ≡ true → (is_active y.front ≡ true) ⊎ P z) ys zs
  twins_wake may P [] [] [] t i m w = tt
  twins_wake may P [] [] (z ∷ zs) t i m w = m
  twins_wake may P [] (y ∷ ys) zs t i m w = absurd t
  twins_wake may P (x ∷ xs) [] zs t i m w = absurd t
  twins_wake may P (x ∷ xs) (y ∷ ys) [] t i m w = m
  twins_wake may P (x ∷ xs) (y ∷ ys) (z ∷ zs) t i m w = ((λ v. by_twin v (twin_wakes may x y z t.0 i.0 m.0 v)), twins_wake may P xs ys zs t.1 i.1 m.1 w.1)
    where
      by_twin : is_active z.front ≡ true → (is_active y.front ≡ true) ⊎ (card_next r x ≡ z) → (is_active y.front ≡ true) ⊎ P z
      by_twin v (inl e) = inl e
      by_twin v (inr e) =
          let C : Card → Bool = λ c. is_active c.front in
          inr (subst P e (w.0 (ap C e ∙ v)))
