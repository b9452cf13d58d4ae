-- A resolution over this project's listeners in any state, whatever noise it meets.
use Rattle.std.proofs.Common.{◌≡◌, ◌≢◌, ◌⊎◌, ℕ, ◌+◌, ◌*◌, ◌<◌, ◌≤◌, List, [], ◌∷◌, ◌++◌, map, filter_map, Bool, true, false, nat_lt, nat_le, not, if◌then◌else◌, inl, inr, refl, sym, ◌∙◌, ap, subst}
use Rattle.std.proofs.Common.{arith, None, Result, Ok}
use Rattle.nfc_base.specs.declared.event.Heard.{Heard}
use Rattle.nfc_base.specs.declared.event.Heard.TheVariants.{Silent}
use Rattle.nfc_base.specs.Signal.{Signal}
use Rattle.air_core.specs.Joint.{joint}
use Rattle.nfca_poll.specs.declared.kind.Kind.{Kind}
use Rattle.nfca_poll.specs.declared.fault.Picked.{Picked}
use Rattle.nfca_poll.specs.declared.fault.PollFault.{PollFault}
use Rattle.nfca_poll.specs.Ident.{IsIdent}
use Rattle.nfca_poll.specs.Levels.{levels}
use Rattle.nfca_poll.specs.Calls.{Calls, Sens}
use Rattle.nfca_poll.specs.Front.{Front, Off, Idle, Sleep, Ready, Active, home, front_next, is_active}
use Rattle.nfca_poll.specs.Poll.{Seek, Calling, Asking, Selecting, Ended, Nobody, seek_step}
use Rattle.nfca_poll.specs.Seeking.{outcome}
use Rattle.nfca_poll.specs.Crowd.{Card, Each, ahead, crowd_bits, is_idle}
use Rattle.nfca_poll.proofs.quiet.CrowdParts.{IsFirst}
use Rattle.nfca_poll.specs.AnyStart.{HaveOwnIdents, Pairs, home_of, Keeps, IsAhead, IsWaiting, EndsFromAny}
use Rattle.nfca_poll.proofs.quiet.Clashes.{wrong, wrong_back, Has}
use Rattle.nfca_poll.proofs.quiet.Eaches.{each_map, none_in}
use Rattle.nfca_poll.proofs.identifiers.HeardBits.{heard_of}
use Rattle.nfca_poll.proofs.identifiers.Fitting.{card_says, card_at}
use Rattle.nfca_poll.proofs.quiet.Choosing.{hears, Seeks, heard_some}
use Rattle.nfca_poll.proofs.noise.ThroughNoise.{asked_first}
use Rattle.nfca_poll.proofs.quiet.Causes.{idle_is}
use Rattle.nfca_poll.proofs.noise.Moves.{Moves, TurnOf, passed, unheard, damaged, lost}
use Rattle.nfca_poll.proofs.quiet.Twins.{pairs_map, pairs_same, pairs_with, pairs_both, pairs_each, kept_turn, each_kept, distinct_kept, Twin, rested, at_rest, Woken, woken}

-- active only where it was before
abbrev pub Stays : Card → Card → Type 0
Stays c d = is_active d.front ≡ true → is_active c.front ≡ true

-- Behind so many silences and so much noise, a device that waits to be found is idle, or goes there next.
abbrev pub Soon : ℕ → ℕ → Front → Type 0
Soon k n Off = ⊥
Soon k n Idle = k ≤ 2 * n + 1
Soon k n Sleep = ⊥
Soon k n (Ready j true) = ⊥
Soon k n (Ready j false) = k ≤ 2 * n
Soon k n (Active s) = ⊥

abbrev pub Due : ℕ → ℕ → Card → Card → Type 0
Due k n c d = IsWaiting c → Soon k n d.front

-- Devices that were idle are idle, or all of them ready.
abbrev pub SameTurn : Bool → Card → Card → Type 0
SameTurn ready c d = is_idle c.front ≡ true → d.front ≡ (if ready then Ready 1 false else Idle)

-- Among devices w, the call has asked for presence in vain so often.
pub record CallsInVain (w : List Card) (k : ℕ) (v : List Card) (n : ℕ) : Type 0 where
  pub kept : Pairs Keeps w v
  pub stay : Pairs Stays w v
  pub due : Pairs (Due k n) w v
  pub ready : Bool
  pub turn : Pairs (SameTurn ready) w v

abbrev pub IsQuiet : Card → Type 0
IsQuiet c = is_active c.front ≡ false

-- where one was picked, it alone is active
abbrev pub IsAlone : Result Picked PollFault → List Card → Type 0
IsAlone r v = (p : Picked) → r ≡ Ok p → Each (λ d. is_active d.front ≡ true → d.id ≡ p.id) v

-- Behind presence none is active, unless one may stay so, and the devices are twins of a crowd at rest in which the resolution is as far.
pub record Behind (may : Bool) (w : List Card) (s : Seek) (v : List Card) : Type 0 where
  pub kept : Pairs Keeps w v
  pub stay : Pairs Stays w v
  pub quiet : may ≡ false → Each IsQuiet v
  pub before : List Card
  pub first : Card
  pub behind : List Card
  pub leads : IsFirst before first behind
  pub order : Each (λ c. c.id ≡ first.id → is_idle c.front ≡ true → IsAhead first.id w) w
  pub crowd : List Card
  pub seeks : Seeks before first behind s crowd
  pub twins : Pairs Twin crowd v

abbrev pub Mixed : Bool → List Card → Seek → List Card → ℕ → Type 0
Mixed may w (Calling k) v n = CallsInVain w k v n
Mixed may w (Asking done known) v n = Behind may w (Asking done known) v
Mixed may w (Selecting done l) v n = Behind may w (Selecting done l) v
Mixed may w (Ended o) v n = EndsFromAny w (outcome o) v n × (may ≡ false → IsAlone (outcome o) v)

pub each_around : (P : Card → Type 0) (a : List Card) (m : Card) (b : List Card) → Each P a → P m → Each P b → Each P (a ++ m ∷ b)
each_around P [] m b x y z = (y, z)
each_around P (c ∷ a) m b x y z = (x.0, each_around P a m b x.1 y z)

-- SENS_REQ: who waits
waits_at_home : (f : Front) → is_active f ≡ false → home_of f ≡ Idle → Soon 0 0 f
waits_at_home Off a h = absurd cc
waits_at_home Idle a h = omega arith
waits_at_home Sleep a h = absurd cc
waits_at_home (Ready j true) a h = absurd cc
waits_at_home (Ready j false) a h = omega arith
waits_at_home (Active s) a h = wrong_back a

pub stay_start : (w : List Card) → Pairs Stays w w
stay_start w = pairs_same Stays (λ c a. a) w

pub turn_start : (w : List Card) → Pairs (SameTurn false) w w
turn_start w = pairs_same (SameTurn false) (λ c i. idle_is c.front i) w

pub due_start : (w : List Card) → Pairs (Due 0 0) w w
due_start [] = tt
due_start (c ∷ w) = ((λ q. waits_at_home c.front q.0 q.1), due_start w)

-- a request that was lost
soon_unheard : (k n : ℕ) (f : Front) → Soon k n f → Soon (k + 1) (n + 1) f
soon_unheard k n Off h = h
soon_unheard k n Idle h = omega (arith, h)
soon_unheard k n Sleep h = h
soon_unheard k n (Ready j true) h = h
soon_unheard k n (Ready j false) h = omega (arith, h)
soon_unheard k n (Active s) h = h

-- an answer that was lost
soon_lost : (may : Bool) (k n : ℕ) (kind : Kind) (id : List ℕ) (f : Front) (d : Card) → Moves may (Calls Sens) (record { id = id; kind = kind; front = f }) d → Soon k n f
    → Soon (k + 1) (n + 1) d.front
soon_lost may k n kind id Off d m h = absurd h
soon_lost may k n kind id Idle d (inl e) h = let S : Card → Type 0 = λ x. Soon (k + 1) (n + 1) x.front in subst S (sym e) (omega (arith, h))
soon_lost may k n kind id Idle d (inr t) h = wrong t.1
soon_lost may k n kind id Sleep d m h = absurd h
soon_lost may k n kind id (Ready j true) d m h = absurd h
soon_lost may k n kind id (Ready j false) d (inl e) h = let S : Card → Type 0 = λ x. Soon (k + 1) (n + 1) x.front in subst S (sym e) (omega (arith, h))
soon_lost may k n kind id (Ready j false) d (inr t) h = wrong t.1
soon_lost may k n kind id (Active s) d m h = absurd h

-- nobody has answered
soon_silent : (may : Bool) (k n : ℕ) (kind : Kind) (id : List ℕ) (f : Front) (d : Card) → card_says (Calls Sens) (record { id = id; kind = kind; front = f }) ≡ None
    → Moves may (Calls Sens) (record { id = id; kind = kind; front = f }) d
    → Soon k n f → Soon (k + 1) n d.front
soon_silent may k n kind id Off d q m h = absurd h
soon_silent may k n kind id Idle d q m h = absurd cc
soon_silent may k n kind id Sleep d q m h = absurd h
soon_silent may k n kind id (Ready j true) d q m h = absurd h
soon_silent may k n kind id (Ready j false) d q (inl e) h = let S : Card → Type 0 = λ x. Soon (k + 1) n x.front in subst S (sym e) (omega (arith, h))
soon_silent may k n kind id (Ready j false) d q (inr t) h = wrong t.1
soon_silent may k n kind id (Active s) d q m h = absurd h

due_unheard : (k n : ℕ) (w v : List Card) → Pairs (Due k n) w v → Pairs (Due (k + 1) (n + 1)) w v
due_unheard k n w v d = pairs_map (Due k n) (Due (k + 1) (n + 1)) (λ c x h q. soon_unheard k n x.front (h q)) w v d

due_lost : (may : Bool) (k n : ℕ) (w v u : List Card) → Pairs (Due k n) w v → Pairs (Moves may (Calls Sens)) v u → Pairs (Due (k + 1) (n + 1)) w u
due_lost may k n w v u d m = pairs_with (Due k n) (Moves may (Calls Sens)) (Due (k + 1) (n + 1)) (λ c x y h e q. soon_lost may k n x.kind x.id x.front y e (h q)) w v u d m

due_silent : (may : Bool) (k n : ℕ) (w v u : List Card) → Each (λ c. card_says (Calls Sens) c ≡ None) v → Pairs (Due k n) w v → Pairs (Moves may (Calls Sens)) v u → Pairs (Due (k + 1) n) w u
due_silent may k n [] [] [] s d m = tt
due_silent may k n [] [] (y ∷ u) s d m = m
due_silent may k n [] (x ∷ v) u s d m = absurd d
due_silent may k n (c ∷ w) [] u s d m = absurd d
due_silent may k n (c ∷ w) (x ∷ v) [] s d m = m
due_silent may k n (c ∷ w) (x ∷ v) (y ∷ u) s d m = ((λ q. soon_silent may k n x.kind x.id x.front y s.0 m.0 (d.0 q)), due_silent may k n w v u s.1 d.1 m.1)

-- four silences and little noise: none has waited
late : (k n : ℕ) (f : Front) → 3 ≤ k → n < 2 → Soon (k + 1) n f → ⊥
late k n Off a b h = h
late k n Idle a b h = omega (arith, a, b, h)
late k n Sleep a b h = h
late k n (Ready j true) a b h = h
late k n (Ready j false) a b h = omega (arith, a, b, h)
late k n (Active s) a b h = h

none_waited : (k n : ℕ) (w v : List Card) → 3 ≤ k → n < 2 → Pairs (Due (k + 1) n) w v → Each (λ c. IsWaiting c → ⊥) w
none_waited k n [] [] a b d = tt
none_waited k n [] (x ∷ v) a b d = tt
none_waited k n (c ∷ w) [] a b d = absurd d
none_waited k n (c ∷ w) (x ∷ v) a b d = ((λ q. late k n x.front a b (d.0 q)), none_waited k n w v a b d.1)

-- one silence more
silence : (may : Bool) (w : List Card) (k : ℕ) (v : List Card) (n : ℕ) (ready : Bool) → Pairs Keeps w v → Pairs Stays w v → Pairs (Due (k + 1) n) w v → Pairs (SameTurn ready) w v
    → Mixed may w (seek_step (Calling k) Silent) v n
silence may w k v n ready p s d a = by_count (nat_lt k 3) refl
  where
    at_least : (i j : ℕ) → nat_lt i j ≡ false → j ≤ i
    at_least i j h = grind arith

    le_of : (i j : ℕ) → nat_le i j ≡ true → i ≤ j
    le_of i j h = grind arith

    less_of : (i j : ℕ) → nat_le i j ≡ false → j < i
    less_of i j h = grind arith

    by_noise : 3 ≤ k → (t : Bool) → nat_le 2 n ≡ t → Each (λ c. IsWaiting c → ⊥) w ⊎ (2 ≤ n)
    by_noise a true q = inr (le_of 2 n q)
    by_noise a false q = inl (none_waited k n w v a (less_of 2 n q) d)

    by_count : (t : Bool) → nat_lt k 3 ≡ t → Mixed may w (if t then Calling (k + 1) else Ended Nobody) v n
    by_count true q = record { kept = p; stay = s; due = d; ready = ready; turn = a }
    by_count false q = ((p, by_noise (at_least k 3 q) (nat_le 2 n) refl), (λ e i j. absurd cc))

-- nobody becomes active by SENS_REQ
home_inactive : (s : Bool) → is_active (home s) ≡ false
home_inactive true = refl
home_inactive false = refl

sens_inactive : (ls : List (List ℕ)) (f : Front) → is_active (front_next ls f (Calls Sens)) ≡ false
sens_inactive ls Off = refl
sens_inactive ls Idle = refl
sens_inactive ls Sleep = refl
sens_inactive ls (Ready j s) = home_inactive s
sens_inactive ls (Active s) = home_inactive s

sens_stays : (may : Bool) (x y : Card) → Moves may (Calls Sens) x y → Stays x y
sens_stays may x y (inl e) a = let C : Card → Bool = λ c. is_active c.front in wrong (sym (sens_inactive (levels x.id) x.front) ∙ sym (ap C e) ∙ a)
sens_stays may x y (inr s) a = s.1

stay_called : (may : Bool) (w v u : List Card) → Pairs Stays w v → Pairs (Moves may (Calls Sens)) v u → Pairs Stays w u
stay_called may w v u s m = pairs_with Stays (Moves may (Calls Sens)) Stays (λ c x y h e a. h (sens_stays may x y e a)) w v u s m

sens_quiet : (may : Bool) (x y : Card) → Moves may (Calls Sens) x y → may ≡ false → IsQuiet y
sens_quiet may x y (inl e) q = let C : Card → Bool = λ c. is_active c.front in ap C e ∙ sens_inactive (levels x.id) x.front
sens_quiet may x y (inr s) q = wrong (sym q ∙ s.0)

quiet_called : (may : Bool) (v u : List Card) → Pairs (Moves may (Calls Sens)) v u → may ≡ false → Each IsQuiet u
quiet_called may [] [] m q = tt
quiet_called may [] (y ∷ u) m q = absurd m
quiet_called may (x ∷ v) [] m q = absurd m
quiet_called may (x ∷ v) (y ∷ u) m q = (sens_quiet may x y m.0 q, quiet_called may v u m.1 q)

-- those that were idle wake up, or go home again
turns_by : (may : Bool) (id : List ℕ) (k : Kind) (f : Front) (y : Card) (ready : Bool) → Moves may (Calls Sens) (record { id = id; kind = k; front = f }) y
    → f ≡ (if ready then Ready 1 false else Idle) → y.front ≡ (if not ready then Ready 1 false else Idle)
turns_by may id k f y true (inl e) h = let C : Card → Front = λ c. c.front in ap C e ∙ ap (λ x. front_next (levels id) x (Calls Sens)) h
turns_by may id k f y false (inl e) h = let C : Card → Front = λ c. c.front in ap C e ∙ ap (λ x. front_next (levels id) x (Calls Sens)) h
turns_by may id k f y true (inr s) h = wrong (sym (ap is_active h) ∙ s.1)
turns_by may id k f y false (inr s) h = wrong (sym (ap is_active h) ∙ s.1)

turn_called : (may : Bool) (ready : Bool) (w v u : List Card) → Pairs (SameTurn ready) w v → Pairs (Moves may (Calls Sens)) v u → Pairs (SameTurn (not ready)) w u
turn_called may ready w v u t m = pairs_with (SameTurn ready) (Moves may (Calls Sens)) (SameTurn (not ready)) (λ c x y h e i. turns_by may x.id x.kind x.front y ready e (h i)) w v u t m

each_unmapped : (P : Card → Type 0) (u : List Card) → Each P (map at_rest u) → Each (λ y. P (at_rest y)) u
each_unmapped P [] e = tt
each_unmapped P (y ∷ u) e = (e.0, each_unmapped P u e.1)

-- the first of the crowd alone has its identifier
only_first : (a : List Card) (m : Card) (b : List Card) → IsFirst a m b → Each (λ x. x.id ≡ m.id → x.front ≡ Idle) (a ++ m ∷ b)
only_first a m b F =
    each_around (λ x. x.id ≡ m.id → x.front ≡ Idle) a m b (each_map (λ x. x.id ≢ m.id) (λ x. x.id ≡ m.id → x.front ≡ Idle) (λ x d e. absurd (d e)) a F.distinct_before) (λ e. F.idle)
    (each_map (λ x. x.id ≢ m.id) (λ x. x.id ≡ m.id → x.front ≡ Idle) (λ x d e. absurd (d e)) b F.distinct_after)

sleep_idle : Sleep ≡ Idle → ⊥
sleep_idle e = cc

-- If it was idle before, it is the first of those that were.
in_order : (w u : List Card) (up : Woken u) (ready : Bool) → Pairs Keeps w u → Pairs (SameTurn ready) w u → Each (λ c. c.id ≡ up.first.id → is_idle c.front ≡ true → IsAhead up.first.id w) w
in_order w u up true k t =
    let m : Card = up.first in
    let A : Card → Type 0 = λ x. is_idle x.front ≡ true → ahead (crowd_bits m.id) (crowd_bits x.id) ≡ true in
    let E : List Card → Type 0 = λ xs. Each A xs in
    let all : Each (λ y. A (at_rest y)) u = each_unmapped A u (subst E up.rests up.leads.first) in
    let here : IsAhead m.id w =
    pairs_each (λ c d. Keeps c d × SameTurn true c d) (λ y. A (at_rest y)) A
    (λ c d h a i. (let R : List ℕ → Type 0 = λ x. ahead (crowd_bits m.id) (crowd_bits x) ≡ true in let e : d.id ≡ c.id = h.0.id in subst R e (a (ap (λ f. is_idle (rested f)) (h.1 i)))))
    w u (pairs_both Keeps (SameTurn true) w u k t) all in
    each_any (λ c. c.id ≡ m.id → is_idle c.front ≡ true → IsAhead m.id w) (λ c e i. here) w
  where
    each_any : (P : Card → Type 0) → ((c : Card) → P c) → (xs : List Card) → Each P xs
    each_any P f [] = tt
    each_any P f (x ∷ xs) = (f x, each_any P f xs)
in_order w u up false k t =
    let m : Card = up.first in
    let O : Card → Type 0 = λ x. x.id ≡ m.id → x.front ≡ Idle in
    let E : List Card → Type 0 = λ xs. Each O xs in
    let all : Each (λ y. O (at_rest y)) u = each_unmapped O u (subst E up.rests (only_first up.before m up.behind up.leads)) in
    pairs_each (λ c d. Keeps c d × SameTurn false c d) (λ y. O (at_rest y)) (λ c. c.id ≡ m.id → is_idle c.front ≡ true → IsAhead m.id w)
    (λ c d h o e i. (let g : d.id ≡ c.id = h.0.id in absurd (sleep_idle (sym (ap rested (h.1 i)) ∙ o (g ∙ e)))))
    w u (pairs_both Keeps (SameTurn false) w u k t) all

-- presence was heard
present : (may : Bool) (w v u : List Card) (g : Signal) (ready : Bool) → HaveOwnIdents w → Pairs Keeps w v → Pairs Stays w v → Pairs (SameTurn ready) w v → Pairs (Moves may (Calls Sens)) v u
    → Has g (filter_map (card_says (Calls Sens)) v) → Behind may w (Asking [] []) u
present may w v u g ready own k s a m h =
    let kept : Pairs Keeps w u = kept_turn may (Calls Sens) refl w v u k m in
    let up : Woken u = woken may v u g (each_kept IsIdent w v k own.idents) (each_kept IsIdent w u kept own.idents) (distinct_kept w u kept own.distinct) m h in
    record {
      kept = kept;
      stay = stay_called may w v u s m;
      quiet = quiet_called may v u m;
      before = up.before;
      first = up.first;
      behind = up.behind;
      leads = up.leads;
      order = in_order w u up (not ready) kept (turn_called may ready w v u a m);
      crowd = map (card_at [] []) (up.before ++ up.first ∷ up.behind);
      seeks = asked_first up.before up.first up.behind up.leads;
      twins = up.twins;
    }

pub calling_turn : (may : Bool) (w : List Card) (k : ℕ) (v u : List Card) (h : Heard) (n t : ℕ) → HaveOwnIdents w → CallsInVain w k v n → TurnOf may (Calls Sens) v u h t
    → Mixed may w (seek_step (Calling k) h) u (n + t)
calling_turn may w k v u _ n _ own c (passed m) = by_answers (filter_map (card_says (Calls Sens)) v) refl
  where
    by_answers : (xs : List Signal) → filter_map (card_says (Calls Sens)) v ≡ xs → Mixed may w (seek_step (Calling k) (hears (Calls Sens) v)) u (n + 0)
    by_answers [] e =
        let P : List Signal → Type 0 = λ xs. Mixed may w (seek_step (Calling k) (heard_of (joint xs))) u (n + 0) in
        let N : ℕ → Type 0 = λ x. Mixed may w (seek_step (Calling k) Silent) u x in
        subst P (sym e)
        (subst N (let q : n ≡ n + 0 = omega arith in q)
        (silence may w k u n (not c.ready) (kept_turn may (Calls Sens) refl w v u c.kept m) (stay_called may w v u c.stay m) (due_silent may k n w v u (none_in (card_says (Calls Sens)) v e) c.due m)
        (turn_called may c.ready w v u c.turn m)))
    by_answers (g ∷ gs) e =
        let P : List Signal → Type 0 = λ xs. Mixed may w (seek_step (Calling k) (heard_of (joint xs))) u (n + 0) in
        let S : Seek → Type 0 = λ s. Mixed may w s u (n + 0) in
        let H : List Signal → Type 0 = λ xs. Has g xs in
        subst P (sym e) (subst S (sym (heard_some g (g ∷ gs) k (inl refl))) (present may w v u g c.ready own c.kept c.stay c.turn m (subst H (sym e) (inl refl))))
calling_turn may w k v u _ n _ own c (unheard e) =
    let P : List Card → Type 0 = λ x. Mixed may w (seek_step (Calling k) Silent) x (n + 1) in
    subst P (sym e) (silence may w k v (n + 1) c.ready c.kept c.stay (due_unheard k n w v c.due) c.turn)
calling_turn may w k v u _ n _ own c (damaged m g h) = present may w v u g c.ready own c.kept c.stay c.turn m h
calling_turn may w k v u _ n _ own c (lost m g h) = silence may w k u (n + 1) (not c.ready) (kept_turn may (Calls Sens) refl w v u c.kept m) (stay_called may w v u c.stay m)
    (due_lost may k n w v u c.due m) (turn_called may c.ready w v u c.turn m)
