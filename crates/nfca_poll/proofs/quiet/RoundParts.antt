-- The rounds of some events, and the turns of SENS_REQ in one.
use Rattle.std.proofs.Common.{◌≡◌, ℕ, ◌+◌, ◌-◌, ◌<◌, ◌≤◌, List, [], ◌∷◌, ◌++◌, length, drop, filter, Bool, true, false, nat_lt, if◌then◌else◌, refl, sym, ◌∙◌, ap, subst, arith}
use Rattle.std.proofs.lemmas.List.{length-append}
use Rattle.nfc_base.specs.Signal.{Signal}
use Rattle.nfc_base.specs.Trace.{Back, Turn, back_of, turns, noise, other_than_pass}
use Rattle.nfc_base.specs.Trace as backs
use Rattle.nfc_base.specs.declared.event.Event.{Event}
use Rattle.nfc_base.specs.declared.event.Event.TheVariants.{Reset, Request, Answer, Clash}
use Rattle.nfc_base.specs.declared.event.Fate.{Fate}
use Rattle.nfc_base.specs.declared.event.Fate.TheVariants.{Pass, Damage, Lose, Break}
use Rattle.air_core.specs.Joint.{Joint, Nothing, Single, Clashing}
use Rattle.air_core.specs.Conversation.{AirModel, joint_events, turn_events}
use Rattle.air_core.specs.laws.Turning.{back_of-append}
use Rattle.nfca_poll.specs.Counting.{is_sens_req}
use Rattle.nfca_poll.specs.Rounds.{most_rounds}
use Rattle.nfca_poll.specs.RoundTrace.{up_to_reset, rounds, last_of, back_noise, is_noisy, last_four, MissesEnd, AreNoisy, Misses, GivesUp}
use Rattle.nfca_poll.proofs.quiet.Crowding.{drop-front}

-- events with no reset among them
abbrev pub NoReset : List Event → Type 0
NoReset [] = Unit {0}
NoReset (Reset ∷ es) = ⊥
NoReset (Request f x ∷ es) = NoReset es
NoReset (Answer g x ∷ es) = NoReset es
NoReset (Clash g x ∷ es) = NoReset es

pub no_reset-append : (a b : List Event) → NoReset a → NoReset b → NoReset (a ++ b)
no_reset-append [] b p q = q
no_reset-append (Reset ∷ a) b p q = absurd p
no_reset-append (Request f x ∷ a) b p q = no_reset-append a b p q
no_reset-append (Answer f x ∷ a) b p q = no_reset-append a b p q
no_reset-append (Clash f x ∷ a) b p q = no_reset-append a b p q

all_up : (es : List Event) → NoReset es → up_to_reset es ≡ es
all_up [] n = refl
all_up (Reset ∷ es) n = absurd n
all_up (Request f x ∷ es) n = ap (λ t. Request f x ∷ t) (all_up es n)
all_up (Answer f x ∷ es) n = ap (λ t. Answer f x ∷ t) (all_up es n)
all_up (Clash f x ∷ es) n = ap (λ t. Clash f x ∷ t) (all_up es n)

no_rounds : (es : List Event) → NoReset es → rounds es ≡ []
no_rounds [] n = refl
no_rounds (Reset ∷ es) n = absurd n
no_rounds (Request f x ∷ es) n = no_rounds es n
no_rounds (Answer f x ∷ es) n = no_rounds es n
no_rounds (Clash f x ∷ es) n = no_rounds es n

up_stays : (a b : List Event) → up_to_reset (a ++ Reset ∷ b) ≡ up_to_reset a
up_stays [] b = refl
up_stays (Reset ∷ a) b = refl
up_stays (Request f x ∷ a) b = ap (λ t. Request f x ∷ t) (up_stays a b)
up_stays (Answer f x ∷ a) b = ap (λ t. Answer f x ∷ t) (up_stays a b)
up_stays (Clash f x ∷ a) b = ap (λ t. Clash f x ∷ t) (up_stays a b)

-- the last round stands behind the last reset
pub one_more_round : (a now : List Event) → NoReset now → rounds (a ++ Reset ∷ now) ≡ rounds a ++ now ∷ []
one_more_round [] now n = ap (λ t. t ∷ rounds now) (all_up now n) ∙ ap (λ t. now ∷ t) (no_rounds now n)
one_more_round (Reset ∷ a) now n = ap (λ t. t ∷ rounds (a ++ Reset ∷ now)) (up_stays a now) ∙ ap (λ t. up_to_reset a ∷ t) (one_more_round a now n)
one_more_round (Request f x ∷ a) now n = one_more_round a now n
one_more_round (Answer f x ∷ a) now n = one_more_round a now n
one_more_round (Clash f x ∷ a) now n = one_more_round a now n

last_is : (rs : List (List Event)) (r : List Event) → last_of (rs ++ r ∷ []) ≡ r
last_is [] r = refl
last_is (s ∷ []) r = refl
last_is (s ∷ t ∷ rs) r = last_is (t ∷ rs) r

pub noisy-append : (rs : List (List Event)) (r : List Event) → AreNoisy rs → 0 < noise r → AreNoisy (rs ++ r ∷ [])
noisy-append [] r p q = (q, tt)
noisy-append (s ∷ rs) r p q = (p.0, noisy-append rs r p.1 q)

-- How the rounds before this one went, and what happened in this one.
pub record InRound (es : List Event) (round : ℕ) (now : List Event) : Type 0 where
  pub before : List Event
  pub made : es ≡ before ++ Reset ∷ now
  pub whole : NoReset now
  pub noisy : AreNoisy (rounds before)
  pub count : length (rounds before) + 1 ≡ round

-- where this round had noise too, all had
pub all_noisy : (es now : List Event) (round : ℕ) → InRound es round now → 0 < noise now → AreNoisy (rounds es) × (length (rounds es) ≡ round)
all_noisy es now round i n =
    let r : rounds es ≡ rounds i.before ++ now ∷ [] = ap rounds i.made ∙ one_more_round i.before now i.whole in
    let P : List (List Event) → Type 0 = λ rs. AreNoisy rs in (
      subst P (sym r) (noisy-append (rounds i.before) now i.noisy n),
      ap length r ∙ length-append (rounds i.before) (now ∷ []) ∙ i.count,
    )

pub misses : (es now : List Event) (round : ℕ) → InRound es round now → 0 < noise now → MissesEnd now → Misses es
misses es now round i n q =
    let r : rounds es ≡ rounds i.before ++ now ∷ [] = ap rounds i.made ∙ one_more_round i.before now i.whole in
    let M : List Event → Type 0 = λ t. MissesEnd t in
    record { last = subst M (sym (ap last_of r ∙ last_is (rounds i.before) now)) q; noisy = (all_noisy es now round i n).0 }

pub gives_up : (es now : List Event) (round : ℕ) → InRound es round now → 0 < noise now → round ≡ most_rounds → GivesUp es
gives_up es now round i n e = let a : _ × _ = all_noisy es now round i n in record { all = a.1 ∙ e; noisy = a.0 }

-- the turns of SENS_REQ
abbrev pub calls : List Event → List Turn
calls es = filter (λ t. is_sens_req t.request) (turns es)

-- how many of these turns were noisy
abbrev pub noisy_count : List Turn → ℕ
noisy_count ts = length (filter is_noisy ts)

turns-append : (a b : List Event) → back_of b ≡ backs.Nothing → turns (a ++ b) ≡ turns a ++ turns b
turns-append [] b h = refl
turns-append (Reset ∷ a) b h = turns-append a b h
turns-append (Request f x ∷ a) b h =
    let K : Back → Turn = λ t. record { request = f; fate = x; back = t } in
    ap (λ t. K (back_of (a ++ b)) ∷ t) (turns-append a b h) ∙ ap (λ t. K t ∷ (turns a ++ turns b)) (back_of-append a b h)
turns-append (Answer f x ∷ a) b h = turns-append a b h
turns-append (Clash f x ∷ a) b h = turns-append a b h

pub filter-append : {X : Type 0} (p : X → Bool) (a b : List X) → filter p (a ++ b) ≡ filter p a ++ filter p b
filter-append p [] b = refl
filter-append {X = X} p (x ∷ a) b = by_test (p x) (filter-append p a b)
  where
    by_test : (v : Bool) → filter p (a ++ b) ≡ filter p a ++ filter p b → (if v then x ∷ filter p (a ++ b) else filter p (a ++ b)) ≡ (if v then x ∷ filter p a else filter p a) ++ filter p b
    by_test true e = ap (λ t. x ∷ t) e
    by_test false e = e

pub calls-append : (a b : List Event) → back_of b ≡ backs.Nothing → calls (a ++ b) ≡ calls a ++ calls b
calls-append a b h = ap (filter (λ t. is_sens_req t.request)) (turns-append a b h) ∙ filter-append (λ t. is_sens_req t.request) (turns a) (turns b)

pub count-append : (a b : List Turn) → noisy_count (a ++ b) ≡ noisy_count a + noisy_count b
count-append a b = ap length (filter-append is_noisy a b) ∙ length-append (filter is_noisy a) (filter is_noisy b)

module _ {W : Type 0} (m : AirModel W) where
  joint_whole : (j : Joint) (y : Fate) → NoReset (joint_events j y)
  joint_whole Nothing y = tt
  joint_whole (Single g) y = tt
  joint_whole (Clashing g) y = tt

  pub turn_whole : (w : W) (f : Signal) (x y : Fate) → NoReset (turn_events m w f x y)
  turn_whole w f Pass y = joint_whole (m.joint w f) y
  turn_whole w f Damage y = tt
  turn_whole w f Lose y = tt
  turn_whole w f Break y = tt

  pub turn_fresh : (w : W) (f : Signal) (x y : Fate) → back_of (turn_events m w f x y) ≡ backs.Nothing
  turn_fresh w f Pass y = refl
  turn_fresh w f Damage y = refl
  turn_fresh w f Lose y = refl
  turn_fresh w f Break y = refl

  -- the turns of one turn
  abbrev IsTurn : Signal → List Event → Type 0
  IsTurn f es = (x : Fate) × (b : Back) × (turns es ≡ record { request = f; fate = x; back = b } ∷ []) × (other_than_pass x + back_noise b ≡ noise es)

  joint_turn : (f : Signal) (j : Joint) (y : Fate) → IsTurn f (Request f Pass ∷ joint_events j y)
  joint_turn f Nothing y = (Pass, backs.Nothing, refl, omega arith)
  joint_turn f (Single g) y = (Pass, backs.Single g y, refl, omega arith)
  joint_turn f (Clashing g) y = (Pass, backs.Clashing g y, refl, omega arith)

  is_turn : (w : W) (f : Signal) (x y : Fate) → IsTurn f (turn_events m w f x y)
  is_turn w f Pass y = joint_turn f (m.joint w f) y
  is_turn w f Damage y = (Damage, backs.Nothing, refl, omega arith)
  is_turn w f Lose y = (Lose, backs.Nothing, refl, omega arith)
  is_turn w f Break y = (Break, backs.Nothing, refl, omega arith)

  -- One turn of SENS_REQ: whether it is noisy, by its noise.
  pub sens_turn : (w : W) (f : Signal) (x y : Fate) → is_sens_req f ≡ true
      → (length (calls (turn_events m w f x y)) ≡ 1) × (noisy_count (calls (turn_events m w f x y)) ≡ (if nat_lt 0 (noise (turn_events m w f x y)) then 1 else 0))
  sens_turn w f x y s =
      let k : IsTurn f (turn_events m w f x y) = is_turn w f x y in
      let t : Turn = record { request = f; fate = k.0; back = k.1 } in
      let F : List Turn → List Turn = λ ts. filter (λ u. is_sens_req u.request) ts in
      let one : calls (turn_events m w f x y) ≡ t ∷ [] = ap F k.2 ∙ ap (λ v. if v then t ∷ [] else []) s in (
        ap length one,
        ap noisy_count one ∙ count_one (nat_lt 0 (other_than_pass k.0 + back_noise k.1)) t ∙ ap (λ n. if nat_lt 0 n then 1 else 0) k.3,
      )
    where
      count_one : (v : Bool) (t : Turn) → length (if v then t ∷ [] else []) ≡ (if v then 1 else 0)
      count_one true t = refl
      count_one false t = refl

  -- no turn has more noisy turns of SENS_REQ than noise
  pub counted_turn : (w : W) (f : Signal) (x y : Fate) → noisy_count (calls (turn_events m w f x y)) ≤ noise (turn_events m w f x y)
  counted_turn w f x y = by_kind (is_sens_req f) refl
    where
      at_most : (n : ℕ) → (if nat_lt 0 n then 1 else 0) ≤ n
      at_most n = grind arith

      by_kind : (v : Bool) → is_sens_req f ≡ v → noisy_count (calls (turn_events m w f x y)) ≤ noise (turn_events m w f x y)
      by_kind true s =
          let c : noisy_count (calls (turn_events m w f x y)) ≡ (if nat_lt 0 (noise (turn_events m w f x y)) then 1 else 0) = (sens_turn w f x y s).1 in
          let l : (if nat_lt 0 (noise (turn_events m w f x y)) then 1 else 0) ≤ noise (turn_events m w f x y) = at_most (noise (turn_events m w f x y)) in
          let P : ℕ → Type 0 = λ n. n ≤ noise (turn_events m w f x y) in
          subst P (sym c) l
      by_kind false s =
          let k : IsTurn f (turn_events m w f x y) = is_turn w f x y in
          let t : Turn = record { request = f; fate = k.0; back = k.1 } in
          let F : List Turn → List Turn = λ ts. filter (λ u. is_sens_req u.request) ts in
          let none : calls (turn_events m w f x y) ≡ [] = ap F k.2 ∙ ap (λ v. if v then t ∷ [] else []) s in
          let P : ℕ → Type 0 = λ n. n ≤ noise (turn_events m w f x y) in
          subst P (sym (ap noisy_count none)) (omega arith)

-- four turns of SENS_REQ, behind others, are the last four
pub last_are : (a b : List Turn) → length b ≡ 4 → last_four (a ++ b) ≡ b
last_are a b h =
    let n : length (a ++ b) ≡ length a + length b = length-append a b in
    let k : length (a ++ b) - 4 ≡ length a = omega (arith, n, h) in
    ap (λ i. drop i (a ++ b)) k ∙ drop-front a b
