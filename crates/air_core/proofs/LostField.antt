-- What the notes of a reader tell of the field: whether it is lit, and whether a Break was used.
use Rattle.std.proofs.Common.{◌≡◌, ℕ, zero, suc, ◌+◌, ◌<◌, ◌≤◌, List, [], ◌∷◌, ◌++◌, Bool, true, false, if◌then◌else◌, Option, Some, None, refl, sym, ◌∙◌, ap, subst, arith}
use Rattle.nfc_base.specs.declared.event.Event.{Event}
use Rattle.nfc_base.specs.declared.event.Event.TheVariants.{Reset, Request, Answer, Clash}
use Rattle.nfc_base.specs.declared.event.Fate.{Fate}
use Rattle.nfc_base.specs.declared.event.Fate.TheVariants.{Pass, Damage, Lose, Break}
use Rattle.nfc_base.specs.declared.event.Heard.{Heard}
use Rattle.nfc_base.specs.Signal.{Signal}
use Rattle.nfc_base.specs.Trace.{breaks, noise, of_break, other_than_pass, heard_by}
use Rattle.air_core.specs.Joint.{Joint, Nothing, Single, Clashing}
use Rattle.air_core.specs.World.{Machine, World, quiet_air, stepped}
use Rattle.air_core.specs.Conversation.{Note, Lit, Got, Lost, note, Next, Moment, Going, replay, receptions, joint_events, joint_back, turn_events, turn_heard, Move, Light, Ask, trace_of}
use Rattle.air_core.specs.laws.Turning.{replay-append}
use Rattle.air_core.proofs.Following.{trace_first, turn_known}

-- whether a field is lit, by what is known since
abbrev pub lit_by : Bool → List Note → Bool
lit_by v [] = v
lit_by v (Lit ∷ ns) = lit_by true ns
lit_by v (Got h ∷ ns) = lit_by v ns
lit_by v (Lost ∷ ns) = lit_by false ns

-- the field was lost
abbrev pub HasLost : List Note → Type 0
HasLost [] = ⊥
HasLost (Lit ∷ ns) = HasLost ns
HasLost (Got h ∷ ns) = HasLost ns
HasLost (Lost ∷ ns) = Unit {0}

abbrev pub lit_heard : Bool → Option Heard → Bool
lit_heard v None = false
lit_heard v (Some h) = v

pub breaks-append : (a b : List Event) → breaks (a ++ b) ≡ breaks a + breaks b
breaks-append [] b = (let q : breaks b ≡ 0 + breaks b = omega arith in q)
breaks-append (Reset ∷ a) b = breaks-append a b
breaks-append (Request f x ∷ a) b = ap (λ n. of_break x + n) (breaks-append a b) ∙ (let q : of_break x + (breaks a + breaks b) ≡ (of_break x + breaks a) + breaks b = omega arith in q)
breaks-append (Answer f x ∷ a) b = ap (λ n. of_break x + n) (breaks-append a b) ∙ (let q : of_break x + (breaks a + breaks b) ≡ (of_break x + breaks a) + breaks b = omega arith in q)
breaks-append (Clash f x ∷ a) b = ap (λ n. of_break x + n) (breaks-append a b) ∙ (let q : of_break x + (breaks a + breaks b) ≡ (of_break x + breaks a) + breaks b = omega arith in q)

-- a transmission that lost the field didn't pass
pub break_noise : (x : Fate) → of_break x ≤ other_than_pass x
break_noise Pass = omega arith
break_noise Damage = omega arith
break_noise Lose = omega arith
break_noise Break = omega arith

pub breaks_noise : (es : List Event) → breaks es ≤ noise es
breaks_noise [] = omega arith
breaks_noise (Reset ∷ es) = breaks_noise es
breaks_noise (Request f x ∷ es) = let a = break_noise x in let b = breaks_noise es in omega (arith, a, b)
breaks_noise (Answer g x ∷ es) = let a = break_noise x in let b = breaks_noise es in omega (arith, a, b)
breaks_noise (Clash g x ∷ es) = let a = break_noise x in let b = breaks_noise es in omega (arith, a, b)

module _ {L : Type 0} (m : Machine L) where
  abbrev pub over : List Event → World L → World L
  over es w = replay (quiet_air m) w es

  back_lit : (w : World L) (j : Joint) (y : Fate) → (over (joint_events j y) w).lit ≡ lit_heard w.lit (heard_by Pass (joint_back j y))
  back_lit w Nothing y = refl
  back_lit w (Single g) Pass = refl
  back_lit w (Single g) Damage = refl
  back_lit w (Single g) Lose = refl
  back_lit w (Single g) Break = refl
  back_lit w (Clashing g) Pass = refl
  back_lit w (Clashing g) Damage = refl
  back_lit w (Clashing g) Lose = refl
  back_lit w (Clashing g) Break = refl

  -- a turn leaves the field lit unless it loses it
  pub turn_lit : (w : World L) (f : Signal) (x y : Fate) → (over (turn_events (quiet_air m) w f x y) w).lit ≡ lit_heard w.lit (turn_heard (quiet_air m) w f x y)
  turn_lit w f Pass y = back_lit (stepped m w f) ((quiet_air m).joint w f) y
  turn_lit w f Damage y = refl
  turn_lit w f Lose y = refl
  turn_lit w f Break y = refl

  back_breaks : (j : Joint) (y : Fate) → 0 < breaks (joint_events j y) → heard_by Pass (joint_back j y) ≡ None
  back_breaks Nothing y h = absurd (omega (arith, h))
  back_breaks (Single g) Pass h = absurd (omega (arith, h))
  back_breaks (Single g) Damage h = absurd (omega (arith, h))
  back_breaks (Single g) Lose h = absurd (omega (arith, h))
  back_breaks (Single g) Break h = refl
  back_breaks (Clashing g) Pass h = absurd (omega (arith, h))
  back_breaks (Clashing g) Damage h = absurd (omega (arith, h))
  back_breaks (Clashing g) Lose h = absurd (omega (arith, h))
  back_breaks (Clashing g) Break h = refl

  -- a Break loses the field
  pub turn_breaks : (w : World L) (f : Signal) (x y : Fate) → 0 < breaks (turn_events (quiet_air m) w f x y) → turn_heard (quiet_air m) w f x y ≡ None
  turn_breaks w f Pass y h = back_breaks ((quiet_air m).joint w f) y (omega (arith, h))
  turn_breaks w f Damage y h = absurd (omega (arith, h))
  turn_breaks w f Lose y h = absurd (omega (arith, h))
  turn_breaks w f Break y h = refl

  lit_onward : (v : Bool) (h : Option Heard) (ns : List Note) → lit_by (lit_heard v h) ns ≡ lit_by v (note h ∷ ns)
  lit_onward v None ns = refl
  lit_onward v (Some h) ns = refl

  abbrev behind : World L → Signal → Fate → Fate → List (Move (quiet_air m)) → List Event
  behind w f x y ks = trace_of (quiet_air m) (over (turn_events (quiet_air m) w f x y) w) ks

  abbrev IsLitBy : World L → List Event → Type 0
  IsLitBy w es = (over es w).lit ≡ lit_by w.lit (receptions es)

  turn_then : (w : World L) (f : Signal) (x y : Fate) (es : List Event) → over (turn_events (quiet_air m) w f x y ++ es) w ≡ over es (over (turn_events (quiet_air m) w f x y) w)
  turn_then w f x y es = replay-append (quiet_air m) w (turn_events (quiet_air m) w f x y) es

  lit_turn : (w : World L) (f : Signal) (x y : Fate) (ks : List (Move (quiet_air m))) → IsLitBy (over (turn_events (quiet_air m) w f x y) w) (behind w f x y ks)
      → IsLitBy w (turn_events (quiet_air m) w f x y ++ behind w f x y ks)
  lit_turn w f x y ks later =
      let a = quiet_air m in
      let t : List Event = turn_events a w f x y in
      let rest : List Event = behind w f x y ks in
      ap (λ (u : World L). u.lit) (turn_then w f x y rest) ∙ later
      ∙ ap (λ v. lit_by v (receptions rest)) (turn_lit w f x y) ∙ lit_onward w.lit (turn_heard a w f x y) (receptions rest)
      ∙ ap (lit_by w.lit) (sym (turn_known a w f x y rest (trace_first a (over t w) ks)))

  lit_after : (ks : List (Move (quiet_air m))) (w : World L) → IsLitBy w (trace_of (quiet_air m) w ks)
  lit_after [] w = refl
  lit_after (Light ∷ ks) w = lit_after ks ((quiet_air m).happens w Reset)
  lit_after (Ask f x y ∷ ks) w = by_light w.lit (lit_after ks w) (lit_turn w f x y ks (lit_after ks (over (turn_events (quiet_air m) w f x y) w)))
    where
      by_light : (v : Bool) → IsLitBy w (trace_of (quiet_air m) w ks) → IsLitBy w (turn_events (quiet_air m) w f x y ++ behind w f x y ks)
          → IsLitBy w ((if v then turn_events (quiet_air m) w f x y else []) ++ trace_of (quiet_air m) (over (if v then turn_events (quiet_air m) w f x y else []) w) ks)
      by_light false same turn = same
      by_light true same turn = turn

  Breaking : List Event → Type 0
  Breaking es = 0 < breaks es → HasLost (receptions es)

  lost_first : (h : Option Heard) (ns : List Note) → h ≡ None → HasLost (note h ∷ ns)
  lost_first h ns e = let P : Option Heard → Type 0 = λ o. HasLost (note o ∷ ns) in subst P (sym e) tt

  lost_later : (h : Option Heard) (ns : List Note) → HasLost ns → HasLost (note h ∷ ns)
  lost_later None ns l = tt
  lost_later (Some h) ns l = l

  breaks_turn : (w : World L) (f : Signal) (x y : Fate) (ks : List (Move (quiet_air m))) → Breaking (behind w f x y ks) → Breaking (turn_events (quiet_air m) w f x y ++ behind w f x y ks)
  unfolding Breaking
  breaks_turn w f x y ks later some =
      let a = quiet_air m in
      let t : List Event = turn_events a w f x y in
      let rest : List Event = behind w f x y ks in
      let sum : breaks (t ++ rest) ≡ breaks t + breaks rest = breaks-append t rest in
      subst HasLost (sym (turn_known a w f x y rest (trace_first a (over t w) ks))) (by_turn (breaks t) refl sum)
    where
      by_turn : (n : ℕ) → breaks (turn_events (quiet_air m) w f x y) ≡ n
          → breaks (turn_events (quiet_air m) w f x y ++ behind w f x y ks) ≡ breaks (turn_events (quiet_air m) w f x y) + breaks (behind w f x y ks)
          → HasLost (note (turn_heard (quiet_air m) w f x y) ∷ receptions (behind w f x y ks))
      by_turn zero n sum = lost_later (turn_heard (quiet_air m) w f x y) (receptions (behind w f x y ks)) (later (omega (arith, some, sum, n)))
      by_turn (suc k) n sum = lost_first (turn_heard (quiet_air m) w f x y) (receptions (behind w f x y ks)) (turn_breaks w f x y (omega (arith, n)))

  lost_of : (ks : List (Move (quiet_air m))) (w : World L) → Breaking (trace_of (quiet_air m) w ks)
  unfolding Breaking
  lost_of [] w h = absurd (omega (arith, h))
  lost_of (Light ∷ ks) w h = lost_of ks ((quiet_air m).happens w Reset) h
  lost_of (Ask f x y ∷ ks) w h = by_light w.lit (lost_of ks w) (breaks_turn w f x y ks (lost_of ks (over (turn_events (quiet_air m) w f x y) w))) h
    where
      by_light : (v : Bool) → Breaking (trace_of (quiet_air m) w ks) → Breaking (turn_events (quiet_air m) w f x y ++ behind w f x y ks)
          → Breaking ((if v then turn_events (quiet_air m) w f x y else []) ++ trace_of (quiet_air m) (over (if v then turn_events (quiet_air m) w f x y else []) w) ks)
      by_light false same turn = same
      by_light true same turn = turn

  -- whether the field is lit at the end, by what is known
  pub going_lit : (next : List Note → Next) (a b : Moment (World L)) (ns : List Note) → Going (quiet_air m) next a b ns → b.world.lit ≡ lit_by a.world.lit ns
  going_lit next a b ns g =
      let P : List Event → Type 0 = λ es. IsLitBy a.world es in
      ap (λ (x : Moment (World L)). x.world.lit) g.moment ∙ subst P (sym g.turns.made) (lit_after g.turns.moves a.world) ∙ ap (lit_by a.world.lit) g.known

  -- a Break is known as the loss of the field
  pub going_lost : (next : List Note → Next) (a b : Moment (World L)) (ns : List Note) (g : Going (quiet_air m) next a b ns) → 0 < breaks g.events → HasLost ns
  unfolding Breaking
  going_lost next a b ns g h =
      let P : List Event → Type 0 = λ es. 0 < breaks es → HasLost (receptions es) in
      subst HasLost g.known (subst P (sym g.turns.made) (lost_of g.turns.moves a.world) h)
