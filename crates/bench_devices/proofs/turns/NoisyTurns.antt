-- Noise of a trace, by transmissions and by turns: a turn has at most one transmission with noise.
use Rattle.std.proofs.Common.{◌≡◌, ℕ, suc, ◌+◌, ◌<◌, ◌≤◌, List, [], ◌∷◌, ◌++◌, length, Bool, true, false, ◌&&◌, if◌then◌else◌, nat_lt, ◌==◌, nat_eq, refl, sym, ◌∙◌, ap, subst, arith, ◌⊎◌, inl, inr}
use Rattle.std.specs.Prelude.{filter}
use Rattle.std.specs.Cmp.Lexicographic.{pointwise}
use Rattle.std.proofs.lemmas.List.{length-append}
use Rattle.nfca_poll.proofs.quiet.OneLevel.{pointwise_self}
use Rattle.nfc_base.specs.Signal.{Signal}
use Rattle.nfc_base.specs.Trace.{Turn, turns, noise, back_of, other_than_pass}
use Rattle.nfc_base.specs.Trace as backs
use Rattle.nfc_base.specs.declared.event.Event.{Event}
use Rattle.nfc_base.specs.declared.event.Event.TheVariants.{Reset, Request, Answer, Clash}
use Rattle.nfc_base.specs.declared.event.Fate.{Fate}
use Rattle.nfc_base.specs.declared.event.Fate.TheVariants.{Pass, Damage, Lose, Break}
use Rattle.air_core.specs.Joint.{Joint, Nothing, Single, Clashing, same_tech, same_signal}
use Rattle.air_core.specs.Conversation.{AirModel, AreTurns, Move, Light, Ask, trace_of, replay, turn_events, joint_events, move_events}
use Rattle.air_core.specs.laws.Turning.{back_of-append}
use Rattle.air_core.proofs.Following.{trace_first}
use Rattle.nfca_poll.specs.Crowd.{Each}
use Rattle.nfca_poll.specs.RoundTrace.{rounds, up_to_reset, last_of, is_noisy, MissesEnd, AreNoisy, Misses, GivesUp, last_four}
use Rattle.nfca_poll.specs.Counting.{is_sens_req}
use Rattle.bench_devices.specs.Noise.{noisy_turns, noisy_tries, is_call, MissedRound, GaveUp}
use Rattle.bench_devices.specs.Keeping.{EachAsked}
use Rattle.bench_devices.proofs.finding.Unmoved.{OnlyAsks}

abbrev IsOne : (Signal → Bool) → Signal → Type 0
IsOne is_one f = is_one f ≡ true

-- what is counted of one turn
abbrev of_turn : (Signal → Bool) → Turn → ℕ
of_turn is_one t = if is_noisy t && is_one t.request then 1 else 0

count_first : (is_one : Signal → Bool) (t : Turn) (ts : List Turn) → length (filter (λ u. is_noisy u && is_one u.request) (t ∷ ts))
    ≡ of_turn is_one t + length (filter (λ u. is_noisy u && is_one u.request) ts)
count_first is_one t ts = by_one (is_noisy t && is_one t.request)
  where
    by_one : (v : Bool) → length (if v then t ∷ filter (λ u. is_noisy u && is_one u.request) ts else filter (λ u. is_noisy u && is_one u.request) ts)
        ≡ (if v then 1 else 0) + length (filter (λ u. is_noisy u && is_one u.request) ts)
    by_one true = omega arith
    by_one false = omega arith

module _ (is_one : Signal → Bool) where
  plus_none : (n : ℕ) → 0 + n ≡ n
  plus_none n = omega arith

  module _ {W : Type 0} (m : AirModel W) where
    -- a turn in front of others
    joint_count : (f : Signal) (j : Joint) (y : Fate) (t : List Event) → is_one f ≡ true → back_of t ≡ backs.Nothing → noise t ≡ noisy_turns is_one t
        → noise (Request f Pass ∷ joint_events j y ++ t) ≡ noisy_turns is_one (Request f Pass ∷ joint_events j y ++ t)
    joint_count f Nothing y t one fresh same =
        plus_none (noise t) ∙ same ∙ sym (plus_none (noisy_turns is_one t)) ∙ sym (count_first is_one (record { request = f; fate = Pass; back = back_of t }) (turns t)
        ∙ ap (λ b. of_turn is_one (record { request = f; fate = Pass; back = b }) + noisy_turns is_one t) fresh)
    joint_count f (Single g) y t one fresh same = plus_none (other_than_pass y + noise t) ∙ joint_single f g y t one same
      where
        joint_single : (f g : Signal) (y : Fate) (t : List Event) → is_one f ≡ true → noise t ≡ noisy_turns is_one t
            → other_than_pass y + noise t ≡ noisy_turns is_one (Request f Pass ∷ Answer g y ∷ t)
        joint_single f g Pass t one same = plus_none (noise t) ∙ same
        joint_single f g Damage t one same =
            ap (λ n. 1 + n) same ∙ sym (count_first is_one (record { request = f; fate = Pass; back = backs.Single g Damage }) (turns t) ∙ ap (λ v. (if v then 1 else 0) + noisy_turns is_one t) one)
        joint_single f g Lose t one same =
            ap (λ n. 1 + n) same ∙ sym (count_first is_one (record { request = f; fate = Pass; back = backs.Single g Lose }) (turns t) ∙ ap (λ v. (if v then 1 else 0) + noisy_turns is_one t) one)
        joint_single f g Break t one same =
            ap (λ n. 1 + n) same ∙ sym (count_first is_one (record { request = f; fate = Pass; back = backs.Single g Break }) (turns t) ∙ ap (λ v. (if v then 1 else 0) + noisy_turns is_one t) one)
    joint_count f (Clashing g) y t one fresh same = plus_none (other_than_pass y + noise t) ∙ joint_clash f g y t one same
      where
        joint_clash : (f g : Signal) (y : Fate) (t : List Event) → is_one f ≡ true → noise t ≡ noisy_turns is_one t → other_than_pass y + noise t ≡ noisy_turns is_one (Request f Pass ∷ Clash g y ∷ t)
        joint_clash f g Pass t one same = plus_none (noise t) ∙ same
        joint_clash f g Damage t one same =
            ap (λ n. 1 + n) same ∙ sym (count_first is_one (record { request = f; fate = Pass; back = backs.Clashing g Damage }) (turns t) ∙ ap (λ v. (if v then 1 else 0) + noisy_turns is_one t) one)
        joint_clash f g Lose t one same =
            ap (λ n. 1 + n) same ∙ sym (count_first is_one (record { request = f; fate = Pass; back = backs.Clashing g Lose }) (turns t) ∙ ap (λ v. (if v then 1 else 0) + noisy_turns is_one t) one)
        joint_clash f g Break t one same =
            ap (λ n. 1 + n) same ∙ sym (count_first is_one (record { request = f; fate = Pass; back = backs.Clashing g Break }) (turns t) ∙ ap (λ v. (if v then 1 else 0) + noisy_turns is_one t) one)

    lost_count : (f : Signal) (x : Fate) (t : List Event) → is_one f ≡ true → (nat_lt 0 (other_than_pass x + 0) ≡ true) → other_than_pass x ≡ 1 → back_of t ≡ backs.Nothing
        → noise t ≡ noisy_turns is_one t
        → noise (Request f x ∷ t) ≡ noisy_turns is_one (Request f x ∷ t)
    lost_count f x t one noisy count fresh same =
        ap (λ n. n + noise t) count ∙ ap (λ n. 1 + n) same
        ∙ sym (count_first is_one (record { request = f; fate = x; back = back_of t }) (turns t) ∙ ap (λ b. of_turn is_one (record { request = f; fate = x; back = b }) + noisy_turns is_one t) fresh
        ∙ ap (λ v. (if v && is_one f then 1 else 0) + noisy_turns is_one t) noisy ∙ ap (λ v. (if v then 1 else 0) + noisy_turns is_one t) one)

    turn_count : (w : W) (f : Signal) (x y : Fate) (t : List Event) → is_one f ≡ true → back_of t ≡ backs.Nothing → noise t ≡ noisy_turns is_one t
        → noise (turn_events m w f x y ++ t) ≡ noisy_turns is_one (turn_events m w f x y ++ t)
    turn_count w f Pass y t one fresh same = joint_count f (m.joint w f) y t one fresh same
    turn_count w f Damage y t one fresh same = lost_count f Damage t one refl refl fresh same
    turn_count w f Lose y t one fresh same = lost_count f Lose t one refl refl fresh same
    turn_count w f Break y t one fresh same = lost_count f Break t one refl refl fresh same

    -- which requests a turn and what stands behind it have
    joint_asked : (j : Joint) (y : Fate) (t : List Event) → EachAsked (IsOne is_one) (joint_events j y ++ t) → EachAsked (IsOne is_one) t
    joint_asked Nothing y t h = h
    joint_asked (Single g) y t h = h
    joint_asked (Clashing g) y t h = h

    turn_asked : (w : W) (f : Signal) (x y : Fate) (t : List Event) → EachAsked (IsOne is_one) (turn_events m w f x y ++ t) → (is_one f ≡ true) × EachAsked (IsOne is_one) t
    turn_asked w f Pass y t h = (h.0, joint_asked (m.joint w f) y t h.1)
    turn_asked w f Damage y t h = h
    turn_asked w f Lose y t h = h
    turn_asked w f Break y t h = h

    -- a turn stands in one round
    joint_up_to : (j : Joint) (y : Fate) (t : List Event) → up_to_reset (joint_events j y ++ t) ≡ joint_events j y ++ up_to_reset t
    joint_up_to Nothing y t = refl
    joint_up_to (Single g) y t = refl
    joint_up_to (Clashing g) y t = refl

    turn_up_to : (w : W) (f : Signal) (x y : Fate) (t : List Event) → up_to_reset (turn_events m w f x y ++ t) ≡ turn_events m w f x y ++ up_to_reset t
    turn_up_to w f Pass y t = ap (λ es. Request f Pass ∷ es) (joint_up_to (m.joint w f) y t)
    turn_up_to w f Damage y t = refl
    turn_up_to w f Lose y t = refl
    turn_up_to w f Break y t = refl

    joint_rounds : (j : Joint) (y : Fate) (t : List Event) → rounds (joint_events j y ++ t) ≡ rounds t
    joint_rounds Nothing y t = refl
    joint_rounds (Single g) y t = refl
    joint_rounds (Clashing g) y t = refl

    turn_rounds : (w : W) (f : Signal) (x y : Fate) (t : List Event) → rounds (turn_events m w f x y ++ t) ≡ rounds t
    turn_rounds w f Pass y t = joint_rounds (m.joint w f) y t
    turn_rounds w f Damage y t = refl
    turn_rounds w f Lose y t = refl
    turn_rounds w f Break y t = refl

    up_to_fresh : (t : List Event) → back_of t ≡ backs.Nothing → back_of (up_to_reset t) ≡ backs.Nothing
    up_to_fresh [] h = refl
    up_to_fresh (Reset ∷ t) h = refl
    up_to_fresh (Request f x ∷ t) h = refl
    up_to_fresh (Answer g x ∷ t) h = h
    up_to_fresh (Clash g x ∷ t) h = h

    -- What is counted of a trace: of all of it, up to its first reset, and of each of its rounds.
    record IsCounted (es : List Event) : Type 0 where
      pub all : noise es ≡ noisy_turns is_one es
      pub first : noise (up_to_reset es) ≡ noisy_turns is_one (up_to_reset es)
      pub each : AreNoisy (rounds es) → Each (λ r. 0 < noisy_turns is_one r) (rounds es)

    abbrev Behind : W → Move m → List (Move m) → List Event
    Behind w k ks = trace_of m (replay m w (move_events m w k)) ks

    reset_counted : (t : List Event) → IsCounted t → IsCounted (Reset ∷ t)
    reset_counted t c = record { all = c.all; first = refl; each = λ h. (subst (λ n. 0 < n) c.first h.0, c.each h.1) }

    turn_counted : (w : W) (f : Signal) (x y : Fate) (t : List Event) → is_one f ≡ true → back_of t ≡ backs.Nothing → IsCounted t → IsCounted (turn_events m w f x y ++ t)
    turn_counted w f x y t one fresh c = record {
      all = turn_count w f x y t one fresh c.all;
      first = ap noise (turn_up_to w f x y t) ∙ turn_count w f x y (up_to_reset t) one (up_to_fresh t fresh) c.first ∙ sym (ap (noisy_turns is_one) (turn_up_to w f x y t));
      each = λ h. subst (λ rs. Each (λ r. 0 < noisy_turns is_one r) rs) (sym (turn_rounds w f x y t)) (c.each (subst AreNoisy (turn_rounds w f x y t) h));
    }

    ask_counted : (v : Bool) (w : W) (f : Signal) (x y : Fate) (t : List Event) → back_of t ≡ backs.Nothing → (EachAsked (IsOne is_one) t → IsCounted t)
        → EachAsked (IsOne is_one) ((if v then turn_events m w f x y else []) ++ t) → IsCounted ((if v then turn_events m w f x y else []) ++ t)
    ask_counted true w f x y t fresh c h = let k = turn_asked w f x y t h in turn_counted w f x y t k.0 fresh (c k.1)
    ask_counted false w f x y t fresh c h = c h

    trace_counted : (w : W) (ks : List (Move m)) → EachAsked (IsOne is_one) (trace_of m w ks) → IsCounted (trace_of m w ks)
    trace_counted w [] h = record { all = refl; first = refl; each = λ k. k }
    trace_counted w (Light ∷ ks) h = reset_counted (Behind w Light ks) (trace_counted (replay m w (move_events m w Light)) ks h)
    trace_counted w (Ask f x y ∷ ks) h =
        ask_counted (m.lit w) w f x y (Behind w (Ask f x y) ks) (trace_first m (replay m w (move_events m w (Ask f x y))) ks)
        (λ k. trace_counted (replay m w (move_events m w (Ask f x y))) ks k) h

    -- Where all requests are of these, a trace has as many noisy turns as transmissions with noise.
    pub counts_same : (w : W) (es : List Event) → AreTurns m w es → EachAsked (IsOne is_one) es → noise es ≡ noisy_turns is_one es
    counts_same w es t h =
        let c : IsCounted (trace_of m w t.moves) = trace_counted w t.moves (subst (EachAsked (IsOne is_one)) t.made h) in
        subst (λ x. noise x ≡ noisy_turns is_one x) (sym t.made) c.all

    -- ... and each of its rounds that had noise had a noisy turn of these
    pub rounds_same : (w : W) (es : List Event) → AreTurns m w es → EachAsked (IsOne is_one) es → AreNoisy (rounds es) → Each (λ r. 0 < noisy_turns is_one r) (rounds es)
    rounds_same w es t h noisy =
        let c : IsCounted (trace_of m w t.moves) = trace_counted w t.moves (subst (EachAsked (IsOne is_one)) t.made h) in
        let P : List Event → Type 0 = λ x. Each (λ r. 0 < noisy_turns is_one r) (rounds x) in
        subst P (sym t.made) (c.each (subst (λ x. AreNoisy (rounds x)) t.made noisy))

-- rounds that missed their end, or were given up, by their calls
pub missed_calls : {W : Type 0} (m : AirModel W) (w : W) (es : List Event) → AreTurns m w es → EachAsked (IsOne is_call) es → Misses es → MissedRound es
missed_calls m w es t h miss = record { last = miss.last; noisy = rounds_same is_call m w es t h miss.noisy }

pub gave_up_calls : {W : Type 0} (m : AirModel W) (w : W) (es : List Event) → AreTurns m w es → EachAsked (IsOne is_call) es → GivesUp es → GaveUp es
gave_up_calls m w es t h up = record { all = up.all; noisy = rounds_same is_call m w es t h up.noisy }

-- a request is itself
same_self : (f : Signal) → same_tech f.tech f.tech ≡ true → same_signal f f ≡ true
same_self f t = ap (λ v. (v && (f.tail == f.tail)) && pointwise nat_eq f.bytes f.bytes) t ∙ ap (λ v. v && pointwise nat_eq f.bytes f.bytes) (eq_self f.tail) ∙ pointwise_self f.bytes
  where
    eq_self : (n : ℕ) → (n == n) ≡ true
    eq_self n = grind arith

only_asked : (f : Signal) (es : List Event) → same_signal f f ≡ true → OnlyAsks f es → EachAsked (IsOne (λ g. same_signal f g)) es
only_asked f [] s h = tt
only_asked f (Reset ∷ es) s h = absurd h
only_asked f (Request g x ∷ es) s h = (subst (λ k. same_signal f k ≡ true) (sym h.0) s, only_asked f es s h.1)
only_asked f (Answer g x ∷ es) s h = only_asked f es s h
only_asked f (Clash g x ∷ es) s h = only_asked f es s h

-- Where one request is made alone, its tries with noise are the transmissions with noise.
pub tries_same : {W : Type 0} (m : AirModel W) (w : W) (f : Signal) (es : List Event) → same_tech f.tech f.tech ≡ true → AreTurns m w es → OnlyAsks f es → noise es ≡ noisy_tries f es
tries_same m w f es t turns only = counts_same (λ g. same_signal f g) m w es turns (only_asked f es (same_self f t) only)

-- Such events stand in one round.
pub only_up_to : (f : Signal) (es : List Event) → OnlyAsks f es → up_to_reset es ≡ es
only_up_to f [] h = refl
only_up_to f (Reset ∷ es) h = absurd h
only_up_to f (Request g x ∷ es) h = ap (λ t. Request g x ∷ t) (only_up_to f es h.1)
only_up_to f (Answer g x ∷ es) h = ap (λ t. Answer g x ∷ t) (only_up_to f es h)
only_up_to f (Clash g x ∷ es) h = ap (λ t. Clash g x ∷ t) (only_up_to f es h)

pub only_no_round : (f : Signal) (es : List Event) → OnlyAsks f es → rounds es ≡ []
only_no_round f [] h = refl
only_no_round f (Reset ∷ es) h = absurd h
only_no_round f (Request g x ∷ es) h = only_no_round f es h.1
only_no_round f (Answer g x ∷ es) h = only_no_round f es h
only_no_round f (Clash g x ∷ es) h = only_no_round f es h

pub only_no_sens : (f : Signal) (es : List Event) → is_sens_req f ≡ false → OnlyAsks f es → filter (λ t. is_sens_req t.request) (turns es) ≡ []
only_no_sens f [] none h = refl
only_no_sens f (Reset ∷ es) none h = absurd h
only_no_sens f (Request g x ∷ es) none h =
    let p : Turn → Bool = λ t. is_sens_req t.request in
    let t : Turn = record { request = g; fate = x; back = back_of es } in
    ap (λ v. if v then t ∷ filter p (turns es) else filter p (turns es)) (ap is_sens_req h.0 ∙ none) ∙ only_no_sens f es none h.1
only_no_sens f (Answer g x ∷ es) none h = only_no_sens f es none h
only_no_sens f (Clash g x ∷ es) none h = only_no_sens f es none h

-- Events that follow others, and are turns without a reset.
turns_then : (a b : List Event) → back_of b ≡ backs.Nothing → turns (a ++ b) ≡ turns a ++ turns b
turns_then [] b fresh = refl
turns_then (Reset ∷ a) b fresh = turns_then a b fresh
turns_then (Request f x ∷ a) b fresh =
    ap (λ k. record { request = f; fate = x; back = k } ∷ turns (a ++ b)) (back_of-append a b fresh) ∙ ap (λ ts. record { request = f; fate = x; back = back_of a } ∷ ts) (turns_then a b fresh)
turns_then (Answer g x ∷ a) b fresh = turns_then a b fresh
turns_then (Clash g x ∷ a) b fresh = turns_then a b fresh

filter_then : {X : Type 0} (p : X → Bool) (xs ys : List X) → filter p (xs ++ ys) ≡ filter p xs ++ filter p ys
filter_then p [] ys = refl
filter_then p (x ∷ xs) ys = by_one (p x) (filter_then p xs ys)
  where
    by_one : (v : Bool) → filter p (xs ++ ys) ≡ filter p xs ++ filter p ys → (if v then x ∷ filter p (xs ++ ys) else filter p (xs ++ ys)) ≡ (if v then x ∷ filter p xs else filter p xs) ++ filter p ys
    by_one true h = ap (λ zs. x ∷ zs) h
    by_one false h = h

-- what two parts count together
pub noisy_then : (is_one : Signal → Bool) (a b : List Event) → back_of b ≡ backs.Nothing → noisy_turns is_one (a ++ b) ≡ noisy_turns is_one a + noisy_turns is_one b
noisy_then is_one a b fresh =
    let p : Turn → Bool = λ t. is_noisy t && is_one t.request in
    ap (λ ts. length (filter p ts)) (turns_then a b fresh) ∙ ap length (filter_then p (turns a) (turns b)) ∙ length-append (filter p (turns a)) (filter p (turns b))

no_less : (m n k : ℕ) → m ≡ n + k → 0 < n → 0 < m
no_less m n k e h = omega (arith, e, h)

pub at_least : (m n k t : ℕ) → m ≡ n + k → t ≤ k → t ≤ m
at_least m n k t e h = omega (arith, e, h)

-- The last part stands in the last round.
module _ (b : List Event) (fresh : back_of b ≡ backs.Nothing) (one : up_to_reset b ≡ b) (none : rounds b ≡ []) where
  -- the events up to the next reset, or it stands in none
  up_to_then : (a : List Event) → ((up_to_reset (a ++ b) ≡ up_to_reset a ++ b) × (rounds (a ++ b) ≡ []) × (rounds a ≡ [])) ⊎ ((up_to_reset (a ++ b) ≡ up_to_reset a) × (Unit {0}))
  up_to_then [] = inl (one, none, refl)
  up_to_then (Reset ∷ a) = inr (refl, tt)
  up_to_then (Request f x ∷ a) = elim (up_to_then a) [
    | inl h ↦ inl (ap (λ es. Request f x ∷ es) h.0, h.1, h.2)
    | inr h ↦ inr (ap (λ es. Request f x ∷ es) h.0, tt)
  ]
  up_to_then (Answer g x ∷ a) = elim (up_to_then a) [
    | inl h ↦ inl (ap (λ es. Answer g x ∷ es) h.0, h.1, h.2)
    | inr h ↦ inr (ap (λ es. Answer g x ∷ es) h.0, tt)
  ]
  up_to_then (Clash g x ∷ a) = elim (up_to_then a) [
    | inl h ↦ inl (ap (λ es. Clash g x ∷ es) h.0, h.1, h.2)
    | inr h ↦ inr (ap (λ es. Clash g x ∷ es) h.0, tt)
  ]

  -- what holds of each round, and stays with more behind it
  pub each_then : (P : List Event → Type 0) → ((r : List Event) → P r → P (r ++ b)) → (a : List Event) → Each P (rounds a) → Each P (rounds (a ++ b))
  each_then P stays [] h = subst (Each P) (sym none) tt
  each_then P stays (Reset ∷ a) h = (by_end (up_to_then a), each_then P stays a h.1)
    where
      by_end : ((up_to_reset (a ++ b) ≡ up_to_reset a ++ b) × (rounds (a ++ b) ≡ []) × (rounds a ≡ [])) ⊎ ((up_to_reset (a ++ b) ≡ up_to_reset a) × (Unit {0})) → P (up_to_reset (a ++ b))
      by_end (inl e) = subst P (sym e.0) (stays (up_to_reset a) h.0)
      by_end (inr e) = subst P (sym e.0) h.0
  each_then P stays (Request f x ∷ a) h = each_then P stays a h
  each_then P stays (Answer g x ∷ a) h = each_then P stays a h
  each_then P stays (Clash g x ∷ a) h = each_then P stays a h

  pub many_then : (a : List Event) → length (rounds (a ++ b)) ≡ length (rounds a)
  many_then [] = ap length none
  many_then (Reset ∷ a) = ap suc (many_then a)
  many_then (Request f x ∷ a) = many_then a
  many_then (Answer g x ∷ a) = many_then a
  many_then (Clash g x ∷ a) = many_then a

  last_behind : (P : List Event → Type 0) (r : List Event) (rs : List (List Event)) → P (last_of (r ∷ rs)) → (rs ≡ [] → P r) × ((rs ≡ [] → ⊥) → P (last_of rs))
  last_behind P r [] h = (λ e. h, λ k. absurd (k refl))
  last_behind P r (s ∷ rs) h = (λ e. absurd cc, λ k. h)

  last_from : (P : List Event → Type 0) (r : List Event) (rs : List (List Event)) → (rs ≡ [] → P r) → ((rs ≡ [] → ⊥) → P (last_of rs)) → P (last_of (r ∷ rs))
  last_from P r [] one more = one refl
  last_from P r (s ∷ rs) one more = more (λ e. let k : ◌≡◌ {A = List (List Event)} (s ∷ rs) [] = e in cc)

  none_left : (n m : ℕ) → n ≡ m → n ≡ 0 → m ≡ 0
  none_left n m e h = omega (arith, e, h)

  no_rounds : (rs : List (List Event)) → length rs ≡ 0 → rs ≡ []
  no_rounds [] h = refl
  no_rounds (r ∷ rs) h = absurd (omega (arith, h))

  same_none : (a : List Event) → rounds (a ++ b) ≡ [] → rounds a ≡ []
  same_none a h = no_rounds (rounds a) (none_left (length (rounds (a ++ b))) (length (rounds a)) (many_then a) (ap length h))

  other_none : (a : List Event) → rounds a ≡ [] → rounds (a ++ b) ≡ []
  other_none a h = no_rounds (rounds (a ++ b)) (none_left (length (rounds a)) (length (rounds (a ++ b))) (sym (many_then a)) (ap length h))

  -- what holds of the last round
  pub last_then : (P : List Event → Type 0) → ((r : List Event) → P r → P (r ++ b)) → (P [] → ⊥) → (a : List Event) → P (last_of (rounds a)) → P (last_of (rounds (a ++ b)))
  last_then P stays empty [] h = absurd (empty h)
  last_then P stays empty (Reset ∷ a) h =
      let k = last_behind P (up_to_reset a) (rounds a) h in
      last_from P (up_to_reset (a ++ b)) (rounds (a ++ b)) (λ e. by_end (up_to_then a) (k.0 (same_none a e))) (λ more. last_then P stays empty a (k.1 (λ e. more (other_none a e))))
    where
      by_end : ((up_to_reset (a ++ b) ≡ up_to_reset a ++ b) × (rounds (a ++ b) ≡ []) × (rounds a ≡ [])) ⊎ ((up_to_reset (a ++ b) ≡ up_to_reset a) × (Unit {0})) → P (up_to_reset a)
          → P (up_to_reset (a ++ b))
      by_end (inl e) q = subst P (sym e.0) (stays (up_to_reset a) q)
      by_end (inr e) q = subst P (sym e.0) q
  last_then P stays empty (Request f x ∷ a) h = last_then P stays empty a h
  last_then P stays empty (Answer g x ∷ a) h = last_then P stays empty a h
  last_then P stays empty (Clash g x ∷ a) h = last_then P stays empty a h

  -- A round that missed its end has missed it with turns behind it that are no SENS_REQ.
  module _ (none_sens : filter (λ t. is_sens_req t.request) (turns b) ≡ []) where
    ends_then : (r : List Event) → MissesEnd r → MissesEnd (r ++ b)
    ends_then r h =
        let p : Turn → Bool = λ t. is_sens_req t.request in
        let same : filter p (turns (r ++ b)) ≡ filter p (turns r) =
        ap (filter p) (turns_then r b fresh) ∙ filter_then p (turns r) (turns b) ∙ ap (λ ts. filter p (turns r) ++ ts) none_sens ∙ append_nil (filter p (turns r)) in
        subst (λ ts. 2 ≤ length (filter is_noisy (last_four ts))) (sym same) h
      where
        append_nil : {X : Type 0} (xs : List X) → xs ++ [] ≡ xs
        append_nil [] = refl
        append_nil (x ∷ xs) = ap (λ ys. x ∷ ys) (append_nil xs)

    no_end : MissesEnd [] → ⊥
    no_end h = omega (arith, h)

    pub missed_then : (a : List Event) → MissedRound a → MissedRound (a ++ b)
    missed_then a m = record {
      last = last_then MissesEnd ends_then no_end a m.last;
      noisy = each_then (λ r. 0 < noisy_turns is_call r) (λ r h. no_less (noisy_turns is_call (r ++ b)) (noisy_turns is_call r) (noisy_turns is_call b) (noisy_then is_call r b fresh) h) a m.noisy;
    }
