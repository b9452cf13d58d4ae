-- Turns that are due, by the fates of a queue, up to where nothing is due, happen in one way: over any air, whatever is due, and
-- whatever the fates are.
use Rattle.std.proofs.Common.{◌≡◌, List, [], ◌∷◌, ◌++◌, Bool, true, false, if◌then◌else◌, refl, sym, ◌∙◌, ap, subst, append_assoc}
use Rattle.std.proofs.lemmas.List.{append-nil}
use Rattle.nfc_base.specs.Signal.{Signal}
use Rattle.nfc_base.specs.Trace.{back_of}
use Rattle.nfc_base.specs.Trace as backs
use Rattle.nfc_base.specs.declared.event.Event.{Event}
use Rattle.nfc_base.specs.declared.event.Event.TheVariants.{Reset, Request, Answer, Clash}
use Rattle.nfc_base.specs.declared.event.Fate.{Fate}
use Rattle.nfc_base.specs.declared.event.Fate.TheVariants.{Pass, Damage, Lose, Break}
use Rattle.air_core.specs.Joint.{Joint, Nothing, Single, Clashing}
use Rattle.air_core.specs.Conversation.{AirModel, Note, Next, Over, LightUp, Asks, receptions, EachDue, first_fate, later_fates, queue_after, FatesFrom, joint_events, replay, turn_events, Move, Light}
use Rattle.air_core.specs.Conversation.{Ask, trace_of, AreTurns}
use Rattle.air_core.proofs.Following.{same_asked, light_is_no_request, turn_first, turn_split, nothing_more}

-- Behind some events these ones are due, up to where nothing is, and have the fates of the queue.
record IsCourse (next : List Note → Next) (before : List Event) (q : List Fate) (es : List Event) : Type 0 where
  pub due : EachDue next before es
  pub fates : FatesFrom q es
  pub over : next (receptions (before ++ es)) ≡ Over

-- one event of a course, and those behind it
over_behind : (next : List Note → Next) (before a b : List Event) → next (receptions (before ++ (a ++ b))) ≡ Over → next (receptions ((before ++ a) ++ b)) ≡ Over
over_behind next before a b over = ap (λ t. next (receptions t)) (append_assoc before a b) ∙ over

-- what comes back has the first fate of the queue
pub joint_fated : (q : List Fate) (j : Joint) (y : Fate) (t : List Event) → FatesFrom q (joint_events j y ++ t)
    → (joint_events j y ≡ joint_events j (first_fate q)) × FatesFrom (queue_after q (joint_events j y)) t
joint_fated q Nothing y t p = (refl, p)
joint_fated q (Single g) y t p = (ap (λ z. Answer g z ∷ []) p.0, p.1)
joint_fated q (Clashing g) y t p = (ap (λ z. Clash g z ∷ []) p.0, p.1)

module _ {W : Type 0} (m : AirModel W) where
  -- the events of moves that are made in the light
  abbrev turns_of : W → List (Move m) → List Event
  turns_of w [] = []
  turns_of w (Light ∷ ks) = Reset ∷ turns_of (m.happens w Reset) ks
  turns_of w (Ask f x y ∷ ks) = turn_events m w f x y ++ turns_of (replay m w (turn_events m w f x y)) ks

  -- so are those of any moves: in the dark nothing happens
  in_light : (w : W) (ks : List (Move m)) → (ls : List (Move m)) × (trace_of m w ks ≡ turns_of w ls)
  in_light w [] = ([], refl)
  in_light w (Light ∷ ks) = let more = in_light (m.happens w Reset) ks in (Light ∷ more.0, ap (λ t. Reset ∷ t) more.1)
  in_light w (Ask f x y ∷ ks) = by_light (m.lit w) (in_light w ks) (in_light (replay m w (turn_events m w f x y)) ks)
    where
      by_light : (v : Bool) → (ls : List (Move m)) × (trace_of m w ks ≡ turns_of w ls)
          → (ls : List (Move m)) × (trace_of m (replay m w (turn_events m w f x y)) ks ≡ turns_of (replay m w (turn_events m w f x y)) ls)
          → (ls : List (Move m)) × ((if v then turn_events m w f x y else []) ++ trace_of m (replay m w (if v then turn_events m w f x y else [])) ks ≡ turns_of w ls)
      by_light true dark lit = (Ask f x y ∷ lit.0, ap (λ t. turn_events m w f x y ++ t) lit.1)
      by_light false dark lit = dark

  -- they begin with no answer
  turns_first : (w : W) (ks : List (Move m)) → back_of (turns_of w ks) ≡ backs.Nothing
  turns_first w [] = refl
  turns_first w (Light ∷ ks) = refl
  turns_first w (Ask f x y ∷ ks) = turn_first m w f x y (turns_of (replay m w (turn_events m w f x y)) ks)

  -- the events of a turn, by the fates that are first
  abbrev fated : List Fate → W → Signal → List Event
  fated q w f = turn_events m w f (first_fate q) (first_fate (later_fates q))

  turn_fated : (q : List Fate) (w : W) (f : Signal) (x y : Fate) (t : List Event) → FatesFrom q (turn_events m w f x y ++ t)
      → (turn_events m w f x y ≡ fated q w f) × FatesFrom (queue_after q (turn_events m w f x y)) t
  turn_fated q w f Pass y t p =
      let back = joint_fated (later_fates q) (m.joint w f) y t p.1 in
      (ap (λ es. Request f Pass ∷ es) back.0 ∙ ap (λ z. turn_events m w f z (first_fate (later_fates q))) p.0, back.1)
  turn_fated q w f Damage y t p = (ap (λ z. turn_events m w f z (first_fate (later_fates q))) p.0, p.1)
  turn_fated q w f Lose y t p = (ap (λ z. turn_events m w f z (first_fate (later_fates q))) p.0, p.1)
  turn_fated q w f Break y t p = (ap (λ z. turn_events m w f z (first_fate (later_fates q))) p.0, p.1)

  -- A course that begins with a turn: its request was due, it has the first fates, and a course follows.
  record BeginsTurn (next : List Note → Next) (before : List Event) (q : List Fate) (w : W) (f : Signal) (es : List Event) (ks : List (Move m)) : Type 0 where
    pub asked : next (receptions before) ≡ Asks f
    pub turn : es ≡ fated q w f
    pub behind : IsCourse next (before ++ fated q w f) (queue_after q (fated q w f)) (turns_of (replay m w (fated q w f)) ks)

  begins_turn : (next : List Note → Next) (before : List Event) (q : List Fate) (w : W) (f : Signal) (x y : Fate) (ks : List (Move m))
      → IsCourse next before q (turns_of w (Ask f x y ∷ ks)) → BeginsTurn next before q w f (turn_events m w f x y) ks
  begins_turn next before q w f x y ks c =
      let es : List Event = turn_events m w f x y in
      let rest : List Event = turns_of (replay m w es) ks in
      let due = turn_split m next before w f x y rest c.due in
      let fates = turn_fated q w f x y rest c.fates in
      let behind : IsCourse next (before ++ es) (queue_after q es) rest = record { due = due.1; fates = fates.1; over = over_behind next before es rest c.over } in
      let C : List Event → Type 0 = λ t. IsCourse next (before ++ t) (queue_after q t) (turns_of (replay m w t) ks) in
      record { asked = due.0; turn = fates.0; behind = subst C fates.0 behind }

  -- where nothing is due, nothing follows
  ends_here : (next : List Note → Next) (before : List Event) (q : List Fate) (w : W) (ls : List (Move m)) → IsCourse next before q [] → IsCourse next before q (turns_of w ls) → turns_of w ls ≡ []
  ends_here next before q w ls none c = nothing_more m next before (turns_of w ls) (ap (λ t. next (receptions t)) (sym (append-nil before)) ∙ none.over) (turns_first w ls) c.due

  -- the course behind a reset
  behind_reset : (next : List Note → Next) (before : List Event) (q : List Fate) (es : List Event) → IsCourse next before q (Reset ∷ es) → IsCourse next (before ++ Reset ∷ []) q es
  behind_reset next before q es c = record { due = (c.due).1; fates = c.fates; over = over_behind next before (Reset ∷ []) es c.over }

  -- a reset and a request aren't due at once
  never_both : (n : Next) (f : Signal) → n ≡ LightUp → n ≡ Asks f → ⊥
  never_both n f light asked = light_is_no_request f (sym light ∙ asked)

  -- there is one course
  same_course : (next : List Note → Next) (ks ls : List (Move m)) (before : List Event) (q : List Fate) (w : W)
      → IsCourse next before q (turns_of w ks) → IsCourse next before q (turns_of w ls) → turns_of w ks ≡ turns_of w ls
  same_course next [] ls before q w a b = sym (ends_here next before q w ls a b)
  same_course next (Light ∷ ks) [] before q w a b = ends_here next before q w (Light ∷ ks) b a
  same_course next (Ask f x y ∷ ks) [] before q w a b = ends_here next before q w (Ask f x y ∷ ks) b a
  same_course next (Light ∷ ks) (Light ∷ ls) before q w a b =
      ap (λ t. Reset ∷ t) (same_course next ks ls (before ++ Reset ∷ []) q (m.happens w Reset)
      (behind_reset next before q (turns_of (m.happens w Reset) ks) a) (behind_reset next before q (turns_of (m.happens w Reset) ls) b))
  same_course next (Light ∷ ks) (Ask g u v ∷ ls) before q w a b =
      absurd (never_both (next (receptions before)) g (a.due).0 (begins_turn next before q w g u v ls b).asked)
  same_course next (Ask f x y ∷ ks) (Light ∷ ls) before q w a b =
      absurd (never_both (next (receptions before)) f (b.due).0 (begins_turn next before q w f x y ks a).asked)
  same_course next (Ask f x y ∷ ks) (Ask g u v ∷ ls) before q w a b =
      let one = begins_turn next before q w f x y ks a in
      let two = begins_turn next before q w g u v ls b in
      let same : g ≡ f = same_asked g f (sym two.asked ∙ one.asked) in
      let C : Signal → Type 0 = λ h. IsCourse next (before ++ fated q w h) (queue_after q (fated q w h)) (turns_of (replay m w (fated q w h)) ls) in
      let es : List Event = fated q w f in
      ap (λ t. t ++ turns_of (replay m w t) ks) one.turn
      ∙ ap (λ t. es ++ t) (same_course next ks ls (before ++ es) (queue_after q es) (replay m w es) one.behind (subst C same two.behind))
      ∙ sym (ap (λ t. t ++ turns_of (replay m w t) ls) (two.turn ∙ ap (fated q w) same))

  -- Two lists of turns from one world are the same, where each turn was due, by the fates of one queue, and nothing is due behind them.
  pub one_course : (next : List Note → Next) (w : W) (q : List Fate) (es fs : List Event) → AreTurns m w es → AreTurns m w fs → FatesFrom q es → FatesFrom q fs
      → EachDue next [] es → EachDue next [] fs → next (receptions es) ≡ Over → next (receptions fs) ≡ Over → es ≡ fs
  one_course next w q es fs a b p r d e over over' =
      let ks = in_light w a.moves in
      let ls = in_light w b.moves in
      let first : es ≡ turns_of w ks.0 = a.made ∙ ks.1 in
      let second : fs ≡ turns_of w ls.0 = b.made ∙ ls.1 in
      let one : IsCourse next [] q es = record { due = d; fates = p; over = over } in
      let two : IsCourse next [] q fs = record { due = e; fates = r; over = over' } in
      first ∙ same_course next ks.0 ls.0 [] q w (subst (IsCourse next [] q) first one) (subst (IsCourse next [] q) second two) ∙ sym second
