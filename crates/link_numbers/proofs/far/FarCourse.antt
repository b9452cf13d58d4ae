-- Turns of an air whose requests are due one after another, by what was heard of those before.
use Rattle.std.proofs.Common.{◌≡◌, List, [], ◌∷◌, ◌++◌, Bool, true, false, if◌then◌else◌, refl, sym, ◌∙◌, ap, subst, append_assoc, append-nil}
use Rattle.nfc_base.specs.Signal.{Signal}
use Rattle.nfc_base.specs.Trace.{back_of, heard_by}
use Rattle.nfc_base.specs.Trace as backs
use Rattle.nfc_base.specs.declared.event.Event.{Event}
use Rattle.nfc_base.specs.declared.event.Event.TheVariants.{Request}
use Rattle.nfc_base.specs.declared.event.Fate.{Fate}
use Rattle.nfc_base.specs.declared.event.Fate.TheVariants.{Pass, Damage, Lose, Break}
use Rattle.air_core.specs.Joint.{Joint, Nothing, Single, Clashing}
use Rattle.air_core.specs.Conversation.{AirModel, Note, note, Next, LightUp, Asks, receptions, EachDue, joint_events, joint_back, replay, turn_events, turn_heard, Move, Light, Ask, move_events}
use Rattle.air_core.specs.Conversation.{trace_of, AreTurns}
use Rattle.air_core.specs.laws.Turning.{receptions-append}

-- a turn that is made: its request, and the fates of it and of what comes back
pub record Made : Type 0 where
  pub frame : Signal
  pub fate : Fate
  pub back : Fate

-- where somebody stands once this was noted, one after another
abbrev pub noted_all : {C : Type 0} → (C → Note → C) → C → List Note → C
noted_all noted c [] = c
noted_all noted c (n ∷ ns) = noted_all noted (noted c n) ns

pub noted_more : {C : Type 0} (noted : C → Note → C) (c : C) (ns : List Note) (n : Note) → noted_all noted c (ns ++ n ∷ []) ≡ noted (noted_all noted c ns) n
noted_more noted c [] n = refl
noted_more noted c (k ∷ ns) n = noted_more noted (noted c k) ns n

module _ {W : Type 0} (m : AirModel W) where
  abbrev pub made_events : W → Made → List Event
  made_events w q = turn_events m w q.frame q.fate q.back

  abbrev pub made_world : W → Made → W
  made_world w q = replay m w (made_events w q)

  abbrev pub made_note : W → Made → Note
  made_note w q = note (turn_heard m w q.frame q.fate q.back)

  -- the events of turns one after another, and the world behind them
  abbrev pub all_events : W → List Made → List Event
  all_events w [] = []
  all_events w (q ∷ qs) = made_events w q ++ all_events (made_world w q) qs

  abbrev pub all_world : W → List Made → W
  all_world w [] = w
  all_world w (q ∷ qs) = all_world (made_world w q) qs

  -- before each of them there is light
  abbrev pub AllLit : W → List Made → Type 0
  AllLit w [] = Unit {0}
  AllLit w (q ∷ qs) = (m.lit w ≡ true) × AllLit (made_world w q) qs

  replay_more : (w : W) (a b : List Event) → replay m w (a ++ b) ≡ replay m (replay m w a) b
  replay_more w [] b = refl
  replay_more w (e ∷ a) b = replay_more (m.happens w e) a b

  pub all_replayed : (w : W) (qs : List Made) → replay m w (all_events w qs) ≡ all_world w qs
  all_replayed w [] = refl
  all_replayed w (q ∷ qs) = replay_more w (made_events w q) (all_events (made_world w q) qs) ∙ all_replayed (made_world w q) qs

  abbrev move_of : Made → Move m
  move_of q = Ask q.frame q.fate q.back

  abbrev moves_of : List Made → List (Move m)
  moves_of [] = []
  moves_of (q ∷ qs) = move_of q ∷ moves_of qs

  all_traced : (w : W) (qs : List Made) → AllLit w qs → all_events w qs ≡ trace_of m w (moves_of qs)
  all_traced w [] l = refl
  all_traced w (q ∷ qs) l =
      let E : List Event = made_events w q in
      let e : move_events m w (move_of q) ≡ E = ap (λ v. if v then E else []) l.0 in
      ap (λ x. E ++ x) (all_traced (made_world w q) qs l.1) ∙ sym (ap (λ x. x ++ trace_of m (replay m w x) (moves_of qs)) e)

  -- so they are turns of it
  pub all_turns : (w : W) (qs : List Made) → AllLit w qs → AreTurns m w (all_events w qs)
  all_turns w qs l = record { moves = moves_of qs; made = all_traced w qs l }

  -- nothing stands before a turn's request, and one note is known of it
  pub turn_back : (w : W) (q : Made) → back_of (made_events w q) ≡ backs.Nothing
  turn_back w q = refl

  all_fresh : (w : W) (qs : List Made) → back_of (all_events w qs) ≡ backs.Nothing
  all_fresh w [] = refl
  all_fresh w (q ∷ qs) = refl

  back_joint : (j : Joint) (y : Fate) → back_of (joint_events j y) ≡ joint_back j y
  back_joint Nothing y = refl
  back_joint (Single g) y = refl
  back_joint (Clashing g) y = refl

  notes_joint : (j : Joint) (y : Fate) → receptions (joint_events j y) ≡ []
  notes_joint Nothing y = refl
  notes_joint (Single g) y = refl
  notes_joint (Clashing g) y = refl

  pub turn_note : (w : W) (f : Signal) (x y : Fate) → receptions (turn_events m w f x y) ≡ note (turn_heard m w f x y) ∷ []
  turn_note w f Pass y =
      ap (λ b. note (heard_by Pass b) ∷ receptions (joint_events (m.joint w f) y)) (back_joint (m.joint w f) y)
      ∙ ap (λ ns. note (turn_heard m w f Pass y) ∷ ns) (notes_joint (m.joint w f) y)
  turn_note w f Damage y = refl
  turn_note w f Lose y = refl
  turn_note w f Break y = refl

  module _ {C : Type 0} (due : C → Next) (noted : C → Note → C) where
    -- Each of these turns is made in light, and its request is the one that is due.
    abbrev pub Dues : W → C → List Made → Type 0
    Dues w c [] = Unit {0}
    Dues w c (q ∷ qs) = (m.lit w ≡ true) × (due c ≡ Asks q.frame) × Dues (made_world w q) (noted c (made_note w q)) qs

    -- where it stands behind them
    abbrev pub all_noted : W → C → List Made → C
    all_noted w c [] = c
    all_noted w c (q ∷ qs) = all_noted (made_world w q) (noted c (made_note w q)) qs

    pub all_known : (w : W) (c : C) (qs : List Made) → noted_all noted c (receptions (all_events w qs)) ≡ all_noted w c qs
    all_known w c [] = refl
    all_known w c (q ∷ qs) =
        let E : List Event = made_events w q in
        let rest : List Event = all_events (made_world w q) qs in
        ap (noted_all noted c) (receptions-append E rest (all_fresh (made_world w q) qs) ∙ ap (λ ns. ns ++ receptions rest) (turn_note w q.frame q.fate q.back))
        ∙ all_known (made_world w q) (noted c (made_note w q)) qs

    -- the turns that some events are
    pub record AreMade (w : W) (c : C) (es : List Event) : Type 0 where
      pub made : List Made
      pub events : es ≡ all_events w made
      pub dues : Dues w c made

    module _ (never : (c : C) → due c ≡ LightUp → ⊥) (first : C) (next : List Note → Next) (is : (ns : List Note) → next ns ≡ due (noted_all noted first ns)) where
      abbrev stood : List Event → C
      stood before = noted_all noted first (receptions before)

      due_joint : (before es : List Event) (j : Joint) (y : Fate) → EachDue next before (joint_events j y ++ es) → EachDue next (before ++ joint_events j y) es
      due_joint before es Nothing y d = let P : List Event → Type 0 = λ t. EachDue next t es in subst P (sym (append-nil before)) d
      due_joint before es (Single g) y d = d
      due_joint before es (Clashing g) y d = d

      due_turn : (w : W) (f : Signal) (x y : Fate) (before es : List Event) → EachDue next before (turn_events m w f x y ++ es)
          → (next (receptions before) ≡ Asks f) × EachDue next (before ++ turn_events m w f x y) es
      due_turn w f Pass y before es d =
          let P : List Event → Type 0 = λ t. EachDue next t es in
          (d.0, subst P (append_assoc before (Request f Pass ∷ []) (joint_events (m.joint w f) y)) (due_joint (before ++ Request f Pass ∷ []) es (m.joint w f) y d.1))
      due_turn w f Damage y before es d = d
      due_turn w f Lose y before es d = d
      due_turn w f Break y before es d = d

      stood_on : (w : W) (q : Made) (before : List Event) → stood (before ++ made_events w q) ≡ noted (stood before) (made_note w q)
      stood_on w q before =
          ap (noted_all noted first) (receptions-append before (made_events w q) (turn_back w q) ∙ ap (λ ns. receptions before ++ ns) (turn_note w q.frame q.fate q.back))
          ∙ noted_more noted first (receptions before) (made_note w q)

      by_moves : (ks : List (Move m)) (w : W) (before : List Event) → EachDue next before (trace_of m w ks) → AreMade w (stood before) (trace_of m w ks)
      by_moves [] w before d = record { made = []; events = refl; dues = tt }
      by_moves (Light ∷ ks) w before d = absurd (never (stood before) (sym (is (receptions before)) ∙ d.0))
      by_moves (Ask f x y ∷ ks) w before d = go (λ b. by_moves ks w b) (λ b. by_moves ks (made_world w q) b) (m.lit w) refl d
        where
          q : Made
          q = record { frame = f; fate = x; back = y }

          E : List Event
          E = made_events w q

          go : ((b : List Event) → EachDue next b (trace_of m w ks) → AreMade w (stood b) (trace_of m w ks))
              → ((b : List Event) → EachDue next b (trace_of m (made_world w q) ks) → AreMade (made_world w q) (stood b) (trace_of m (made_world w q) ks))
              → (v : Bool) → m.lit w ≡ v
              → EachDue next before ((if v then E else []) ++ trace_of m (replay m w (if v then E else [])) ks)
              → AreMade w (stood before) ((if v then E else []) ++ trace_of m (replay m w (if v then E else [])) ks)
          go here there false l d = here before d
          go here there true l d =
              let t = due_turn w f x y before (trace_of m (made_world w q) ks) d in
              let rest = there (before ++ E) t.1 in
              record {
                made = q ∷ rest.made;
                events = ap (λ es. E ++ es) rest.events;
                dues = (l, sym (is (receptions before)) ∙ t.0, subst (λ c. Dues (made_world w q) c rest.made) (stood_on w q before) rest.dues);
              }

      -- Turns whose requests are what is due are such turns.
      pub are_made : (w : W) (es : List Event) → AreTurns m w es → EachDue next [] es → AreMade w first es
      are_made w es turns each =
          let E : List Event → Type 0 = λ x. EachDue next [] x in
          let A : List Event → Type 0 = λ x. AreMade w first x in
          subst A (sym turns.made) (by_moves turns.moves w [] (subst E turns.made each))
