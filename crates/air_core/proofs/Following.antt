-- Turns of which each request was due: what is known of one, and that nothing follows where nothing is due.
use Rattle.std.proofs.Common.{◌≡◌, List, [], ◌∷◌, ◌++◌, Bool, true, false, if◌then◌else◌, refl, sym, ◌∙◌, ap, subst, append_assoc}
use Rattle.nfc_base.specs.Signal.{Signal}
use Rattle.nfc_base.specs.Trace.{back_of, heard_by}
use Rattle.nfc_base.specs.Trace as backs
use Rattle.nfc_base.specs.declared.event.Event.{Event}
use Rattle.nfc_base.specs.declared.event.Event.TheVariants.{Reset, Request, Answer, Clash}
use Rattle.nfc_base.specs.declared.event.Fate.{Fate}
use Rattle.nfc_base.specs.declared.event.Fate.TheVariants.{Pass, Damage, Lose, Break}
use Rattle.air_core.specs.Joint.{Joint, Nothing, Single, Clashing}
use Rattle.air_core.specs.Conversation.{AirModel, Note, note, Next, Over, LightUp, Asks, IsDemand, EachDue, joint_events, joint_back, replay, turn_events, turn_heard, Move, Light, Ask, trace_of}
use Rattle.air_core.specs.Conversation.{Moment, Going, receptions}
use Rattle.air_core.specs.laws.Turning.{due_weaker}

pub no_demand : (n : Next) → n ≡ Over → IsDemand n → ⊥
no_demand n e d = subst IsDemand e d

-- one thing is due at a time
pub same_asked : (f g : Signal) → Asks f ≡ Asks g → f ≡ g
same_asked f g e = cc

pub light_is_no_request : (f : Signal) → LightUp ≡ Asks f → ⊥
light_is_no_request f e = cc

pub over_is_no_request : (f : Signal) → Over ≡ Asks f → ⊥
over_is_no_request f e = cc

pub over_is_no_light : Over ≡ LightUp → ⊥
over_is_no_light e = cc

module _ {W : Type 0} (m : AirModel W) where
  -- the events of some moves begin with no answer
  pub turn_first : (w : W) (f : Signal) (x y : Fate) (t : List Event) → back_of (turn_events m w f x y ++ t) ≡ backs.Nothing
  turn_first w f Pass y t = refl
  turn_first w f Damage y t = refl
  turn_first w f Lose y t = refl
  turn_first w f Break y t = refl

  pub trace_first : (w : W) (ks : List (Move m)) → back_of (trace_of m w ks) ≡ backs.Nothing
  trace_first w [] = refl
  trace_first w (Light ∷ ks) = refl
  trace_first w (Ask f x y ∷ ks) = asked (m.lit w) (trace_first w ks)
    where
      asked : (v : Bool) → back_of (trace_of m w ks) ≡ backs.Nothing
          → back_of ((if v then turn_events m w f x y else []) ++ trace_of m (replay m w (if v then turn_events m w f x y else [])) ks) ≡ backs.Nothing
      asked true h = turn_first w f x y (trace_of m (replay m w (turn_events m w f x y)) ks)
      asked false h = h

  joint_known : (f : Signal) (j : Joint) (y : Fate) (t : List Event) → back_of t ≡ backs.Nothing
      → receptions (Request f Pass ∷ (joint_events j y ++ t)) ≡ note (heard_by Pass (joint_back j y)) ∷ receptions t
  joint_known f Nothing y t h = ap (λ b. note (heard_by Pass b) ∷ receptions t) h
  joint_known f (Single g) y t h = refl
  joint_known f (Clashing g) y t h = refl

  -- what is known of a turn and of what follows
  pub turn_known : (w : W) (f : Signal) (x y : Fate) (t : List Event) → back_of t ≡ backs.Nothing → receptions (turn_events m w f x y ++ t) ≡ note (turn_heard m w f x y) ∷ receptions t
  turn_known w f Pass y t h = joint_known f (m.joint w f) y t h
  turn_known w f Damage y t h = refl
  turn_known w f Lose y t h = refl
  turn_known w f Break y t h = refl

  joint_split : (next : List Note → Next) (before : List Event) (f : Signal) (j : Joint) (y : Fate) (t : List Event) → EachDue next before (Request f Pass ∷ (joint_events j y ++ t))
      → (next (receptions before) ≡ Asks f) × EachDue next (before ++ Request f Pass ∷ joint_events j y) t
  joint_split next before f Nothing y t q = q
  joint_split next before f (Single g) y t q = let D : List Event → Type 0 = λ b. EachDue next b t in (q.0, subst D (append_assoc before (Request f Pass ∷ []) (Answer g y ∷ [])) q.1)
  joint_split next before f (Clashing g) y t q = let D : List Event → Type 0 = λ b. EachDue next b t in (q.0, subst D (append_assoc before (Request f Pass ∷ []) (Clash g y ∷ [])) q.1)

  -- the request of a turn was due, and so is each one behind it
  pub turn_split : (next : List Note → Next) (before : List Event) (w : W) (f : Signal) (x y : Fate) (t : List Event) → EachDue next before (turn_events m w f x y ++ t)
      → (next (receptions before) ≡ Asks f) × EachDue next (before ++ turn_events m w f x y) t
  turn_split next before w f Pass y t q = joint_split next before f (m.joint w f) y t q
  turn_split next before w f Damage y t q = q
  turn_split next before w f Lose y t q = q
  turn_split next before w f Break y t q = q

  -- nothing is asked where nothing is due
  pub nothing_more : (next : List Note → Next) (before es : List Event) → next (receptions before) ≡ Over → back_of es ≡ backs.Nothing → EachDue next before es → es ≡ []
  nothing_more next before [] over fresh q = refl
  nothing_more next before (Reset ∷ es) over fresh q = absurd (no_demand LightUp (sym q.0 ∙ over) tt)
  nothing_more next before (Request f x ∷ es) over fresh q = absurd (no_demand (Asks f) (sym q.0 ∙ over) tt)
  nothing_more next before (Answer g x ∷ es) over fresh q = absurd cc
  nothing_more next before (Clash g x ∷ es) over fresh q = absurd cc

  -- another one that asks the same
  abbrev pub going_as : (next part : List Note → Next) (a b : Moment W) (ns : List Note) → ((ks : List Note) → next ks ≡ part ks) → Going m part a b ns → Going m next a b ns
  going_as next part a b ns same g = record {
    events = g.events;
    moment = g.moment;
    turns = g.turns;
    each = due_weaker next part (λ ks n e d. same ks ∙ e) [] g.events g.each;
    fates = g.fates;
    fresh = g.fresh;
    known = g.known;
  }
