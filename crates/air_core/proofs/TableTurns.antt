-- A turn of a link that stops and waits is one of the air in which its answering end is a listener that is alone.
use Rattle.std.proofs.Common.{◌≡◌, List, ◌∷◌, Option, Some, None, refl, ◌∙◌, ap, ℕ}
use Rattle.nfc_base.specs.declared.event.Event.TheVariants.{Request}
use Rattle.nfc_base.specs.declared.event.Fate.{Fate}
use Rattle.nfc_base.specs.declared.event.Fate.TheVariants.{Pass, Damage, Lose, Break}
use Rattle.nfc_base.specs.Signal.{Signal}
use Rattle.nfc_base.specs.Trace.{heard_by}
use Rattle.nfc_base.specs.StopAndWait.{StopAndWait}
use Rattle.nfc_base.specs.LinkTurns.{heard_in, step, answered, turned}
use Rattle.air_core.specs.Conversation.{joint_events, joint_back}
use Rattle.air_core.specs.declared.listener.Listener.{Ghosts}
use Rattle.air_core.proofs.PlainTurns.{one, tag_events, tag_heard}
use Rattle.air_core.proofs.AloneTurns.{left_by}

module _ {I T : Type 0} (S : StopAndWait I T Signal) where
  pub passed_events : (t : T) (asked : Option (List ℕ)) (f : Signal) (o : Option Signal) (y : Fate) → (answered S t asked f o y).events ≡ Request f Pass ∷ joint_events (one o) y
  passed_events t asked f None y = refl
  passed_events t asked f (Some g) y = refl

  pub passed_heard : (t : T) (asked : Option (List ℕ)) (f : Signal) (o : Option Signal) (y : Fate) → heard_in (answered S t asked f o y).heard ≡ heard_by Pass (joint_back (one o) y)
  passed_heard t asked f None y = refl
  passed_heard t asked f (Some g) Pass = refl
  passed_heard t asked f (Some g) Damage = refl
  passed_heard t asked f (Some g) Lose = refl
  passed_heard t asked f (Some g) Break = refl

  pub passed_asked : (t : T) (asked : Option (List ℕ)) (f : Signal) (o : Option Signal) (y : Fate) → (answered S t asked f o y).asked ≡ asked
  passed_asked t asked f None y = refl
  passed_asked t asked f (Some g) y = refl

  module _ (r : List ℕ) (t : T) (f : Signal) where
    pub same_events : (x y : Fate) → (turned S r t f x y).events ≡ tag_events f x y (step S r t f).answer
    same_events Pass y = passed_events (step S r t f).state (step S r t f).asked f (step S r t f).answer y
    same_events Damage y = refl
    same_events Lose y = refl
    same_events Break y = refl

    pub same_heard : (x y : Fate) → heard_in (turned S r t f x y).heard ≡ tag_heard x y (step S r t f).answer
    same_heard Pass y = passed_heard (step S r t f).state (step S r t f).asked f (step S r t f).answer y
    same_heard Damage y = refl
    same_heard Lose y = refl
    same_heard Break y = refl

  -- the answering end that a listener is, once a turn is over
  module _ {L : Type 0} (k : Ghosts L) (view : L → T) (l : L) (f : Signal) where
    passed_view : (t : T) (asked : Option (List ℕ)) (o : Option Signal) (y : Fate) → view (k.machine.after l f None) ≡ t
        → view (k.machine.darkened (k.machine.after l f None)) ≡ S.dark (view (k.machine.after l f None)) → view (left_by k l f Pass y o) ≡ (answered S t asked f o y).answering
    passed_view t asked None y e d = e
    passed_view t asked (Some g) Pass e d = e
    passed_view t asked (Some g) Damage e d = e
    passed_view t asked (Some g) Lose e d = e
    passed_view t asked (Some g) Break e d = d ∙ ap S.dark e

    pub same_view : (r : List ℕ) (x y : Fate) → view (k.machine.after l f None) ≡ (step S r (view l) f).state
        → view (k.machine.darkened (k.machine.after l f None)) ≡ S.dark (view (k.machine.after l f None))
        → view (k.machine.darkened l) ≡ S.dark (view l) → view (left_by k l f x y (step S r (view l) f).answer) ≡ (turned S r (view l) f x y).answering
    same_view r Pass y e d c = passed_view (step S r (view l) f).state (step S r (view l) f).asked (step S r (view l) f).answer y e d
    same_view r Damage y e d c = refl
    same_view r Lose y e d c = refl
    same_view r Break y e d c = c
