-- One turn with a listener that hears the request, alone among others that are silent.
use Rattle.std.proofs.Common.{◌≡◌, List, [], ◌++◌, true, if◌then◌else◌, Option, Some, None, sym, ◌∙◌, ap, subst, ℕ}
use Rattle.std.specs.Prelude.{map}
use Rattle.std.specs.List.{filter_map, cons_option}
use Rattle.nfc_base.specs.declared.event.Event.{Event}
use Rattle.nfc_base.specs.declared.event.Fate.{Fate}
use Rattle.nfc_base.specs.declared.event.Fate.TheVariants.{Pass, Damage, Lose, Break}
use Rattle.nfc_base.specs.declared.event.Heard.{Heard}
use Rattle.nfc_base.specs.Signal.{Signal}
use Rattle.air_core.specs.Joint.{joint}
use Rattle.air_core.specs.World.{World, hears, answered_by, stepped_by, quiet_air}
use Rattle.air_core.specs.Conversation.{replay, turn_events, first_fate, later_fates}
use Rattle.air_core.specs.Turn.{Air, world}
use Rattle.air_core.specs.Quiet.{QuietTurn}
use Rattle.air_core.specs.PlainTags.{IsAside, IsAlone}
use Rattle.air_core.specs.declared.listener.Listener.{Ghosts}
use Rattle.air_core.proofs.PlainAside.{Laws, IsUnmoved, alone_dark, alone_says, alone_steps}
use Rattle.air_core.proofs.PlainTurns.{one, joint_one, tag_events, tag_heard, turn_events_as, heard_as}

module _ {L : Type 0} (k : Ghosts L) where
  -- what the listener is after a turn
  abbrev pub back_left : L → Fate → L
  back_left l Pass = l
  back_left l Damage = l
  back_left l Lose = l
  back_left l Break = k.machine.darkened l

  abbrev pub left_by : L → Signal → Fate → Fate → Option Signal → L
  left_by l f Pass y None = k.machine.after l f None
  left_by l f Pass y (Some g) = back_left (k.machine.after l f None) y
  left_by l f Damage y o = l
  left_by l f Lose y o = l
  left_by l f Break y o = k.machine.darkened l

  pub moves_on : (l : L) (f : Signal) → hears k.machine l f ≡ true → stepped_by k.machine l f None ≡ k.machine.after l f None
  moves_on l f e = ap (λ v. if v then k.machine.after l f None else l) e

  -- What a turn comes to by which this listener answers so.
  pub record ComesTo (own : List ℕ) (old new : Air L) (place : ℕ) (l : L) (f : Signal) (h : Option Heard) (x y : Fate) (o : Option Signal) : Type 0 where
    pub told : h ≡ tag_heard x y o
    pub trace : new.trace ≡ old.trace ++ tag_events f x y o
    pub after : world new ≡ replay (quiet_air k.machine) (world old) (tag_events f x y o)
    pub alone : IsAlone k own new.listeners place (left_by l f x y o)

  module _ (laws : Laws k) (own : List ℕ) (f : Signal) (all : (l : L) → IsAside k own l → IsUnmoved k laws own f l) where
    module _ (w : World L) (place : ℕ) (l : L) (a : IsAlone k own w.listeners place l) (heard : hears k.machine l f ≡ true) where
      pub stepped_alone : IsAlone k own (map (λ x. stepped_by k.machine x f None) w.listeners) place (k.machine.after l f None)
      stepped_alone =
          let P : L → Type 0 = IsAlone k own (map (λ x. stepped_by k.machine x f None) w.listeners) place in
          subst P (moves_on l f heard) (alone_steps k laws own f all w.listeners place l a)

      alone_after : (x y : Fate) (o : Option Signal) → IsAlone k own (replay (quiet_air k.machine) w (tag_events f x y o)).listeners place (left_by l f x y o)
      alone_after Pass y None = stepped_alone
      alone_after Pass Pass (Some g) = stepped_alone
      alone_after Pass Damage (Some g) = stepped_alone
      alone_after Pass Lose (Some g) = stepped_alone
      alone_after Pass Break (Some g) = alone_dark k laws own (map (λ x. stepped_by k.machine x f None) w.listeners) place (k.machine.after l f None) stepped_alone
      alone_after Damage y o = a
      alone_after Lose y o = a
      alone_after Break y o = alone_dark k laws own w.listeners place l a

    pub comes_to : (old : Air L) (place : ℕ) (l : L) → IsAlone k own old.listeners place l → hears k.machine l f ≡ true → (o : Option Signal) → k.machine.answer l f None ≡ o
        → {F : Type 0} (far far' : F) (new : Air L) (h : Option Heard) → QuietTurn k.machine old f far h new far'
        → ComesTo own old new place l f h (first_fate old.fates) (first_fate (later_fates old.fates)) o
    comes_to old place l a heard o answers far far' new h q =
        let x : Fate = first_fate old.fates in
        let y : Fate = first_fate (later_fates old.fates) in
        let says : answered_by k.machine l f None ≡ o = ap (λ v. if v then k.machine.answer l f None else None) heard ∙ answers in
        let joins : joint (filter_map (λ z. answered_by k.machine z f None) old.listeners) ≡ one o =
        ap joint (alone_says k laws own f all old.listeners place l a) ∙ ap (λ z. joint (cons_option z [])) says ∙ joint_one o in
        let events : turn_events (quiet_air k.machine) (world old) f x y ≡ tag_events f x y o = turn_events_as k (world old) f x y o joins in
        let after : world new ≡ replay (quiet_air k.machine) (world old) (tag_events f x y o) = q.after ∙ ap (replay (quiet_air k.machine) (world old)) events in
        let P : World L → Type 0 = λ w. IsAlone k own w.listeners place (left_by l f x y o) in
        record {
          told = heard_as k (world old) f x y o h joins q.told;
          trace = q.trace ∙ ap (λ (es : List Event). old.trace ++ es) events;
          after = after;
          alone = subst P (sym after) (alone_after (world old) place l a heard x y o);
        }
