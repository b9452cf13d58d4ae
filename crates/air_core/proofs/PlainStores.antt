-- The stores that a plain tag passes while it hears a command.
use Rattle.std.proofs.Common.{◌≡◌, ℕ, zero, suc, List, [], ◌∷◌, ◌++◌, length, Option, Some, None, refl, sym, ◌∙◌, ap, inr}
use Rattle.std.specs.Prelude.{map}
use Rattle.nfc_base.specs.declared.event.Fate.{Fate}
use Rattle.nfc_base.specs.declared.event.Fate.TheVariants.{Pass, Damage, Lose, Break}
use Rattle.nfc_base.specs.Signal.{Signal}
use Rattle.nfc_base.specs.TagLinks.{TagState, TagStep, plain_state, after_all, passed}
use Rattle.nfc_base.proofs.Leading.{after_append, passed_append}
use Rattle.air_core.specs.World.{World, stepped_by}
use Rattle.air_core.specs.PlainTags.{heard_times, IsAlone}
use Rattle.air_core.specs.PlainLinks.{at_place, Follows, stores_after}
use Rattle.air_core.specs.private.PlainWaits.{times}
use Rattle.air_core.specs.declared.listener.Listener.{Ghosts}
use Rattle.air_core.proofs.PlainAside.{Laws, alone_dark}
use Rattle.air_core.proofs.PlainTagging.{IsSteady}
use Rattle.air_core.proofs.PlainTurns.{tag_events, times_more}

-- a command that leaves what it left leaves it however often it comes
after_stays : (step : TagState → Signal → TagStep) (s : TagState) (f : Signal) → (step s f).after ≡ s → (n : ℕ) → after_all step s (times f n) ≡ s
after_stays step s f e zero = refl
after_stays step s f e (suc n) = ap (λ t. after_all step t (times f n)) e ∙ after_stays step s f e n

pub after_times : (step : TagState → Signal → TagStep) (s : TagState) (f : Signal) → (step (step s f).after f).after ≡ (step s f).after → (n : ℕ)
    → after_all step s (times f (suc n)) ≡ (step s f).after
after_times step s f e n = after_stays step (step s f).after f e n

-- once more
after_more : (step : TagState → Signal → TagStep) (s : TagState) (f : Signal) (n : ℕ) → after_all step s (times f (suc n)) ≡ (step (after_all step s (times f n)) f).after
after_more step s f n = ap (after_all step s) (sym (times_more f n)) ∙ after_append step s (times f n) (f ∷ [])

-- what the tag obeyed in a turn
abbrev pub newly : Fate → Signal → List Signal
newly Pass f = f ∷ []
newly Damage f = []
newly Lose f = []
newly Break f = []

pub passed_more : (step : TagState → Signal → TagStep) (s : TagState) (f : Signal) (n : ℕ) →
    passed step s (times f (suc n)) ≡ passed step s (times f n) ++ passed step (after_all step s (times f n)) (f ∷ [])
passed_more step s f n = ap (passed step s) (sym (times_more f n)) ∙ passed_append step s (times f n) (f ∷ [])

place_split : {L B : Type 0} (f : L → B) (d : B) (before : List L) (l : L) (behind : List L) → at_place f d (before ++ l ∷ behind) (length before) ≡ f l
place_split f d [] l behind = refl
place_split f d (x ∷ before) l behind = place_split f d before l behind

module _ {L : Type 0} (k : Ghosts L) where
  -- what is seen at the tag's place
  pub place_is : {B : Type 0} (f : L → B) (d : B) (own : List ℕ) (ls : List L) (place : ℕ) (l : L) → IsAlone k own ls place l → at_place f d ls place ≡ f l
  place_is f d own ls place l a = ap (λ xs. at_place f d xs place) a.split ∙ ap (at_place f d (a.before ++ l ∷ a.behind)) (sym a.stands) ∙ place_split f d a.before l a.behind

  pub store_heard : (tag : L) (f : Signal) → IsSteady k tag f → (n : ℕ) → plain_state (k.store (heard_times k tag f n)) ≡ after_all (k.commands tag) (plain_state (k.store tag)) (times f n)
  store_heard tag f steady zero = refl
  store_heard tag f steady (suc n) = steady.after n ∙ sym (after_times (k.commands tag) (plain_state (k.store tag)) f steady.again n)

  module _ (laws : Laws k) (own : List ℕ) (tag : L) (f : Signal) (steady : IsSteady k tag f) (n : ℕ) (w : World L) (place : ℕ)
      (here : IsAlone k own w.listeners place (heard_times k tag f n)) (next : IsAlone k own (map (λ x. stepped_by k.machine x f None) w.listeners) place (heard_times k tag f (suc n))) where
    abbrev state : TagState
    state = after_all (k.commands tag) (plain_state (k.store tag)) (times f n)

    store_here : k.store (heard_times k tag f n) ≡ state.store
    store_here = ap (λ s. s.store) (store_heard tag f steady n)

    store_next : k.store (heard_times k tag f (suc n)) ≡ (k.commands tag state f).after.store
    store_next = ap (λ s. s.store) (store_heard tag f steady (suc n) ∙ after_more (k.commands tag) (plain_state (k.store tag)) f n)

    stays : at_place k.store [] w.listeners place ≡ state.store
    stays = place_is k.store [] own w.listeners place (heard_times k tag f n) here ∙ store_here

    dims : at_place k.store [] (map k.machine.darkened w.listeners) place ≡ state.store
    dims =
        place_is k.store [] own (map k.machine.darkened w.listeners) place (k.machine.darkened (heard_times k tag f n)) (alone_dark k laws own w.listeners place (heard_times k tag f n) here)
        ∙ (laws.dark_keeps (heard_times k tag f n)).1 ∙ store_here

    abbrev stepped_on : List L
    stepped_on = map (λ x. stepped_by k.machine x f None) w.listeners

    steps : at_place k.store [] stepped_on place ≡ (k.commands tag state f).after.store
    steps = place_is k.store [] own stepped_on place (heard_times k tag f (suc n)) next ∙ store_next

    steps_dim : at_place k.store [] (map k.machine.darkened stepped_on) place ≡ (k.commands tag state f).after.store
    steps_dim =
        place_is k.store [] own (map k.machine.darkened stepped_on) place (k.machine.darkened (heard_times k tag f (suc n))) (alone_dark k laws own stepped_on place (heard_times k tag f (suc n)) next)
        ∙ (laws.dark_keeps (heard_times k tag f (suc n))).1 ∙ store_next

    -- after each event of a turn the tag holds what it held, or what its step leaves
    pub pictures : (x y : Fate) (o : Option Signal) → Follows state.store (stores_after k place w (tag_events f x y o)) (passed (k.commands tag) state (newly x f))
    pictures Damage y o = (stays, tt)
    pictures Lose y o = (stays, tt)
    pictures Break y o = (dims, tt)
    pictures Pass y None = inr (steps, tt)
    pictures Pass Pass (Some g) = inr (steps, (steps, tt))
    pictures Pass Damage (Some g) = inr (steps, (steps, tt))
    pictures Pass Lose (Some g) = inr (steps, (steps, tt))
    pictures Pass Break (Some g) = inr (steps, (steps_dim, tt))
