-- What stays of far ends: only a payload that is handed over changes it.
use Rattle.std.proofs.Common.{◌≡◌, ℕ, suc, List, [], ◌∷◌, length, Bool, Option, Some, None, refl, sym, ◌∙◌, ap, subst}
use Rattle.std.specs.Prelude.{map}
use Rattle.nfc_base.specs.declared.event.Event.{Event}
use Rattle.nfc_base.specs.declared.event.Event.TheVariants.{Reset, Request, Answer, Clash}
use Rattle.nfc_base.specs.declared.event.Fate.{Fate}
use Rattle.nfc_base.specs.declared.event.Fate.TheVariants.{Pass, Damage, Lose, Break}
use Rattle.nfc_base.specs.Signal.{Signal}
use Rattle.nfc_base.specs.Far.{FarUse, Untouched, Restarts, Hands}
use Rattle.air_core.specs.World.{Machine, hands_over}
use Rattle.air_core.specs.Conversation.{replay}
use Rattle.nfc_base.specs.Choosing.{first_number}
use Rattle.far_air.specs.FarEnds.{FarTable, numbers_left, first_far, later_fars, moved, rests}
use Rattle.far_air.specs.FarWorld.{FarWorld, all_meet, reply_at, device_after, far_after, far_reset, far_dark, far_requested, far_came_back, far_happens, far_air}
use Rattle.far_air.specs.FarLaws.{IsFarTable}
use Rattle.far_air.specs.Staying.{NoPayload, NoPayloadAt, NoPayloads, HasFars, far_stable, Stays, FarsStay}
use Rattle.far_air.proofs.Showing.{rests_shown, rests_twice}

length_map : {X Y : Type 0} (f : X → Y) (xs : List X) → length (map f xs) ≡ length xs
length_map f [] = refl
length_map f (x ∷ xs) = ap suc (length_map f xs)

module _ {L F : Type 0} (m : Machine L) (linked : L → Bool) (t : FarTable F) (laws : IsFarTable t) where
  moved_stays : (u : FarUse) (o : Option F) (n : ℕ) → ((payload : List ℕ) → u ≡ Hands payload → ⊥) → rests t (moved t u o n) ≡ rests t o
  moved_stays Untouched o n k = refl
  moved_stays (Restarts general) None n k = refl
  moved_stays (Restarts general) (Some a) n k = ap (λ z. Some z) (laws.keeps a general)
  moved_stays (Hands payload) o n k = absurd (k payload refl)

  met_stays : (f : Signal) (ls : List L) (os : List (Option F)) (ns : List ℕ) → length os ≡ length ls → NoPayload m linked t f ls
      → map (rests t) (all_meet m linked t f ls os ns).fars ≡ map (rests t) os
  met_stays f [] [] ns e k = refl
  met_stays f [] (o ∷ os) ns e k = absurd cc
  met_stays f (l ∷ ls) [] ns e k = absurd cc
  met_stays f (l ∷ ls) (o ∷ os) ns e k =
      let r : Option (List ℕ) = reply_at m linked t l f o ns in
      let d : L = device_after m linked t l f o ns in
      let one : rests t (far_after m linked t l f o ns) ≡ rests t o =
      rests_shown t laws (linked d) (moved t (hands_over m l f) o (first_number ns)) ∙ moved_stays (hands_over m l f) o (first_number ns) k.0 in
      let more : length os ≡ length ls = cc in
      ap (λ x. x ∷ map (rests t) (all_meet m linked t f ls os (numbers_left r ns)).fars) one
      ∙ ap (λ xs. rests t o ∷ xs) (met_stays f ls os (numbers_left r ns) more k.1)

  met_places : (f : Signal) (ls : List L) (os : List (Option F)) (ns : List ℕ) → length (all_meet m linked t f ls os ns).fars ≡ length (all_meet m linked t f ls os ns).listeners
  met_places f [] os ns = refl
  met_places f (l ∷ ls) os ns = ap suc (met_places f ls (later_fars os) (numbers_left (reply_at m linked t l f (first_far os) ns) ns))

  rests_all : (os : List (Option F)) → map (rests t) (map (rests t) os) ≡ map (rests t) os
  rests_all [] = refl
  rests_all (o ∷ os) = ap (λ x. x ∷ map (rests t) (map (rests t) os)) (rests_twice t laws o) ∙ ap (λ xs. rests t o ∷ xs) (rests_all os)

  -- one event
  abbrev One : FarWorld L F → FarWorld L F → Type 0
  One w v = (far_stable m linked t v ≡ far_stable m linked t w) × HasFars m linked t v

  dark_stays : (w : FarWorld L F) → HasFars m linked t w → One w (far_dark m linked t w)
  dark_stays w h = (rests_all w.fars, length_map (rests t) w.fars ∙ h ∙ sym (length_map m.darkened w.field.listeners))

  reset_stays : (w : FarWorld L F) → HasFars m linked t w → One w (far_reset m linked t w)
  reset_stays w h = (rests_all w.fars, length_map (rests t) w.fars ∙ h ∙ sym (length_map (λ l. m.woken (m.darkened l)) w.field.listeners))

  asked_stays : (w : FarWorld L F) (f : Signal) (x : Fate) → HasFars m linked t w → NoPayloadAt m linked t x f w.field.listeners → One w (far_requested m linked t w f x)
  asked_stays w f Pass h k = (met_stays f w.field.listeners w.fars w.numbers h k, met_places f w.field.listeners w.fars w.numbers)
  asked_stays w f Damage h k = (refl, h)
  asked_stays w f Lose h k = (refl, h)
  asked_stays w f Break h k = dark_stays w h

  came_stays : (w : FarWorld L F) (x : Fate) → HasFars m linked t w → One w (far_came_back m linked t w x)
  came_stays w Pass h = (refl, h)
  came_stays w Damage h = (refl, h)
  came_stays w Lose h = (refl, h)
  came_stays w Break h = dark_stays w h

  then_stays : (w v : FarWorld L F) (es : List Event) → One w v → Stays m linked t v es → (e : Event) → v ≡ far_happens m linked t w e → Stays m linked t w (e ∷ es)
  then_stays w v es one s e is =
      let P : FarWorld L F → Type 0 = λ z. (far_stable m linked t (replay (far_air m linked t) z es) ≡ far_stable m linked t w) × HasFars m linked t (replay (far_air m linked t) z es) in
      let k = subst P is (s.same ∙ one.0, s.places) in
      record { same = k.0; places = k.1 }

  stay : (w : FarWorld L F) (es : List Event) → HasFars m linked t w → NoPayloads m linked t w es → Stays m linked t w es
  stay w [] h k = record { same = refl; places = h }
  stay w (Reset ∷ es) h k =
      let one = reset_stays w h in then_stays w (far_reset m linked t w) es one (stay (far_reset m linked t w) es one.1 k) Reset refl
  stay w (Request f x ∷ es) h k =
      let one = asked_stays w f x h k.0 in then_stays w (far_requested m linked t w f x) es one (stay (far_requested m linked t w f x) es one.1 k.1) (Request f x) refl
  stay w (Answer g x ∷ es) h k =
      let one = came_stays w x h in then_stays w (far_came_back m linked t w x) es one (stay (far_came_back m linked t w x) es one.1 k) (Answer g x) refl
  stay w (Clash g x ∷ es) h k =
      let one = came_stays w x h in then_stays w (far_came_back m linked t w x) es one (stay (far_came_back m linked t w x) es one.1 k) (Clash g x) refl

pub fars_stay : {L F : Type 0} (m : Machine L) (linked : L → Bool) (t : FarTable F) → FarsStay m linked t
fars_stay m linked t laws w es h k = stay m linked t laws w es h k
