-- Where no payload is handed over, which numbers are left decides nothing, also where new links begin.
use Rattle.std.proofs.Common.{◌≡◌, ℕ, List, [], ◌∷◌, ◌++◌, Bool, true, false, if◌then◌else◌, Option, Some, None, refl, sym, ◌∙◌, ap, subst}
use Rattle.nfc_base.specs.Choosing.{first_number}
use Rattle.nfc_base.specs.Far.{FarUse, Untouched, Restarts, Hands}
use Rattle.nfc_base.specs.Signal.{Signal}
use Rattle.nfc_base.specs.declared.event.Event.{Event}
use Rattle.nfc_base.specs.declared.event.Event.TheVariants.{Reset, Request, Answer, Clash}
use Rattle.nfc_base.specs.declared.event.Fate.{Fate}
use Rattle.nfc_base.specs.declared.event.Fate.TheVariants.{Pass, Damage, Lose, Break}
use Rattle.air_core.specs.Joint.{joint}
use Rattle.air_core.specs.Conversation.{AirModel, AreTurns, Move, Light, Ask, joint_events, replay, trace_of, turn_events}
use Rattle.air_core.specs.World.{Machine, answered_by, hands_over, stepped_by}
use Rattle.far_air.specs.FarEnds.{FarTable, by_link, first_far, later_fars, moved, numbers_left, reply_to}
use Rattle.far_air.specs.FarWorld.{AllMet, FarWorld, all_meet, far_air, far_happens, met_first, with_numbers}
use Rattle.far_air.specs.Staying.{NoPayload, NoPayloadAt, NoPayloads}

abbrev met_with : {L F : Type 0} → AllMet L F → List ℕ → AllMet L F
met_with z ks = record { listeners = z.listeners; fars = z.fars; answers = z.answers; numbers = ks }

module _ {L F : Type 0} (m : Machine L) (linked : L → Bool) (t : FarTable F) where
  abbrev W : Type 0
  W = FarWorld L F

  abbrev air : AirModel W
  air = far_air m linked t

  -- one device
  abbrev met_by : L → Signal → Option F → List ℕ → FarUse → (List ℕ → AllMet L F) → AllMet L F
  met_by l f o ns u rest =
      let r : Option (List ℕ) = reply_to t u o (first_number ns) in
      met_first (stepped_by m l f r) (by_link t (linked (stepped_by m l f r)) (moved t u o (first_number ns))) (answered_by m l f r) (rest (numbers_left r ns))

  one_free : (l : L) (f : Signal) (o : Option F) (ns ks : List ℕ) (u : FarUse) (rest : List ℕ → AllMet L F) → ((p : List ℕ) → u ≡ Hands p → ⊥) → rest ks ≡ met_with (rest ns) ks
      → met_by l f o ks u rest ≡ met_with (met_by l f o ns u rest) ks
  one_free l f o ns ks Untouched rest none e = ap (met_first (stepped_by m l f None) (by_link t (linked (stepped_by m l f None)) o) (answered_by m l f None)) e
  one_free l f None ns ks (Restarts general) rest none e = ap (met_first (stepped_by m l f None) (by_link t (linked (stepped_by m l f None)) None) (answered_by m l f None)) e
  one_free l f (Some a) ns ks (Restarts general) rest none e =
      ap (met_first (stepped_by m l f None) (by_link t (linked (stepped_by m l f None)) (Some (t.restarted a general))) (answered_by m l f None)) e
  one_free l f o ns ks (Hands p) rest none e = absurd (none p refl)

  met_free : (f : Signal) (ls : List L) (os : List (Option F)) (ns ks : List ℕ) → NoPayload m linked t f ls → all_meet m linked t f ls os ks ≡ met_with (all_meet m linked t f ls os ns) ks
  met_free f [] os ns ks none = refl
  met_free f (l ∷ ls) os ns ks none =
      one_free l f (first_far os) ns ks (hands_over m l f) (all_meet m linked t f ls (later_fars os)) none.0 (met_free f ls (later_fars os) ns ks none.1)

  -- one event
  asked_free : (w : W) (f : Signal) (x : Fate) (ks : List ℕ) → NoPayloadAt m linked t x f w.field.listeners
      → far_happens m linked t (with_numbers w ks) (Request f x) ≡ with_numbers (far_happens m linked t w (Request f x)) ks
  asked_free w f Pass ks none =
      ap (λ (z : AllMet L F). record { field = record { lit = w.field.lit; listeners = z.listeners }; fars = z.fars; numbers = z.numbers }) (met_free f w.field.listeners w.fars w.numbers ks none)
  asked_free w f Damage ks none = refl
  asked_free w f Lose ks none = refl
  asked_free w f Break ks none = refl

  came_free : (w : W) (g : Signal) (x : Fate) (ks : List ℕ) → far_happens m linked t (with_numbers w ks) (Answer g x) ≡ with_numbers (far_happens m linked t w (Answer g x)) ks
  came_free w g Pass ks = refl
  came_free w g Damage ks = refl
  came_free w g Lose ks = refl
  came_free w g Break ks = refl

  pub replay_free : (es : List Event) (w : W) (ks : List ℕ) → NoPayloads m linked t w es → replay air (with_numbers w ks) es ≡ with_numbers (replay air w es) ks
  replay_free [] w ks none = refl
  replay_free (Reset ∷ es) w ks none = replay_free es (far_happens m linked t w Reset) ks none
  replay_free (Request f x ∷ es) w ks none =
      ap (λ z. replay air z es) (asked_free w f x ks none.0) ∙ replay_free es (far_happens m linked t w (Request f x)) ks none.1
  replay_free (Answer g x ∷ es) w ks none = ap (λ z. replay air z es) (came_free w g x ks) ∙ replay_free es (far_happens m linked t w (Answer g x)) ks none
  replay_free (Clash g x ∷ es) w ks none = ap (λ z. replay air z es) (came_free w g x ks) ∙ replay_free es (far_happens m linked t w (Clash g x)) ks none

  none_append : (a b : List Event) (w : W) → NoPayloads m linked t w (a ++ b) → NoPayloads m linked t w a × NoPayloads m linked t (replay air w a) b
  none_append [] b w n = (tt, n)
  none_append (Reset ∷ a) b w n = none_append a b (far_happens m linked t w Reset) n
  none_append (Request f x ∷ a) b w n = let k = none_append a b (far_happens m linked t w (Request f x)) n.1 in ((n.0, k.0), k.1)
  none_append (Answer g x ∷ a) b w n = none_append a b (far_happens m linked t w (Answer g x)) n
  none_append (Clash g x ∷ a) b w n = none_append a b (far_happens m linked t w (Clash g x)) n

  turn_free : (w : W) (f : Signal) (x y : Fate) (ks : List ℕ) → NoPayloadAt m linked t x f w.field.listeners → turn_events air (with_numbers w ks) f x y ≡ turn_events air w f x y
  turn_free w f Pass y ks none = ap (λ (z : AllMet L F). Request f Pass ∷ joint_events (joint z.answers) y) (met_free f w.field.listeners w.fars w.numbers ks none)
  turn_free w f Damage y ks none = refl
  turn_free w f Lose y ks none = refl
  turn_free w f Break y ks none = refl

  first_none : (w : W) (f : Signal) (x y : Fate) → NoPayloads m linked t w (turn_events air w f x y) → NoPayloadAt m linked t x f w.field.listeners
  first_none w f Pass y n = n.0
  first_none w f Damage y n = tt
  first_none w f Lose y n = tt
  first_none w f Break y n = tt

  trace_free : (ms : List (Move air)) (w : W) (ks : List ℕ) → NoPayloads m linked t w (trace_of air w ms) → trace_of air w ms ≡ trace_of air (with_numbers w ks) ms
  trace_free [] w ks n = refl
  trace_free (Light ∷ ms) w ks n = ap (λ es. Reset ∷ es) (trace_free ms (far_happens m linked t w Reset) ks n)
  trace_free (Ask f x y ∷ ms) w ks n = go (λ k. trace_free ms w ks k) (λ k. trace_free ms (replay air w (turn_events air w f x y)) ks k) w.field.lit n
    where
      E : List Event
      E = turn_events air w f x y

      D : List Event
      D = turn_events air (with_numbers w ks) f x y

      go : (NoPayloads m linked t w (trace_of air w ms) → trace_of air w ms ≡ trace_of air (with_numbers w ks) ms)
          → (NoPayloads m linked t (replay air w E) (trace_of air (replay air w E) ms) → trace_of air (replay air w E) ms ≡ trace_of air (with_numbers (replay air w E) ks) ms)
          → (b : Bool) → NoPayloads m linked t w ((if b then E else []) ++ trace_of air (replay air w (if b then E else [])) ms)
          → (if b then E else []) ++ trace_of air (replay air w (if b then E else [])) ms ≡ (if b then D else []) ++ trace_of air (replay air (with_numbers w ks) (if b then D else [])) ms
      go here there false n = here n
      go here there true n =
          let both = none_append E (trace_of air (replay air w E) ms) w n in
          let same : D ≡ E = turn_free w f x y ks (first_none w f x y both.0) in
          ap (λ es. E ++ es) (there both.1 ∙ ap (λ z. trace_of air z ms) (sym (replay_free E w ks both.0)))
          ∙ ap (λ es. es ++ trace_of air (replay air (with_numbers w ks) es) ms) (sym same)

  -- So turns are turns by any numbers.
  pub turns_free : (w : W) (es : List Event) (ks : List ℕ) → NoPayloads m linked t w es → AreTurns air w es → AreTurns air (with_numbers w ks) es
  turns_free w es ks n a = record { moves = a.moves; made = a.made ∙ trace_free a.moves w ks (subst (λ z. NoPayloads m linked t w z) a.made n) }
