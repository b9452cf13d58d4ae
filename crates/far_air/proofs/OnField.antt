-- Where no device hands anything over, the world with far ends does to its field what the quiet air does, whatever the far ends are
-- and whatever the numbers.
use Rattle.std.proofs.Common.{◌≡◌, ℕ, List, [], ◌∷◌, ◌++◌, Bool, true, false, if◌then◌else◌, Option, refl, sym, ◌∙◌, ap, subst}
use Rattle.std.specs.Prelude.{map}
use Rattle.nfc_base.specs.declared.event.Event.{Event}
use Rattle.nfc_base.specs.declared.event.Event.TheVariants.{Reset, Request, Answer, Clash}
use Rattle.nfc_base.specs.declared.event.Fate.{Fate}
use Rattle.nfc_base.specs.declared.event.Fate.TheVariants.{Pass, Damage, Lose, Break}
use Rattle.nfc_base.specs.Signal.{Signal}
use Rattle.nfc_base.specs.Trace.{by_fate}
use Rattle.air_core.specs.Joint.{joint}
use Rattle.air_core.specs.World.{Machine, World, stepped, reset_by, requested, came_back, happens, quiet_air}
use Rattle.air_core.specs.Conversation.{Move, Light, Ask, AreTurns, replay, trace_of, turn_events, joint_events}
use Rattle.far_air.specs.FarEnds.{FarTable, rests}
use Rattle.far_air.specs.FarWorld.{FarWorld, AllMet, with_numbers, far_air, far_happens}
use Rattle.far_air.specs.FarLaws.{shown}
use Rattle.far_air.specs.Quietly.{QuietAt, NoneHands, QuietFields}
use Rattle.far_air.proofs.Meeting.{meets_unasked}

module _ {L : Type 0} (m : Machine L) where
  pub none_append : (w : World L) (a b : List Event) → NoneHands m w (a ++ b) → NoneHands m w a × NoneHands m (replay (quiet_air m) w a) b
  none_append w [] b n = (tt, n)
  none_append w (Reset ∷ a) b n = none_append (reset_by m w) a b n
  none_append w (Request f x ∷ a) b n = let r = none_append (requested m w f x) a b n.1 in ((n.0, r.0), r.1)
  none_append w (Answer g x ∷ a) b n = none_append (came_back m w x) a b n
  none_append w (Clash g x ∷ a) b n = none_append (came_back m w x) a b n

module _ {L F : Type 0} (m : Machine L) (linked : L → Bool) (t : FarTable F) where
  abbrev whole : World L → List (Option F) → List ℕ → FarWorld L F
  whole w os ns = record { field = w; fars = os; numbers = ns }

  -- the far ends after an event, and after some
  abbrev ends_then : World L → List (Option F) → Event → List (Option F)
  ends_then w os Reset = map (rests t) os
  ends_then w os (Request f x) = by_fate x (shown linked t (stepped m w f).listeners os) os (map (rests t) os)
  ends_then w os (Answer g x) = by_fate x os os (map (rests t) os)
  ends_then w os (Clash g x) = by_fate x os os (map (rests t) os)

  abbrev ends_behind : World L → List (Option F) → List Event → List (Option F)
  ends_behind w os [] = os
  ends_behind w os (e ∷ es) = ends_behind (happens m w e) (ends_then w os e) es

  asked_field : (w : World L) (os : List (Option F)) (ns : List ℕ) (f : Signal) (x : Fate) → QuietAt m x f w.listeners
      → far_happens m linked t (whole w os ns) (Request f x) ≡ whole (requested m w f x) (ends_then w os (Request f x)) ns
  asked_field w os ns f Pass q =
      ap (λ (z : AllMet L F). whole (record { lit = w.lit; listeners = z.listeners }) z.fars z.numbers) (meets_unasked m linked t f w.listeners os ns q)
  asked_field w os ns f Damage q = refl
  asked_field w os ns f Lose q = refl
  asked_field w os ns f Break q = refl

  came_field : (w : World L) (os : List (Option F)) (ns : List ℕ) (g : Signal) (x : Fate)
      → far_happens m linked t (whole w os ns) (Answer g x) ≡ whole (came_back m w x) (ends_then w os (Answer g x)) ns
  came_field w os ns g Pass = refl
  came_field w os ns g Damage = refl
  came_field w os ns g Lose = refl
  came_field w os ns g Break = refl

  pub replay_field : (w : World L) (os : List (Option F)) (ns : List ℕ) (es : List Event) → NoneHands m w es
      → replay (far_air m linked t) (whole w os ns) es ≡ whole (replay (quiet_air m) w es) (ends_behind w os es) ns
  replay_field w os ns [] n = refl
  replay_field w os ns (Reset ∷ es) n = replay_field (reset_by m w) (map (rests t) os) ns es n
  replay_field w os ns (Request f x ∷ es) n =
      ap (λ z. replay (far_air m linked t) z es) (asked_field w os ns f x n.0) ∙ replay_field (requested m w f x) (ends_then w os (Request f x)) ns es n.1
  replay_field w os ns (Answer g x ∷ es) n =
      ap (λ z. replay (far_air m linked t) z es) (came_field w os ns g x) ∙ replay_field (came_back m w x) (ends_then w os (Answer g x)) ns es n
  replay_field w os ns (Clash g x ∷ es) n =
      ap (λ z. replay (far_air m linked t) z es) (came_field w os ns g x) ∙ replay_field (came_back m w x) (ends_then w os (Clash g x)) ns es n

  field_after : (v : FarWorld L F) (es : List Event) → NoneHands m v.field es → (replay (far_air m linked t) v es).field ≡ replay (quiet_air m) v.field es
  field_after v es n = ap (λ (z : FarWorld L F). z.field) (replay_field v.field v.fars v.numbers es n)

  turn_field : (v : FarWorld L F) (f : Signal) (x y : Fate) → QuietAt m x f v.field.listeners → turn_events (far_air m linked t) v f x y ≡ turn_events (quiet_air m) v.field f x y
  turn_field v f Pass y q = ap (λ (z : AllMet L F). Request f Pass ∷ joint_events (joint z.answers) y) (meets_unasked m linked t f v.field.listeners v.fars v.numbers q)
  turn_field v f Damage y q = refl
  turn_field v f Lose y q = refl
  turn_field v f Break y q = refl

  abbrev quiet_move : Move (far_air m linked t) → Move (quiet_air m)
  quiet_move Light = Light
  quiet_move (Ask f x y) = Ask f x y

  abbrev far_move : Move (quiet_air m) → Move (far_air m linked t)
  far_move Light = Light
  far_move (Ask f x y) = Ask f x y

  abbrev IsQuietTrace : List (Move (far_air m linked t)) → FarWorld L F → Type 0
  IsQuietTrace ks v =
      NoneHands m v.field (trace_of (far_air m linked t) v ks) → trace_of (far_air m linked t) v ks ≡ trace_of (quiet_air m) v.field (map quiet_move ks)

  abbrev IsFarTrace : List (Move (quiet_air m)) → FarWorld L F → Type 0
  IsFarTrace ks v =
      NoneHands m v.field (trace_of (quiet_air m) v.field ks) → trace_of (quiet_air m) v.field ks ≡ trace_of (far_air m linked t) v (map far_move ks)

  -- moves of this air are moves of the quiet one
  far_trace : (v : FarWorld L F) (ks : List (Move (far_air m linked t))) → NoneHands m v.field (trace_of (far_air m linked t) v ks)
      → trace_of (far_air m linked t) v ks ≡ trace_of (quiet_air m) v.field (map quiet_move ks)
  far_trace v [] n = refl
  far_trace v (Light ∷ ks) n = ap (λ es. Reset ∷ es) (far_trace (far_happens m linked t v Reset) ks n)
  far_trace v (Ask f x y ∷ ks) n =
      go (λ k. far_trace v ks k) (λ k. far_trace (replay (far_air m linked t) v (turn_events (quiet_air m) v.field f x y)) ks k) v.field.lit n
    where
      E : List Event
      E = turn_events (far_air m linked t) v f x y

      D : List Event
      D = turn_events (quiet_air m) v.field f x y

      go : IsQuietTrace ks v → IsQuietTrace ks (replay (far_air m linked t) v D) → (b : Bool)
          → NoneHands m v.field ((if b then E else []) ++ trace_of (far_air m linked t) (replay (far_air m linked t) v (if b then E else [])) ks)
          → (if b then E else []) ++ trace_of (far_air m linked t) (replay (far_air m linked t) v (if b then E else [])) ks
          ≡ (if b then D else []) ++ trace_of (quiet_air m) (replay (quiet_air m) v.field (if b then D else [])) (map quiet_move ks)
      go here there false n = here n
      go here there true n =
          let same : E ≡ D = turn_field v f x y n.0 in
          let P : List Event → Type 0 = λ es. NoneHands m v.field (es ++ trace_of (far_air m linked t) (replay (far_air m linked t) v es) ks) in
          let both = none_append m v.field D (trace_of (far_air m linked t) (replay (far_air m linked t) v D) ks) (subst P same n) in
          let on : (replay (far_air m linked t) v D).field ≡ replay (quiet_air m) v.field D = field_after v D both.0 in
          let Q : World L → Type 0 = λ z. NoneHands m z (trace_of (far_air m linked t) (replay (far_air m linked t) v D) ks) in
          ap (λ es. es ++ trace_of (far_air m linked t) (replay (far_air m linked t) v es) ks) same
          ∙ ap (λ es. D ++ es) (there (subst Q (sym on) both.1))
          ∙ ap (λ z. D ++ trace_of (quiet_air m) z (map quiet_move ks)) on

  -- and the other way round
  quiet_trace : (v : FarWorld L F) (ks : List (Move (quiet_air m))) → NoneHands m v.field (trace_of (quiet_air m) v.field ks)
      → trace_of (quiet_air m) v.field ks ≡ trace_of (far_air m linked t) v (map far_move ks)
  quiet_trace v [] n = refl
  quiet_trace v (Light ∷ ks) n = ap (λ es. Reset ∷ es) (quiet_trace (far_happens m linked t v Reset) ks n)
  quiet_trace v (Ask f x y ∷ ks) n =
      go (λ k. quiet_trace v ks k) (λ k. quiet_trace (replay (far_air m linked t) v (turn_events (quiet_air m) v.field f x y)) ks k) v.field.lit n
    where
      E : List Event
      E = turn_events (far_air m linked t) v f x y

      D : List Event
      D = turn_events (quiet_air m) v.field f x y

      go : IsFarTrace ks v → IsFarTrace ks (replay (far_air m linked t) v D) → (b : Bool)
          → NoneHands m v.field ((if b then D else []) ++ trace_of (quiet_air m) (replay (quiet_air m) v.field (if b then D else [])) ks)
          → (if b then D else []) ++ trace_of (quiet_air m) (replay (quiet_air m) v.field (if b then D else [])) ks
          ≡ (if b then E else []) ++ trace_of (far_air m linked t) (replay (far_air m linked t) v (if b then E else [])) (map far_move ks)
      go here there false n = here n
      go here there true n =
          let same : E ≡ D = turn_field v f x y n.0 in
          let both = none_append m v.field D (trace_of (quiet_air m) (replay (quiet_air m) v.field D) ks) n in
          let on : (replay (far_air m linked t) v D).field ≡ replay (quiet_air m) v.field D = field_after v D both.0 in
          let Q : World L → Type 0 = λ z. NoneHands m z (trace_of (quiet_air m) z ks) in
          ap (λ z. D ++ trace_of (quiet_air m) z ks) (sym on)
          ∙ ap (λ es. D ++ es) (there (subst Q (sym on) both.1))
          ∙ ap (λ es. es ++ trace_of (far_air m linked t) (replay (far_air m linked t) v es) (map far_move ks)) (sym same)

  turns_of_far : (v : FarWorld L F) (es : List Event) → NoneHands m v.field es → AreTurns (far_air m linked t) v es → AreTurns (quiet_air m) v.field es
  turns_of_far v es n a =
      let P : List Event → Type 0 = λ z. NoneHands m v.field z in
      record { moves = map quiet_move a.moves; made = a.made ∙ far_trace v a.moves (subst P a.made n) }

  pub turns_of_field : (v : FarWorld L F) (es : List Event) → NoneHands m v.field es → AreTurns (quiet_air m) v.field es → AreTurns (far_air m linked t) v es
  turns_of_field v es n a =
      let P : List Event → Type 0 = λ z. NoneHands m v.field z in
      record { moves = map far_move a.moves; made = a.made ∙ quiet_trace v a.moves (subst P a.made n) }

pub quiet_fields : {L F : Type 0} (m : Machine L) (linked : L → Bool) (t : FarTable F) → QuietFields m linked t
quiet_fields m linked t w es n = record {
  field = ap (λ (z : FarWorld _ _). z.field) (replay_field m linked t w.field w.fars w.numbers es n);
  turns = (λ a. turns_of_far m linked t w es n a, λ a. turns_of_field m linked t w es n a);
  numbers = λ ns. replay_field m linked t w.field w.fars ns es n ∙ ap (λ z. with_numbers z ns) (sym (replay_field m linked t w.field w.fars w.numbers es n));
}
