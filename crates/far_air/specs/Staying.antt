-- What stays of far ends: only a payload that is handed over changes it (this project's own air).
use Rattle.std.specs.Prelude.{◌≡◌, ℕ, List, [], ◌∷◌, map, length, Bool, Option}
use Rattle.nfc_base.specs.declared.event.Event.{Event}
use Rattle.nfc_base.specs.declared.event.Event.TheVariants.{Reset, Request, Answer, Clash}
use Rattle.nfc_base.specs.declared.event.Fate.{Fate}
use Rattle.nfc_base.specs.declared.event.Fate.TheVariants.{Pass, Damage, Lose, Break}
use Rattle.nfc_base.specs.Signal.{Signal}
use Rattle.nfc_base.specs.Far.{Hands}
use Rattle.air_core.specs.World.{Machine, hands_over}
use Rattle.air_core.specs.Conversation.{replay}
use Rattle.far_air.specs.FarEnds.{FarTable, rests}
use Rattle.far_air.specs.FarWorld.{FarWorld, far_air, far_happens}
use Rattle.far_air.specs.FarLaws.{IsFarTable}

module _ {L F : Type 0} (m : Machine L) (linked : L → Bool) (t : FarTable F) where
  -- none of these devices hands a payload over at this frame; one may begin a new link
  abbrev pub NoPayload : Signal → List L → Type 0
  NoPayload f [] = Unit {0}
  NoPayload f (l ∷ ls) = ((payload : List ℕ) → hands_over m l f ≡ Hands payload → ⊥) × NoPayload f ls

  abbrev pub NoPayloadAt : Fate → Signal → List L → Type 0
  NoPayloadAt Pass f ls = NoPayload f ls
  NoPayloadAt Damage f ls = Unit {0}
  NoPayloadAt Lose f ls = Unit {0}
  NoPayloadAt Break f ls = Unit {0}

  -- in these events none hands one over
  abbrev pub NoPayloads : FarWorld L F → List Event → Type 0
  NoPayloads w [] = Unit {0}
  NoPayloads w (Reset ∷ es) = NoPayloads (far_happens m linked t w Reset) es
  NoPayloads w (Request f x ∷ es) = NoPayloadAt x f w.field.listeners
      × NoPayloads (far_happens m linked t w (Request f x)) es
  NoPayloads w (Answer g x ∷ es) = NoPayloads (far_happens m linked t w (Answer g x)) es
  NoPayloads w (Clash g x ∷ es) = NoPayloads (far_happens m linked t w (Clash g x)) es

  -- each device has a place in the list of far ends
  abbrev pub HasFars : FarWorld L F → Type 0
  HasFars w = length w.fars ≡ length w.field.listeners

  -- what stays of the far ends
  abbrev pub far_stable : FarWorld L F → List (Option F)
  far_stable w = map (rests t) w.fars

  -- The dark, resets, new links and whatever frames without a payload leave it; and each device keeps its place.
  pub record Stays (w : FarWorld L F) (es : List Event) : Type 0 where
    pub same : far_stable (replay (far_air m linked t) w es) ≡ far_stable w
    pub places : HasFars (replay (far_air m linked t) w es)

  abbrev pub FarsStay : Type 0
  FarsStay = IsFarTable t → (w : FarWorld L F) (es : List Event) → HasFars w → NoPayloads w es → Stays w es
