-- How polling by rounds ends over this project's listeners, whatever noise it meets (ISO/IEC 14443-3; the crowd's
-- order, rounds and their number are this project's own).
use Rattle.std.specs.Prelude.{◌≡◌, ◌≢◌, ◌⊎◌, ℕ, ◌<◌, List, ◌∷◌, ◌++◌, map, drop, length, true, false, Result, Ok, Err}
use Rattle.nfc_base.specs.declared.event.Event.{Event}
use Rattle.air_core.specs.World.{Machine}
use Rattle.air_core.specs.Turn.{Air}
use Rattle.nfca_poll.specs.declared.kind.Kind.{Kind}
use Rattle.nfca_poll.specs.declared.fault.Picked.{Picked}
use Rattle.nfca_poll.specs.declared.fault.PollFault.{PollFault}
use Rattle.nfca_poll.specs.declared.fault.PollFault.TheVariants.{Nobody, Disturbed, FieldLost, Memory, NotFound}
use Rattle.nfca_poll.specs.declared.fault.PollFault.TheVariants.{BadAnswer}
use Rattle.nfca_poll.specs.Front.{Active}
use Rattle.nfca_poll.specs.Crowd.{Each, Card, picked_of, crowd, is_rest, cards}
use Rattle.nfca_poll.specs.Rounds.{most_found}
use Rattle.nfca_poll.specs.AnyStart.{HaveOwnIdents}
use Rattle.nfca_poll.specs.Polled.{ArePolled, AreTidy}
use Rattle.nfca_poll.specs.RoundTrace.{Misses, GivesUp}
use Rattle.nfc_base.specs.Prefix.{IsPrefix}

-- How a search for all devices ends over these ones: it found the first of the crowd, and left others out only at a
-- missed end; it was disturbed only where each of its rounds had noise; a bad answer is one device too many in a round.
abbrev pub FindEnds : List Card → Result (List Picked) PollFault → List Event → Type 0
FindEnds w (Ok found) es = IsPrefix found (crowd w) × ((found ≡ crowd w) ⊎ Misses es)
FindEnds w (Err Nobody) es = ⊥
FindEnds w (Err Disturbed) es = GivesUp es
FindEnds w (Err FieldLost) es = Unit {0}
FindEnds w (Err Memory) es = Unit {0}
FindEnds w (Err NotFound) es = ⊥
FindEnds w (Err BadAnswer) es = most_found < length w

-- The device with this identifier is active, and no other one is ready or active.
abbrev pub LeavesActive : List ℕ → Kind → List Card → List Card → Type 0
LeavesActive id kind w v =
    (a : List Card) × (b : List Card) × (v ≡ a ++ record { id = id; kind = kind; front = Active false } ∷ b)
    × Each (λ c. is_rest c.front ≡ true) (a ++ b) × (map picked_of v ≡ map picked_of w)

-- How a search for one device ends over these ones: it is there, and selected alone; or it isn't there, or the end was
-- missed; or each of the rounds had noise; or a round found one too many.
abbrev pub PickEnds : List ℕ → List Card → Result Kind PollFault → List Card → List Event → Type 0
PickEnds id w (Ok kind) v es = LeavesActive id kind w v
PickEnds id w (Err Nobody) v es = ⊥
PickEnds id w (Err Disturbed) v es = GivesUp es
PickEnds id w (Err FieldLost) v es = Unit {0}
PickEnds id w (Err Memory) v es = Unit {0}
PickEnds id w (Err NotFound) v es = Each (λ c. c.id ≢ id) w ⊎ Misses es
PickEnds id w (Err BadAnswer) v es = most_found < length w

module _ {L : Type 0} (m : Machine L) (identifier : L → List ℕ) where
  -- a call that finds all devices of a field
  abbrev pub FindsCrowd : Air L → Result (List Picked) PollFault → Air L → Type 0
  FindsCrowd old r new =
      (polled : ArePolled m identifier) → AreTidy polled old.listeners → HaveOwnIdents (cards polled.ours old.listeners)
      → FindEnds (cards polled.ours old.listeners) r (drop (length old.trace) new.trace)

  -- a call that selects one device of a field
  abbrev pub SelectsAlone : List ℕ → Air L → Result Kind PollFault → Air L → Type 0
  SelectsAlone id old r new =
      (polled : ArePolled m identifier) → AreTidy polled old.listeners → HaveOwnIdents (cards polled.ours old.listeners)
      → PickEnds id (cards polled.ours old.listeners) r (cards polled.ours new.listeners)
      (drop (length old.trace) new.trace)
