-- The air of listeners of any kind under a far end that answers each payload by an empty one (this project's own air).
use Rattle.std.specs.Prelude.{◌≡◌, ℕ, List, [], true, Option, Some, None, Result, Ok, Err}
use Rattle.nfc_base.specs.Signal.{Signal}
use Rattle.nfc_base.specs.Far.{FarUse, Untouched, Restarts, Hands}
use Rattle.nfc_base.specs.declared.event.Heard.{Heard}
use Rattle.air_core.specs.World.{Machine, World, quiet_air}
use Rattle.air_core.specs.Conversation.{AirModel, TurnsTo}
use Rattle.air_core.specs.Turn.{Air, moment}
use Rattle.nfca_poll.specs.declared.fault.PollFault.{PollFault}
use Rattle.nfca_poll.specs.declared.fault.PollFault.TheVariants.{Nobody, Disturbed, FieldLost, Memory, NotFound}
use Rattle.nfca_poll.specs.declared.fault.PollFault.TheVariants.{BadAnswer}

-- the reply of such a far end
abbrev pub mute_reply : FarUse → Option (List ℕ)
mute_reply Untouched = None
mute_reply (Restarts general) = None
mute_reply (Hands payload) = Some []

module _ {L : Type 0} (m : Machine L) where
  -- what the listeners do then
  abbrev pub muted : Machine L
  muted = record {
    tech = m.tech;
    handed = λ l f. Untouched;
    answer = λ l f reply. m.answer l f (mute_reply (m.handed l f));
    after = λ l f reply. m.after l f (mute_reply (m.handed l f));
    woken = m.woken;
    darkened = m.darkened;
  }

  abbrev pub mute_air : AirModel (World L)
  mute_air = quiet_air muted

-- What a turn in a lit field answers then. Where memory is wanting, nothing happens.
abbrev pub AskEnds : {L : Type 0} → Machine L → Air L → Signal → Result Heard PollFault → Air L → Type 0
AskEnds m old f (Ok h) new = TurnsTo (mute_air m) (moment old) (moment new) f (Some h) × (new.lit ≡ true)
AskEnds m old f (Err Nobody) new = ⊥
AskEnds m old f (Err Disturbed) new = ⊥
AskEnds m old f (Err FieldLost) new = TurnsTo (mute_air m) (moment old) (moment new) f None
AskEnds m old f (Err Memory) new = new ≡ old
AskEnds m old f (Err NotFound) new = ⊥
AskEnds m old f (Err BadAnswer) new = ⊥
