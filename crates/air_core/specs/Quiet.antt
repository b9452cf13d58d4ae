-- Turns in which no listener asks anything of a far end (this project's own air).
use Rattle.std.specs.Prelude.{◌≡◌, ◌⊎◌, List, [], ◌∷◌, ◌++◌, true, false, Option, Some, None, Result, Ok, Err}
use Rattle.nfc_base.specs.Signal.{Signal}
use Rattle.nfc_base.specs.Far.{Untouched}
use Rattle.nfc_base.specs.declared.event.Event.TheVariants.{Reset}
use Rattle.nfc_base.specs.declared.event.Heard.{Heard}
use Rattle.air_core.specs.World.{Machine, hands_over, quiet_air}
use Rattle.air_core.specs.Conversation.{first_fate, later_fates, queue_after, replay, turn_events, turn_heard}
use Rattle.air_core.specs.Turn.{Air, world}
use Rattle.air_core.specs.declared.fault.AirFault.{AirFault}
use Rattle.air_core.specs.declared.fault.AirFault.TheVariants.{FieldLost, Memory}

-- none of these listeners asks anything of a far end at this frame
abbrev pub EachQuiet : {L : Type 0} → Machine L → Signal → List L → Type 0
EachQuiet m f [] = Unit {0}
EachQuiet m f (l ∷ ls) = (hands_over m l f ≡ Untouched) × EachQuiet m f ls

-- A turn of the quiet air: its events, by the next fates, are all that happened, and the far end is as before.
pub record QuietTurn {L A : Type 0} (m : Machine L) (old : Air L) (f : Signal) (far : A) (heard : Option Heard)
    (new : Air L) (far' : A) : Type 0 where
  pub lit : old.lit ≡ true
  pub after : world new ≡ replay (quiet_air m) (world old)
      (turn_events (quiet_air m) (world old) f (first_fate old.fates) (first_fate (later_fates old.fates)))
  pub fates : new.fates
      ≡ queue_after old.fates (turn_events (quiet_air m) (world old) f (first_fate old.fates)
      (first_fate (later_fates old.fates)))
  pub trace : new.trace ≡ old.trace ++ turn_events (quiet_air m) (world old) f (first_fate old.fates)
      (first_fate (later_fates old.fates))
  pub told : heard ≡ turn_heard (quiet_air m) (world old) f (first_fate old.fates) (first_fate (later_fates old.fates))
  pub same : far' ≡ far

-- What `transmit` answers over quiet listeners: want of memory leaves all as it was.
abbrev pub QuietTransmits : {L A : Type 0} → Machine L → Air L → Signal → A → Result Heard AirFault → Air L → A → Type 0
QuietTransmits m old f far (Ok h) new far' = QuietTurn m old f far (Some h) new far'
QuietTransmits m old f far (Err FieldLost) new far' =
    ((old.lit ≡ false) × (new ≡ old) × (far' ≡ far)) ⊎ QuietTurn m old f far None new far'
QuietTransmits m old f far (Err Memory) new far' = (old.lit ≡ true) × (new ≡ old) × (far' ≡ far)

-- A reset of the quiet air.
pub record QuietReset {L : Type 0} (m : Machine L) (old new : Air L) : Type 0 where
  pub after : world new ≡ replay (quiet_air m) (world old) (Reset ∷ [])
  pub fates : new.fates ≡ queue_after old.fates (Reset ∷ [])
  pub trace : new.trace ≡ old.trace ++ Reset ∷ []
