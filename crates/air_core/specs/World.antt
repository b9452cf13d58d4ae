-- The world of the air: light, listeners, and what each event changes (this project's own air).
use Rattle.std.specs.Prelude.{ℕ, List, map, Bool, true, false, if◌then◌else◌, Option, None}
use Rattle.std.specs.List.{filter_map}
use Rattle.nfc_base.specs.declared.frame.Tech.{Tech}
use Rattle.nfc_base.specs.declared.event.Event.{Event}
use Rattle.nfc_base.specs.declared.event.Event.TheVariants.{Reset, Request, Answer, Clash}
use Rattle.nfc_base.specs.declared.event.Fate.{Fate}
use Rattle.nfc_base.specs.Signal.{Signal}
use Rattle.nfc_base.specs.Trace.{by_fate}
use Rattle.nfc_base.specs.Far.{FarUse, Untouched}
use Rattle.air_core.specs.Joint.{joint, same_tech}
use Rattle.air_core.specs.Conversation.{AirModel}

-- What the listeners of one type do. At a frame of its own technology a listener may hand something to the far end;
-- its answer and the state after are functions of the state, the frame and the far end's reply, if there was one.
pub record Machine (L : Type 0) : Type 0 where
  pub tech : L → Tech
  pub handed : L → Signal → FarUse
  pub answer : L → Signal → Option (List ℕ) → Option Signal
  pub after : L → Signal → Option (List ℕ) → L
  pub woken : L → L
  pub darkened : L → L

-- whether the field is lit, and its listeners, in the order of placing
pub record World (L : Type 0) : Type 0 where
  pub lit : Bool
  pub listeners : List L

module _ {L : Type 0} (m : Machine L) where
  -- a listener of another technology doesn't hear a frame
  abbrev pub hears : L → Signal → Bool
  hears l f = same_tech (m.tech l) f.tech

  abbrev pub hands_over : L → Signal → FarUse
  hands_over l f = if hears l f then m.handed l f else Untouched

  abbrev pub answered_by : L → Signal → Option (List ℕ) → Option Signal
  answered_by l f reply = if hears l f then m.answer l f reply else None

  abbrev pub stepped_by : L → Signal → Option (List ℕ) → L
  stepped_by l f reply = if hears l f then m.after l f reply else l

  -- A reset clears what is volatile, and lights the field.
  abbrev pub reset_by : World L → World L
  reset_by w = record { lit = true; listeners = map (λ l. m.woken (m.darkened l)) w.listeners }

  -- the field goes dark
  abbrev pub dark : World L → World L
  dark w = record { lit = false; listeners = map m.darkened w.listeners }

  -- each listener makes its step, where no far end replies
  abbrev pub stepped : World L → Signal → World L
  stepped w f = record { lit = w.lit; listeners = map (λ l. stepped_by l f None) w.listeners }

  -- what the listeners answer, where no far end replies
  abbrev pub answers : World L → Signal → List Signal
  answers w f = filter_map (λ l. answered_by l f None) w.listeners

  abbrev pub requested : World L → Signal → Fate → World L
  requested w f x = by_fate x (stepped w f) w (dark w)

  abbrev pub came_back : World L → Fate → World L
  came_back w x = by_fate x w w (dark w)

  -- what one event changes
  abbrev pub happens : World L → Event → World L
  happens w Reset = reset_by w
  happens w (Request f x) = requested w f x
  happens w (Answer g x) = came_back w x
  happens w (Clash g x) = came_back w x

  -- The air of listeners that hand nothing to a far end.
  abbrev pub quiet_air : AirModel (World L)
  quiet_air = record { lit = λ w. w.lit; happens = happens; joint = λ w f. joint (answers w f) }
