-- The world of the air with far ends above its devices, and what each event changes (this project's own air).
use Rattle.std.specs.Prelude.{ℕ, List, [], ◌∷◌, map, Bool, Option}
use Rattle.std.specs.List.{cons_option}
use Rattle.nfc_base.specs.declared.event.Event.{Event}
use Rattle.nfc_base.specs.declared.event.Event.TheVariants.{Reset, Request, Answer, Clash}
use Rattle.nfc_base.specs.declared.event.Fate.{Fate}
use Rattle.nfc_base.specs.Signal.{Signal}
use Rattle.nfc_base.specs.Trace.{by_fate}
use Rattle.air_core.specs.Joint.{joint}
use Rattle.air_core.specs.World.{Machine, World, hands_over, answered_by, stepped_by, reset_by, dark}
use Rattle.air_core.specs.Conversation.{AirModel}
use Rattle.nfc_base.specs.Choosing.{first_number}
use Rattle.far_air.specs.FarEnds.{FarTable, numbers_left, first_far, later_fars, reply_to, moved, rests, by_link}

-- A field's world; for each of its devices, at its place, its far end's state, and nothing for a tag; and the numbers
-- of PDUs that are left for replies.
pub record FarWorld (L F : Type 0) : Type 0 where
  pub field : World L
  pub fars : List (Option F)
  pub numbers : List ℕ

-- devices that have met a frame: they and their far ends after it, what they answered, and the numbers that are left
pub record AllMet (L F : Type 0) : Type 0 where
  pub listeners : List L
  pub fars : List (Option F)
  pub answers : List Signal
  pub numbers : List ℕ

-- one device more, before the others
abbrev pub met_first : {L F : Type 0} → L → Option F → Option Signal → AllMet L F → AllMet L F
met_first l o answer rest = record {
  listeners = l ∷ rest.listeners;
  fars = o ∷ rest.fars;
  answers = cons_option answer rest.answers;
  numbers = rest.numbers;
}

-- At an entry's start the world gets its numbers; what is left of them goes at its end.
abbrev pub with_numbers : {L F : Type 0} → FarWorld L F → List ℕ → FarWorld L F
with_numbers w ns = record { field = w.field; fars = w.fars; numbers = ns }

-- The devices are of one machine, have a link or have none, and their far ends are of one table.
module _ {L F : Type 0} (m : Machine L) (linked : L → Bool) (t : FarTable F) where
  -- What the far end of a device replies to what it hands over at a frame, by the first number that is left; the device
  -- then; and its far end: where the device has no link any more, there is of it what stays.
  abbrev pub reply_at : L → Signal → Option F → List ℕ → Option (List ℕ)
  reply_at l f o ns = reply_to t (hands_over m l f) o (first_number ns)

  abbrev pub device_after : L → Signal → Option F → List ℕ → L
  device_after l f o ns = stepped_by m l f (reply_at l f o ns)

  abbrev pub far_after : L → Signal → Option F → List ℕ → Option F
  far_after l f o ns = by_link t (linked (device_after l f o ns)) (moved t (hands_over m l f) o (first_number ns))

  -- Each device meets the frame, in order. What it answers follows from its far end's reply, which takes a number.
  abbrev pub all_meet : Signal → List L → List (Option F) → List ℕ → AllMet L F
  all_meet f [] os ns = record { listeners = []; fars = []; answers = []; numbers = ns }
  all_meet f (l ∷ ls) os ns =
      met_first (device_after l f (first_far os) ns) (far_after l f (first_far os) ns)
      (answered_by m l f (reply_at l f (first_far os) ns))
      (all_meet f ls (later_fars os) (numbers_left (reply_at l f (first_far os) ns) ns))

  -- all devices meet the frame
  abbrev pub meeting : FarWorld L F → Signal → AllMet L F
  meeting w f = all_meet f w.field.listeners w.fars w.numbers

  abbrev pub far_stepped : FarWorld L F → Signal → FarWorld L F
  far_stepped w f = record {
    field = record { lit = w.field.lit; listeners = (meeting w f).listeners };
    fars = (meeting w f).fars;
    numbers = (meeting w f).numbers;
  }

  -- A reset leaves of each far end what stays, and so does the dark.
  abbrev pub far_reset : FarWorld L F → FarWorld L F
  far_reset w = record { field = reset_by m w.field; fars = map (rests t) w.fars; numbers = w.numbers }

  abbrev pub far_dark : FarWorld L F → FarWorld L F
  far_dark w = record { field = dark m w.field; fars = map (rests t) w.fars; numbers = w.numbers }

  abbrev pub far_requested : FarWorld L F → Signal → Fate → FarWorld L F
  far_requested w f x = by_fate x (far_stepped w f) w (far_dark w)

  abbrev pub far_came_back : FarWorld L F → Fate → FarWorld L F
  far_came_back w x = by_fate x w w (far_dark w)

  -- what one event changes
  abbrev pub far_happens : FarWorld L F → Event → FarWorld L F
  far_happens w Reset = far_reset w
  far_happens w (Request f x) = far_requested w f x
  far_happens w (Answer g x) = far_came_back w x
  far_happens w (Clash g x) = far_came_back w x

  -- the air of devices with far ends
  abbrev pub far_air : AirModel (FarWorld L F)
  far_air = record { lit = λ w. w.field.lit; happens = far_happens; joint = λ w f. joint (meeting w f).answers }
