-- A conversation over any air: what the reader knows, what is due, and turns whose requests are due, by any fates.
-- (A reader speaks first and a listener answers at once or not at all: NFC Forum Digital Protocol. Fates and resets
-- are this project's own.)
use Rattle.std.specs.Prelude.{◌≡◌, List, [], ◌∷◌, ◌++◌, Bool, true, if◌then◌else◌, Option, Some, None}
use Rattle.nfc_base.specs.Signal.{Signal}
use Rattle.nfc_base.specs.Trace.{Back, by_fate, back_of, heard_by}
use Rattle.nfc_base.specs.Trace as backs
use Rattle.nfc_base.specs.declared.event.Event.{Event}
use Rattle.nfc_base.specs.declared.event.Event.TheVariants.{Reset, Request, Answer, Clash}
use Rattle.nfc_base.specs.declared.event.Fate.{Fate}
use Rattle.nfc_base.specs.declared.event.Fate.TheVariants.{Pass}
use Rattle.nfc_base.specs.declared.event.Heard.{Heard}
use Rattle.air_core.specs.Joint.{Joint, Nothing, Single, Clashing}

-- An air: whether a world is lit, what an event changes, and what a request that passes is answered.
pub record AirModel (W : Type 0) : Type 0 where
  pub lit : W → Bool
  pub happens : W → Event → W
  pub joint : W → Signal → Joint

-- What the reader knows, in order: its own resets, what it heard of each turn, and that a turn lost the field.
pub data Note : Type 0 where
  Lit : Note
  Got : Heard → Note
  Lost : Note

abbrev pub note : Option Heard → Note
note (Some h) = Got h
note None = Lost

-- what the reader knows of some events
abbrev pub receptions : List Event → List Note
receptions [] = []
receptions (Reset ∷ es) = Lit ∷ receptions es
receptions (Request f x ∷ es) = note (heard_by x (back_of es)) ∷ receptions es
receptions (Answer g x ∷ es) = receptions es
receptions (Clash g x ∷ es) = receptions es

-- what is due: nothing more, a reset, or a request
pub data Next : Type 0 where
  Over : Next
  LightUp : Next
  Asks : Signal → Next

-- Of es, which stand behind before: each reset and each request is what was due by what the reader knew.
abbrev pub EachDue : (List Note → Next) → List Event → List Event → Type 0
EachDue next before [] = Unit {0}
EachDue next before (Reset ∷ es) = (next (receptions before) ≡ LightUp) × EachDue next (before ++ Reset ∷ []) es
EachDue next before (Request f x ∷ es) = (next (receptions before) ≡ Asks f)
    × EachDue next (before ++ Request f x ∷ []) es
EachDue next before (Answer g x ∷ es) = EachDue next (before ++ Answer g x ∷ []) es
EachDue next before (Clash g x ∷ es) = EachDue next (before ++ Clash g x ∷ []) es

-- the next fate: Pass where none is left
abbrev pub first_fate : List Fate → Fate
first_fate [] = Pass
first_fate (x ∷ xs) = x

abbrev pub later_fates : List Fate → List Fate
later_fates [] = []
later_fates (x ∷ xs) = xs

-- the fates that are left after these events
abbrev pub queue_after : List Fate → List Event → List Fate
queue_after q [] = q
queue_after q (Reset ∷ es) = queue_after q es
queue_after q (Request f x ∷ es) = queue_after (later_fates q) es
queue_after q (Answer g x ∷ es) = queue_after (later_fates q) es
queue_after q (Clash g x ∷ es) = queue_after (later_fates q) es

-- each transmission has the first fate that was left
abbrev pub FatesFrom : List Fate → List Event → Type 0
FatesFrom q [] = Unit {0}
FatesFrom q (Reset ∷ es) = FatesFrom q es
FatesFrom q (Request f x ∷ es) = (x ≡ first_fate q) × FatesFrom (later_fates q) es
FatesFrom q (Answer g x ∷ es) = (x ≡ first_fate q) × FatesFrom (later_fates q) es
FatesFrom q (Clash g x ∷ es) = (x ≡ first_fate q) × FatesFrom (later_fates q) es

-- the event that brings answers back, and what it is to the reader
abbrev pub joint_events : Joint → Fate → List Event
joint_events Nothing y = []
joint_events (Single g) y = Answer g y ∷ []
joint_events (Clashing g) y = Clash g y ∷ []

abbrev pub joint_back : Joint → Fate → Back
joint_back Nothing y = backs.Nothing
joint_back (Single g) y = backs.Single g y
joint_back (Clashing g) y = backs.Clashing g y

module _ {W : Type 0} (m : AirModel W) where
  -- the world after some events
  abbrev pub replay : W → List Event → W
  replay w [] = w
  replay w (e ∷ es) = replay (m.happens w e) es

  -- the events of one turn, by the fate of its request and that of its answer
  abbrev pub turn_events : W → Signal → Fate → Fate → List Event
  turn_events w f x y = Request f x ∷ by_fate x (joint_events (m.joint w f) y) [] []

  -- what was heard of it; none where the field was lost
  abbrev pub turn_heard : W → Signal → Fate → Fate → Option Heard
  turn_heard w f x y = heard_by x (joint_back (m.joint w f) y)

  -- what the reader may do: a reset, or a request, with the fates of it and of its answer
  pub data Move : Type 0 where
    Light : Move
    Ask : Signal → Fate → Fate → Move

  -- in the dark no turn is made
  abbrev pub move_events : W → Move → List Event
  move_events w Light = Reset ∷ []
  move_events w (Ask f x y) = if m.lit w then turn_events w f x y else []

  -- the events of some moves, one after another
  abbrev pub trace_of : W → List Move → List Event
  trace_of w [] = []
  trace_of w (k ∷ ks) = move_events w k ++ trace_of (replay w (move_events w k)) ks

  -- From this world the events are resets and turns.
  pub record AreTurns (w : W) (es : List Event) : Type 0 where
    pub moves : List Move
    pub made : es ≡ trace_of w moves

-- A moment of an air: the world, the fates that are left, and the trace so far.
pub record Moment (W : Type 0) : Type 0 where
  pub world : W
  pub queue : List Fate
  pub trace : List Event

-- the moment after some events
abbrev pub with_events : {W : Type 0} → AirModel W → Moment W → List Event → Moment W
with_events m a es = record { world = replay m a.world es; queue = queue_after a.queue es; trace = a.trace ++ es }

-- From one moment to another, turns were made whose requests were due; this is what the reader knows of them.
pub record Going {W : Type 0} (m : AirModel W) (next : List Note → Next) (old new : Moment W) (notes : List Note)
    : Type 0 where
  pub events : List Event
  pub moment : new ≡ with_events m old events
  pub turns : AreTurns m old.world events
  pub each : EachDue next [] events
  pub fates : FatesFrom old.queue events
  pub fresh : back_of events ≡ backs.Nothing
  pub known : receptions events ≡ notes

-- From one moment to the next, one turn was made with this request, by the fates that were first; this was heard of
-- it, none where the field was lost.
pub record TurnsTo {W : Type 0} (m : AirModel W) (old new : Moment W) (f : Signal) (h : Option Heard) : Type 0 where
  pub lit : m.lit old.world ≡ true
  pub moment : new
      ≡ with_events m old (turn_events m old.world f (first_fate old.queue) (first_fate (later_fates old.queue)))
  pub heard : h ≡ turn_heard m old.world f (first_fate old.queue) (first_fate (later_fates old.queue))

-- something is due
abbrev pub IsDemand : Next → Type 0
IsDemand Over = ⊥
IsDemand LightUp = Unit {0}
IsDemand (Asks f) = Unit {0}
