-- Turns of a field whose listeners may ask something of a far end (this project's own air).
use Rattle.std.specs.Prelude.{◌≡◌, ◌⊎◌, ℕ, List, [], ◌∷◌, ◌++◌, Bool, true, false, Option, Some, None, Result, Ok, Err}
use Rattle.std.specs.List.{cons_option}
use Rattle.nfc_base.specs.Signal.{Signal}
use Rattle.nfc_base.specs.Trace.{Back, heard_by}
use Rattle.nfc_base.specs.Trace as backs
use Rattle.nfc_base.specs.declared.event.Event.{Event}
use Rattle.nfc_base.specs.declared.event.Event.TheVariants.{Request, Answer, Clash}
use Rattle.nfc_base.specs.declared.event.Fate.{Fate}
use Rattle.nfc_base.specs.declared.event.Fate.TheVariants.{Pass, Damage, Lose, Break}
use Rattle.nfc_base.specs.declared.event.Heard.{Heard}
use Rattle.air_core.specs.Joint.{Joint, Nothing, Single, Clashing, joint}
use Rattle.air_core.specs.World.{Machine, World, hands_over, answered_by, stepped_by, requested, came_back}
use Rattle.air_core.specs.Conversation.{first_fate, later_fates, joint_back, Moment}
use Rattle.air_core.specs.Listening.{Step, Stop}
use Rattle.air_core.specs.declared.fault.AirFault.{AirFault}
use Rattle.air_core.specs.declared.fault.AirFault.TheVariants.{FieldLost, Memory}

-- What contracts see of a field: whether it is lit, its listeners in the order of placing, the fates that are left,
-- and the trace since it was last taken.
pub record Air (L : Type 0) : Type 0 where
  pub lit : Bool
  pub listeners : List L
  pub fates : List Fate
  pub trace : List Event

abbrev pub world : {L : Type 0} → Air L → World L
world a = record { lit = a.lit; listeners = a.listeners }

-- the moment of the air that this field is at
abbrev pub moment : {L : Type 0} → Air L → Moment (World L)
moment a = record { world = world a; queue = a.fates; trace = a.trace }

-- the air with another world, once an event has happened, and the fates that are left then
abbrev pub after_event : {L : Type 0} → Air L → Event → List Fate → World L → Air L
after_event a e fates w = record { lit = w.lit; listeners = w.listeners; fates = fates; trace = a.trace ++ e ∷ [] }

-- An answer or a clash comes back, with its fate. A silence has none.
abbrev pub brought : {L : Type 0} → Machine L → Air L → Joint → Fate → Air L
brought m a Nothing y = a
brought m a (Single g) y = after_event a (Answer g y) (later_fates a.fates) (came_back m (world a) y)
brought m a (Clashing g) y = after_event a (Clash g y) (later_fates a.fates) (came_back m (world a) y)

module _ {L A : Type 0} (m : Machine L) (restarts : A → List ℕ → A → Type 0)
    (steps : A → List ℕ → List ℕ → A → Type 0) where
  -- a listener in the field meets a frame
  abbrev pub Meets : Signal → L → A → Option Signal → L → A → Type 0
  Meets f l far answer l' far' = Step restarts steps (hands_over m l f) (answered_by m l f) (stepped_by m l f) far
      answer l' far'

  -- Each listener meets the frame, in order, and these are their answers.
  abbrev pub HearAll : Signal → List L → A → List Signal → List L → A → Type 0
  HearAll f [] far answers ls' far' = (answers ≡ []) × (ls' ≡ []) × (far' ≡ far)
  HearAll f (l ∷ ls) far answers ls' far' =
      (answer : Option Signal) × (others : List Signal) × (l' : L) × (mid : A) × (later : List L)
      × Meets f l far answer l' mid
      × HearAll f ls mid others later far' × (answers ≡ cons_option answer others) × (ls' ≡ l' ∷ later)

  -- The request passed. What comes back of it has the fate behind its own.
  pub record Passes (old : Air L) (f : Signal) (far : A) (heard : Option Heard) (new : Air L) (far' : A) : Type 0 where
    pub answers : List Signal
    pub listeners : List L
    pub all : HearAll f old.listeners far answers listeners far'
    pub back : heard ≡ heard_by Pass (joint_back (joint answers) (first_fate (later_fates old.fates)))
    pub left : new
        ≡ brought m (after_event old (Request f Pass) (later_fates old.fates)
        (record { lit = true; listeners = listeners })) (joint answers) (first_fate (later_fates old.fates))

  -- The request didn't pass, and nobody heard it.
  pub record Fails (x : Fate) (old : Air L) (f : Signal) (far : A) (heard : Option Heard) (new : Air L) (far' : A)
      : Type 0 where
    pub back : heard ≡ heard_by x backs.Nothing
    pub left : new ≡ after_event old (Request f x) (later_fates old.fates) (requested m (world old) f x)
    pub same : far' ≡ far

  -- a turn by the fate of its request
  abbrev pub TurnBy : Fate → Air L → Signal → A → Option Heard → Air L → A → Type 0
  TurnBy Pass old f far heard new far' = Passes old f far heard new far'
  TurnBy Damage old f far heard new far' = Fails Damage old f far heard new far'
  TurnBy Lose old f far heard new far' = Fails Lose old f far heard new far'
  TurnBy Break old f far heard new far' = Fails Break old f far heard new far'

  -- One turn: what was heard, none where the field was lost.
  pub record TurnIs (old : Air L) (f : Signal) (far : A) (heard : Option Heard) (new : Air L) (far' : A) : Type 0 where
    pub lit : old.lit ≡ true
    pub by : TurnBy (first_fate old.fates) old f far heard new far'

  module _ (stops : A → List ℕ → A → Type 0) (is_stuck : A → Bool) where
    -- Each listener meets the frame, in order, up to one that hands over what stops the far end. Those behind it don't.
    abbrev pub HearSome : Signal → List L → A → List L → A → Type 0
    HearSome f [] far ls' far' = ⊥
    HearSome f (l ∷ ls) far ls' far' =
        (l' : L) × (later : List L) × (ls' ≡ l' ∷ later)
        × ((Stop stops is_stuck (hands_over m l f) (stepped_by m l f) far l' far' × (later ≡ ls))
        ⊎ ((answer : Option Signal) × (mid : A) × Meets f l far answer l' mid × HearSome f ls mid later far'))

    -- A turn that a far end broke off for want of memory: the request has passed, and nothing has come back.
    pub record Stops (old : Air L) (f : Signal) (far : A) (new : Air L) (far' : A) : Type 0 where
      pub fate : first_fate old.fates ≡ Pass
      pub listeners : List L
      pub some : HearSome f old.listeners far listeners far'
      pub left : new ≡ after_event old (Request f Pass) (later_fates old.fates)
          (record { lit = true; listeners = listeners })

    -- What a turn answers. In the dark nothing happens; want of memory comes before anything happens, or breaks the
    -- turn off.
    abbrev pub Transmits : Air L → Signal → A → Result Heard AirFault → Air L → A → Type 0
    Transmits old f far (Ok h) new far' = TurnIs old f far (Some h) new far'
    Transmits old f far (Err FieldLost) new far' = ((old.lit ≡ false) × (new ≡ old) × (far' ≡ far))
        ⊎ TurnIs old f far None new far'
    Transmits old f far (Err Memory) new far' = (old.lit ≡ true)
        × (((new ≡ old) × (far' ≡ far)) ⊎ Stops old f far new far')
