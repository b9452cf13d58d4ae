-- What a reader says to listeners of any kind, by what it hears of them, below any far end (a reader speaks first and a
-- listener answers at once or not at all: NFC Forum Digital Protocol; fates and far ends are this project's own).
use Rattle.std.specs.Prelude.{◌≡◌, ◌⊎◌, ℕ, Option, List, [], ◌∷◌, ◌++◌, Bool, true, false}
use Rattle.nfc_base.specs.Signal.{Signal}
use Rattle.nfc_base.specs.Trace.{back_of}
use Rattle.nfc_base.specs.Trace as backs
use Rattle.nfc_base.specs.declared.event.Event.{Event}
use Rattle.nfc_base.specs.declared.event.Heard.{Heard}
use Rattle.air_core.specs.World.{Machine}
use Rattle.air_core.specs.Turn.{Air, TurnIs, Stops}
use Rattle.air_core.specs.Conversation.{Note, Lit, Got, Lost, note, Next, Asks, receptions, EachDue, queue_after}
use Rattle.air_core.specs.Conversation.{FatesFrom}

-- whether a field is lit once this was received
abbrev pub lit_after : Bool → List Note → Bool
lit_after lit [] = lit
lit_after lit (Lit ∷ ns) = lit_after true ns
lit_after lit (Got h ∷ ns) = lit_after lit ns
lit_after lit (Lost ∷ ns) = lit_after false ns

module _ {L A : Type 0} (m : Machine L) (restarts : A → List ℕ → A → Type 0) (steps : A → List ℕ → List ℕ → A → Type 0)
    (next : List Note → Next) where
  -- Turns one after another, of which this was heard, behind what was seen: each request is due by what was heard
  -- before it.
  abbrev pub DueTurns : List Note → Air L → A → List Note → Air L → A → Type 0
  DueTurns seen old far [] new after = (new ≡ old) × (after ≡ far)
  DueTurns seen old far (n ∷ ns) new after =
      (f : Signal) × (h : Option Heard) × (mid : Air L) × (half : A) × (next seen ≡ Asks f) × (n ≡ note h)
      × TurnIs m restarts steps old f far h mid half
      × DueTurns (seen ++ n ∷ []) mid half ns new after

  -- From one field and far end to others the reader made turns: each request was due by what it had heard before, each
  -- transmission has the first fate that was left, and this is what it heard. The listeners and the far end did in each
  -- turn what they do. In the dark nothing happens.
  pub record Speaks (old : Air L) (far : A) (new : Air L) (after : A) (notes : List Note) : Type 0 where
    pub turns : DueTurns [] old far notes new after
    pub events : List Event
    pub trace : new.trace ≡ old.trace ++ events
    pub each : EachDue next [] events
    pub fates : FatesFrom old.fates events
    pub queue : new.fates ≡ queue_after old.fates events
    pub fresh : back_of events ≡ backs.Nothing
    pub known : receptions events ≡ notes
    pub lit : new.lit ≡ lit_after old.lit notes
    pub dim : old.lit ≡ false → new ≡ old

  -- Behind such turns nothing more happened, or the far end stopped for want of memory: a request that was due had
  -- passed, and nothing came back of it.
  abbrev pub LeavesOff : (A → List ℕ → A → Type 0) → (A → Bool) → List Note → Air L → A → Air L → A → Type 0
  LeavesOff stops is_stuck notes mid half new after =
      ((new ≡ mid) × (after ≡ half)) ⊎ ((f : Signal) × (next notes ≡ Asks f)
      × Stops m restarts steps stops is_stuck mid f half new after)

-- What a reader tells that had more to ask: memory was wanting, or the field had been dark from the start.
abbrev pub TellsWhy : {R : Type 0} → (dark wanting : R) → Bool → List Note → R → Type 0
TellsWhy dark wanting true notes result = result ≡ wanting
TellsWhy dark wanting false notes result = (notes ≡ []) × (result ≡ dark)
