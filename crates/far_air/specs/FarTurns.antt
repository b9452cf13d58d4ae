-- The second bridge: where one device at most hands something over, what `transmit` says over its far end is a turn of
-- the world with far ends, at that device's place.
use Rattle.std.specs.Prelude.{◌≡◌, ℕ, zero, suc, List, [], ◌∷◌, ◌++◌, Bool, Option}
use Rattle.nfc_base.specs.declared.event.Event.TheVariants.{Reset}
use Rattle.nfc_base.specs.declared.event.Heard.{Heard}
use Rattle.nfc_base.specs.Signal.{Signal}
use Rattle.nfc_base.specs.Far.{Untouched}
use Rattle.nfc_base.specs.Choosing.{Choosing}
use Rattle.air_core.specs.World.{Machine, World, hands_over, quiet_air}
use Rattle.air_core.specs.Conversation.{Moment, Note, note, Next, Asks, IsDemand, Going, TurnsTo, with_events}
use Rattle.air_core.specs.Turn.{Air, TurnIs, moment}
use Rattle.air_core.specs.Quiet.{EachQuiet}
use Rattle.air_core.specs.Speaking.{DueTurns, Speaks}
use Rattle.far_air.specs.FarEnds.{FarTable}
use Rattle.far_air.specs.FarWorld.{far_air}
use Rattle.far_air.specs.FarLaws.{IsFarTable, IsLinked, IsOfTable, seen_at, seen_with}

-- none of these devices but the one at a place hands anything over at this frame
abbrev pub QuietBut : {L : Type 0} → Machine L → Signal → ℕ → List L → Type 0
QuietBut m f place [] = Unit {0}
QuietBut m f zero (l ∷ ls) = EachQuiet m f ls
QuietBut m f (suc place) (l ∷ ls) = (hands_over m l f ≡ Untouched) × QuietBut m f place ls

module _ {L F : Type 0} (m : Machine L) (linked : L → Bool) (t : FarTable F) where
  -- From one moment of a field to another a turn was made, in which the far end of the device at this place went from
  -- one state to another: it is a turn of the world with far ends, by the numbers that are left to it.
  abbrev pub FarTurn : Moment (World L) → Moment (World L) → Signal → Option Heard → ℕ → List (Option F) → Choosing F
      → Choosing F → Type 0
  FarTurn old new f heard place os far after =
      TurnsTo (far_air m linked t) (seen_with linked t old os place far) (seen_with linked t new os place after) f heard

  abbrev pub FarTurns : {A : Type 0} → (A → List ℕ → A → Type 0) → (A → List ℕ → List ℕ → A → Type 0) → (A → Choosing F)
      → Type 0
  FarTurns {A} restarts steps view = IsLinked m linked → IsFarTable t → IsOfTable restarts steps t view
      → (old new : Air L) (f : Signal) (heard : Option Heard) (far after : A) (place : ℕ) (os : List (Option F))
      → QuietBut m f place old.listeners → TurnIs m restarts steps old f far heard new after
      → FarTurn (moment old) (moment new) f heard place os (view far) (view after)

  -- a reset of the field is one of this world
  abbrev pub FarResets : Type 0
  FarResets = IsLinked m linked → IsFarTable t → (a : Moment (World L)) (os : List (Option F)) (ns : List ℕ)
      → with_events (far_air m linked t) (seen_at linked t a os ns) (Reset ∷ [])
      ≡ seen_at linked t (with_events (quiet_air m) a (Reset ∷ [])) os ns

  -- From one moment to another turns were made whose requests were due, and this is what the reader knows of them; the
  -- far end of the device at this place went from one state to another, and took its numbers in order.
  abbrev pub FarGoing : (List Note → Next) → Moment (World L) → Moment (World L) → List Note → ℕ → List (Option F)
      → Choosing F → Choosing F → Type 0
  FarGoing next old new notes place os far after =
      Going (far_air m linked t) next (seen_with linked t old os place far) (seen_with linked t new os place after)
      notes

  -- One turn more, and two parts of a command one after the other: an entry takes the numbers of its turns, in order.
  abbrev pub FarGoesOn : Type 0
  FarGoesOn =
      (next : List Note → Next) (old mid new : Moment (World L)) (f : Signal) (heard : Option Heard) (notes : List Note)
      (place : ℕ) (os : List (Option F)) (far half after : Choosing F)
      → FarGoing next old mid notes place os far half → next notes ≡ Asks f
      → FarTurn mid new f heard place os half after
      → FarGoing next old new (notes ++ note heard ∷ []) place os far after

  abbrev pub FarGoesThen : Type 0
  FarGoesThen =
      (next first second : List Note → Next) (old mid new : Moment (World L)) (notes more : List Note) (place : ℕ)
      (os : List (Option F)) (far half after : Choosing F)
      → ((ns : List Note) (n : Next) → first ns ≡ n → IsDemand n → next ns ≡ n)
      → ((ns : List Note) → next (notes ++ ns) ≡ second ns)
      → FarGoing first old mid notes place os far half → FarGoing second mid new more place os half after
      → FarGoing next old new (notes ++ more) place os far after

  module _ {A : Type 0} (restarts : A → List ℕ → A → Type 0) (steps : A → List ℕ → List ℕ → A → Type 0)
      (next : List Note → Next) (place : ℕ) where
    -- in each of these turns one device at most hands something over, the one at this place
    abbrev pub AllQuietBut : (seen : List Note) (old : Air L) (far : A) (ns : List Note) (new : Air L) (after : A)
        → DueTurns m restarts steps next seen old far ns new after → Type 0
    AllQuietBut seen old far [] new after d = Unit {0}
    AllQuietBut seen old far (n ∷ ns) new after (f, h, mid, half, due, known, turn, rest) =
        QuietBut m f place old.listeners × AllQuietBut (seen ++ n ∷ []) mid half ns new after rest

    -- So what a reader says to listeners and a far end of this kind, turn by turn, it says in the world with far ends.
    abbrev pub SpeaksFar : (A → Choosing F) → Type 0
    SpeaksFar view = IsLinked m linked → IsFarTable t → IsOfTable restarts steps t view
        → (old new : Air L) (far after : A) (notes : List Note)
        (s : Speaks m restarts steps next old far new after notes)
        → AllQuietBut [] old far notes new after s.turns → (os : List (Option F))
        → FarGoing next (moment old) (moment new) notes place os (view far) (view after)
