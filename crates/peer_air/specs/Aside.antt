-- A conversation with one listener of a field, in frames of whole bytes of NFC-A, while all others are aside (NFC Forum
-- Digital Protocol; who hears what is this project's own).
use Rattle.std.specs.Prelude.{◌≡◌, ℕ, zero, suc, List, [], ◌∷◌, Bool, Option}
use Rattle.std.specs.List.{AllByRecursion}
use Rattle.nfc_base.specs.Choosing.{Choosing}
use Rattle.nfc_base.specs.Signal.{Signal, whole_a}
use Rattle.nfc_base.specs.declared.event.Heard.{Heard}
use Rattle.air_core.specs.Conversation.{Note, Next, Asks}
use Rattle.air_core.specs.PlainTags.{IsAside}
use Rattle.air_core.specs.Speaking.{Speaks}
use Rattle.air_core.specs.Turn.{Air, moment, TurnIs}
use Rattle.air_core.specs.declared.listener.Listener.{Ghosts}
use Rattle.far_air.specs.FarEnds.{FarTable}
use Rattle.far_air.specs.FarLaws.{IsFarTable, IsLinked, IsOfTable}
use Rattle.far_air.specs.FarTurns.{QuietBut, FarGoing}

module _ {L : Type 0} (k : Ghosts L) where
  -- All listeners but the one at a place are aside: of another identifier than this one, and no NFC-A device that is
  -- ready or selected.
  abbrev pub AsideBut : List ℕ → ℕ → List L → Type 0
  AsideBut own place [] = Unit {0}
  AsideBut own zero (l ∷ ls) = AllByRecursion (IsAside k own) ls
  AsideBut own (suc place) (l ∷ ls) = IsAside k own l × AsideBut own place ls

  module _ {A : Type 0} (restarts : A → List ℕ → A → Type 0) (steps : A → List ℕ → List ℕ → A → Type 0) where
    -- At such a frame none of them hands anything over, and they stay aside.
    abbrev pub AsideTurns : Type 0
    AsideTurns =
        (own : List ℕ) (place : ℕ) (old new : Air L) (f : Signal) (heard : Option Heard) (far after : A)
        → f ≡ whole_a f.bytes → AsideBut own place old.listeners
        → TurnIs k.machine restarts steps old f far heard new after
        → QuietBut k.machine f place old.listeners × AsideBut own place new.listeners

    -- So what a reader says in such frames, turn by turn, it says in the world with far ends at that place.
    abbrev pub SpeaksAside : {F : Type 0} → (L → Bool) → FarTable F → (A → Choosing F) → Type 0
    SpeaksAside {F} linked t view = IsLinked k.machine linked → IsFarTable t → IsOfTable restarts steps t view
        → (next : List Note → Next) (own : List ℕ) (place : ℕ) (old new : Air L) (far after : A) (notes : List Note)
        → ((seen : List Note) (f : Signal) → next seen ≡ Asks f → f ≡ whole_a f.bytes)
        → AsideBut own place old.listeners
        → Speaks k.machine restarts steps next old far new after notes → (os : List (Option F))
        → FarGoing k.machine linked t next (moment old) (moment new) notes place os (view far) (view after)
