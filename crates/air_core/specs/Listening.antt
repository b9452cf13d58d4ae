-- One step of a listener: what it asks of the far end above it, and what follows from the reply.
use Rattle.std.specs.Prelude.{◌≡◌, ℕ, List, Bool, true, false, Option, Some, None}
use Rattle.nfc_base.specs.Signal.{Signal}
use Rattle.nfc_base.specs.Far.{FarUse, Hands, FarDid}
use Rattle.nfc_base.specs.declared.frame.Tech.{Tech}
use Rattle.nfc_base.specs.TagLinks.{TagState, TagStep}

-- What a listener says that was given a place for its answer: the frame that stands there then, or nothing.
abbrev pub said_at : Bool → Signal → Option Signal
said_at true place = Some place
said_at false place = None

-- The far end did what was asked of it. The answer, and what the listener is after, are these functions of the reply.
pub record Step {L A : Type 0} (restarts : A → List ℕ → A → Type 0) (steps : A → List ℕ → List ℕ → A → Type 0)
    (asked : FarUse) (answers : Option (List ℕ) → Option Signal) (leaves : Option (List ℕ) → L) (old : A)
    (answer : Option Signal) (after : L) (new : A) : Type 0 where
  pub reply : Option (List ℕ)
  pub far : FarDid restarts steps asked old reply new
  pub says : answer ≡ answers reply
  pub left : after ≡ leaves reply

-- A payload was handed to the far end, which stopped for want of memory. The listener got no reply.
pub record Stop {L A : Type 0} (stops : A → List ℕ → A → Type 0) (is_stuck : A → Bool) (asked : FarUse)
    (leaves : Option (List ℕ) → L) (old : A) (after : L) (new : A) : Type 0 where
  pub payload : List ℕ
  pub handed : asked ≡ Hands payload
  pub far : stops old payload new
  pub stuck : is_stuck new ≡ true
  pub left : after ≡ leaves None

-- What nothing on the air changes of a device: its technology, its identifier, and of a tag its step on commands.
pub record StaysSame {L : Type 0} (tech : L → Tech) (identifier : L → List ℕ)
    (commands : L → TagState → Signal → TagStep)
    (old new : L) : Type 0 where
  pub tech' : tech new ≡ tech old
  pub identifier' : identifier new ≡ identifier old
  pub commands' : commands new ≡ commands old
