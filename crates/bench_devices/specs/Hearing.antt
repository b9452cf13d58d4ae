-- What a reader knows of turns whose transmissions all passed.
use Rattle.std.specs.Prelude.{}
use Rattle.nfc_base.specs.declared.event.Heard.TheVariants.{Whole, Collided, Damaged, Silent}
use Rattle.air_core.specs.Conversation.{Note, Lit, Got, Lost}

-- Nothing was damaged, and no field was lost: a whole frame was heard, frames that collided, or silence.
abbrev pub IsUnharmed : Note → Type 0
IsUnharmed Lit = Unit {0}
IsUnharmed (Got (Whole f)) = Unit {0}
IsUnharmed (Got (Collided f)) = Unit {0}
IsUnharmed (Got Damaged) = ⊥
IsUnharmed (Got Silent) = Unit {0}
IsUnharmed Lost = ⊥

-- A whole answer was heard.
abbrev pub IsAnswered : Note → Type 0
IsAnswered Lit = ⊥
IsAnswered (Got (Whole f)) = Unit {0}
IsAnswered (Got (Collided f)) = ⊥
IsAnswered (Got Damaged) = ⊥
IsAnswered (Got Silent) = ⊥
IsAnswered Lost = ⊥
