-- How C keeps what passed between a reader and a tag: a log (this project's own).
use Rattle.std.specs.Prelude.{◌≡◌, ℕ, ◌/◌, ◌%◌, List, [], ◌∷◌, ◌++◌, length}
use Rattle.nfc_base.specs.Signal.{IsSignal}
use Rattle.nfc_base.specs.declared.frame.Tech.{Tech}
use Rattle.tag_steps.specs.declared.turn.Turn.{Turn}

-- some bytes behind two that say how many they are, low byte first
abbrev pub counted : List ℕ → List ℕ
counted bytes = length bytes % 256 ∷ length bytes / 256 ∷ bytes

-- One turn begins a log: how many low bits of the answer's last byte were sent, 0 for all; the command; and the answer.
pub record SpellsTurn (tech : Tech) (t : Turn) (log rest : List ℕ) : Type 0 where
  pub bytes : log ≡ t.answer.tail ∷ counted t.command.bytes ++ (counted t.answer.bytes ++ rest)
  pub asked : t.command.tech ≡ tech
  pub whole : t.command.tail ≡ 0
  pub said : t.answer.tech ≡ tech
  pub command : IsSignal t.command
  pub answer : IsSignal t.answer

-- the turns of a log, one after the other
abbrev pub SpellsTurns : Tech → List Turn → List ℕ → Type 0
SpellsTurns tech [] log = log ≡ []
SpellsTurns tech (t ∷ ts) log = (rest : List ℕ) × SpellsTurn tech t log rest × SpellsTurns tech ts rest

-- these bytes are no log
abbrev pub IsNoLog : Tech → List ℕ → Type 0
IsNoLog tech log = (turns : List Turn) → SpellsTurns tech turns log → ⊥
