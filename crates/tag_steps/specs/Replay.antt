-- Turns with a tag, and the link that they were made over, as it stands behind some of them (this project's own).
use Rattle.std.specs.Prelude.{◌≡◌, ◌<◌, ℕ, List, [], ◌∷◌, ◌++◌, take, length, get_or, Option, Some, None, false, true}
use Rattle.std.specs.Prelude.{Bool}
use Rattle.nfc_base.specs.Signal.{Signal}
use Rattle.nfc_base.specs.Links.{Counts}
use Rattle.nfc_base.specs.TagLinks.{TagKind, TagState, TagStep, LinkView, after_all}
use Rattle.nfc_base.specs.declared.tag_link.AskFault.{AskFault}
use Rattle.nfc_base.specs.declared.tag_link.AskFault.TheVariants.{FieldLost, SixBad, Memory, Protocol}
use Rattle.tag_steps.specs.declared.turn.Turn.{Turn}

-- A tag: its kind and identifier, what it was when the first command was sent, its step, and whether it obeyed the
-- command that was sent last, whose answer isn't there.
pub record Tag : Type 0 where
  pub kind : TagKind
  pub identifier : List ℕ
  pub start : TagState
  pub step : TagState → Signal → TagStep
  pub lost : Bool

-- from this state on it answered the commands of these turns so
abbrev pub AgreesFrom : (TagState → Signal → TagStep) → TagState → List Turn → Type 0
AgreesFrom step s [] = Unit {0}
AgreesFrom step s (t ∷ ts) = ((step s t.command).answer ≡ Some t.answer) × AgreesFrom step (step s t.command).after ts

abbrev pub Agrees : Tag → List Turn → Type 0
Agrees t turns = AgreesFrom t.step t.start turns

abbrev pub commands_of : List Turn → List Signal
commands_of [] = []
commands_of (t ∷ ts) = t.command ∷ commands_of ts

-- what ended the link, counted, and the transmissions that were lost by it
abbrev pub counts_of : Option AskFault → Counts
counts_of None = record { breaks = 0; six_bad = 0; odd = 0 }
counts_of (Some FieldLost) = record { breaks = 1; six_bad = 0; odd = 0 }
counts_of (Some SixBad) = record { breaks = 0; six_bad = 1; odd = 0 }
counts_of (Some Protocol) = record { breaks = 0; six_bad = 0; odd = 1 }
counts_of (Some Memory) = record { breaks = 0; six_bad = 0; odd = 0 }

abbrev pub noise_of : Option AskFault → ℕ
noise_of None = 0
noise_of (Some fault) = 1

-- What the tag obeyed: the commands that it answered and, where its answer to the last one isn't there, maybe that.
abbrev pub obeyed_of : Option AskFault → Bool → Option Signal → List Signal → List Signal
obeyed_of (Some FieldLost) true (Some c) asked = asked ++ c ∷ []
obeyed_of over lost last asked = asked

-- The link to a tag behind these commands: the one that was sent last, and by which fault the link is over, where it
-- is.
abbrev pub link_at : Tag → Option AskFault → Option Signal → List Signal → LinkView
link_at t over last asked = record {
  kind = t.kind;
  identifier = t.identifier;
  step = t.step;
  state = after_all t.step t.start (obeyed_of over t.lost last asked);
  obeyed = obeyed_of over t.lost last asked;
  answered = asked;
  last = last;
  over = over;
  dark = false;
  counts = counts_of over;
  noise = noise_of over;
}

-- before any command
abbrev pub first_link : Tag → LinkView
first_link t = link_at t None None []

-- behind the first so many turns
abbrev pub link_behind : Tag → List Turn → ℕ → Option AskFault → Option Signal → LinkView
link_behind t turns used over last = link_at t over last (commands_of (take used turns))

-- the command to be sent: the last one, where the link is over since no turn was left for it
abbrev pub due_of : Option AskFault → Option Signal → Option Signal
due_of (Some FieldLost) last = last
due_of over last = None

-- The turn behind the first so many has another command than the one that was asked last.
pub record Differs (turns : List Turn) (used : ℕ) (last : Option Signal) : Type 0 where
  pub turn : Turn
  pub command : Signal
  pub low : used < length turns
  pub there : turn ≡ get_or turns used turn
  pub asked : last ≡ Some command
  pub other : turn.command ≡ command → ⊥
