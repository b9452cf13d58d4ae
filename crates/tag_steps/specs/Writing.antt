-- What a writing tells that goes on a command at a time.
use Rattle.std.specs.Prelude.{◌≡◌, ℕ, ◌<◌, ◌≤◌, ◌⊎◌, List, [], ◌∷◌, ◌++◌, length, take, get_or, Option, Some, Result}
use Rattle.std.specs.Prelude.{Ok, Err}
use Rattle.nfc_base.specs.Signal.{Signal}
use Rattle.nfc_base.specs.TagLinks.{LinkView}
use Rattle.nfc_base.specs.declared.tag_link.AskFault.{AskFault}
use Rattle.nfc_base.specs.declared.tag_link.AskFault.TheVariants as ask
use Rattle.tag_reader.specs.declared.how.How.{How}
use Rattle.tag_reader.specs.Heard.{IsBroughtBy, IsOddly, asked_for, next_command}
use Rattle.tag_reader.specs.SurveyHeard.{SaysGround}
use Rattle.tag_writer.specs.declared.fault.WriteFault.{WriteFault}
use Rattle.tag_writer.specs.declared.fault.WriteFault.TheVariants as faults
use Rattle.tag_writer.specs.declared.work.Work.{Work}
use Rattle.tag_writer.specs.Commands.{all_commands}
use Rattle.tag_writer.specs.WriteHeard.{AreAcknowledgedBy, IsAnsweredBy, IsOddAnswer}
use Rattle.tag_writer.specs.WriteTold.{IsDeclinedBy, IsPlannedBy, IsWriteToldBy}
use Rattle.tag_writer.specs.Writing.{KeepsLaw, WritesInOrder, TellsSuccess, TellsCause}
use Rattle.tag_steps.specs.Replay.{Tag, commands_of, first_link, link_behind}
use Rattle.tag_steps.specs.declared.turn.Turn.{Turn}
use Rattle.tag_steps.specs.declared.writing.NextWrite.{NextWrite}
use Rattle.tag_steps.specs.declared.writing.NextWrite.TheVariants.{Send, Done, Fault}

-- A writing that has a command to send is one whose field was lost at it.
abbrev pub writing_of : NextWrite → Result (Unit {0}) WriteFault
writing_of (Send c) = Err faults.FieldLost
writing_of Done = Ok tt
writing_of (Fault e) = Err e

-- A command to send stands behind all turns, and is the last that was asked. At a fault nothing was asked that the
-- turns don't answer.
abbrev pub WriteStops : List Turn → ℕ → Option AskFault → Option Signal → NextWrite → Type 0
WriteStops turns used over last (Send c) = (used ≡ length turns) × (over ≡ Some ask.FieldLost) × (last ≡ Some c)
WriteStops turns used over last Done = Unit {0}
WriteStops turns used over last (Fault e) = over ≡ Some ask.FieldLost → ⊥

-- It tells what a writing over the link to this tag tells, which stands behind the first so many turns. The tag may
-- have obeyed a command to send already: its stores keep the law of a write with and without that.
pub record TellsWrite (how : How) (message : List ℕ) (t : Tag) (turns : List Turn) (next : NextWrite) : Type 0 where
  pub used : ℕ
  pub few : used ≤ length turns
  pub over : Option AskFault
  pub last : Option Signal
  pub stops : WriteStops turns used over last next
  -- whatever the tag does
  pub told : IsWriteToldBy how message (first_link t) (link_behind t turns used over last) (writing_of next)
  -- where it is a tag of that kind
  pub law : KeepsLaw how message (first_link t) (link_behind t turns used over last) (writing_of next)
  pub asked : WritesInOrder how message (first_link t) (link_behind t turns used over last)
  pub ok : TellsSuccess how message (first_link t) (link_behind t turns used over last) (writing_of next)
  pub err : TellsCause how message (first_link t) (link_behind t turns used over last) (writing_of next)

-- The turns' commands are those that were to be sent. Where the turns before one brought pieces, one a command, its own
-- is the command that follows them, unless they say a ground. Where they say one, and the writes on it so far were
-- acknowledged, its own is the next write.
pub record AreSentToWrite (how : How) (message : List ℕ) (t : Tag) (turns : List Turn) : Type 0 where
  pub reads : (n : ℕ) (ps : List (List ℕ)) (u : Turn) → n < length turns → u ≡ get_or turns n u
      → IsBroughtBy how t.step t.start [] ps → commands_of (take n turns) ≡ asked_for how [] ps
      → (u.command ≡ next_command how ps) ⊎ SaysGround how ps
  pub writes : (n : ℕ) (u : Turn) (v : LinkView) (w : Work) (front : List Signal) (next : Signal) (rest : List Signal)
      → n < length turns → u ≡ get_or turns n u
      → IsPlannedBy how message w (first_link t) v → all_commands w ≡ front ++ next ∷ rest
      → AreAcknowledgedBy how v.step v.state front → commands_of (take n turns) ≡ v.answered ++ front
      → u.command ≡ next

-- The writes before were acknowledged, and the tag's last answer neither acknowledges its write nor refuses it.
pub record IsOddWrite (how : How) (message : List ℕ) (a b : LinkView) : Type 0 where
  pub v : LinkView
  pub w : Work
  pub planned : IsPlannedBy how message w a v
  pub front : List Signal
  pub next : Signal
  pub rest : List Signal
  pub split : all_commands w ≡ front ++ next ∷ rest
  pub by : AreAcknowledgedBy how v.step v.state front
  pub r : Signal
  pub answered : IsAnsweredBy v b front next r
  pub odd : IsOddAnswer how r

-- The tag's last answer is one that may not come, to a read or to a write, or the tag says blocks of more than 32
-- bytes.
abbrev pub IsOddTo : How → List ℕ → LinkView → LinkView → Type 0
IsOddTo how message a b = IsOddly how a b ⊎ (IsDeclinedBy how message a b faults.Protocol ⊎ IsOddWrite how message a b)

pub record IsOddToWriter (how : How) (message : List ℕ) (t : Tag) (turns : List Turn) : Type 0 where
  pub used : ℕ
  pub over : Option AskFault
  pub last : Option Signal
  pub odd : IsOddTo how message (first_link t) (link_behind t turns used over last)
