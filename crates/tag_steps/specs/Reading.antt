-- What a reading tells that goes on a command at a time.
use Rattle.std.specs.Prelude.{◌≡◌, ℕ, ◌<◌, ◌≤◌, List, [], length, take, get_or, Option, Some, None, Result, Ok, Err}
use Rattle.nfc_base.specs.Signal.{Signal}
use Rattle.nfc_base.specs.declared.tag_link.AskFault.{AskFault}
use Rattle.nfc_base.specs.declared.tag_link.AskFault.TheVariants as ask
use Rattle.tag_reader.specs.declared.how.How.{How}
use Rattle.tag_reader.specs.declared.found.Found.{Found as FoundMessage}
use Rattle.tag_reader.specs.declared.fault.ReadFault.{ReadFault}
use Rattle.tag_reader.specs.declared.fault.ReadFault.TheVariants as faults
use Rattle.tag_reader.specs.Asked.{ToRead, IsDueFor, AreDueFor}
use Rattle.tag_reader.specs.Heard.{IsToldBy, IsBroughtBy, IsOddly, asked_for, next_command}
use Rattle.tag_reader.specs.Kinds.{command, OfTag}
use Rattle.tag_reader.specs.Reading.{KeepsStore, AsksInOrder, TellsMessage, TellsCause}
use Rattle.tag_steps.specs.Replay.{Tag, commands_of, first_link, link_behind}
use Rattle.tag_steps.specs.declared.turn.Turn.{Turn}
use Rattle.tag_steps.specs.declared.reading.NextRead.{NextRead}
use Rattle.tag_steps.specs.declared.reading.NextRead.TheVariants.{Send, Found, Fault}

-- A reading that has a command to send is one whose field was lost at it.
abbrev pub reading_of : NextRead → Result FoundMessage ReadFault
reading_of (Send c) = Err faults.FieldLost
reading_of (Found found) = Ok found
reading_of (Fault e) = Err e

-- A command to send stands behind all turns, and is the last that was asked. Else nothing was asked that they don't
-- answer.
abbrev pub ReadStops : List Turn → ℕ → Option AskFault → Option Signal → NextRead → Type 0
ReadStops turns used over last (Send c) = (used ≡ length turns) × (over ≡ Some ask.FieldLost) × (last ≡ Some c)
ReadStops turns used over last (Found found) = over ≡ None
ReadStops turns used over last (Fault e) = over ≡ Some ask.FieldLost → ⊥

-- It tells what a reading over the link to this tag tells, which stands behind the first so many turns. The tag may
-- have obeyed a command to send already.
pub record TellsRead (how : How) (t : Tag) (turns : List Turn) (next : NextRead) : Type 0 where
  pub used : ℕ
  pub few : used ≤ length turns
  pub over : Option AskFault
  pub last : Option Signal
  pub stops : ReadStops turns used over last next
  -- whatever the tag does
  pub told : IsToldBy how (first_link t) (link_behind t turns used over last) (reading_of next)
  -- where it is a tag of that kind
  pub stays : KeepsStore how (first_link t) (link_behind t turns used over last)
  pub asked : AsksInOrder ToRead how (first_link t) (link_behind t turns used over last)
  pub ok : TellsMessage how (first_link t) (reading_of next)
  pub err : TellsCause how (first_link t) (link_behind t turns used over last) (reading_of next)

-- A command to send to a tag of that kind is the one which is due behind the first so many, all of which are due.
pub record IsDueNext (how : How) (size : ℕ) (store : List ℕ) (c : Signal) : Type 0 where
  pub count : ℕ
  pub each : AreDueFor ToRead how size store count
  pub due : IsDueFor ToRead how size store count
  pub command' : c ≡ command how size store count

abbrev pub SendsDue : How → Tag → NextRead → Type 0
SendsDue how t (Send c) = OfTag how (first_link t) (λ size. IsDueNext how size t.start.store c)
SendsDue how t (Found found) = Unit {0}
SendsDue how t (Fault e) = Unit {0}

-- Whatever the tag does: the turns brought pieces, one a command, and the command to send is the one that follows them.
pub record IsNextBehind (how : How) (t : Tag) (turns : List Turn) (c : Signal) : Type 0 where
  pub ps : List (List ℕ)
  pub pieces : IsBroughtBy how t.step t.start [] ps
  pub commands : commands_of turns ≡ asked_for how [] ps
  pub next : c ≡ next_command how ps

abbrev pub SendsNext : How → Tag → List Turn → NextRead → Type 0
SendsNext how t turns (Send c) = IsNextBehind how t turns c
SendsNext how t turns (Found found) = Unit {0}
SendsNext how t turns (Fault e) = Unit {0}

-- The turns' commands are those that were to be sent: where the turns before one brought pieces, one a command, its own
-- is the command that follows them.
abbrev pub AreSent : How → Tag → List Turn → Type 0
AreSent how t turns =
    (n : ℕ) (ps : List (List ℕ)) (u : Turn) → n < length turns → u ≡ get_or turns n u
    → IsBroughtBy how t.step t.start [] ps
    → commands_of (take n turns) ≡ asked_for how [] ps → u.command ≡ next_command how ps

-- the tag's last answer is one that may not come
pub record IsOddBehind (how : How) (t : Tag) (turns : List Turn) : Type 0 where
  pub used : ℕ
  pub over : Option AskFault
  pub last : Option Signal
  pub odd : IsOddly how (first_link t) (link_behind t turns used over last)
