-- What a survey tells that goes on a command at a time.
use Rattle.std.specs.Prelude.{◌≡◌, ℕ, ◌≤◌, List, length, Option, Some, Result, Ok, Err, IfOk}
use Rattle.nfc_base.specs.Signal.{Signal}
use Rattle.nfc_base.specs.declared.tag_link.AskFault.{AskFault}
use Rattle.nfc_base.specs.declared.tag_link.AskFault.TheVariants as ask
use Rattle.tag_reader.specs.declared.how.How.{How}
use Rattle.tag_reader.specs.declared.ground.Ground.{Ground as GroundFound}
use Rattle.tag_reader.specs.declared.fault.ReadFault.{ReadFault}
use Rattle.tag_reader.specs.declared.fault.ReadFault.TheVariants as faults
use Rattle.tag_reader.specs.Asked.{ToWrite}
use Rattle.tag_reader.specs.Reading.{KeepsStore, AsksInOrder, TellsCause}
use Rattle.tag_reader.specs.Survey.{IsPlacedGround, TellsGround}
use Rattle.tag_reader.specs.SurveyHeard.{IsGroundToldBy}
use Rattle.tag_steps.specs.Replay.{Tag, first_link, link_behind}
use Rattle.tag_steps.specs.declared.turn.Turn.{Turn}
use Rattle.tag_steps.specs.declared.surveying.NextSurvey.{NextSurvey}
use Rattle.tag_steps.specs.declared.surveying.NextSurvey.TheVariants.{Send, Ground, Fault}

-- A survey that has a command to send is one whose field was lost at it.
abbrev pub survey_of : NextSurvey → Result GroundFound ReadFault
survey_of (Send c) = Err faults.FieldLost
survey_of (Ground found) = Ok found
survey_of (Fault e) = Err e

-- A command to send stands behind all turns, and is the last that was asked. At a fault nothing was asked that the
-- turns don't answer.
abbrev pub SurveyStops : List Turn → ℕ → Option AskFault → Option Signal → NextSurvey → Type 0
SurveyStops turns used over last (Send c) = (used ≡ length turns) × (over ≡ Some ask.FieldLost) × (last ≡ Some c)
SurveyStops turns used over last (Ground found) = Unit {0}
SurveyStops turns used over last (Fault e) = over ≡ Some ask.FieldLost → ⊥

-- It tells what a survey over the link to this tag tells, which stands behind the first so many turns.
pub record TellsSurvey (how : How) (t : Tag) (turns : List Turn) (next : NextSurvey) : Type 0 where
  pub used : ℕ
  pub few : used ≤ length turns
  pub over : Option AskFault
  pub last : Option Signal
  pub stops : SurveyStops turns used over last next
  -- whatever the tag does
  pub told : IsGroundToldBy how (first_link t) (link_behind t turns used over last) (survey_of next)
  pub places : IfOk (survey_of next) IsPlacedGround
  -- where it is a tag of that kind
  pub stays : KeepsStore how (first_link t) (link_behind t turns used over last)
  pub asked : AsksInOrder ToWrite how (first_link t) (link_behind t turns used over last)
  pub ok : TellsGround how (first_link t) (link_behind t turns used over last) (survey_of next)
  pub err : TellsCause how (first_link t) (link_behind t turns used over last) (survey_of next)
