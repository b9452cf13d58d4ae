-- What C is told of a reading, a survey or a writing that goes on a command at a time (this project's own).
use Rattle.std.specs.Prelude.{◌≡◌, ℕ, ◌==◌, if◌then◌else◌, ℤ, ◌-◌, ◌⊎◌, List, Option, Some, None}
use Rattle.nfc_base.specs.declared.frame.Tech.{Tech}
use Rattle.nfc_base.specs.declared.frame.Tech.TheVariants as techs
use Rattle.tag_reader.specs.declared.how.How.{How}
use Rattle.tag_reader.specs.declared.how.How.TheVariants.{T2, T4, T5}
use Rattle.tag_reader.specs.declared.fault.ReadFault.{ReadFault}
use Rattle.tag_reader.specs.declared.fault.ReadFault.TheVariants as reads
use Rattle.tag_reader.specs.Numbers.{read_fault_number}
use Rattle.tag_reader.specs.declared.ground.Ground.{Ground}
use Rattle.tag_reader.specs.declared.ground.Ground.TheVariants.{Area, File}
use Rattle.tlv_area.specs.Tail.{map_room, capacity_of}
use Rattle.tag_writer.specs.declared.fault.WriteFault.{WriteFault}
use Rattle.tag_writer.specs.declared.fault.WriteFault.TheVariants as writes
use Rattle.tag_writer.specs.Numbers.{write_fault_number}
use Rattle.tag_steps.specs.declared.turn.Turn.{Turn}
use Rattle.tag_steps.specs.declared.reading.NextRead.{NextRead}
use Rattle.tag_steps.specs.declared.reading.NextRead.TheVariants as reading
use Rattle.tag_steps.specs.declared.surveying.NextSurvey.{NextSurvey}
use Rattle.tag_steps.specs.declared.surveying.NextSurvey.TheVariants as surveying
use Rattle.tag_steps.specs.declared.writing.NextWrite.{NextWrite}
use Rattle.tag_steps.specs.declared.writing.NextWrite.TheVariants as writing
use Rattle.tag_steps.specs.Logged.{logged}
use Rattle.tag_steps.specs.Reading.{TellsRead}
use Rattle.tag_steps.specs.Surveying.{TellsSurvey}
use Rattle.tag_steps.specs.Writing.{TellsWrite}
use Rattle.zevlodek_c.specs.declared.log.LogFault.{LogFault}
use Rattle.zevlodek_c.specs.declared.log.LogFault.TheVariants as logs
use Rattle.zevlodek_c.specs.declared.showing.Told.{Told}
use Rattle.zevlodek_c.specs.Codes.{done, send, bad_log, bad_argument, tag_fault}
use Rattle.zevlodek_c.specs.Showing.{Seen, shows, answers, of_bool}
use Rattle.zevlodek_c.specs.Log.{SpellsTurns, IsNoLog}

-- The kinds of tags by their numbers in C; a Type 5 tag has an identifier, high byte first.
abbrev pub how_of : ℕ → List ℕ → Option How
how_of kind id = if kind == 2 then Some T2 else if kind == 4 then Some T4 else if kind == 5 then Some (T5 id) else None

abbrev pub tech_of : How → Tech
tech_of T2 = techs.A
tech_of T4 = techs.A
tech_of (T5 id) = techs.V

-- why no turns are read off a log
abbrev pub no_turns : LogFault → ℤ
no_turns logs.Bad = bad_log
no_turns logs.Memory = tag_fault (read_fault_number reads.Memory)

-- a fault's number, and of a refusal the tag's code
abbrev pub read_fault_told : ReadFault → Told → Told
read_fault_told (reads.Refused code) told = record told { code = code }
read_fault_told _ told = told

abbrev pub write_fault_told : WriteFault → Told → Told
write_fault_told (writes.Refused code) told = record told { code = code }
write_fault_told (writes.TooLong most) told = record told { capacity = most }
write_fault_told _ told = told

abbrev pub read_shown : NextRead → List ℕ → Told → Seen
read_shown (reading.Send c) out told = shows send c.bytes out told
read_shown (reading.Found f) out told = shows done f.message out (record told { writable = of_bool f.writable })
read_shown (reading.Fault e) out told = answers (tag_fault (read_fault_number e)) out (read_fault_told e told)

-- where a message lies: how long the present one is, how long one may be, and whether writing is free
abbrev pub place_told : Ground → Told → Told
place_told (Area known block map') told =
    record told { length = map'.length; capacity = capacity_of (map_room map'); writable = of_bool map'.space.writable }
place_told (File map' length') told =
    record told { length = length'; capacity = map'.size - 2; writable = of_bool map'.writable }

abbrev pub survey_shown : NextSurvey → List ℕ → Told → Seen
survey_shown (surveying.Send c) out told = shows send c.bytes out told
survey_shown (surveying.Ground g) out told = answers done out (place_told g told)
survey_shown (surveying.Fault e) out told = answers (tag_fault (read_fault_number e)) out (read_fault_told e told)

abbrev pub write_shown : NextWrite → List ℕ → Told → Seen
write_shown (writing.Send c) out told = shows send c.bytes out told
write_shown writing.Done out told = answers done out told
write_shown (writing.Fault e) out told = answers (tag_fault (write_fault_number e)) out (write_fault_told e told)

-- Of turns that the log spells this is told: what a reading of the tag tells that gave these answers.
pub record IsReadTold (how : How) (log out : List ℕ) (told : Told) (seen : Seen) : Type 0 where
  pub turns : List Turn
  pub spells : SpellsTurns (tech_of how) turns log
  pub next : NextRead
  pub tells : TellsRead how (logged how turns) turns next
  pub shown : seen ≡ read_shown next out told

pub record IsSurveyTold (how : How) (log out : List ℕ) (told : Told) (seen : Seen) : Type 0 where
  pub turns : List Turn
  pub spells : SpellsTurns (tech_of how) turns log
  pub next : NextSurvey
  pub tells : TellsSurvey how (logged how turns) turns next
  pub shown : seen ≡ survey_shown next out told

pub record IsWriteTold (how : How) (message log out : List ℕ) (told : Told) (seen : Seen) : Type 0 where
  pub turns : List Turn
  pub spells : SpellsTurns (tech_of how) turns log
  pub next : NextWrite
  pub tells : TellsWrite how message (logged how turns) turns next
  pub shown : seen ≡ write_shown next out told

-- The bytes are no log, and this is told; or memory is wanting.
abbrev pub NoTurns : How → List ℕ → List ℕ → Told → Seen → Type 0
NoTurns how log out told seen = IsNoLog (tech_of how) log × (seen ≡ answers bad_log out told)

abbrev pub NoMemory : List ℕ → Told → Seen → Type 0
NoMemory out told seen = seen ≡ answers (tag_fault (read_fault_number reads.Memory)) out told

abbrev pub ReadsNext : Option How → List ℕ → List ℕ → Told → Seen → Type 0
ReadsNext None log out told seen = seen ≡ answers bad_argument out told
ReadsNext (Some how) log out told seen =
    NoTurns how log out told seen ⊎ (NoMemory out told seen ⊎ IsReadTold how log out told seen)

abbrev pub SurveysNext : Option How → List ℕ → List ℕ → Told → Seen → Type 0
SurveysNext None log out told seen = seen ≡ answers bad_argument out told
SurveysNext (Some how) log out told seen =
    NoTurns how log out told seen ⊎ (NoMemory out told seen ⊎ IsSurveyTold how log out told seen)

abbrev pub WritesNext : Option How → List ℕ → List ℕ → List ℕ → Told → Seen → Type 0
WritesNext None message log out told seen = seen ≡ answers bad_argument out told
WritesNext (Some how) message log out told seen =
    NoTurns how log out told seen ⊎ (NoMemory out told seen ⊎ IsWriteTold how message log out told seen)
