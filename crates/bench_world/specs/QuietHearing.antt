-- What is heard on quiet air, where no fate is left but Pass, and what a script without noise comes to. A later command
-- adds its case.
use Rattle.std.specs.Prelude.{◌≡◌, ℕ, List, [], ◌∷◌, Option, Some, None, Ok}
use Rattle.std.specs.List.{AllByRecursion}
use Rattle.nfc_base.specs.Trace.{noise}
use Rattle.nfc_base.specs.declared.event.Fate.{Fate}
use Rattle.air_core.specs.Conversation.{Note, receptions}
use Rattle.bench_script.specs.declared.command.Command.{Command}
use Rattle.bench_script.specs.declared.command.Command.TheVariants.{Fates, Find, Crowd, Poll3, Read, Read3, Write}
use Rattle.bench_script.specs.declared.command.Command.TheVariants.{Write3, Link, Forge}
use Rattle.bench_script.specs.declared.command.DeviceId.{DeviceId}
use Rattle.bench_script.specs.declared.command.DeviceId.TheVariants.{A}
use Rattle.bench_script.specs.DeviceIds.{bytes_of}
use Rattle.bench_script.specs.Messages.{message_of}
use Rattle.bench_script.specs.declared.message.Msg.{Msg}
use Rattle.bench_script.specs.Script.{Spells}
use Rattle.bench_devices.specs.declared.device.Device.{Device}
use Rattle.bench_devices.specs.declared.polling.SeenKind.{SeenKind}
use Rattle.bench_devices.specs.Answering.{IsNamed}
use Rattle.bench_devices.specs.Hearing.{IsUnharmed, IsAnswered}
use Rattle.bench_devices.specs.Placed.{device_with}
use Rattle.bench_devices.specs.Polling.{Told, selecting}
use Rattle.bench_world.specs.declared.entry.Answer.TheVariants as answers
use Rattle.bench_world.specs.declared.entry.Entry.{Entry}
use Rattle.bench_world.specs.Asked.{IsOnLink}
use Rattle.bench_devices.specs.Sensing.{seeking, sensed_of}
use Rattle.bench_world.specs.Answering.{three_told}
use Rattle.bench_world.specs.Completing.{MayBeWritten, TellsTags, whole_field}
use Rattle.bench_world.specs.Journal.{LeadsTo}
use Rattle.bench_world.specs.Legal.{State, Joins, changed, state_after, first_state}
use Rattle.bench_world.specs.Quiet.{AllPass}
use Rattle.bench_world.specs.CompletingForging.{ForgesQuietly}
use Rattle.bench_world.specs.CompletingRaws.{RawsQuietly}
use Rattle.bench_world.specs.CompletingThrees.{IsPlaced3}
use Rattle.bench_world.specs.Threes.{TellsRead3, TellsWrite3}
use Rattle.bench_devices.specs.Threes.{ShowsThreeWriteOf}
use Rattle.bench_world.specs.QuietLinks.{LinksQuietly, TalksQuietly}
use Rattle.bench_world.specs.Reading.{TellsOf}
use Rattle.bench_world.specs.Writing.{TellsWrite}

-- something holds of each entry, of the state that the entries before it lead to, and of the one that it leads to, by
-- these numbers of PDUs
abbrev pub AllAlong : (State → Entry → State → Type 0) → State → List Joins → List Entry → Type 0
AllAlong P s numbers [] = Unit {0}
AllAlong P s [] (e ∷ es) = ⊥
AllAlong P s (n ∷ ns) (e ∷ es) =
    let t = state_after s n e.command e.events (Some e.answer) in P s e t × AllAlong P t ns es

-- the device that a command selects and then asks, if it does
abbrev pub selected_by : Command → Option DeviceId
selected_by (Read id) = Some id
selected_by (Write id m) = Some id
selected_by (Link id miu window) = Some (A id)
selected_by (Forge id payloads) = Some (A id)
selected_by c = None

-- Behind the selection of a device each note of an entry is a whole answer.
abbrev pub AnswersAll : DeviceId → Entry → Type 0
AnswersAll id e =
    (kind : SeenKind) (behind : List Note) → selecting id (receptions e.events) ≡ Told (Ok kind) behind
    → AllByRecursion IsAnswered behind

-- the Type 3 tag that a command finds and then asks, if it does
abbrev pub sought_by : Command → Option (List ℕ)
sought_by (Read3 id) = Some id
sought_by (Write3 id m) = Some id
sought_by c = None

-- Behind the search for a Type 3 tag each note of an entry is a whole answer.
abbrev pub AnswersSought : List ℕ → Entry → Type 0
AnswersSought id e = (behind : List Note) → seeking id (receptions e.events) ≡ Told (Ok tt) behind
    → AllByRecursion IsAnswered behind

-- In an entry nothing was damaged or lost: no reception is bad but silences. Behind the selection of its device each is
-- a whole answer, and so is each of what is asked on a link, so those silences are polling's.
pub record IsWellHeard (e : Entry) : Type 0 where
  pub unharmed : AllByRecursion IsUnharmed (receptions e.events)
  pub answered : (id : DeviceId) → selected_by e.command ≡ Some id → AnswersAll id e
  pub sought : (id : List ℕ) → sought_by e.command ≡ Some id → AnswersSought id e
  pub talks : IsOnLink e.command → AllByRecursion IsAnswered (receptions e.events)

abbrev pub IsHeardIfQuiet : State → Entry → State → Type 0
IsHeardIfQuiet s e t = AllPass (changed s e.command).queue → IsWellHeard e

-- Each entry of a script's journal is heard so, from which on no fate is left but Pass.
abbrev pub QuietHears : Type 0
QuietHears =
    (lines : List (List ℕ)) (numbers : List Joins) (journal : List Entry) (last : State)
    → LeadsTo lines numbers journal last
    → AllAlong IsHeardIfQuiet first_state numbers journal

-- A line that appends fates appends nothing but Pass.
abbrev pub IsQuietLine : List ℕ → Type 0
IsQuietLine line = (fates : List Fate) → Spells line (Fates fates) → AllPass fates

-- The entry reads this device, which is placed.
pub record ReadsPlaced (s : State) (e : Entry) (id : DeviceId) (d : Device) : Type 0 where
  pub command : e.command ≡ Read id
  pub placed : device_with (bytes_of id) s.world.field.listeners ≡ Some d
  pub named : IsNamed id d

-- The entry writes this message to it.
pub record WritesPlaced (s : State) (e : Entry) (id : DeviceId) (m : Msg) (d : Device) : Type 0 where
  pub command : e.command ≡ Write id m
  pub placed : device_with (bytes_of id) s.world.field.listeners ≡ Some d
  pub named : IsNamed id d

-- An entry of a script without noise: everything passed; a read of a placed tag tells what its store holds, a write
-- what it comes to, which is success where the tag takes the message and none of its blocks is locked, a search lists
-- the whole field, and one for Type 5 or Type 3 tags all of these; a placed peer is linked, and replies to each payload
-- that is sent to it by hand; of each frame that is sent to a placed device by hand it is told what was heard, and a
-- silence may come of any of them; and each command on the open link is answered as the peer answers it.
pub record IsQuietEntry (s : State) (e : Entry) (t : State) : Type 0 where
  pub quiet : noise e.events ≡ 0
  pub hears : IsWellHeard e
  pub reads : (id : DeviceId) (d : Device) → ReadsPlaced s e id d → TellsOf d e.answer
  pub writes : (id : DeviceId) (m : Msg) (d : Device) → WritesPlaced s e id m d → TellsWrite (message_of m) d e.answer
  pub written : (id : DeviceId) (m : Msg) (d : Device) → WritesPlaced s e id m d → MayBeWritten (message_of m) d
      → e.answer ≡ answers.Written
  pub finds : e.command ≡ Find → e.answer ≡ whole_field s.world.field.listeners
  pub tags : e.command ≡ Crowd → TellsTags s.world.field.listeners e.answer
  pub threes : e.command ≡ Poll3 → e.answer ≡ three_told (sensed_of s.world.field.listeners)
  pub reads3 : (id : List ℕ) (d : Device) → e.command ≡ Read3 id → IsPlaced3 s id d → TellsRead3 d e.answer
  pub writes3 : (id : List ℕ) (m : Msg) (d : Device) → e.command ≡ Write3 id m → IsPlaced3 s id d
      → TellsWrite3 (message_of m) d e.answer
  pub written3 : (id : List ℕ) (m : Msg) (d : Device) → e.command ≡ Write3 id m → IsPlaced3 s id d
      → ShowsThreeWriteOf (message_of m) d (Ok tt) → e.answer ≡ answers.Written
  pub links : LinksQuietly s e
  pub forges : ForgesQuietly s e
  pub raws : RawsQuietly s e
  pub talks : TalksQuietly s e t

-- Where no line has another fate than Pass, each entry is one.
abbrev pub QuietScript : Type 0
QuietScript =
    (lines : List (List ℕ)) (numbers : List Joins) (journal : List Entry) (last : State)
    → LeadsTo lines numbers journal last
    → AllByRecursion IsQuietLine lines → AllAlong IsQuietEntry first_state numbers journal
