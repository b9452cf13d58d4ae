-- What a bench does on quiet air, where no fate is left but Pass. A later command adds its case.
use Rattle.std.specs.Prelude.{◌≡◌, ℕ, List, Some}
use Rattle.std.specs.List.{AllByRecursion}
use Rattle.nfc_base.specs.Trace.{noise}
use Rattle.nfc_base.specs.declared.event.Fate.{Fate}
use Rattle.nfc_base.specs.declared.event.Fate.TheVariants.{Pass}
use Rattle.bench_script.specs.declared.command.Command.TheVariants.{Find, Crowd, Poll3, Read, Write}
use Rattle.bench_script.specs.declared.command.DeviceId.{DeviceId}
use Rattle.bench_script.specs.DeviceIds.{bytes_of}
use Rattle.bench_script.specs.Messages.{message_of}
use Rattle.bench_script.specs.declared.message.Msg.{Msg}
use Rattle.bench_devices.specs.declared.device.Device.{Device}
use Rattle.bench_devices.specs.Answering.{IsNamed}
use Rattle.bench_devices.specs.Placed.{device_with}
use Rattle.bench_world.specs.declared.entry.Answer.TheVariants as answers
use Rattle.bench_world.specs.declared.entry.Entry.{Entry}
use Rattle.bench_devices.specs.Sensing.{sensed_of}
use Rattle.bench_world.specs.Answering.{three_told}
use Rattle.bench_world.specs.Completing.{MayBeWritten, TellsTags, whole_field}
use Rattle.bench_world.specs.Journal.{LeadsTo}
use Rattle.bench_world.specs.Legal.{State, Given, Joins, LegalStep, changed}
use Rattle.bench_world.specs.Reading.{TellsOf}
use Rattle.bench_world.specs.Writing.{TellsWrite}

abbrev pub AllPass : List Fate → Type 0
AllPass fates = AllByRecursion (λ x. x ≡ Pass) fates

-- Each transmission of a command passes, and the air stays quiet: nothing is damaged or lost, and no field.
abbrev pub QuietStays : Type 0
QuietStays =
    (s t : State) (g : Given) (e : Entry) → LegalStep s g e t → AllPass (changed s e.command).queue
    → (noise e.events ≡ 0) × AllPass t.queue

-- A read of a placed tag tells what its store holds: the message, or the fault that the store has.
abbrev pub QuietReads : Type 0
QuietReads =
    (s t : State) (g : Given) (e : Entry) (id : DeviceId) (d : Device) → LegalStep s g e t → e.command ≡ Read id
    → device_with (bytes_of id) s.world.field.listeners ≡ Some d
    → IsNamed id d → AllPass s.queue → TellsOf d e.answer

-- A write of a placed tag tells what it comes to by what the tag holds and by its locked blocks.
abbrev pub QuietWrites : Type 0
QuietWrites =
    (s t : State) (g : Given) (e : Entry) (id : DeviceId) (m : Msg) (d : Device) → LegalStep s g e t
    → e.command ≡ Write id m → device_with (bytes_of id) s.world.field.listeners ≡ Some d
    → IsNamed id d → AllPass s.queue → TellsWrite (message_of m) d e.answer

-- It is written where the tag takes the message and none of the blocks that are written for it is locked, wherever the
-- lines of a script lead.
abbrev pub QuietIsWritten : Type 0
QuietIsWritten =
    (lines : List (List ℕ)) (numbers : List Joins) (journal : List Entry) (s t : State) (g : Given) (e : Entry)
    (id : DeviceId) (m : Msg) (d : Device) → LeadsTo lines numbers journal s
    → LegalStep s g e t → e.command ≡ Write id m → device_with (bytes_of id) s.world.field.listeners ≡ Some d
    → IsNamed id d → AllPass s.queue
    → MayBeWritten (message_of m) d → e.answer ≡ answers.Written

-- A search lists all NFC-A devices, in crowd order, and the true Type 5 result.
abbrev pub QuietFinds : Type 0
QuietFinds =
    (s t : State) (g : Given) (e : Entry) → LegalStep s g e t → e.command ≡ Find → AllPass s.queue
    → e.answer ≡ whole_field s.world.field.listeners

-- A search for Type 5 tags lists all of them.
abbrev pub QuietTags : Type 0
QuietTags =
    (s t : State) (g : Given) (e : Entry) → LegalStep s g e t → e.command ≡ Crowd → AllPass s.queue
    → TellsTags s.world.field.listeners e.answer

-- One for Type 3 tags tells of all that are placed.
abbrev pub QuietThrees : Type 0
QuietThrees =
    (s t : State) (g : Given) (e : Entry) → LegalStep s g e t → e.command ≡ Poll3 → AllPass s.queue
    → e.answer ≡ three_told (sensed_of s.world.field.listeners)
