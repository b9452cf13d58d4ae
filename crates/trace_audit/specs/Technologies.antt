-- Which technology the events of a legal entry have: that of the command, by which a line of a report can be read back.
-- (That a line doesn't tell it is this project's own.)
use Rattle.std.specs.Prelude.{◌≡◌, ℕ, List}
use Rattle.std.specs.List.{AllByRecursion}
use Rattle.nfc_base.specs.declared.frame.Tech.TheVariants.{A}
use Rattle.bench_script.specs.declared.command.Command.{Command}
use Rattle.bench_script.specs.declared.command.Command.TheVariants.{Read, Write}
use Rattle.bench_script.specs.declared.command.DeviceId.{DeviceId}
use Rattle.bench_script.specs.DeviceIds.{bytes_of, tech_for}
use Rattle.bench_script.specs.Script.{Spells}
use Rattle.bench_devices.specs.declared.device.Device.{Device}
use Rattle.bench_devices.specs.Device.{device_tech, kind_of}
use Rattle.bench_devices.specs.Kinds.{IfRead}
use Rattle.bench_devices.specs.Placed.{device_with, IfPlaced}
use Rattle.bench_world.specs.declared.entry.Entry.{Entry}
use Rattle.bench_world.specs.Journal.{LeadsTo}
use Rattle.bench_world.specs.Legal.{State, Given, Joins, LegalStep}
use Rattle.bench_world.specs.Showing.{IsBetweenCommands}
use Rattle.trace_audit.specs.Reading.{HaveTech}

-- a tag that is read by an identifier is of the technology that this tells; of what isn't read nothing is said
abbrev pub IsReadAs : DeviceId → Device → Type 0
IsReadAs id d = IfRead (kind_of d) (device_tech d ≡ tech_for id) (Unit {0})

-- So is the one that a read or a write names, where it is placed.
abbrev pub NamesWell : State → Command → Type 0
NamesWell s (Read id) = IfPlaced (IsReadAs id) (Unit {0}) (device_with (bytes_of id) s.world.field.listeners)
NamesWell s (Write id message) = IfPlaced (IsReadAs id) (Unit {0}) (device_with (bytes_of id) s.world.field.listeners)
NamesWell s c = Unit {0}

-- The events of a legal step have the technologies of its command. Before the first request nothing is answered, so
-- what stands for the one before it doesn't count.
abbrev pub LegalTech : Type 0
LegalTech = (s t : State) (g : Given) (e : Entry) → NamesWell s e.command → LegalStep s g e t
    → HaveTech e.command A e.events

-- A command that a line spells names well: where a bench stands between two commands, ...
abbrev pub NamesBetween : Type 0
NamesBetween = (s : State) (line : List ℕ) (c : Command) → IsBetweenCommands s → Spells line c → NamesWell s c

-- ... and wherever the lines of a script lead.
abbrev pub NamesBehind : Type 0
NamesBehind =
    (lines : List (List ℕ)) (numbers : List Joins) (journal : List Entry) (s : State) (line : List ℕ) (c : Command)
    → LeadsTo lines numbers journal s → Spells line c → NamesWell s c

-- So all events of a journal that a script may have are of the technologies of their commands.
abbrev pub JournalsTech : Type 0
JournalsTech =
    (lines : List (List ℕ)) (numbers : List Joins) (journal : List Entry) (s : State)
    → LeadsTo lines numbers journal s → AllByRecursion (λ (e : Entry). HaveTech e.command A e.events) journal
