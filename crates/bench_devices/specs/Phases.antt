-- What the parts of a command that polls say of the field: selecting a device, reading it, searching for all.
use Rattle.std.specs.Prelude.{◌≡◌, ◌↔◌, ◌⊎◌, ℕ, List, [], ◌∷◌, ◌++◌, map, length, ◌<◌, true, Result, Ok, Err}
use Rattle.std.specs.List.{AllByRecursion}
use Rattle.nfc_base.specs.Signal.{Signal}
use Rattle.nfc_base.specs.declared.tag_link.AskFault.{AskFault}
use Rattle.nfc_base.specs.declared.tag_link.AskFault.TheVariants as asking
use Rattle.air_core.specs.Turn.{Air}
use Rattle.air_core.specs.World.{World}
use Rattle.air_core.specs.Conversation.{Moment, Note, Next, Over, Going}
use Rattle.air_core.specs.PlainTags.{IsAside}
use Rattle.nfc_base.specs.Trace.{noise, breaks}
use Rattle.nfca_poll.specs.declared.fault.PollFault.{PollFault}
use Rattle.nfca_poll.specs.declared.fault.PollFault.TheVariants as polling
use Rattle.tag_reader.specs.declared.fault.ReadFault.{ReadFault}
use Rattle.tag_reader.specs.declared.fault.ReadFault.TheVariants as faults
use Rattle.tag_reader.specs.declared.found.Found.{Found}
use Rattle.tag_writer.specs.declared.fault.WriteFault.{WriteFault}
use Rattle.tag_writer.specs.declared.fault.WriteFault.TheVariants as writing
use Rattle.tag_writer.specs.Faults.{ending_of}
use Rattle.tag_writer.specs.Law.{Stopped}
use Rattle.bench_script.specs.declared.command.DeviceId.{DeviceId}
use Rattle.bench_devices.specs.declared.device.Device.{Device}
use Rattle.nfca_poll.specs.Front.{is_active}
use Rattle.bench_devices.specs.declared.device.Device.TheVariants as placed
use Rattle.bench_devices.specs.declared.polling.SeenKind.{SeenKind}
use Rattle.bench_devices.specs.declared.sweeping.Everybody.{Everybody}
use Rattle.bench_devices.specs.Peers.{no_link}
use Rattle.bench_devices.specs.Device.{air, device_id, device_selected, may_be_found, seen_of, is_unlinked}
use Rattle.bench_devices.specs.CardAsking.{tag_next}
use Rattle.bench_devices.specs.declared.polling.Selection.{Selection}
use Rattle.bench_devices.specs.declared.polling.Selection.TheVariants.{Place, Missed}
use Rattle.bench_script.specs.DeviceIds.{bytes_of}
use Rattle.bench_devices.specs.Polling.{Told, asks, selecting, finding_all}
use Rattle.bench_devices.specs.Answering.{HasPollCause, FindTells, TellsBy, GoesOnBy}
use Rattle.bench_devices.specs.Reading.{AsksOf, ShowsOf}
use Rattle.bench_devices.specs.Writing.{AsksWriteOf, ShowsWrite, KeepsWriteLaw}
use Rattle.bench_devices.specs.Keeping.{ghosts, kept, IsSound, AreTame, Changes, NoStore, StoreOf, LeavesDevices}

-- A Type 4 tag and a peer have a link at most while they are active.
abbrev pub IsTidy : Device → Type 0
IsTidy (placed.T2 d) = Unit {0}
IsTidy (placed.T4 d) = (is_active d.front ≡ true) ⊎ (is_unlinked d.upper ≡ true)
IsTidy (placed.Peer d) = (is_active d.front ≡ true) ⊎ (no_link d.upper ≡ true)
IsTidy (placed.T5 p) = Unit {0}
IsTidy (placed.T3 p) = Unit {0}

abbrev pub AreTidy : List Device → Type 0
AreTidy ds = AllByRecursion IsTidy ds

-- Between two commands nothing is in the trace.
pub record IsIdle (a : Air Device) : Type 0 where
  pub quiet : a.trace ≡ []
  pub tame : AreTame (map kept a.listeners)
  pub tidy : AreTidy a.listeners

-- Nothing was asked of it since it was selected.
abbrev pub IsUnasked : Device → Type 0
IsUnasked (placed.T2 d) = Unit {0}
IsUnasked (placed.T4 d) = is_unlinked d.upper ≡ true
IsUnasked (placed.Peer d) = no_link d.upper ≡ true
IsUnasked (placed.T5 p) = Unit {0}
IsUnasked (placed.T3 p) = Unit {0}

-- In a lit field a device stands at a place. It is selected, and all others are aside of it.
pub record Stands (a : Moment (World Device)) (place : ℕ) (d : Device) : Type 0 where
  pub before : List Device
  pub behind : List Device
  pub world : a.world ≡ record { lit = true; listeners = before ++ d ∷ behind }
  pub at : length before ≡ place
  pub sound : IsSound (kept d)
  pub selected : device_selected d ≡ true
  pub unasked : IsUnasked d
  pub first : AllByRecursion (IsAside ghosts (device_id d)) before
  pub later : AllByRecursion (IsAside ghosts (device_id d)) behind

-- Something was asked of the field, each request being due, and this is known of it. Of what stays of the devices this
-- alone may have changed. Want of memory may have cut it off between two turns.
pub record AskedPart (what : Changes) (due : List Note → Next) (old new : Moment (World Device)) : Type 0 where
  pub notes : List Note
  pub going : Going air due old new notes
  pub same : LeavesDevices what old.world going.events new.world

-- So was all that is due.
pub record Asked (what : Changes) (due : List Note → Next) (old new : Moment (World Device)) : Type 0 where
  pub notes : List Note
  pub going : Going air due old new notes
  pub over : due notes ≡ Over
  pub same : LeavesDevices what old.world going.events new.world

-- Selecting a device ended so, and the field is lost exactly where a Break was used.
pub record Selects (id : DeviceId) (r : Result SeenKind PollFault) (old new : Moment (World Device)) : Type 0 where
  pub asked : Asked NoStore (λ ns. asks (selecting id ns)) old new
  pub told : selecting id asked.notes ≡ Told r []
  pub cause : HasPollCause id old.world.listeners r asked.going.events
  pub lost : (r ≡ Err polling.FieldLost) ↔ (0 < breaks asked.going.events)

-- The device with this identifier is selected, and stands at this place. It is one that a search can find.
pub record SelectsAt (id : DeviceId) (place : ℕ) (old new : Moment (World Device)) : Type 0 where
  pub device : Device
  pub selects : Selects id (Ok (seen_of device)) old new
  pub named : device_id device ≡ bytes_of id
  pub found : may_be_found device ≡ true
  pub stands : Stands new place device

-- what selecting a device came to
abbrev pub SelectsTo : DeviceId → Selection → Moment (World Device) → Moment (World Device) → Type 0
SelectsTo id (Place place) old new = SelectsAt id place old new
SelectsTo id (Missed e) old new = Selects id (Err e) old new

-- selecting a device was cut off by want of memory
abbrev pub SelectionCut : DeviceId → Moment (World Device) → Moment (World Device) → Type 0
SelectionCut id old new = AskedPart NoStore (λ ns. asks (selecting id ns)) old new

-- A selected tag was asked all that a command asks of it, up to a break or the sixth bad reception of a wait: what is
-- due of it, by what was heard, and what tells of the end are those of the command. Without noise no wait has six bad
-- receptions.
pub record AsksTag {X : Type 0} (what : Changes) (IsAll : List Signal → Type 0) (due : List Signal → List Note → Next)
    (Tells : List Signal → List Note → X → Type 0) (Fails : AskFault → X → Type 0) (old new : Moment (World Device))
    (x : X) : Type 0 where
  pub commands : List Signal
  pub asks : IsAll commands
  pub asked : Asked what (due commands) old new
  pub ends : Tells commands asked.notes x
  pub lost : Fails asking.FieldLost x ↔ (0 < breaks asked.going.events)
  pub noisy : Fails asking.SixBad x → 0 < noise asked.going.events

-- So far it was asked, until memory was wanting, which alone ended it: what was heard broke off no wait, and no Break
-- was used.
pub record AsksSome (what : Changes) (IsAll : List Signal → Type 0) (due : List Signal → List Note → Next)
    (GoesOn : List Signal → List Note → Type 0) (old new : Moment (World Device)) : Type 0 where
  pub commands : List Signal
  pub asks : IsAll commands
  pub asked : AskedPart what (due commands) old new
  pub unbroken : GoesOn commands asked.notes
  pub unlost : breaks asked.going.events ≡ 0

-- a read failed by the fault of a wait; the others end none
abbrev pub FailsRead : AskFault → Result Found ReadFault → Type 0
FailsRead asking.FieldLost r = r ≡ Err faults.FieldLost
FailsRead asking.SixBad r = r ≡ Err faults.SixBad
FailsRead asking.Memory r = ⊥
FailsRead asking.Protocol r = ⊥

-- Reading asked what it asks of a device, and tells what came of it.
abbrev pub Reads : Moment (World Device) → Moment (World Device) → Device → Result Found ReadFault → Type 0
Reads old new d r = AsksTag NoStore (AsksOf d) (tag_next (seen_of d)) (TellsBy (seen_of d) (ShowsOf d) FailsRead)
    FailsRead old new r

-- Reading was cut off by want of memory.
abbrev pub ReadsSome : Moment (World Device) → Moment (World Device) → Device → Type 0
ReadsSome old new d = AsksSome NoStore (AsksOf d) (tag_next (seen_of d)) (GoesOnBy (seen_of d)) old new

-- So the device that stands at a place was read as far as memory reached.
abbrev pub CutAt : Moment (World Device) → Moment (World Device) → ℕ → Result Found ReadFault → Type 0
CutAt old new place r = r ≡ Err faults.Memory → (d : Device) → Stands old place d → ReadsSome old new d

-- So the device that stands at a place was read, unless memory was wanting.
abbrev pub ReadsAt : Moment (World Device) → Moment (World Device) → ℕ → Result Found ReadFault → Type 0
ReadsAt old new place r = (r ≡ Err faults.Memory → ⊥) → (d : Device) → Stands old place d → Reads old new d r

-- what a write comes to: that it is done, or why it isn't
abbrev pub WriteEnd : Type 0
WriteEnd = Result (Unit {0}) WriteFault

-- a write failed by the fault of a wait
abbrev pub FailsWrite : AskFault → WriteEnd → Type 0
FailsWrite asking.FieldLost r = r ≡ Err writing.FieldLost
FailsWrite asking.SixBad r = r ≡ Err writing.SixBad
FailsWrite asking.Memory r = ⊥
FailsWrite asking.Protocol r = ⊥

-- Writing asked what it asks of a device, and tells what came of it. Its stores keep the law of a write, whatever
-- stopped it; no store of another device changes, and no locked block of any.
pub record Writes (old new : Moment (World Device)) (d : Device) (message : List ℕ) (r : WriteEnd) : Type 0 where
  pub told : AsksTag (StoreOf (device_id d)) (AsksWriteOf message d) (tag_next (seen_of d))
      (TellsBy (seen_of d) (ShowsWrite message d) FailsWrite) FailsWrite old new r
  pub law : KeepsWriteLaw message d (ending_of r) old.world told.asked.going.events

-- Writing was cut off by want of memory; until there its stores keep the law too.
pub record WritesSome (old new : Moment (World Device)) (d : Device) (message : List ℕ) : Type 0 where
  pub told : AsksSome (StoreOf (device_id d)) (AsksWriteOf message d) (tag_next (seen_of d)) (GoesOnBy (seen_of d)) old
      new
  pub law : KeepsWriteLaw message d Stopped old.world told.asked.going.events

-- So the device that stands at a place was written as far as memory reached.
abbrev pub CutAtWrite : Moment (World Device) → Moment (World Device) → ℕ → List ℕ → WriteEnd → Type 0
CutAtWrite old new place message r = r ≡ Err writing.Memory → (d : Device) → Stands old place d
    → WritesSome old new d message

-- So the device that stands at a place was written, unless memory was wanting.
abbrev pub WritesAt : Moment (World Device) → Moment (World Device) → ℕ → List ℕ → WriteEnd → Type 0
WritesAt old new place message r = (r ≡ Err writing.Memory → ⊥) → (d : Device) → Stands old place d
    → Writes old new d message r

-- a search is told by what it has come to
abbrev pub IsEnd : Result Everybody PollFault → Result Everybody PollFault → Type 0
IsEnd end r = r ≡ end

-- A search asked what was due, and tells of all devices.
pub record Searches (old new : Moment (World Device)) (r : Result Everybody PollFault) : Type 0 where
  pub asked : Asked NoStore (λ ns. asks (finding_all ns)) old new
  pub tells : FindTells IsEnd old.world.listeners asked.going.events r

-- A search was cut off by want of memory.
abbrev pub SearchCut : Moment (World Device) → Moment (World Device) → Result Everybody PollFault → Type 0
SearchCut old new r = r ≡ Err polling.Memory → AskedPart NoStore (λ ns. asks (finding_all ns)) old new

-- So the field was searched, unless memory was wanting.
abbrev pub SearchesField : Moment (World Device) → Moment (World Device) → Result Everybody PollFault → Type 0
SearchesField old new r = (r ≡ Err polling.Memory → ⊥) → Searches old new r
