-- Reading and writing a selected Type 3 tag of the bench: what is asked of it, what is told, and the law over its
-- stores meanwhile (NFC Forum Type 3 Tag).
use Rattle.std.specs.Prelude.{◌≡◌, ◌⊎◌, ℕ, ◌<◌, List, get_or, Bool, true, false, Result, Ok, Err}
use Rattle.std.specs.List.{AllByRecursion}
use Rattle.nfc_base.specs.Signal.{Signal}
use Rattle.nfc_base.specs.TagLinks.{PassInThree}
use Rattle.nfc_base.specs.declared.event.Event.{Event}
use Rattle.nfc_base.specs.declared.tag_link.AskFault.{AskFault}
use Rattle.nfc_base.specs.declared.tag_link.AskFault.TheVariants as asking
use Rattle.air_core.specs.World.{World}
use Rattle.air_core.specs.Conversation.{Moment}
use Rattle.air_core.specs.Waits.{stand, waits_next}
use Rattle.t3t_tag.specs.Store.{IsT3Store, attributes}
use Rattle.t3t_tag.specs.Form.{NotNdef, Version, BadSize, Unfinished, Message, IsT3Form, is_writable}
use Rattle.t3t_tag.specs.Step.{block_locked}
use Rattle.t3t_access.specs.declared.fault.T3Fault.{T3Fault}
use Rattle.t3t_access.specs.declared.fault.T3Fault.TheVariants as fault
use Rattle.t3t_access.specs.declared.found.Found3.{Found3}
use Rattle.t3t_access.specs.Reading.{first_checks, IsDue}
use Rattle.t3t_access.specs.Writing.{Takes, put_at, all_puts, first_asked}
use Rattle.t3t_access.specs.OwnWriting.{IsBegun, IsNew, IsBarred, IsTooSmall, IsPutDue}
use Rattle.tag_writer.specs.Law.{last_store}
use Rattle.bench_devices.specs.declared.device.Device.{Device}
use Rattle.bench_devices.specs.Answering.{TellsStanding, IsUnbroken}
use Rattle.bench_devices.specs.Device.{BenchWorld, device_id, device_store, device_locks}
use Rattle.bench_devices.specs.Keeping.{Changes, NoStore, StoreOf, images_of}
use Rattle.bench_devices.specs.Phases.{AsksTag, AsksSome, Stands}
use Rattle.bench_devices.specs.Sensing.{IsThree}

-- The Type 3 tag with this identifier stands at a place of a lit field, and its store is one that a new tag may have.
pub record StandsThree (a : Moment (World Device)) (place : ℕ) (id : List ℕ) (d : Device) : Type 0 where
  pub stands : Stands a place d
  pub three : IsThree id d
  pub store : IsT3Store (device_store d)

-- A command asked all that it asks of the tag, which takes commands as they are sent, and tells what came of it; or so
-- much of it.
abbrev pub AsksThree : {X : Type 0} → Changes → (List Signal → Type 0) → (X → Type 0) → (AskFault → X → Type 0)
    → Moment (World Device) → Moment (World Device) → X → Type 0
AsksThree what IsAll Shows Fails old new x =
    AsksTag what IsAll waits_next (λ asked ns. TellsStanding Shows Fails (stand 0 asked ns)) Fails old new x

abbrev pub AsksThreeSome : Changes → (List Signal → Type 0) → Moment (World Device) → Moment (World Device) → Type 0
AsksThreeSome what IsAll old new = AsksSome what IsAll waits_next (λ asked ns. IsUnbroken (stand 0 asked ns)) old new

-- it failed by the fault of a wait; the others end none
abbrev pub FailsThree : {X : Type 0} → AskFault → Result X T3Fault → Type 0
FailsThree asking.FieldLost r = r ≡ Err fault.FieldLost
FailsThree asking.SixBad r = r ≡ Err fault.SixBad
FailsThree asking.Memory r = ⊥
FailsThree asking.Protocol r = ⊥

-- What a read asks of a tag with this identifier and this store, from the first command to the last: each Check that is
-- due.
pub record ReadAsksThree (id store : List ℕ) (commands : List Signal) : Type 0 where
  pub count : ℕ
  pub list : commands ≡ first_checks id (attributes store) count
  pub due : (k : ℕ) → k < count → IsDue (attributes store) k
  pub last : IsDue (attributes store) count → ⊥

-- What a read finds, by the form of the store: its message, or a fault of the store. The other faults show nothing of
-- it.
abbrev pub ShowsThree : List ℕ → Result Found3 T3Fault → Type 0
ShowsThree store (Ok found) = IsT3Form store (Message found.message.items) × (found.writable ≡ is_writable store)
ShowsThree store (Err fault.NotNdef) = IsT3Form store NotNdef
ShowsThree store (Err fault.Version) = IsT3Form store Version
ShowsThree store (Err fault.BadSize) = IsT3Form store BadSize
ShowsThree store (Err fault.Unfinished) = IsT3Form store Unfinished
ShowsThree store (Err e) = ⊥

-- Reading asked what it asks of a device, and tells what came of it.
abbrev pub ReadsThree : List ℕ → Moment (World Device) → Moment (World Device) → Device → Result Found3 T3Fault → Type 0
ReadsThree id old new d r =
    AsksThree NoStore (ReadAsksThree id (device_store d)) (ShowsThree (device_store d)) FailsThree old new r

-- So the tag that stands at a place was read, unless memory was wanting; then as far as memory reached.
abbrev pub ReadsThreeAt : List ℕ → Moment (World Device) → Moment (World Device) → ℕ → Result Found3 T3Fault → Type 0
ReadsThreeAt id old new place r =
    (r ≡ Err fault.Memory → ⊥) → (d : Device) → StandsThree old place id d → ReadsThree id old new d r

abbrev pub CutThreeAt : List ℕ → Moment (World Device) → Moment (World Device) → ℕ → Result Found3 T3Fault → Type 0
CutThreeAt id old new place r =
    r ≡ Err fault.Memory → (d : Device) → StandsThree old place id d
    → AsksThreeSome NoStore (ReadAsksThree id (device_store d)) old new

-- What a write of a message asks of a tag with this identifier, this store and these locked blocks, from the first
-- command to the last: the Check of block 0, and each Update that is due, the one that is refused too.
pub record WriteAsksThree (id store : List ℕ) (locked : List Bool) (message : List ℕ) (commands : List Signal)
    : Type 0 where
  pub count : ℕ
  pub list : commands ≡ first_asked id (attributes store) message count
  pub due : (k : ℕ) → k < count → IsPutDue locked (attributes store) message k
  pub last : IsPutDue locked (attributes store) message count → ⊥

-- What a write tells where all that it asks was answered: success, where the tag takes the message and no block of the
-- write is locked; a fault of the store, what the message asks for, or a refusal. The other faults show nothing of the
-- tag.
abbrev pub ShowsThreeWrite : List ℕ → List Bool → List ℕ → Result (Unit {0}) T3Fault → Type 0
ShowsThreeWrite store locked message (Ok x) =
    Takes (attributes store) message
    × ((k : ℕ) → k < all_puts message → get_or locked (put_at (attributes store) message k).block false ≡ false)
ShowsThreeWrite store locked message (Err fault.NotNdef) = IsT3Form store NotNdef
ShowsThreeWrite store locked message (Err fault.Version) = IsT3Form store Version
ShowsThreeWrite store locked message (Err fault.BadSize) = IsT3Form store BadSize
ShowsThreeWrite store locked message (Err fault.ReadOnly) = IsBarred store
ShowsThreeWrite store locked message (Err (fault.TooLong most)) = IsTooSmall store message most
ShowsThreeWrite store locked message (Err (fault.Refused status)) =
    (status ≡ block_locked) × Takes (attributes store) message
    × (number : ℕ) × (number < all_puts message)
    × (get_or locked (put_at (attributes store) message number).block false ≡ true)
ShowsThreeWrite store locked message (Err e) = ⊥

-- What is left then, of some stores that follow the old one: the new message; where it was refused the old store, or
-- one that says that a write is under way; and the old one at each time where the tag doesn't take the message.
abbrev pub LeavesThree : List ℕ → List ℕ → List (List ℕ) → Result (Unit {0}) T3Fault → Type 0
LeavesThree message old stores (Ok x) = IsNew message old (last_store old stores)
LeavesThree message old stores (Err (fault.Refused status)) =
    (last_store old stores ≡ old) ⊎ IsBegun message old (last_store old stores)
LeavesThree message old stores (Err fault.NotNdef) = AllByRecursion (λ s. s ≡ old) stores
LeavesThree message old stores (Err fault.Version) = AllByRecursion (λ s. s ≡ old) stores
LeavesThree message old stores (Err fault.BadSize) = AllByRecursion (λ s. s ≡ old) stores
LeavesThree message old stores (Err fault.ReadOnly) = AllByRecursion (λ s. s ≡ old) stores
LeavesThree message old stores (Err (fault.TooLong most)) = AllByRecursion (λ s. s ≡ old) stores
LeavesThree message old stores (Err e) = Unit {0}

-- The law of a write over the tag's stores, from the one before it on: first the old one itself, then such that say
-- that a write is under way, then such that hold the message.
pub record Write3Law (message old : List ℕ) (r : Result (Unit {0}) T3Fault) (stores : List (List ℕ)) : Type 0 where
  pub three : PassInThree (λ s. s ≡ old) (IsBegun message old) (IsNew message old) stores
  pub leaves : LeavesThree message old stores r

-- the same over the stores of a device: the one at the start of some events, and the one after each of them
abbrev pub KeepsWrite3Law : List ℕ → Device → Result (Unit {0}) T3Fault → BenchWorld → List Event → Type 0
KeepsWrite3Law message d r w es = Write3Law message (device_store d) r (images_of (device_id d) w es)

-- what a write asks of a device, and what it shows of it
abbrev pub WriteAsksThreeOf : List ℕ → List ℕ → Device → List Signal → Type 0
WriteAsksThreeOf id message d commands = WriteAsksThree id (device_store d) (device_locks d) message commands

abbrev pub ShowsThreeWriteOf : List ℕ → Device → Result (Unit {0}) T3Fault → Type 0
ShowsThreeWriteOf message d r = ShowsThreeWrite (device_store d) (device_locks d) message r

-- Writing asked what it asks of a device, and tells what came of it. Its stores keep the law of a write, whatever
-- stopped it; no store of another device changes, and all locks stay.
pub record WritesThree (id : List ℕ) (old new : Moment (World Device)) (d : Device) (message : List ℕ)
    (r : Result (Unit {0}) T3Fault) : Type 0 where
  pub told :
      AsksThree (StoreOf (device_id d)) (WriteAsksThreeOf id message d) (ShowsThreeWriteOf message d) FailsThree
      old new r
  pub law : KeepsWrite3Law message d r old.world told.asked.going.events

-- Writing was cut off by want of memory; until there its stores keep the law too.
pub record WritesThreeSome (id : List ℕ) (old new : Moment (World Device)) (d : Device) (message : List ℕ)
    : Type 0 where
  pub told : AsksThreeSome (StoreOf (device_id d)) (WriteAsksThreeOf id message d) old new
  pub law : KeepsWrite3Law message d (Err fault.Memory) old.world told.asked.going.events

-- So the tag that stands at a place was written, unless memory was wanting; then as far as memory reached.
abbrev pub WritesThreeAt : List ℕ → Moment (World Device) → Moment (World Device) → ℕ → List ℕ
    → Result (Unit {0}) T3Fault → Type 0
WritesThreeAt id old new place message r =
    (r ≡ Err fault.Memory → ⊥) → (d : Device) → StandsThree old place id d → WritesThree id old new d message r

abbrev pub CutThreeWriteAt : List ℕ → Moment (World Device) → Moment (World Device) → ℕ → List ℕ
    → Result (Unit {0}) T3Fault → Type 0
CutThreeWriteAt id old new place message r =
    r ≡ Err fault.Memory → (d : Device) → StandsThree old place id d → WritesThreeSome id old new d message
