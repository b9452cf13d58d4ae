-- What the parts of a read or a write say of the field, over a link to the tag. No public contract speaks of these.
use Rattle.std.specs.Prelude.{◌≡◌, ℕ, List, length, true, None, Result, Err}
use Rattle.nfc_base.specs.Signal.{Signal}
use Rattle.nfc_base.specs.declared.tag_link.AskFault.{AskFault}
use Rattle.air_core.specs.World.{World}
use Rattle.air_core.specs.Turn.{Air, moment}
use Rattle.air_core.specs.Conversation.{Moment}
use Rattle.isodep_link.specs.Reader.{ReaderState}
use Rattle.isodep_link.specs.Asking as exchange
use Rattle.isodep_link.specs.Asking.{stand, iso_next}
use Rattle.isodep_link.specs.Activating.{IsActivated}
use Rattle.isodep_link.specs.IsoLinks.{IsoSeen, bytes_of}
use Rattle.air_core.specs.PlainLinks.{PlainSeen}
use Rattle.air_core.specs.declared.plain_link.PlainLink.{PlainLink}
use Rattle.tag_reader.specs.declared.fault.ReadFault.{ReadFault}
use Rattle.tag_reader.specs.declared.fault.ReadFault.TheVariants as faults
use Rattle.tag_reader.specs.declared.found.Found.{Found}
use Rattle.tag_writer.specs.declared.fault.WriteFault.TheVariants as writing
use Rattle.tag_writer.specs.Faults.{ending_of}
use Rattle.tag_writer.specs.Law.{Stopped}
use Rattle.tag_reader.specs.declared.how.How.{How}
use Rattle.tag_reader.specs.declared.how.How.TheVariants.{T2, T4, T5}
use Rattle.bench_devices.specs.declared.device.Device.{Device}
use Rattle.bench_devices.specs.Device.{device_id, how_of, may_be_read, device_card, device_tag}
use Rattle.bench_devices.specs.Answering.{TellsExchange, IsUnbrokenExchange}
use Rattle.bench_devices.specs.Reading.{AsksOf, ShowsOf}
use Rattle.bench_devices.specs.Writing.{AsksWriteOf, ShowsWrite, KeepsWriteLaw}
use Rattle.bench_devices.specs.Keeping.{ghosts, kept, IsSound, Changes, NoStore, StoreOf}
use Rattle.bench_devices.specs.Phases.{Stands, AsksTag, AsksSome, FailsRead, WriteEnd, FailsWrite}

-- a tag that takes commands as they are sent
abbrev pub IsPlainHow : How → Type 0
IsPlainHow T2 = Unit {0}
IsPlainHow T4 = ⊥
IsPlainHow (T5 id) = Unit {0}

abbrev pub IsPlain : Device → Type 0
IsPlain d = IsPlainHow (how_of d) × (may_be_read d ≡ true)

-- Such a tag was selected, and stands at this place.
abbrev pub StandsPlain : Moment (World Device) → ℕ → How → Type 0
StandsPlain a place how = (d : Device) × Stands a place d × (how ≡ how_of d) × IsPlainHow how × (may_be_read d ≡ true)

-- a plain link as contracts see it
abbrev pub seen_plain : {L : Type 0} → PlainLink L → PlainSeen L
seen_plain l = record { air = l.field.now; place = l.place; start = l.start; last = l.last; over = l.over }

-- a link as it is made
pub record IsNew (p : PlainSeen Device) : Type 0 where
  pub start : p.start ≡ length p.air.trace
  pub last : p.last ≡ None
  pub over : p.over ≡ None

-- likewise one to a Type 4 tag
pub record IsNewLink (p : IsoSeen Device) : Type 0 where
  pub start : p.start ≡ length p.air.trace
  pub told : p.told ≡ length p.air.trace
  pub last : p.last ≡ None
  pub over : p.over ≡ None

-- The Type 4 tag that was selected as this device stands at a place of a lit field, in step with this reader, and holds
-- what it held.
pub record Linked (d : Device) (air : Air Device) (place : ℕ) (reader : ReaderState) : Type 0 where
  pub activated : IsActivated ghosts device_card device_tag air place reader
  pub same : kept activated.has.listener ≡ kept d
  pub card : how_of d ≡ T4
  pub sound : IsSound (kept d)
  pub lit : air.lit ≡ true

-- A command asked all that it asks of an activated tag, up to a break or the sixth bad reception of a wait, and tells
-- what came of it.
abbrev pub AsksOn : {X : Type 0} → Changes → (List Signal → Type 0) → (X → Type 0) → (AskFault → X → Type 0)
    → ReaderState
    → Moment (World Device) → Moment (World Device) → X → Type 0
AsksOn what IsAll Tells Fails reader old new x =
    AsksTag what IsAll (λ commands. iso_next reader (bytes_of commands))
    (λ commands ns. TellsExchange Tells Fails (stand (exchange.asks reader (bytes_of commands)) ns)) Fails old new x

-- So far it came, until memory was wanting.
abbrev pub AsksSomeOn : Changes → (List Signal → Type 0) → ReaderState → Moment (World Device) → Moment (World Device)
    → Type 0
AsksSomeOn what IsAll reader old new =
    AsksSome what IsAll (λ commands. iso_next reader (bytes_of commands))
    (λ commands ns. IsUnbrokenExchange (stand (exchange.asks reader (bytes_of commands)) ns)) old new

-- so reading did
abbrev pub ReadsOn : Moment (World Device) → Moment (World Device) → Device → ReaderState → Result Found ReadFault
    → Type 0
ReadsOn old new d reader r = AsksOn NoStore (AsksOf d) (ShowsOf d) FailsRead reader old new r

abbrev pub ReadsSomeOn : Moment (World Device) → Moment (World Device) → Device → ReaderState → Type 0
ReadsSomeOn old new d reader = AsksSomeOn NoStore (AsksOf d) reader old new

abbrev pub CutLinked : Air Device → ℕ → ReaderState → Moment (World Device) → Result Found ReadFault → Type 0
CutLinked air place reader new r =
    r ≡ Err faults.Memory → (d : Device) → Linked d air place reader → ReadsSomeOn (moment air) new d reader

-- So the tag behind a new link was read, unless memory was wanting.
abbrev pub ReadsLinked : Air Device → ℕ → ReaderState → Moment (World Device) → Result Found ReadFault → Type 0
ReadsLinked air place reader new r =
    (r ≡ Err faults.Memory → ⊥) → (d : Device) → Linked d air place reader → ReadsOn (moment air) new d reader r

-- So writing did, its tag's stores keeping the law.
pub record WritesOn (old new : Moment (World Device)) (d : Device) (reader : ReaderState) (message : List ℕ)
    (r : WriteEnd) : Type 0 where
  pub told : AsksOn (StoreOf (device_id d)) (AsksWriteOf message d) (ShowsWrite message d) FailsWrite reader old new r
  pub law : KeepsWriteLaw message d (ending_of r) old.world told.asked.going.events

pub record WritesSomeOn (old new : Moment (World Device)) (d : Device) (reader : ReaderState) (message : List ℕ)
    : Type 0 where
  pub told : AsksSomeOn (StoreOf (device_id d)) (AsksWriteOf message d) reader old new
  pub law : KeepsWriteLaw message d Stopped old.world told.asked.going.events

abbrev pub CutLinkedWrite : Air Device → ℕ → ReaderState → Moment (World Device) → List ℕ → WriteEnd → Type 0
CutLinkedWrite air place reader new message r =
    r ≡ Err writing.Memory → (d : Device) → Linked d air place reader → WritesSomeOn (moment air) new d reader message

abbrev pub WritesLinked : Air Device → ℕ → ReaderState → Moment (World Device) → List ℕ → WriteEnd → Type 0
WritesLinked air place reader new message r =
    (r ≡ Err writing.Memory → ⊥) → (d : Device) → Linked d air place reader
    → WritesOn (moment air) new d reader message r
