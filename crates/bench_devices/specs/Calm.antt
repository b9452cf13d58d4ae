-- The links of the bench's devices, and the requests at which no device without a link hands anything over: those that
-- are due while a reader finds or selects devices, reads a tag or writes one. None of them is ATR_REQ, which alone
-- begins a link (NFCIP-1, ISO/IEC 18092).
use Rattle.std.specs.Prelude.{List, [], ℕ, Bool}
use Rattle.nfc_base.specs.declared.event.Event.{Event}
use Rattle.nfc_base.specs.Signal.{Signal}
use Rattle.air_core.specs.Conversation.{Note, Next, EachDue}
use Rattle.far_air.specs.FarLaws.{IsLinked}
use Rattle.far_air.specs.Quietly.{AreCalm}
use Rattle.bench_script.specs.declared.command.DeviceId.{DeviceId}
use Rattle.bench_devices.specs.declared.device.Device.{Device}
use Rattle.bench_devices.specs.declared.polling.SeenKind.{SeenKind}
use Rattle.bench_devices.specs.CardAsking.{tag_next}
use Rattle.bench_devices.specs.Crowding.{crowding}
use Rattle.bench_devices.specs.Device.{devices, device_linked}
use Rattle.bench_devices.specs.Polling.{asks, selecting, finding_all}
use Rattle.bench_devices.specs.Reading.{AsksOf}
use Rattle.bench_devices.specs.Sensing.{sensing}
use Rattle.bench_devices.specs.TagAsking.{tag_due}
use Rattle.bench_devices.specs.ThreeAsking.{three_due}
use Rattle.bench_devices.specs.Threes.{ReadAsksThree, WriteAsksThree}
use Rattle.bench_devices.specs.Writing.{AsksWriteOf}

-- A device that hands a payload over has a link; ATR_REQ alone begins one; and in the dark none has one.
abbrev pub DevicesLink : Type 0
DevicesLink = IsLinked devices device_linked

-- Whatever was heard, at each request that is due no device without a link hands anything over.
abbrev pub IsCalmDue : (List Note → Next) → Type 0
IsCalmDue due = (es : List Event) → EachDue due [] es → AreCalm devices device_linked es

abbrev pub CalmFinding : Type 0
CalmFinding = IsCalmDue (λ ns. asks (finding_all ns))

abbrev pub CalmCrowding : Type 0
CalmCrowding = IsCalmDue crowding

abbrev pub CalmSensing : Type 0
CalmSensing = IsCalmDue (λ ns. asks (sensing ns))

abbrev pub CalmSelecting : Type 0
CalmSelecting = (id : DeviceId) → IsCalmDue (λ ns. asks (selecting id ns))

-- So where these commands are asked, be it of what is selected, or behind its selection: whatever the device is seen to
-- be.
abbrev pub IsCalmAsking : List Signal → Type 0
IsCalmAsking commands = ((kind : SeenKind) → IsCalmDue (tag_next kind commands))
    × ((id : DeviceId) → IsCalmDue (tag_due id commands))

-- commands that a read or a write asks, and none, which are a peer's
abbrev pub CalmReading : Type 0
CalmReading = (d : Device) (commands : List Signal) → AsksOf d commands → IsCalmAsking commands

abbrev pub CalmWriting : Type 0
CalmWriting = (message : List ℕ) (d : Device) (commands : List Signal) → AsksWriteOf message d commands
    → IsCalmAsking commands

abbrev pub CalmUnasked : Type 0
CalmUnasked = IsCalmAsking []

-- So where a Type 3 tag is read or written, and where nothing more is asked.
abbrev pub CalmReadingThree : Type 0
CalmReadingThree = (id store : List ℕ) (commands : List Signal) → ReadAsksThree id store commands
    → IsCalmDue (three_due id commands)

abbrev pub CalmWritingThree : Type 0
CalmWritingThree =
    (id store : List ℕ) (locked : List Bool) (message : List ℕ) (commands : List Signal)
    → WriteAsksThree id store locked message commands
    → IsCalmDue (three_due id commands)

abbrev pub CalmUnaskedThree : Type 0
CalmUnaskedThree = (id : List ℕ) → IsCalmDue (three_due id [])
