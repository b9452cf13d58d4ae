-- Numbers of PDUs that events show are as good as the true ones, for one step of a bench, whatever stands behind these
-- events: ends may join PDUs as they like (NFC Forum LLCP 1.3); that numbers are read off a trace is this project's
-- own.
use Rattle.std.specs.Prelude.{◌≡◌, ℕ, List, [], ◌++◌, Option, Some, None}
use Rattle.nfc_base.specs.Trace.{back_of}
use Rattle.nfc_base.specs.Trace as backs
use Rattle.nfc_base.specs.declared.event.Event.{Event}
use Rattle.link_calls.specs.Asking.{LinkAsking}
use Rattle.link_numbers.specs.Shown.{far_shown, own_shown}
use Rattle.bench_script.specs.declared.command.Command.{Command}
use Rattle.bench_script.specs.declared.command.Command.TheVariants.{Forge, Raw}
use Rattle.bench_devices.specs.AnyFrame.{peers_in}
use Rattle.bench_devices.specs.declared.device.Device.{Device}
use Rattle.bench_world.specs.declared.entry.Entry.{Entry}
use Rattle.bench_world.specs.Asked.{asked_on_link}
use Rattle.bench_world.specs.Legal.{Given, Joins, LegalStep, State, joins_for}
use Rattle.bench_world.specs.Links.{OpenLink}
use Rattle.bench_world.specs.Obeying.{IsSettled, Machines, state_at}
use Rattle.bench_world.specs.ShownForged.{forged_shown}
use Rattle.bench_world.specs.Alike.{Alike, IsToldSame}
use Rattle.bench_world.specs.Cutting.{CutsWell}

-- The PNI from which the payloads of a command are counted: that of the open link's initiator, and 0 on a link that a
-- command opens for itself.
abbrev pub first_pni : Option OpenLink → ℕ
first_pni None = 0
first_pni (Some l) = l.initiator.core.number

-- the numbers that these events show, at this PNI
abbrev pub joins_shown : ℕ → List Event → Joins
joins_shown first es = record { own = own_shown first es; far = far_shown first es }

-- ... in a command that begins in such a state; of payloads that are written by hand they are counted on the link that
-- the command opens for itself
abbrev pub shown_by : Option LinkAsking → State → Command → List Event → Joins
shown_by (Some asked) s c es = joins_shown (first_pni s.link) es
shown_by None s (Forge id payloads) es = forged_shown es
shown_by None s c es = joins_for c (joins_shown 0 es)

abbrev pub shown_of : State → Command → List Event → Joins
shown_of s c es = shown_by (asked_on_link c) s c es

-- A bench may be in such a state between two commands.
pub record IsBetweenCommands (s : State) : Type 0 where
  pub machines : Machines
  pub settled : IsSettled machines
  pub is : s ≡ state_at machines
  pub cuts : CutsWell s

-- Of two lists of events the first has these first and then the rest, and the second begins with the same. Where the
-- first is over with these the second is. Where the second is over with them so is the first, unless they end in the
-- midst of a turn, whose answer is the next event.
pub record BeginsSame (es rest fs : List Event) : Type 0 where
  pub other : List Event
  pub begins : fs ≡ es ++ other
  pub ends : rest ≡ [] → other ≡ []
  pub ended : other ≡ [] → back_of rest ≡ backs.Nothing → rest ≡ []

-- Numbers show in each command, but of frames that are written by hand only where no peer is placed: else one may cut
-- off a reply while its link goes on.
abbrev pub MayShowAmong : List Device → Command → Type 0
MayShowAmong ds (Raw id frames) = peers_in ds ≡ 0
MayShowAmong ds c = Unit {0}

abbrev pub MayShow : State → Command → Type 0
MayShow s c = MayShowAmong s.world.field.listeners c

-- Where a step of a command begins with these events, one by the numbers that they show, whatever stands behind them,
-- begins with them too.
abbrev pub NumbersShow : Type 0
NumbersShow =
    (s t u : State) (g h : Given) (e f : Entry) (es rest more : List Event)
    → IsBetweenCommands s → MayShow s e.command
    → LegalStep s g e t → e.events ≡ es ++ rest
    → LegalStep s h f u → f.command ≡ e.command → h.joins ≡ shown_of s e.command (es ++ more)
    → BeginsSame es rest f.events

-- What happened in a step is told the same by whatever numbers it is said for, ...
abbrev pub EventsTell : Type 0
EventsTell =
    (s t u : State) (g h : Given) (e f : Entry)
    → IsBetweenCommands s → LegalStep s g e t → LegalStep s h f u
    → f.command ≡ e.command → f.events ≡ e.events
    → IsToldSame s e.command g.joins h.joins e.events

-- ... and an entry leaves states alike.
abbrev pub EntriesLeaveAlike : Type 0
EntriesLeaveAlike =
    (s t u : State) (g h : Given) (e : Entry)
    → IsBetweenCommands s → MayShow s e.command
    → LegalStep s g e t → LegalStep s h e u
    → Alike t u
