-- What doesn't show decides nothing later: states that differ only in what the dark takes, while no link is open, have
-- the same legal steps, and what happened in a step decides what it answers.
use Rattle.std.specs.Prelude.{◌≡◌, List, Some, None, IsSome}
use Rattle.nfc_base.specs.declared.event.Event.{Event}
use Rattle.far_air.specs.FarWorld.{far_dark}
use Rattle.peer_air.specs.PeerFars.{peer_ends}
use Rattle.link_calls.specs.Asking.{LinkAsking}
use Rattle.bench_script.specs.declared.command.Command.{Command}
use Rattle.bench_devices.specs.Device.{devices, device_linked}
use Rattle.bench_world.specs.declared.entry.Entry.{Entry}
use Rattle.bench_world.specs.Asked.{asked_on_link}
use Rattle.bench_world.specs.Calls.{told_asked}
use Rattle.bench_world.specs.Links.{OpenLink}
use Rattle.bench_world.specs.Legal.{State, Given, Joins, Accepts, FrontOf, LegalStep}

-- Two states are alike: the same link is open, the field is as lit, the same fates are left, the peers and their links
-- are the same, and so is all that the dark leaves of devices and far ends. Where a link is open, all of both is the
-- same.
pub record Alike (s t : State) : Type 0 where
  pub link : s.link ≡ t.link
  pub lit : s.world.field.lit ≡ t.world.field.lit
  pub queue : s.queue ≡ t.queue
  pub peers : s.peers ≡ t.peers
  pub stays : far_dark devices device_linked peer_ends s.world ≡ far_dark devices device_linked peer_ends t.world
  pub whole : IsSome s.link → s ≡ t

-- In alike states the same commands are accepted; ...
abbrev pub AlikeAccept : Type 0
AlikeAccept = (s t : State) (c : Command) → Alike s t → Accepts s c → Accepts t c

-- ... a command that was cut off in one may be so in the other, and leaves both alike; ...
abbrev pub AlikeFronts : Type 0
AlikeFronts =
    (s t u : State) (g : Given) (c : Command) (es : List Event) → Alike s t → FrontOf s g c es None u
    → (v : State) × FrontOf t g c es None v × Alike u v

-- ... and a legal step of one is a legal step of the other, with the same events and the same answer, and leaves both
-- alike.
abbrev pub AlikeSteps : Type 0
AlikeSteps =
    (s t u : State) (g : Given) (e : Entry) → Alike s t → LegalStep s g e u
    → (v : State) × LegalStep t g e v × Alike u v

-- what was asked on the open link is told the same by these numbers and by those
abbrev pub IsToldSame : State → Command → Joins → Joins → List Event → Type 0
IsToldSame s c j k events =
    (asked : LinkAsking) (l : OpenLink) → asked_on_link c ≡ Some asked → s.link ≡ Some l
    → told_asked asked l j.own events ≡ told_asked asked l k.own events

-- What happened in a step from one or the other decides what it answers, whatever the numbers of PDUs are that it is
-- said for, as long as they tell the same on the open link.
abbrev pub AlikeAnswers : Type 0
AlikeAnswers =
    (s t u v : State) (g h : Given) (e f : Entry) → Alike s t → LegalStep s g e u → LegalStep t h f v
    → e.command ≡ f.command → e.events ≡ f.events → IsToldSame s e.command g.joins h.joins e.events
    → e.answer ≡ f.answer
