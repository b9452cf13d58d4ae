-- What arrived at the peer of the open link, as the world shows it behind a command.
use Rattle.std.proofs.Common.{◌≡◌, ℕ, List, [], length, drop, Bool, true, false, Option, Some, None, refl, sym, ◌∙◌, ap, subst}
use Rattle.std.specs.Prelude.{get_or}
use Rattle.nfc_base.specs.Choosing.{Choosing}
use Rattle.nfc_base.specs.declared.event.Event.{Event}
use Rattle.air_core.specs.Conversation.{Note, Next}
use Rattle.air_core.specs.Turn.{Air, moment, world}
use Rattle.far_air.specs.FarEnds.{by_link}
use Rattle.far_air.specs.FarLaws.{seen, shown}
use Rattle.far_air.specs.FarTurns.{FarGoing}
use Rattle.peer_air.specs.PeerFars.{peer_ends}
use Rattle.link_calls.specs.Arriving.{Arrives, ArrivesCut, IsCountedTo}
use Rattle.bench_devices.specs.declared.device.Device.{Device}
use Rattle.bench_devices.specs.Device.{devices, device_linked}
use Rattle.bench_world.specs.World.{FarEnd, WholeWorld}
use Rattle.bench_world.specs.Arriving.{ArrivesAt, ArrivesCutAt}
use Rattle.bench_world.specs.Calls.{IfLinked, OfEnd}
use Rattle.bench_world.specs.Links.{OpenLink, end_numbered}
use Rattle.bench_world.specs.Obeying.{IsSettled, linked_at, state_at, under}
use Rattle.bench_world.specs.Peers.{Peers}
use Rattle.bench_world.proofs.open_link.CallNotes.{IsPlainNext}
use Rattle.bench_world.proofs.open_link.OnLink.{as_many, bench, end_is, end_shown, end_there, going, now, opened, trace_is}
use Rattle.bench_world.proofs.open_link.Restarted.{set_there}
use Rattle.bench_world.proofs.tags.Fronts.{Ends}

-- what is accepted stays, whether the end is whole or not
pub same_accepted : (v : Bool) (end : FarEnd) → OfEnd (λ e. e.service.accepted ≡ end.service.accepted) (by_link peer_ends v (Some end))
same_accepted true end = refl
same_accepted false end = refl

module _ (air : Air Device) (ends : Ends) (peers : Peers) (l : OpenLink) (settled : IsSettled (under ends peers (Some l) air)) (next : List Note → Next)
    (plain : (ns : List Note) → IsPlainNext (next ns)) (b : Air Device)
    (numbers : List ℕ) (after : Choosing FarEnd) (notes : List Note)
    (g : FarGoing devices device_linked peer_ends next (moment air) (moment b) notes (opened air ends peers l settled).place ends
    (record { end = (opened air ends peers l settled).end; numbers = numbers }) after) where
  abbrev first : ℕ
  first = l.initiator.core.number

  abbrev place : ℕ
  place = (opened air ends peers l settled).place

  abbrev end : FarEnd
  end = (opened air ends peers l settled).end

  abbrev os : Ends
  os = now air ends peers l settled next plain b numbers after notes g

  abbrev pub events : List Event
  events = (going air ends peers l settled next plain b numbers after notes g).events

  -- what was added to the trace
  pub events_are : drop (length air.trace) b.trace ≡ events
  events_are = ap (λ es. drop (length es) b.trace) settled.idle.quiet ∙ trace_is air ends peers l settled next plain b numbers after notes g

  -- the link is open then, and counted so; or it isn't
  abbrev pub GoesOn : Option OpenLink → Type 0
  GoesOn link = IfLinked link (λ k. (linked_at place b.listeners ≡ true) × IsCountedTo first (drop (length air.trace) b.trace) k.initiator.core.number) (Unit {0})

  abbrev Going : WholeWorld → Option OpenLink → Type 0
  Going w link = IfLinked link (λ k. (end_numbered l.peer peers.numbers w.fars ≡ Some after.end) × IsCountedTo first events k.initiator.core.number) (Unit {0})

  long : length peers.numbers ≡ length b.listeners
  long = settled.places.numbers ∙ sym (as_many air ends peers l settled next plain b numbers after notes g)

  stands_then : get_or os place None ≡ Some after.end
  stands_then = set_there ends place end after.end (opened air ends peers l settled).above

  shown_then : end_numbered l.peer peers.numbers (shown device_linked peer_ends b.listeners os) ≡ by_link peer_ends (linked_at place b.listeners) (Some after.end)
  shown_then = end_shown l.peer place peers.numbers b.listeners os after.end (opened air ends peers l settled).number long stands_then

  goes_on : (link : Option OpenLink) → GoesOn link → Going (seen device_linked peer_ends (world b) os []) link
  goes_on None h = tt
  goes_on (Some k) h = (
    end_there l.peer place peers.numbers b.listeners os after.end (opened air ends peers l settled).number long h.0 stands_then,
    subst (λ es. IsCountedTo first es k.initiator.core.number) events_are h.1,
  )

  -- a command that want of memory cut off
  pub cut_at : (w : WholeWorld) → seen device_linked peer_ends (world b) os [] ≡ w → ArrivesCut first (drop (length air.trace) b.trace) (record { end = end; numbers = numbers }) after
      → ArrivesCutAt l peers.numbers numbers (state_at (bench air ends peers l settled)).world.fars w.fars events
  cut_at w is arrives = record {
    old = end;
    stood = end_is air ends peers l settled;
    new = after;
    arrives = subst (λ es. ArrivesCut first es (record { end = end; numbers = numbers }) after) events_are arrives;
    accepted = subst (λ (v : WholeWorld). OfEnd (λ e. e.service.accepted ≡ after.end.service.accepted) (end_numbered l.peer peers.numbers v.fars)) is
        (subst (OfEnd (λ e. e.service.accepted ≡ after.end.service.accepted)) (sym shown_then) (same_accepted (linked_at place b.listeners) after.end));
  }

  pub came_at : (w : WholeWorld) → seen device_linked peer_ends (world b) os [] ≡ w → (link : Option OpenLink)
      → Arrives first (drop (length air.trace) b.trace) (record { end = end; numbers = numbers }) after → GoesOn link
      → ArrivesAt l peers.numbers numbers (state_at (bench air ends peers l settled)).world.fars w.fars events link
  came_at w is link arrives h = record {
    old = end;
    stood = end_is air ends peers l settled;
    new = after;
    arrives = subst (λ es. Arrives first es (record { end = end; numbers = numbers }) after) events_are arrives;
    accepted = subst (λ (v : WholeWorld). OfEnd (λ e. e.service.accepted ≡ after.end.service.accepted) (end_numbered l.peer peers.numbers v.fars)) is
        (subst (OfEnd (λ e. e.service.accepted ≡ after.end.service.accepted)) (sym shown_then) (same_accepted (linked_at place b.listeners) after.end));
    going = subst (λ v. Going v link) is (goes_on link h);
  }
