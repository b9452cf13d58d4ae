-- Frames of a script's own are sent behind a reset: so it is the same, whether the open link ends in the command or before it.
use Rattle.std.proofs.Common.{◌≡◌, inl, inr, List, Bool, true, false, Option, None, refl, sym, ◌∙◌, ap, subst}
use Rattle.std.specs.Prelude.{get_or}
use Rattle.nfc_base.specs.Signal.{Signal}
use Rattle.nfc_base.specs.declared.event.Event.{Event}
use Rattle.air_core.specs.Conversation.{queue_after}
use Rattle.bench_script.specs.declared.command.Command.{Command}
use Rattle.bench_script.specs.declared.command.Command.TheVariants.{Raw}
use Rattle.bench_script.specs.declared.command.DeviceId.{DeviceId}
use Rattle.bench_script.specs.DeviceIds.{bytes_of}
use Rattle.bench_world.specs.declared.entry.Answer.{Answer}
use Rattle.bench_world.specs.Calls.{with_accepted}
use Rattle.bench_world.specs.Legal.{State, Joins, peers_forged, state_after, unlinked, world_after}
use Rattle.bench_world.specs.Halting.{CutOff, RawHalts}
use Rattle.bench_world.specs.Links.{with_link_if}
use Rattle.bench_world.specs.Obeying.{Machines, IsSettled, link_ended, state_at}
use Rattle.bench_world.specs.Peers.{Peers, placed_under}
use Rattle.bench_world.specs.private.RawAt.{RawStops}
use Rattle.bench_world.specs.Rawing.{raw_opens}
use Rattle.bench_world.specs.World.{FarEnd, stable}
use Rattle.bench_world.proofs.open_link.Unlinking.{IsReset, front_ended_by, unlinked_state}
use Rattle.bench_world.proofs.forged.ForgeReset.{numbers_stay}

same_raw : (v : Bool) (s : State) (id : DeviceId) (behind : List (Option FarEnd)) → peers_forged v (unlinked s) id behind ≡ peers_forged v s id behind
same_raw false s id behind = refl
same_raw true s id behind = ap (λ ns. with_link_if (placed_under (bytes_of id) s.world.field.listeners ns) s.world.fars behind (unlinked s).peers) (numbers_stay s)

same_after : (s : State) (joins : Joins) (id : DeviceId) (frames : List Signal) (es : List Event) (told : Option Answer)
    → state_after (unlinked s) joins (Raw id frames) es told ≡ state_after s joins (Raw id frames) es told
same_after s joins id frames es told =
    let S : Peers → State = λ p. record { world = world_after s joins (Raw id frames) es; queue = queue_after s.queue es; peers = p; link = None } in
    ap S (same_raw (raw_opens id frames es) s id (world_after s joins (Raw id frames) es).fars)

pub raw_resets : (id : DeviceId) (frames : List Signal) → IsReset (Raw id frames)
raw_resets id frames = record {
  front = λ s t g es told f. record {
    accepted = record { some = f.accepted.some; few = f.accepted.few; each = f.accepted.each; one = f.accepted.one };
    asks = f.asks;
    takes = f.takes;
    turns = f.turns;
    fates = f.fates;
    each = f.each;
    after = f.after ∙ same_after s g.joins id frames es told;
  };
  next = λ s g ns. refl;
  law = λ s g es answer l. record { tells = l.tells; opens = l.opens };
  stores = λ s joins es l. l;
}

-- The peer's end stopped.
halts_unlinked : (joins : Joins) (s : State) (c : Command) (cut : List Event) (t : State) → RawHalts joins (unlinked s) c cut t → RawHalts joins s c cut t
halts_unlinked joins s c cut t h = record {
  id = h.id;
  frames = h.frames;
  command = h.command;
  given = h.given;
  joined = h.joined;
  before = h.before;
  mid = h.mid;
  front = (raw_resets h.id h.frames).front s h.mid h.given h.before None h.front;
  sent = h.sent;
  split = h.split;
  asked = h.asked;
  passes = h.passes;
  lit = h.lit;
  queue = h.queue;
  leaves = record {
    opens = h.leaves.opens;
    place = h.leaves.place;
    stands = h.leaves.stands;
    devices = h.leaves.devices;
    peer = h.leaves.peer;
    numbered = ap (λ ns. get_or ns h.leaves.place None) (sym (numbers_stay s)) ∙ h.leaves.numbered;
    more = h.leaves.more;
    ends = h.leaves.ends ∙ ap (λ ns. with_accepted h.leaves.more h.leaves.peer ns (stable h.mid.world).ends) (numbers_stay s);
    peers = h.leaves.peers ∙ same_raw (raw_opens h.id h.frames cut) s h.id t.world.fars;
    link = h.leaves.link;
  };
}

-- So it is where it was cut off once no link was open.
pub stops_ended : (joins : Joins) (id : DeviceId) (frames : List Signal) (old : Machines) (settled : IsSettled old) (now : Machines)
    → RawStops joins (state_at (link_ended old)) (Raw id frames) now.air.trace (state_at now) → RawStops joins (state_at old) (Raw id frames) now.air.trace (state_at now)
stops_ended joins id frames old settled now (inl f) = inl (front_ended_by (Raw id frames) (raw_resets id frames) old settled now joins f)
stops_ended joins id frames old settled now (inr h) =
    inr (halts_unlinked joins (state_at old) (Raw id frames) now.air.trace (state_at now)
    (subst (λ x. RawHalts joins x (Raw id frames) now.air.trace (state_at now)) (unlinked_state old settled.places) h))

-- so it was cut off as any command is
pub cut_by : (joins : Joins) (s : State) (id : DeviceId) (frames : List Signal) (cut : List Event) (t : State) → RawStops joins s (Raw id frames) cut t → CutOff joins s (Raw id frames) cut t
cut_by joins s id frames cut t (inl f) = inr (inl f)
cut_by joins s id frames cut t (inr h) = inr (inr (inr (inr h)))
