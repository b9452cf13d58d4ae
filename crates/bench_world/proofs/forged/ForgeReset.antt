-- Payloads that were written by hand are sent behind a reset: so it is the same, whether the open link ends in the command or before it.
use Rattle.std.proofs.Common.{◌≡◌, inl, inr, ℕ, List, Bool, true, false, Option, Some, None, refl, ◌∙◌, ap, subst}
use Rattle.nfc_base.specs.declared.event.Event.{Event}
use Rattle.air_core.specs.Conversation.{queue_after}
use Rattle.bench_script.specs.declared.command.Command.{Command}
use Rattle.bench_script.specs.declared.command.Command.TheVariants.{Forge}
use Rattle.bench_script.specs.declared.command.DeviceId.TheVariants.{A}
use Rattle.bench_world.specs.declared.entry.Answer.{Answer}
use Rattle.bench_world.specs.Arriving.{ArrivesWithin, ArrivesCutWithin}
use Rattle.bench_world.specs.Calls.{with_accepted}
use Rattle.bench_world.specs.private.ForgedAt.{ForgeStops}
use Rattle.bench_world.specs.Forging.{forged_general, opens_link}
use Rattle.bench_world.specs.Legal.{State, Joins, ForgeCutLeaves, ForgeLeaves, peers_forged, state_after, unlinked, world_after}
use Rattle.bench_world.specs.Halting.{CutOff, ForgeHalts}
use Rattle.bench_world.specs.Links.{with_link_if}
use Rattle.bench_world.specs.Obeying.{Machines, IsSettled, link_ended, state_at}
use Rattle.bench_world.specs.Peers.{Peers, placed_under}
use Rattle.bench_world.specs.World.{FarEnd, stable}
use Rattle.bench_world.proofs.open_link.Unlinking.{IsReset, front_ended_by, same_numbers, unlinked_state}

pub numbers_stay : (s : State) → (unlinked s).peers.numbers ≡ s.peers.numbers
numbers_stay s = same_numbers s.link s.peers s.world.fars

same_forged : (v : Bool) (s : State) (id : List ℕ) (behind : List (Option FarEnd)) → peers_forged v (unlinked s) (A id) behind ≡ peers_forged v s (A id) behind
same_forged false s id behind = refl
same_forged true s id behind = ap (λ ns. with_link_if (placed_under id s.world.field.listeners ns) s.world.fars behind (unlinked s).peers) (numbers_stay s)

same_after : (s : State) (joins : Joins) (id : List ℕ) (payloads : List (List ℕ)) (es : List Event) (told : Option Answer)
    → state_after (unlinked s) joins (Forge id payloads) es told ≡ state_after s joins (Forge id payloads) es told
same_after s joins id payloads es told =
    let S : Peers → State = λ p. record { world = world_after s joins (Forge id payloads) es; queue = queue_after s.queue es; peers = p; link = None } in
    ap S (same_forged (opens_link id payloads es) s id (world_after s joins (Forge id payloads) es).fars)

module _ (s : State) (joins : Joins) (id : List ℕ) (payloads : List (List ℕ)) (es : List Event) where
  leaves_too : (v : Bool) → ForgeLeaves v (unlinked s) joins id payloads es → ForgeLeaves v s joins id payloads es
  leaves_too false stays = stays
  leaves_too true l = record {
    peer = l.peer;
    placed = subst (λ ns. placed_under id s.world.field.listeners ns ≡ Some l.peer) (numbers_stay s) l.placed;
    came = subst (λ ns. ArrivesWithin l.peer forged_general ns joins.far s.world.fars (world_after s joins (Forge id payloads) es).fars es) (numbers_stay s) l.came;
    more = l.more;
    devices = l.devices;
    ends = subst (λ ns. (stable (world_after s joins (Forge id payloads) es)).ends ≡ with_accepted l.more l.peer ns (stable s.world).ends) (numbers_stay s) l.ends;
  }

  cut_too : (v : Bool) → ForgeCutLeaves v (unlinked s) joins id payloads es → ForgeCutLeaves v s joins id payloads es
  cut_too false stays = stays
  cut_too true l = record {
    peer = l.peer;
    placed = subst (λ ns. placed_under id s.world.field.listeners ns ≡ Some l.peer) (numbers_stay s) l.placed;
    came = subst (λ ns. ArrivesCutWithin l.peer forged_general ns joins.far s.world.fars (world_after s joins (Forge id payloads) es).fars es) (numbers_stay s) l.came;
    more = l.more;
    devices = l.devices;
    ends = subst (λ ns. (stable (world_after s joins (Forge id payloads) es)).ends ≡ with_accepted l.more l.peer ns (stable s.world).ends) (numbers_stay s) l.ends;
  }

pub forge_resets : (id : List ℕ) (payloads : List (List ℕ)) → IsReset (Forge id payloads)
forge_resets id payloads = record {
  front = λ s t g es told f. record {
    accepted = f.accepted;
    asks = f.asks;
    takes = f.takes;
    turns = f.turns;
    fates = f.fates;
    each = f.each;
    after = f.after ∙ same_after s g.joins id payloads es told;
  };
  next = λ s g ns. refl;
  law = λ s g es answer l. record { tells = l.tells; leaves = leaves_too s g.joins id payloads es (opens_link id payloads es) l.leaves };
  stores = λ s joins es l. cut_too s joins id payloads es (opens_link id payloads es) l;
}

-- The peer's end stopped.
halts_unlinked : (joins : Joins) (s : State) (c : Command) (cut : List Event) (t : State) → ForgeHalts joins (unlinked s) c cut t → ForgeHalts joins s c cut t
halts_unlinked joins s c cut t h = record {
  id = h.id;
  payloads = h.payloads;
  command = h.command;
  given = h.given;
  joined = h.joined;
  before = h.before;
  mid = h.mid;
  front = (forge_resets h.id h.payloads).front s h.mid h.given h.before None h.front;
  opened = h.opened;
  sent = h.sent;
  split = h.split;
  asked = h.asked;
  passes = h.passes;
  lit = h.lit;
  queue = h.queue;
  peer = h.peer;
  placed = subst (λ ns. placed_under h.id s.world.field.listeners ns ≡ Some h.peer) (numbers_stay s) h.placed;
  leaves = record {
    talk = h.leaves.talk;
    more = h.leaves.more;
    ends = subst (λ ns. (stable t.world).ends ≡ with_accepted h.leaves.more h.peer ns (stable s.world).ends) (numbers_stay s) h.leaves.ends;
    peers = h.leaves.peers;
    link = h.leaves.link;
  };
  came = subst (λ ns. ArrivesCutWithin h.peer forged_general ns h.given.joins.far s.world.fars t.world.fars cut) (numbers_stay s) h.came;
}

-- So it is where it was cut off once no link was open.
pub stops_ended : (joins : Joins) (id : List ℕ) (payloads : List (List ℕ)) (old : Machines) (settled : IsSettled old) (now : Machines)
    → ForgeStops joins (state_at (link_ended old)) (Forge id payloads) now.air.trace (state_at now) → ForgeStops joins (state_at old) (Forge id payloads) now.air.trace (state_at now)
stops_ended joins id payloads old settled now (inl f) = inl (front_ended_by (Forge id payloads) (forge_resets id payloads) old settled now joins f)
stops_ended joins id payloads old settled now (inr h) =
    inr (halts_unlinked joins (state_at old) (Forge id payloads) now.air.trace (state_at now)
    (subst (λ x. ForgeHalts joins x (Forge id payloads) now.air.trace (state_at now)) (unlinked_state old settled.places) h))

-- so it was cut off as any command is
pub cut_by : (joins : Joins) (s : State) (id : List ℕ) (payloads : List (List ℕ)) (cut : List Event) (t : State) → ForgeStops joins s (Forge id payloads) cut t
    → CutOff joins s (Forge id payloads) cut t
cut_by joins s id payloads cut t (inl f) = inr (inl f)
cut_by joins s id payloads cut t (inr h) = inr (inr (inr (inl h)))
