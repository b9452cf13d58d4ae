-- Whatever a command does, both ends of a bench's links cut payloads as before, and have none that is too long.
use Rattle.std.proofs.Common.{◌≡◌, ◌≤◌, ◌*◌, nat_eq, ℕ, List, [], ◌∷◌, Option, Some, None, sym, subst, arith, refl}
use Rattle.std.specs.Prelude.{IfSome, option_map}
use Rattle.std.specs.Cmp.Lexicographic.{pointwise}
use Rattle.std.specs.List.{AllByRecursion}
use Rattle.nfc_base.specs.declared.event.Event.{Event}
use Rattle.air_core.specs.Conversation.{receptions, replay}
use Rattle.dep_link.specs.Sizes.{initiator_lr}
use Rattle.far_air.specs.FarEnds.{first_far, later_fars}
use Rattle.llcp_link.proofs.Ranged.{either}
use Rattle.peer_air.specs.PeerFars.{peer_ends}
use Rattle.snep_core.specs.Talk.{Ends}
use Rattle.link_calls.specs.Asking.{Call, Closes, Does, LinkAsking, call_begins}
use Rattle.link_calls.specs.CallDue.{CallStanding, Comes}
use Rattle.link_numbers.proofs.own.Resting.{comes_rested, waiting_rested}
use Rattle.bench_script.specs.DeviceIds.{bytes_of}
use Rattle.bench_script.specs.declared.command.Command.{Command}
use Rattle.bench_script.specs.declared.command.Command.TheVariants.{PlaceT2, PlaceT3, PlaceT4, PlaceT5, PlacePeer, Lock, Busy, Offer, Remove, Find, Crowd, Poll3, Read, Read3, Write, Write3, Link}
use Rattle.bench_script.specs.declared.command.Command.TheVariants.{Forge, Raw, Lookup}
use Rattle.bench_devices.specs.declared.device.Device.{Device}
use Rattle.bench_devices.specs.Device.{device_busy, device_id, device_linked, device_locked, device_target, devices, new_peer, new_t2, new_t3, new_t4, new_t5}
use Rattle.bench_devices.specs.Placed.{device_with, with_changed, without}
use Rattle.t4t_tag.specs.Store.{file_size}
use Rattle.bench_world.specs.declared.entry.Answer.{Answer}
use Rattle.bench_world.specs.declared.entry.Answer.TheVariants as answers
use Rattle.bench_world.specs.Asked.{asked_on_link}
use Rattle.bench_world.specs.Calls.{IfLinked, asked_behind, link_behind, stands_on}
use Rattle.bench_world.specs.Cutting.{CutsReplies, CutsWell, FirstCuts, FrontsCut, GivesShort, LinkCuts, MidstCuts, RepliesShort, WorldCuts}
use Rattle.bench_world.specs.Legal.{Accepts, Joins, State, world_at_start, changed, is_linked_to, link_alone, link_left, memory_of, state_after}
use Rattle.bench_world.specs.Linking.{link_if}
use Rattle.bench_world.specs.Links.{OpenLink}
use Rattle.bench_world.specs.Obeying.{Machines, ObeyedBy, state_at, untraced}
use Rattle.bench_world.specs.Peers.{end_offered, new_end, placed_under, with_place_changed, without_place}
use Rattle.bench_world.specs.World.{FarEnd, WholeWorld, bench_air, with_listeners, with_one_more}
use Rattle.bench_world.proofs.sizes.SizedDevices.{both_keep, busy_sized, locked_sized}
use Rattle.bench_world.proofs.sizes.SizedEnds.{general_fits}
use Rattle.bench_world.proofs.sizes.SizedServer.{left_short, reply_short}
use Rattle.bench_world.proofs.sizes.SizedTargets.{piece_fits}
use Rattle.bench_world.proofs.sizes.SizedWalks.{AskedNameFits, call_leaves}
use Rattle.bench_world.proofs.sizes.SizedWorld.{all_more, first_so, later_so, replay_so}

abbrev Above : Option FarEnd → Type 0
Above o = IfSome o GivesShort

-- events
happened : (w : WholeWorld) (es : List Event) → WorldCuts w → WorldCuts (replay bench_air w es)
happened w es h =
    let so = replay_so devices device_linked peer_ends CutsReplies (λ (l : FarEnd). GivesShort l) both_keep w es (record { listeners = h.targets; fars = h.ends }) in
    record { targets = so.listeners; ends = so.fars }

-- one device more, and its far end; one changed; one less
placed : (w : WholeWorld) (d : Device) (o : Option FarEnd) → WorldCuts w → CutsReplies d → Above o → WorldCuts (with_one_more w d o)
placed w d o h k i = record { targets = all_more CutsReplies w.field.listeners d h.targets k; ends = all_more Above w.fars o h.ends i }

changed_all : (change : Device → Device) → ((d : Device) → CutsReplies d → CutsReplies (change d)) → (id : List ℕ) (ds : List Device) → AllByRecursion CutsReplies ds
    → AllByRecursion CutsReplies (with_changed change id ds)
changed_all change keeps id [] h = tt
changed_all change keeps id (d ∷ ds) h =
    either {X = List Device} (AllByRecursion CutsReplies) (pointwise nat_eq (device_id d) id) (change d ∷ ds) (d ∷ with_changed change id ds)
    (λ e. (keeps d h.0, h.1)) (λ e. (h.0, changed_all change keeps id ds h.1))

changed_one : (w : WholeWorld) (change : Device → Device) → ((d : Device) → CutsReplies d → CutsReplies (change d)) → (id : List ℕ) → WorldCuts w
    → WorldCuts (with_listeners w (with_changed change id w.field.listeners))
changed_one w change keeps id h = record { targets = changed_all change keeps id w.field.listeners h.targets; ends = h.ends }

less_one : (id : List ℕ) (ds : List Device) → AllByRecursion CutsReplies ds → AllByRecursion CutsReplies (without id ds)
less_one id [] h = tt
less_one id (d ∷ ds) h =
    either {X = List Device} (AllByRecursion CutsReplies) (pointwise nat_eq (device_id d) id) ds (d ∷ without id ds) (λ e. h.1) (λ e. (h.0, less_one id ds h.1))

less_end : (id : List ℕ) (ds : List Device) (os : List (Option FarEnd)) → AllByRecursion Above os → AllByRecursion Above (without_place id ds os)
less_end id [] os h = h
less_end id (d ∷ ds) os h =
    either {X = List (Option FarEnd)} (AllByRecursion Above) (pointwise nat_eq (device_id d) id) (later_fars os) (first_far os ∷ without_place id ds (later_fars os))
    (λ e. later_so GivesShort os h) (λ e. (first_so GivesShort os h, less_end id ds (later_fars os) (later_so GivesShort os h)))

offered_one : (key value : List ℕ) (o : Option FarEnd) → Above o → Above (option_map (end_offered key value) o)
offered_one key value None h = tt
offered_one key value (Some l) h = record { miu = h.miu; queue = h.queue; served = h.served; own = h.own }

offered_end : (key value id : List ℕ) (ds : List Device) (os : List (Option FarEnd)) → AllByRecursion Above os → AllByRecursion Above (with_place_changed (end_offered key value) id ds os)
offered_end key value id [] os h = h
offered_end key value id (d ∷ ds) os h =
    either {X = List (Option FarEnd)} (AllByRecursion Above) (pointwise nat_eq (device_id d) id) (option_map (end_offered key value) (first_far os) ∷ later_fars os)
    (first_far os ∷ with_place_changed (end_offered key value) id ds (later_fars os))
    (λ e. (offered_one key value (first_far os) (first_so GivesShort os h), later_so GivesShort os h))
    (λ e. (first_so GivesShort os h, offered_end key value id ds (later_fars os) (later_so GivesShort os h)))

-- What a command itself changes.
changed_world : (s : State) (c : Command) → WorldCuts s.world → WorldCuts (changed s c).world
changed_world s (PlaceT2 id blocks head) h = placed s.world (new_t2 id (memory_of (4 * blocks) head)) None h (piece_fits initiator_lr) tt
changed_world s (PlaceT3 id blocks head) h = placed s.world (new_t3 id (memory_of (16 * blocks) head)) None h (piece_fits initiator_lr) tt
changed_world s (PlaceT4 id code container head) h = placed s.world (new_t4 id code container (memory_of (file_size container) head)) None h (piece_fits initiator_lr) tt
changed_world s (PlaceT5 id blocks size head) h = placed s.world (new_t5 id size (memory_of (size * blocks) head)) None h (piece_fits initiator_lr) tt
changed_world s (PlacePeer id lr miu rw limit) h =
    placed s.world (new_peer id lr miu) (Some (new_end miu rw limit)) h (piece_fits initiator_lr)
    (record { miu = (let z : 128 ≤ 2176 = omega arith in z); queue = tt; served = tt; own = tt })
changed_world s (Lock id block) h = changed_one s.world (device_locked block) (locked_sized block) (bytes_of id) h
changed_world s (Busy id count times) h = changed_one s.world (device_busy count times) (busy_sized count times) (bytes_of id) h
changed_world s (Offer id key value) h = record { targets = h.targets; ends = offered_end key value (bytes_of id) s.world.field.listeners s.world.fars h.ends }
changed_world s (Remove id) h = record {
  targets = less_one (bytes_of id) s.world.field.listeners h.targets;
  ends = less_end (bytes_of id) s.world.field.listeners s.world.fars h.ends;
}
changed_world s c h = h

-- the open link
abbrev Linked : Option OpenLink → Type 0
Linked o = IfLinked o LinkCuts (Unit {0})

changed_link : (s : State) (c : Command) → Linked s.link → Linked (changed s c).link
changed_link s (Remove id) h = either {X = Option OpenLink} Linked (is_linked_to s id) None s.link (λ e. tt) (λ e. h)
changed_link s Find h = tt
changed_link s Crowd h = tt
changed_link s Poll3 h = tt
changed_link s (Read id) h = tt
changed_link s (Read3 id) h = tt
changed_link s (Write id message) h = tt
changed_link s (Write3 id message) h = tt
changed_link s (Link id miu rw) h = tt
changed_link s (Forge id payloads) h = tt
changed_link s (Raw id frames) h = tt
changed_link s c h = h

-- behind a command that opened one, or asked something on it
opened_link : (number : Option ℕ) (d : Option Device) (miu rw : ℕ) → Linked (link_if number d miu rw)
opened_link (Some peer) (Some d) miu rw = record {
  rests = waiting_rested (device_target d).lr;
  client = record { miu = general_fits (device_target d).general; queue = tt; served = tt; own = tt };
}
opened_link (Some peer) None miu rw = tt
opened_link None d miu rw = tt

alone_link : (s : State) (c : Command) (told : Option Answer) → Linked s.link → Linked (link_alone s c told)
alone_link s (Link id miu rw) (Some (answers.Linked n)) h = opened_link (placed_under id s.world.field.listeners s.peers.numbers) (device_with id s.world.field.listeners) miu rw
alone_link s (Link id miu rw) None h = tt
alone_link s (Link id miu rw) (Some a) h = tt
alone_link s c told h = changed_link s c h

behind_link : (l : OpenLink) (call : Call) (joins : List ℕ) (es : List Event) → AskedNameFits (Does call) → LinkCuts l → (x : CallStanding) → stands_on l joins call es ≡ x
    → Linked (link_behind l call x)
behind_link l call joins es fits h (Comes (Ends jobs client) i) e = record {
  rests = comes_rested joins (call_begins l.client call) (Ends jobs client) l.initiator i (receptions es) h.rests e;
  client = call_leaves joins l.client call (Ends jobs client) l.initiator i (receptions es) fits h.client e;
}
behind_link l call joins es fits h x e = tt

asked_link : (asked : LinkAsking) (told : Option Answer) (o : Option OpenLink) (joins : List ℕ) (es : List Event) → AskedNameFits asked → Linked o
    → Linked (asked_behind asked told o joins es)
asked_link (Does call) None o joins es fits h = tt
asked_link (Does call) (Some a) None joins es fits h = tt
asked_link (Does call) (Some a) (Some l) joins es fits h = behind_link l call joins es fits h (stands_on l joins call es) refl
asked_link Closes told o joins es fits h = tt

left_link : (o : Option LinkAsking) (s : State) (joins : Joins) (c : Command) (es : List Event) (told : Option Answer) → IfSome o AskedNameFits → Linked s.link
    → Linked (link_left o s joins c es told)
left_link None s joins c es told fits h = alone_link s c told h
left_link (Some asked) s joins c es told fits h = asked_link asked told s.link joins.own es fits h

-- in the midst of a command, and behind it
pub midst_cuts : MidstCuts
midst_cuts s joins c es h = let k = changed_world s c h.world in happened (world_at_start s joins c) es (record { targets = k.targets; ends = k.ends })

pub replies_short : RepliesShort
replies_short l payload n h = (reply_short l payload n h, left_short l payload n h)

pub first_cuts : FirstCuts
first_cuts = record { world = record { targets = tt; ends = tt }; link = tt }

-- a name that may be looked up fits into a payload
pub accepted_name_fits : (s : State) (c : Command) → Accepts s c → IfSome (asked_on_link c) AskedNameFits
accepted_name_fits s (Lookup name) may = may.few
accepted_name_fits s c may = tt

after_cuts : (s : State) (joins : Joins) (c : Command) (es : List Event) (told : Option Answer) → Accepts s c → CutsWell s → CutsWell (state_after s joins c es told)
after_cuts s joins c es told may h =
    let k = midst_cuts s joins c es h in
    record { world = record { targets = k.targets; ends = k.ends }; link = left_link (asked_on_link c) s joins c es told (accepted_name_fits s c may) h.link }

pub front_cuts : FrontsCut
front_cuts s g c es told t f h = subst CutsWell (sym f.after) (after_cuts s g.joins c es told f.accepted h)

-- So it is of machines behind a command that was obeyed, once its events are taken.
pub untraced_cuts : (joins : Joins) (a b : Machines) (c : Command) (answer : Answer) → CutsWell (state_at a) → ObeyedBy joins a b c answer → CutsWell (state_at (untraced b))
untraced_cuts joins a b c answer h o =
    let k = front_cuts (state_at a) o.given c b.air.trace (Some answer) (state_at b) o.front h in
    record { world = record { targets = k.world.targets; ends = k.world.ends }; link = k.link }
