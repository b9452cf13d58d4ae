-- Two states in which no link is open, and whose worlds the dark leaves the same: a command is accepted in both or in none, asks the
-- same of its tag, and what it changes itself, and its end, leaves both so.
use Rattle.std.proofs.Common.{◌≡◌, ℕ, ◌*◌, List, [], Bool, true, false, Option, Some, None, refl, sym, ◌∙◌, ap}
use Rattle.std.specs.Prelude.{option_map}
use Rattle.nfc_base.specs.Signal.{Signal}
use Rattle.nfc_base.specs.declared.event.Event.{Event}
use Rattle.nfc_base.specs.declared.event.Fate.{Fate}
use Rattle.dep_link.specs.Target.{TargetState}
use Rattle.t4t_tag.specs.Store.{file_size}
use Rattle.link_calls.specs.Asking.{LinkAsking, Call, Does, Closes}
use Rattle.bench_script.specs.declared.command.Command.{Command}
use Rattle.bench_script.specs.declared.command.Command.TheVariants.{Fates, PlaceT2, PlaceT3, PlaceT4, PlaceT5, PlacePeer, Lock, Busy, Offer, Remove, Read, Read3, Write, Write3, Link, Forge, Raw}
use Rattle.bench_script.specs.declared.command.DeviceId.{DeviceId}
use Rattle.bench_script.specs.declared.command.DeviceId.TheVariants.{A}
use Rattle.bench_script.specs.DeviceIds.{bytes_of}
use Rattle.bench_script.specs.Messages.{message_of}
use Rattle.bench_devices.specs.declared.device.Device.{Device}
use Rattle.bench_devices.specs.declared.device.Device.TheVariants.{T2, T4, Peer, T5, T3}
use Rattle.bench_devices.specs.Device.{device_busy, device_darkened, device_locked, device_target, new_t2, new_t3, new_t4, new_t5, new_peer}
use Rattle.bench_devices.specs.Keeping.{Kept}
use Rattle.bench_devices.specs.Placed.{device_with}
use Rattle.bench_devices.proofs.finding.SelectingCards.{carded}
use Rattle.bench_world.specs.declared.entry.Answer.{Answer}
use Rattle.bench_world.specs.declared.entry.Answer.TheVariants.{Linked}
use Rattle.bench_world.specs.Asked.{asked_on_link}
use Rattle.bench_world.specs.Calls.{asked_behind}
use Rattle.bench_world.specs.Forging.{opens_link}
use Rattle.bench_world.specs.Rawing.{raw_opens}
use Rattle.bench_world.specs.Legal.{State, Joins, Accepts, IsAskedBy, changed, link_after, link_alone, link_left, memory_of, peers_after, peers_alone, peers_forged, peers_left, world_after}
use Rattle.bench_world.specs.Linking.{link_if, link_to}
use Rattle.bench_world.specs.Links.{OpenLink, begun_if, ended_unless, with_link, with_link_if}
use Rattle.bench_world.specs.Peers.{Peers, new_end, placed_under}
use Rattle.bench_world.specs.Reading.{ReadAsks}
use Rattle.bench_world.specs.Threes.{ReadAsks3, WriteAsks3}
use Rattle.bench_world.specs.World.{FarEnd, WholeWorld}
use Rattle.bench_world.specs.Writing.{WriteAsks}
use Rattle.bench_world.proofs.devices.Shapes.{shape, accepts_too}
use Rattle.bench_world.proofs.alike.AlikeDevices.{SameDevice, busy_dark, if_same, left_two, locked_dark, same_changed, same_each, same_kept, same_removed, same_with}
use Rattle.bench_world.proofs.alike.AlikeEnds.{SameEnds, same_accepted, same_ends_offered, same_ends_without, same_placed, same_range, same_removal}
use Rattle.bench_world.proofs.alike.AlikeTells.{reads3_same, reads_same, writes3_same, writes_same}
use Rattle.bench_world.proofs.alike.AlikeWorlds.{SameWorld, one_more}

-- a state in which no link is open
abbrev pub no_link : WholeWorld → List Fate → Peers → State
no_link w q p = record { world = w; queue = q; peers = p; link = None }

-- The conditions of a command see no more of a device than its shape.
shape_dark : (d : Device) → shape (device_darkened d) ≡ shape d
shape_dark (T2 d) = ap (λ u. shape (T2 (carded d.id d.front u))) (left_two d.front d.upper)
shape_dark (T4 d) = refl
shape_dark (Peer d) = refl
shape_dark (T5 p) = refl
shape_dark (T3 p) = refl

-- the link that ATR_REQ opens, by the peer's number and the device that has its identifier
opened_same : (miu window : ℕ) (n : Option ℕ) (o p : Option Device) → option_map device_darkened o ≡ option_map device_darkened p → link_if n o miu window ≡ link_if n p miu window
opened_same miu window None o p same = refl
opened_same miu window (Some n) None None same = refl
opened_same miu window (Some n) None (Some e) same = absurd cc
opened_same miu window (Some n) (Some d) None same = absurd cc
opened_same miu window (Some n) (Some d) (Some e) same =
    let one : SameDevice d e = cc in
    let target : device_target d ≡ device_target e = ap (λ (k : Kept). k.fixed.target) (same_kept d e one) in
    ap (λ (t : TargetState). let l : Option OpenLink = Some (link_to n t miu window) in l) target

-- what was asked on no link leaves none
pub none_behind : (call : Call) (told : Option Answer) (ns : List ℕ) (es : List Event) → asked_behind (Does call) told None ns es ≡ None
none_behind call None ns es = refl
none_behind call (Some a) ns es = refl

none_ends : (o : Option OpenLink) (fars : List (Option FarEnd)) (p : Peers) → ended_unless o None fars p ≡ p
none_ends None fars p = refl
none_ends (Some l) fars p = refl

module _ (w v : WholeWorld) (same : SameWorld w v) (q : List Fate) (p : Peers) where
  pub accepts_same : (c : Command) → Accepts (no_link w q p) c → Accepts (no_link v q p) c
  accepts_same c is = accepts_too (no_link w q p) (no_link v q p) c (same_each w.field.listeners v.field.listeners same.listeners shape shape_dark) is

  asked_with : (id : List ℕ) → option_map device_darkened (device_with id w.field.listeners) ≡ option_map device_darkened (device_with id v.field.listeners)
  asked_with id = same_with w.field.listeners v.field.listeners same.listeners id

  pub asks_same : (c : Command) (asked : List Signal) → IsAskedBy (no_link w q p) c asked → IsAskedBy (no_link v q p) c asked
  asks_same (Read id) asked is =
      if_same (λ d. ReadAsks d asked) (λ d. ReadAsks d asked) (asked ≡ []) (λ d e one. reads_same d e one asked) (device_with (bytes_of id) w.field.listeners)
      (device_with (bytes_of id) v.field.listeners) (asked_with (bytes_of id)) is
  asks_same (Write id m) asked is =
      if_same (λ d. WriteAsks (message_of m) d asked) (λ d. WriteAsks (message_of m) d asked) (asked ≡ []) (λ d e one. writes_same d e one (message_of m) asked)
      (device_with (bytes_of id) w.field.listeners) (device_with (bytes_of id) v.field.listeners) (asked_with (bytes_of id)) is
  asks_same (Read3 id) asked is =
      if_same (λ d. ReadAsks3 id d asked) (λ d. ReadAsks3 id d asked) (asked ≡ []) (λ d e one. reads3_same d e one id asked) (device_with id w.field.listeners)
      (device_with id v.field.listeners) (asked_with id) is
  asks_same (Write3 id m) asked is =
      if_same (λ d. WriteAsks3 id (message_of m) d asked) (λ d. WriteAsks3 id (message_of m) d asked) (asked ≡ []) (λ d e one. writes3_same d e one id (message_of m) asked)
      (device_with id w.field.listeners) (device_with id v.field.listeners) (asked_with id) is
  asks_same c asked is = is

  -- what a command itself changes
  pub changed_world : (c : Command) → SameWorld (changed (no_link w q p) c).world (changed (no_link v q p) c).world
  changed_world (PlaceT2 id blocks head) = one_more w v same (new_t2 id (memory_of (4 * blocks) head)) None
  changed_world (PlaceT3 id blocks head) = one_more w v same (new_t3 id (memory_of (16 * blocks) head)) None
  changed_world (PlaceT4 id code container head) = one_more w v same (new_t4 id code container (memory_of (file_size container) head)) None
  changed_world (PlaceT5 id blocks size head) = one_more w v same (new_t5 id size (memory_of (size * blocks) head)) None
  changed_world (PlacePeer id lr miu rw limit) = one_more w v same (new_peer id lr miu) (Some (new_end miu rw limit))
  changed_world (Lock id block) = record {
    lit = same.lit;
    listeners = same_changed w.field.listeners v.field.listeners same.listeners (device_locked block) (locked_dark block) (bytes_of id);
    fars = same.fars;
    numbers = same.numbers;
  }
  changed_world (Busy id count times) = record {
    lit = same.lit;
    listeners = same_changed w.field.listeners v.field.listeners same.listeners (device_busy count times) (busy_dark count times) (bytes_of id);
    fars = same.fars;
    numbers = same.numbers;
  }
  changed_world (Offer id key value) = record {
    lit = same.lit;
    listeners = same.listeners;
    fars = same_ends_offered w.field.listeners v.field.listeners same.listeners w.fars v.fars same.fars key value (bytes_of id);
    numbers = same.numbers;
  }
  changed_world (Remove id) = record {
    lit = same.lit;
    listeners = same_removed w.field.listeners v.field.listeners same.listeners (bytes_of id);
    fars = same_ends_without w.field.listeners v.field.listeners same.listeners w.fars v.fars same.fars (bytes_of id);
    numbers = same.numbers;
  }
  changed_world c = same

  pub changed_queue : (c : Command) → (changed (no_link w q p) c).queue ≡ (changed (no_link v q p) c).queue
  changed_queue (Fates fates) = refl
  changed_queue c = refl

  changed_peers : (c : Command) → (changed (no_link w q p) c).peers ≡ (changed (no_link v q p) c).peers
  changed_peers (Remove id) = same_removal w.field.listeners v.field.listeners same.listeners w.fars v.fars same.fars (bytes_of id) p
  changed_peers c = refl

  -- the link that is open behind it
  linked_same : (id : List ℕ) (miu window : ℕ) (told : Option Answer) → link_alone (no_link w q p) (Link id miu window) told ≡ link_alone (no_link v q p) (Link id miu window) told
  linked_same id miu window None = refl
  linked_same id miu window (Some (Linked n)) =
      ap (λ k. link_if k (device_with id w.field.listeners) miu window) (same_placed w.field.listeners v.field.listeners same.listeners id p.numbers)
      ∙ opened_same miu window (placed_under id v.field.listeners p.numbers) (device_with id w.field.listeners) (device_with id v.field.listeners) (asked_with id)
  linked_same id miu window (Some a) = refl

  link_same : (c : Command) (told : Option Answer) → link_alone (no_link w q p) c told ≡ link_alone (no_link v q p) c told
  link_same (Link id miu window) told = linked_same id miu window told
  link_same c told = refl

  pub link_after_same : (joins : Joins) (c : Command) (es : List Event) (told : Option Answer) → link_after (no_link w q p) joins c es told ≡ link_after (no_link v q p) joins c es told
  link_after_same joins c es told = by_asked (asked_on_link c)
    where
      by_asked : (o : Option LinkAsking) → link_left o (no_link w q p) joins c es told ≡ link_left o (no_link v q p) joins c es told
      by_asked None = link_same c told
      by_asked (Some (Does call)) = none_behind call told joins.own es ∙ sym (none_behind call told joins.own es)
      by_asked (Some Closes) = refl

  -- the peers behind it, with their links, where the far ends behind it rest the same
  begun_same : (o : Option OpenLink) → begun_if o w.fars p ≡ begun_if o v.fars p
  begun_same None = refl
  begun_same (Some l) = ap (λ n. with_link (record { peer = l.peer; start = n; end = None }) p) (same_accepted w.fars v.fars same.fars l.peer p)

  forged_same : (id : DeviceId) (xs ys : List (Option FarEnd)) → SameEnds xs ys → (opened : Bool) → peers_forged opened (no_link w q p) id xs ≡ peers_forged opened (no_link v q p) id ys
  forged_same id xs ys behind false = refl
  forged_same id xs ys behind true =
      ap (λ n. with_link_if n w.fars xs p) (same_placed w.field.listeners v.field.listeners same.listeners (bytes_of id) p.numbers)
      ∙ same_range w.fars v.fars xs ys same.fars behind (placed_under (bytes_of id) v.field.listeners p.numbers) p

  module _ (joins : Joins) (es : List Event) (told : Option Answer) where
    alone_same : (c : Command) → SameEnds (world_after (no_link w q p) joins c es).fars (world_after (no_link v q p) joins c es).fars
        → peers_alone (no_link w q p) joins c es told ≡ peers_alone (no_link v q p) joins c es told
    alone_same (Link id miu window) behind =
        ap (λ l. begun_if l w.fars p) (linked_same id miu window told) ∙ begun_same (link_alone (no_link v q p) (Link id miu window) told)
    alone_same (Forge id payloads) behind =
        forged_same (A id) (world_after (no_link w q p) joins (Forge id payloads) es).fars (world_after (no_link v q p) joins (Forge id payloads) es).fars behind (opens_link id payloads es)
    alone_same (Raw id frames) behind =
        forged_same id (world_after (no_link w q p) joins (Raw id frames) es).fars (world_after (no_link v q p) joins (Raw id frames) es).fars behind (raw_opens id frames es)
    alone_same c behind = changed_peers c

    pub peers_after_same : (c : Command) → SameEnds (world_after (no_link w q p) joins c es).fars (world_after (no_link v q p) joins c es).fars
        → peers_after (no_link w q p) joins c es told ≡ peers_after (no_link v q p) joins c es told
    peers_after_same c behind = by_asked (asked_on_link c)
      where
        by_asked : (o : Option LinkAsking) → peers_left o (no_link w q p) joins c es told ≡ peers_left o (no_link v q p) joins c es told
        by_asked None = alone_same c behind
        by_asked (Some asked) =
            none_ends (link_after (no_link w q p) joins c es told) (world_after (no_link w q p) joins c es).fars p
            ∙ sym (none_ends (link_after (no_link v q p) joins c es told) (world_after (no_link v q p) joins c es).fars p)

-- A command that was cut off leaves no link open, ...
pub cut_leaves_none : (w : WholeWorld) (q : List Fate) (p : Peers) (joins : Joins) (c : Command) (es : List Event) → link_after (no_link w q p) joins c es None ≡ None
cut_leaves_none w q p joins c es = by_asked (asked_on_link c)
  where
    alone : (x : Command) → link_alone (no_link w q p) x None ≡ None
    alone (Link id miu window) = refl
    alone x = refl

    by_asked : (o : Option LinkAsking) → link_left o (no_link w q p) joins c es None ≡ None
    by_asked None = alone c
    by_asked (Some (Does call)) = none_behind call None joins.own es
    by_asked (Some Closes) = refl
