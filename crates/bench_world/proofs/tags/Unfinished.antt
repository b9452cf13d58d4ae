-- What a command that want of memory cut off leaves of what devices hold.
use Rattle.bench_world.specs.Forging.{opens_link}
use Rattle.bench_world.specs.Legal.{world_at_start}
use Rattle.bench_world.specs.Halting.{ForgeHalts, RawHalts, halted_at}
use Rattle.nfc_base.specs.Signal.{Signal}
use Rattle.bench_world.proofs.forged.ForgeLeft.{cut_devices}
use Rattle.std.proofs.Common.{Err, ◌≡◌, ℕ, zero, suc, List, [], ◌∷◌, map, Option, Some, None, inl, inr, refl, sym, ◌∙◌, ap, subst}
use Rattle.nfc_base.specs.declared.event.Event.{Event}
use Rattle.air_core.specs.Conversation.{replay}
use Rattle.tag_writer.specs.Law.{Stopped}
use Rattle.bench_script.specs.declared.command.Command.{Command}
use Rattle.bench_script.specs.declared.command.Command.TheVariants.{Find, Crowd, Poll3, Read, Read3, Write, Write3, Link, Forge, Put, Get, Lookup, Unlink, OnPut, OnGet, Puts, Raw}
use Rattle.bench_script.specs.declared.command.DeviceId.{DeviceId}
use Rattle.bench_script.specs.declared.message.Msg.{Msg}
use Rattle.bench_script.specs.DeviceIds.{bytes_of}
use Rattle.bench_script.specs.Messages.{message_of}
use Rattle.bench_devices.specs.declared.device.Device.{Device}
use Rattle.bench_devices.specs.Device.{BenchWorld, air, device_id, device_store, stable_of, kind_of}
use Rattle.bench_devices.specs.Keeping.{AllKeepBut, AllStayDevices, held_by, images_of}
use Rattle.bench_devices.specs.Placed.{device_with, IfPlaced}
use Rattle.bench_devices.proofs.kinds.ImagesJoin.{law_start}
use Rattle.bench_devices.proofs.kinds.TagOrPeer.{if_read}
use Rattle.bench_world.specs.World.{Stable, WholeWorld}
use Rattle.snep_core.specs.Talk.{client_sap, sap_of_slot}
use Rattle.link_calls.specs.Asking.{LinkAsking, Does, Closes, Finding, Getting, put_from, Putting}
use Rattle.bench_world.specs.Asked.{IsOnLink, slot_messages}
use Rattle.bench_world.specs.Calls.{IfLinked}
use Rattle.bench_world.specs.Links.{OpenLink}
use Rattle.bench_world.specs.Legal.{State, Given, Joins, CutCall, CutFront, CutShort, CutStores, FrontOf, LeavesStable, StoresLaw, Stores3Law, changed, world_after}
use Rattle.bench_world.specs.Halting.{CutOff, PeerHalts}
use Rattle.bench_world.specs.Unfinished.{Write3Unfinished, Unfinished, WriteUnfinished}
use Rattle.bench_world.specs.Writing.{KeepsStores}
use Rattle.bench_world.proofs.devices.FarStays.{all_stay, all_still, far_stay, stays_any}
use Rattle.bench_world.proofs.tags.Fronts.{field_after}
use Rattle.bench_world.proofs.open_link.OnLink.{kept_stable}
use Rattle.bench_world.proofs.open_link.Talks.{off}
use Rattle.bench_world.proofs.calm.WriteBehind.{last_image}
use Rattle.std.specs.List.{AllByRecursion}
use Rattle.t3t_access.specs.declared.fault.T3Fault.TheVariants as fault
use Rattle.bench_devices.specs.Kinds.{DeviceKind, T2Kind, T3Kind, T4Kind, PeerKind, T5Kind}
use Rattle.bench_devices.specs.Threes.{KeepsWrite3Law}
use Rattle.bench_devices.proofs.type3.ThreeLaw.{law_still}
use Rattle.bench_world.specs.Threes.{IfThree, KeepsStores3}
use Rattle.bench_world.proofs.tags.WriteLegality.{found_named}

-- a front of a command that was cut off, in whatever command
pub short_front : (joins : Joins) (s : State) (c : Command) (cut : List Event) (t : State) → CutShort joins s c cut t → CutFront joins s c cut t
short_front joins s (Read id) cut t (g, joined, front, stores, how) = (g, joined, front, stores)
short_front joins s (Write id m) cut t (g, joined, front, stores, how) = (g, joined, front, stores)
short_front joins s (Read3 id) cut t (g, joined, front, stores, how) = (g, joined, front, stores)
short_front joins s (Write3 id m) cut t (g, joined, front, stores, how) = (g, joined, front, stores)
short_front joins s c cut t f = f

-- Nothing was done.
keep_all_but : (id : List ℕ) (ds : List Device) → AllKeepBut id ds ds
keep_all_but id [] = tt
keep_all_but id (d ∷ ds) = (record { stays = record { fixed = refl; long = refl; sound = λ k. k }; other = λ apart. refl }, keep_all_but id ds)

nothing_written : (s : State) (id : DeviceId) (m : Msg) → WriteUnfinished s id m [] s
nothing_written s id m = record {
  passes = by_found (device_with (bytes_of id) s.world.field.listeners) refl;
  holds = refl;
  others = keep_all_but (bytes_of id) s.world.field.listeners;
}
  where
    by_found : (o : Option Device) → device_with (bytes_of id) s.world.field.listeners ≡ o → IfPlaced (λ d. KeepsStores (message_of m) d Stopped s.world.field []) (Unit {0}) o
    by_found None found = tt
    by_found (Some d) found =
        let ds : List Device = s.world.field.listeners in
        let holds : held_by (device_with (device_id d) ds) ≡ device_store d = ap (λ i. held_by (device_with i ds)) (found_named (bytes_of id) ds d found) ∙ ap held_by found in
        if_read (kind_of d) _ _ (law_start (message_of m) d s.world.field holds) (holds, tt)

nothing_written_three : (s : State) (id : List ℕ) (m : Msg) → Write3Unfinished s id m [] s
nothing_written_three s id m = record {
  passes = by_found (device_with id s.world.field.listeners) refl;
  holds = refl;
  others = keep_all_but id s.world.field.listeners;
}
  where
    by_found : (o : Option Device) → device_with id s.world.field.listeners ≡ o → IfPlaced (λ d. KeepsStores3 (message_of m) d (Err fault.Memory) s.world.field []) (Unit {0}) o
    by_found None found = tt
    by_found (Some d) found = by_kind (kind_of d)
      where
        ds : List Device
        ds = s.world.field.listeners

        holds : held_by (device_with (device_id d) s.world.field.listeners) ≡ device_store d
        holds = ap (λ i. held_by (device_with i s.world.field.listeners)) (found_named id s.world.field.listeners d found) ∙ ap held_by found

        by_kind : (k : DeviceKind) → IfThree k (KeepsWrite3Law (message_of m) d (Err fault.Memory) s.world.field [])
            (AllByRecursion (λ x. x ≡ device_store d) (images_of (device_id d) s.world.field []))
        by_kind T2Kind = (holds, tt)
        by_kind T3Kind = law_still (message_of m) (device_store d) (images_of (device_id d) s.world.field []) (holds, tt)
        by_kind T4Kind = (holds, tt)
        by_kind PeerKind = (holds, tt)
        by_kind T5Kind = (holds, tt)

nothing_left : (s : State) (c : Command) → Unfinished s c [] s
nothing_left s (Write id m) = nothing_written s id m
nothing_left s (Write3 id m) = nothing_written_three s id m
nothing_left s (Raw id frames) = all_still s.world.field.listeners
nothing_left s c = refl

-- There is a front of it.
front_written : (s t : State) (g : Given) (id : DeviceId) (m : Msg) (cut : List Event) → FrontOf s g (Write id m) cut None t → StoresLaw s g.joins id m Stopped cut → WriteUnfinished s id m cut t
front_written s t g id m cut front stores =
    let there : t.world ≡ world_after s g.joins (Write id m) cut = ap (λ (x : State). x.world) front.after in
    let on_air : (world_after s g.joins (Write id m) cut).field ≡ replay air s.world.field cut = field_after s t g (Write id m) cut (λ h. h) front in
    record {
      passes = stores.law;
      holds =
          ap (λ (w : WholeWorld). held_by (device_with (bytes_of id) w.field.listeners)) there
          ∙ ap (λ (w : BenchWorld). held_by (device_with (bytes_of id) w.listeners)) on_air ∙ sym (last_image (bytes_of id) s.world.field cut []);
      others = subst (λ (w : WholeWorld). AllKeepBut (bytes_of id) s.world.field.listeners w.field.listeners) (sym there) stores.others;
    }

front_written_three : (s t : State) (g : Given) (id : List ℕ) (m : Msg) (cut : List Event) → FrontOf s g (Write3 id m) cut None t → Stores3Law s g.joins id m (Err fault.Memory) cut
    → Write3Unfinished s id m cut t
front_written_three s t g id m cut front stores =
    let there : t.world ≡ world_after s g.joins (Write3 id m) cut = ap (λ (x : State). x.world) front.after in
    let on_air : (world_after s g.joins (Write3 id m) cut).field ≡ replay air s.world.field cut = field_after s t g (Write3 id m) cut (λ h. h) front in
    record {
      passes = stores.law;
      holds =
          ap (λ (w : WholeWorld). held_by (device_with id w.field.listeners)) there
          ∙ ap (λ (w : BenchWorld). held_by (device_with id w.listeners)) on_air ∙ sym (last_image id s.world.field cut []);
      others = subst (λ (w : WholeWorld). AllKeepBut id s.world.field.listeners w.field.listeners) (sym there) stores.others;
    }

abbrev DevicesStay : State → State → Type 0
DevicesStay s t = map stable_of t.world.field.listeners ≡ map stable_of s.world.field.listeners

front_stays : (s t : State) (g : Given) (c : Command) (cut : List Event) → FrontOf s g c cut None t
    → map stable_of (world_after s g.joins c cut).field.listeners ≡ map stable_of s.world.field.listeners → DevicesStay s t
front_stays s t g c cut front stays = ap (λ (x : State). map stable_of x.world.field.listeners) front.after ∙ stays

call_stays : (s : State) (joins : Joins) (asked : LinkAsking) (c : Command) (cut : List Event) (o : Option OpenLink) → changed s c ≡ s
    → IfLinked o (λ l. CutCall s joins l asked c cut) (LeavesStable s joins c cut)
    → map stable_of (world_after s joins c cut).field.listeners ≡ map stable_of s.world.field.listeners
call_stays s joins asked c cut None still stays = ap (λ (z : Stable). z.devices) stays ∙ ap (λ (x : State). map stable_of x.world.field.listeners) still
call_stays s joins asked c cut (Some l) still call = call.devices

-- Frames of a script's own may do what any frame may.
raw_left : (s t : State) (g : Given) (id : DeviceId) (frames : List Signal) (cut : List Event) → FrontOf s g (Raw id frames) cut None t → AllStayDevices s.world.field.listeners t.world.field.listeners
raw_left s t g id frames cut front =
    subst (λ (x : State). AllStayDevices s.world.field.listeners x.world.field.listeners) (sym front.after) (far_stay cut (world_at_start s g.joins (Raw id frames))).stay

front_left : (s t : State) (g : Given) (c : Command) (cut : List Event) → FrontOf s g c cut None t → CutStores s g.joins c cut → Unfinished s c cut t
front_left s t g Find cut front stores = front_stays s t g Find cut front (ap (λ (z : Stable). z.devices) stores)
front_left s t g Crowd cut front stores = front_stays s t g Crowd cut front (ap (λ (z : Stable). z.devices) stores)
front_left s t g Poll3 cut front stores = front_stays s t g Poll3 cut front (ap (λ (z : Stable). z.devices) stores)
front_left s t g (Read id) cut front stores = front_stays s t g (Read id) cut front (ap (λ (z : Stable). z.devices) stores)
front_left s t g (Write id m) cut front stores = front_written s t g id m cut front stores
front_left s t g (Read3 id) cut front stores = front_stays s t g (Read3 id) cut front (ap (λ (z : Stable). z.devices) stores)
front_left s t g (Write3 id m) cut front stores = front_written_three s t g id m cut front stores
front_left s t g (Link id miu window) cut front stores = front_stays s t g (Link id miu window) cut front (ap (λ (z : Stable). z.devices) stores)
front_left s t g (Forge id payloads) cut front stores = front_stays s t g (Forge id payloads) cut front (cut_devices (opens_link id payloads cut) s g.joins id payloads cut stores)
front_left s t g (Raw id frames) cut front stores = raw_left s t g id frames cut front
front_left s t g (Put m) cut front stores = front_stays s t g (Put m) cut front (call_stays s g.joins (Does (put_from 0 (message_of m))) (Put m) cut s.link refl stores)
front_left s t g (Get most key) cut front stores = front_stays s t g (Get most key) cut front (call_stays s g.joins (Does (Getting client_sap most key)) (Get most key) cut s.link refl stores)
front_left s t g (Lookup name) cut front stores = front_stays s t g (Lookup name) cut front (call_stays s g.joins (Does (Finding name)) (Lookup name) cut s.link refl stores)
front_left s t g (OnPut slot m) cut front stores = front_stays s t g (OnPut slot m) cut front (call_stays s g.joins (Does (put_from slot (message_of m))) (OnPut slot m) cut s.link refl stores)
front_left s t g (OnGet slot most key) cut front stores = front_stays s t g (OnGet slot most key) cut front
    (call_stays s g.joins (Does (Getting (sap_of_slot slot) most key)) (OnGet slot most key) cut s.link refl stores)
front_left s t g (Puts puts) cut front stores = front_stays s t g (Puts puts) cut front (call_stays s g.joins (Does (Putting (slot_messages puts))) (Puts puts) cut s.link refl stores)
front_left s t g Unlink cut front stores = front_stays s t g Unlink cut front (call_stays s g.joins Closes Unlink cut s.link refl stores)
front_left s t g c cut front stores = absurd stores

-- the peer's end stopped at one of them
pub halted_stay : (place : ℕ) (f : Signal) (ds : List Device) → AllStayDevices ds (halted_at place f ds)
halted_stay place f [] = tt
halted_stay zero f (d ∷ ds) = (stays_any f None d, all_still ds)
halted_stay (suc place) f (d ∷ ds) = (stays_any f None d, halted_stay place f ds)

-- The peer's end stopped.
halt_left : (joins : Joins) (s t : State) (c : Command) (cut : List Event) → PeerHalts joins s c cut t → Unfinished s c cut t
halt_left joins s t c cut h = by_command c h.on_link
  where
    stays : DevicesStay s t
    stays = kept_stable s.world.field.listeners t.world.field.listeners h.leaves.talk.2.same

    by_command : (x : Command) → IsOnLink x → Unfinished s x cut t
    by_command (Write id m) talks = off talks
    by_command (Write3 id m) talks = off talks
    by_command (Raw id frames) talks = off talks
    by_command x talks = stays

forge_halt_left : (joins : Joins) (s t : State) (c : Command) (cut : List Event) → ForgeHalts joins s c cut t → Unfinished s c cut t
forge_halt_left joins s t c cut h =
    subst (λ x. Unfinished s x cut t) (sym h.command) (kept_stable s.world.field.listeners t.world.field.listeners h.leaves.talk.2.same)

raw_halt_left : (joins : Joins) (s t : State) (c : Command) (cut : List Event) → RawHalts joins s c cut t → Unfinished s c cut t
raw_halt_left joins s t c cut h =
    let ms : List Device = h.mid.world.field.listeners in
    subst (λ x. Unfinished s x cut t) (sym h.command)
    (all_stay s.world.field.listeners ms t.world.field.listeners (raw_left s h.mid h.given h.id h.frames h.before h.front)
    (subst (AllStayDevices ms) (sym h.leaves.devices) (halted_stay h.leaves.place h.sent ms)))

pub unfinished : (joins : Joins) (s t : State) (c : Command) (cut : List Event) → CutOff joins s c cut t → Unfinished s c cut t
unfinished joins s t c cut (inl (none, same)) = subst (λ es. Unfinished s c es t) (sym none) (subst (Unfinished s c []) (sym same) (nothing_left s c))
unfinished joins s t c cut (inr (inl f)) = let front = short_front joins s c cut t f in front_left s t front.0 c cut front.2 front.3
unfinished joins s t c cut (inr (inr (inl h))) = halt_left joins s t c cut h
unfinished joins s t c cut (inr (inr (inr (inl h)))) = forge_halt_left joins s t c cut h
unfinished joins s t c cut (inr (inr (inr (inr h)))) = raw_halt_left joins s t c cut h
