-- Writes that were obeyed, and what want of memory leaves of one.
use Rattle.std.proofs.Common.{◌≡◌, ◌⊎◌, ℕ, List, [], ◌∷◌, ◌++◌, map, Bool, true, false, nat_eq, if◌then◌else◌, Option, Some, None, Err, inl, inr, refl, sym, ◌∙◌, ap, subst}
use Rattle.std.proofs.lemmas.List.{append-nil}
use Rattle.std.specs.Cmp.Lexicographic.{pointwise}
use Rattle.nfc_base.specs.declared.event.Event.{Event}
use Rattle.nfc_base.specs.Signal.{Signal}
use Rattle.air_core.specs.Turn.{Air, moment}
use Rattle.air_core.specs.Conversation.{Moment, Note, Going, replay}
use Rattle.nfca_poll.specs.declared.fault.PollFault.{PollFault}
use Rattle.nfca_poll.specs.declared.fault.PollFault.TheVariants as faults
use Rattle.t5t_tag.proofs.Bytes.{equal_bytes}
use Rattle.tag_writer.specs.Law.{Ending, Stopped}
use Rattle.bench_script.specs.declared.command.Command.TheVariants.{Write}
use Rattle.bench_script.specs.declared.command.DeviceId.{DeviceId}
use Rattle.bench_script.specs.declared.message.Msg.{Msg}
use Rattle.bench_script.specs.DeviceIds.{bytes_of}
use Rattle.bench_script.specs.Messages.{message_of}
use Rattle.bench_devices.specs.declared.device.Device.{Device}
use Rattle.bench_devices.specs.Device.{BenchWorld, air, devices, device_id, device_store, seen_of, kind_of, may_be_read}
use Rattle.bench_devices.proofs.kinds.TagOrPeer.{read_or_not, as_read, as_unread, if_read, if_as, same_read}
use Rattle.bench_devices.specs.Polling.{asks, selecting}
use Rattle.bench_devices.specs.TagAsking.{then_asks, tag_due}
use Rattle.bench_devices.specs.CardAsking.{tag_next}
use Rattle.bench_devices.specs.Placed.{device_with, OfPlaced, IfPlaced}
use Rattle.bench_devices.specs.Keeping.{Kept, kept, IsSound, StoreOf, AllKeepBut, LeavesDevices, held_by}
use Rattle.bench_devices.specs.Phases.{WriteEnd, FailsWrite, Selects, SelectsAt, SelectionCut, Writes, WritesSome, IsIdle}
use Rattle.bench_devices.specs.Writing.{AsksWriteOf, ShowsWrite, KeepsWriteLaw}
use Rattle.bench_devices.proofs.kinds.EveryFrame.{IsSoundOne, leaves_more, leaves_behind}
use Rattle.std.specs.List.{AllByRecursion}
use Rattle.bench_devices.specs.Keeping.{images_of}
use Rattle.bench_devices.proofs.kinds.ImagesJoin.{held_kept, images_still, law_start, with_alone}
use Rattle.bench_devices.proofs.selected.SelectedLaw.{law_selected, selecting_harmless}
use Rattle.bench_devices.proofs.finding.SelectingKept.{IsHarmless, due_asked}
use Rattle.bench_devices.proofs.writes.WriteLists.{some_write}
use Rattle.bench_world.specs.declared.entry.Answer.{Answer}
use Rattle.bench_world.specs.declared.entry.Answer.TheVariants as answers
use Rattle.bench_world.specs.Answering.{TagTells, poll_answer, written_by}
use Rattle.bench_world.specs.Writing.{TellsWrite, WriteAsks, KeepsStores, ending_told}
use Rattle.bench_world.specs.Legal.{no_joins, StoresLaw}
use Rattle.bench_world.specs.Obeying.{ObeyedUnlinked, CutOffUnlinked}
use Rattle.far_air.specs.Quietly.{NoneHands}
use Rattle.bench_world.proofs.tags.Fronts.{field_behind, ends_behind}
use Rattle.bench_world.proofs.devices.Placed.{Upon}
use Rattle.bench_world.proofs.devices.Placing.{IsWith, with_sound}
use Rattle.bench_world.proofs.tags.Legality.{asks_for, above, none_in, front_of, trace_is, asks_obeyed, polled_of, missed_tells, both, then_tag, selected_with, peer_going, peer_over, peer_tells}
use Rattle.bench_world.proofs.tags.Legality.{cut_tag, polled_tag}
use Rattle.bench_world.proofs.tags.AskedBehind.{tells_behind}
use Rattle.bench_world.proofs.tags.WriteTelling.{asks_same, outcome_same, law_same, fails_written, lost_written, six_written, same_ending}

-- What a write asks of a placed device, and nothing where none is placed.
write_asked : (old : Air Device) (id : DeviceId) (m : Msg) → IsIdle old
    → (asked : List Signal) × IfPlaced (λ d. WriteAsks (message_of m) d asked) (asked ≡ []) (device_with (bytes_of id) old.listeners)
write_asked old id m idle = by_found (device_with (bytes_of id) old.listeners) refl
  where
    by_found : (o : Option Device) → device_with (bytes_of id) old.listeners ≡ o → (asked : List Signal) × IfPlaced (λ d. WriteAsks (message_of m) d asked) (asked ≡ []) o
    by_found None found = ([], refl)
    by_found (Some d) found = by_kind d (read_or_not d) (with_sound old.listeners (bytes_of id) d idle.tame.sound found)
      where
        by_kind : (e : Device) → (may_be_read e ≡ true) ⊎ (may_be_read e ≡ false) → IsSound (kept e) → (asked : List Signal) × WriteAsks (message_of m) e asked
        by_kind e (inl tag) sound = let some = some_write (message_of m) e tag sound in (some.0, as_read e tag _ _ some.1)
        by_kind e (inr peer) sound = ([], as_unread e peer _ _ refl)

-- the device that is found by an identifier has it
pub found_named : (id : List ℕ) (ds : List Device) (d : Device) → device_with id ds ≡ Some d → device_id d ≡ id
found_named id [] d found = absurd cc
found_named id (e ∷ ds) d found = by_name (pointwise nat_eq (device_id e) id) refl found (λ later. found_named id ds d later)
  where
    by_name : (v : Bool) → pointwise nat_eq (device_id e) id ≡ v → (if v then Some e else device_with id ds) ≡ Some d → (device_with id ds ≡ Some d → device_id d ≡ id) → device_id d ≡ id
    by_name true named here later = let same : e ≡ d = cc in ap device_id (sym same) ∙ equal_bytes (device_id e) id named
    by_name false named here later = later here

-- and may be placed
sound_one : (old : Air Device) (id : DeviceId) → IsIdle old → IsSoundOne (bytes_of id) old.listeners
sound_one old id idle = by_found (device_with (bytes_of id) old.listeners) refl
  where
    by_found : (o : Option Device) → device_with (bytes_of id) old.listeners ≡ o → IfPlaced (λ d. IsSound (kept d)) (Unit {0}) o
    by_found None found = tt
    by_found (Some d) found = with_sound old.listeners (bytes_of id) d idle.tame.sound found

-- The stores of a field keep the law of a write, and so they do whatever stands above it; the far ends stay.
record FieldStores (w : BenchWorld) (id : List ℕ) (message : List ℕ) (ending : Ending) (es : List Event) : Type 0 where
  pub law : IfPlaced (λ d. KeepsStores message d ending w es) (Unit {0}) (device_with id w.listeners)
  pub others : AllKeepBut id w.listeners (replay air w es).listeners

stores_above : (os : Upon) (a : Air Device) (id : DeviceId) (m : Msg) (ending : Ending) (es : List Event) → NoneHands devices (moment a).world es
    → FieldStores (moment a).world (bytes_of id) (message_of m) ending es → StoresLaw (above os a) no_joins id m ending es
stores_above os a id m ending es none s = record {
  law = s.law;
  others = subst (λ (w : BenchWorld). AllKeepBut (bytes_of id) a.listeners w.listeners) (sym (field_behind (moment a).world es os.ends none)) s.others;
  ends = ends_behind (moment a).world es os.ends none;
}

-- Polling alone left a device's store as it was, so it keeps the law of a write that was stopped.
module _ (id : DeviceId) (message : List ℕ) (a b : Moment BenchWorld) (ns : List Note) (g : Going air (λ ks. asks (selecting id ks)) a b ns)
    (same : map kept b.world.listeners ≡ map kept a.world.listeners) where
  polled_law : (o : Option Device) → device_with (bytes_of id) a.world.listeners ≡ o → IfPlaced (λ d. KeepsStores message d Stopped a.world g.events) (Unit {0}) o
  polled_law None found = tt
  polled_law (Some d) found =
      let named : bytes_of id ≡ device_id d = sym (found_named (bytes_of id) a.world.listeners d found) in
      let holds : held_by (device_with (device_id d) b.world.listeners) ≡ device_store d =
      held_kept (device_id d) a.world.listeners b.world.listeners same ∙ ap (λ i. held_by (device_with i a.world.listeners)) (sym named) ∙ ap held_by found in
      if_read (kind_of d) _ _ (subst (λ es. KeepsWriteLaw message d Stopped a.world es) (append-nil g.events) (law_selected id a b ns g message d Stopped [] holds (law_start message d b.world holds)))
      (subst (λ x. AllByRecursion (λ y. y ≡ x) (images_of (device_id d) a.world g.events)) (ap (λ i. held_by (device_with i a.world.listeners)) (sym named) ∙ ap held_by found)
      (images_still (device_id d) a.world g.events (due_asked IsHarmless (λ ks. asks (selecting id ks)) (λ ks f due. selecting_harmless id ks f due) [] g.events g.each)))

  -- and no other one changed
  polled_stores : IsSoundOne (bytes_of id) a.world.listeners → FieldStores a.world (bytes_of id) message Stopped g.events
  polled_stores sound =
      let world : b.world ≡ replay air a.world g.events = ap (λ (m : Moment BenchWorld). m.world) g.moment in
      record {
        law = polled_law (device_with (bytes_of id) a.world.listeners) refl;
        others = subst (λ (w : BenchWorld). AllKeepBut (bytes_of id) a.world.listeners w.listeners) world (leaves_more (StoreOf (bytes_of id)) a.world b.world g.events sound same).0;
      }

-- no fault of polling tells of a success or of a refusal
poll_stopped : (e : PollFault) (answer : Answer) → poll_answer e ≡ Some answer → Stopped ≡ ending_told answer
poll_stopped faults.Nobody answer is = absurd cc
poll_stopped faults.Disturbed answer is = ap ending_told (let same : answers.Disturbed ≡ answer = cc in same)
poll_stopped faults.FieldLost answer is = ap ending_told (let same : answers.FieldLost ≡ answer = cc in same)
poll_stopped faults.Memory answer is = absurd cc
poll_stopped faults.NotFound answer is = ap ending_told (let same : answers.NotFound ≡ answer = cc in same)
poll_stopped faults.BadAnswer answer is = absurd cc

-- no tag was selected
pub missed_write : (old new : Air Device) (id : DeviceId) (m : Msg) (e : PollFault) (answer : Answer) → IsIdle old → Selects id (Err e) (moment old) (moment new) → poll_answer e ≡ Some answer
    → ObeyedUnlinked old new (Write id m) answer
missed_write old new id m e answer idle s is = λ ends peers places.
    let os : Upon = record { ends = ends; peers = peers; link = None } in
    let some = write_asked old id m idle in
    let g : Going air (λ ns. asks (selecting id ns)) (moment old) (moment new) s.asked.notes = s.asked.going in
    let going : Going air (tag_due id some.0) (moment old) (moment new) s.asked.notes = polled_of id some.0 (moment old) (moment new) s.asked.notes g in
    let sound : IsSoundOne (bytes_of id) old.listeners = sound_one old id idle in
    let none : NoneHands devices (moment old).world g.events = none_in (Write id m) (λ h. h) os old new some.0 s.asked.notes going some.1 in
    let stores : StoresLaw (above os old) no_joins id m (ending_told answer) g.events =
    subst (λ x. StoresLaw (above os old) no_joins id m x g.events) (poll_stopped e answer is)
    (stores_above os old id m Stopped g.events none (polled_stores id (message_of m) (moment old) (moment new) s.asked.notes g s.asked.same sound)) in
    asks_obeyed (StoreOf (bytes_of id)) (Write id m) (λ h. h) os old new some.0 s.asked.notes answer idle places tt tt refl going (ap (then_asks some.0) s.told) some.1
    (record { tells = missed_tells (TellsWrite (message_of m)) id some.0 (moment old) (moment new) e answer s is; stores = stores })
    (leaves_more (StoreOf (bytes_of id)) (moment old).world (moment new).world g.events sound s.asked.same)

-- A tag was selected, and so much was asked of it.
module _ (old mid : Air Device) (id : DeviceId) (m : Msg) (place : ℕ) (idle : IsIdle old) (s : SelectsAt id place (moment old) (moment mid)) where
  abbrev with_id : IsWith old.listeners (bytes_of id) (kept s.device)
  with_id = selected_with old mid id place idle s

  same_kind : kind_of s.device ≡ kind_of with_id.device
  same_kind = ap (λ (k : Kept). k.fixed.kind) (sym with_id.same)

  placed_write : (commands : List Signal) → WriteAsks (message_of m) s.device commands
      → IfPlaced (λ d. WriteAsks (message_of m) d commands) (commands ≡ []) (device_with (bytes_of id) old.listeners)
  placed_write commands asks' =
      subst (λ o. IfPlaced (λ d. WriteAsks (message_of m) d commands) (commands ≡ []) o) (sym with_id.found)
      (if_as (kind_of s.device) (kind_of with_id.device) same_kind _ _ _ _ (asks_same s.device with_id.device (sym with_id.same) (message_of m) commands) (λ q. q) asks')

  -- the selected device holds what is written
  holds_there : held_by (device_with (device_id s.device) (moment mid).world.listeners) ≡ device_store s.device
  holds_there =
      ap (λ (w : BenchWorld). held_by (device_with (device_id s.device) w.listeners)) s.stands.world ∙ ap held_by (with_alone s.stands.before s.device s.stands.behind s.stands.first)

  -- both parts, as what the command asks
  abbrev of_both : (new : Air Device) (commands : List Signal) (ks : List Note) → Going air (tag_next (seen_of s.device) commands) (moment mid) (moment new) ks
      → Going air (tag_due id commands) (moment old) (moment new) (s.selects.asked.notes ++ ks)
  of_both new commands ks h = both id (seen_of s.device) commands (moment old) (moment mid) (moment new) s.selects.asked.notes ks s.selects.told s.selects.asked.going h

  left_behind : (new : Air Device) (fs : List Event) → LeavesDevices (StoreOf (device_id s.device)) (moment mid).world fs (moment new).world
      → LeavesDevices (StoreOf (bytes_of id)) (moment old).world (s.selects.asked.going.events ++ fs) (moment new).world
  left_behind new fs left =
      leaves_behind (bytes_of id) (moment old).world (moment mid).world (moment new).world s.selects.asked.going.events fs (sound_one old id idle) s.selects.asked.same
      (subst (λ i. LeavesDevices (StoreOf i) (moment mid).world fs (moment new).world) s.named left)

  -- the stores, from before it was selected on
  stores_behind : (new : Air Device) (commands : List Signal) (ks : List Note) (h : Going air (tag_next (seen_of s.device) commands) (moment mid) (moment new) ks) (ending : Ending)
      → may_be_read s.device ≡ true → LeavesDevices (StoreOf (device_id s.device)) (moment mid).world h.events (moment new).world
      → KeepsWriteLaw (message_of m) s.device ending (moment mid).world h.events
      → FieldStores (moment old).world (bytes_of id) (message_of m) ending (s.selects.asked.going.events ++ h.events)
  stores_behind new commands ks h ending tag left law =
      let es : List Event = s.selects.asked.going.events in
      let whole : KeepsWriteLaw (message_of m) s.device ending (moment old).world (es ++ h.events) =
      law_selected id (moment old) (moment mid) s.selects.asked.notes s.selects.asked.going (message_of m) s.device ending h.events holds_there law in
      let world : (moment new).world ≡ replay air (moment old).world (es ++ h.events) = ap (λ (x : Moment BenchWorld). x.world) (of_both new commands ks h).moment in
      record {
        law = subst (λ o. IfPlaced (λ d. KeepsStores (message_of m) d ending (moment old).world (es ++ h.events)) (Unit {0}) o) (sym with_id.found)
            (as_read with_id.device (same_read with_id.device s.device (sym same_kind) ∙ tag) _ _ (law_same s.device with_id.device (sym with_id.same) (message_of m) ending (moment old).world
            (es ++ h.events) whole));
        others = subst (λ (w : BenchWorld). AllKeepBut (bytes_of id) old.listeners w.listeners) world (left_behind new h.events left).0;
      }

  -- it was written
  pub write_obeyed : (new : Air Device) (r : WriteEnd) (answer : Answer) → written_by r ≡ Some answer → may_be_read s.device ≡ true → Writes (moment mid) (moment new) s.device (message_of m) r
      → ObeyedUnlinked old new (Write id m) answer
  write_obeyed new r answer told tag w = λ ends peers places.
      let os : Upon = record { ends = ends; peers = peers; link = None } in
      let commands : List Signal = w.told.commands in
      let ks : List Note = w.told.asked.notes in
      let g : Going air (tag_due id commands) (moment old) (moment new) (s.selects.asked.notes ++ ks) = of_both new commands ks w.told.asked.going in
      let says : ShowsWrite (message_of m) s.device r → OfPlaced (λ d. TellsWrite (message_of m) d answer) (device_with (bytes_of id) old.listeners) =
      λ shows. subst (λ o. OfPlaced (λ d. TellsWrite (message_of m) d answer) o) (sym with_id.found)
      (as_read with_id.device (same_read with_id.device s.device (sym same_kind) ∙ tag) _ _ (r, outcome_same s.device with_id.device (sym with_id.same) (message_of m) r shows, told)) in
      let tells : TagTells (TellsWrite (message_of m)) id old.listeners commands g.events answer =
      tells_behind (StoreOf (device_id s.device)) (AsksWriteOf (message_of m) s.device) (ShowsWrite (message_of m) s.device) FailsWrite (TellsWrite (message_of m)) old mid new id place r answer s
      w.told
      says (fails_written r answer told) (lost_written r answer told) (six_written r answer told) in
      let asked = placed_write commands (as_read s.device tag _ _ w.told.asks) in
      let none : NoneHands devices (moment old).world g.events = none_in (Write id m) (λ h. h) os old new commands (s.selects.asked.notes ++ ks) g asked in
      let stores : StoresLaw (above os old) no_joins id m (ending_told answer) g.events =
      stores_above os old id m (ending_told answer) g.events none (stores_behind new commands ks w.told.asked.going (ending_told answer) tag w.told.asked.same
      (subst (λ x. KeepsWriteLaw (message_of m) s.device x (moment mid).world w.told.asked.going.events) (same_ending r answer told) w.law)) in
      asks_obeyed (StoreOf (bytes_of id)) (Write id m) (λ h. h) os old new commands (s.selects.asked.notes ++ ks) answer idle places tt tt refl g
      (then_tag id (seen_of s.device) commands s.selects.asked.notes ks s.selects.told ∙ w.told.asked.over) asked
      (record { tells = tells; stores = stores }) (left_behind new w.told.asked.going.events w.told.asked.same)

  -- it was a peer, to which nothing is written
  pub peer_write : may_be_read s.device ≡ false → ObeyedUnlinked old mid (Write id m) answers.WrongKind
  peer_write peer = λ ends peers places.
      let os : Upon = record { ends = ends; peers = peers; link = None } in
      let Tells : Device → Answer → Type 0 = TellsWrite (message_of m) in
      let es : List Event = s.selects.asked.going.events in
      let there : OfPlaced (λ d. TellsWrite (message_of m) d answers.WrongKind) (device_with (bytes_of id) old.listeners) =
      subst (λ o. OfPlaced (λ d. TellsWrite (message_of m) d answers.WrongKind) o) (sym with_id.found)
      (as_unread with_id.device (same_read with_id.device s.device (sym same_kind) ∙ peer) _ _ refl) in
      let sound : IsSoundOne (bytes_of id) old.listeners = sound_one old id idle in
      let g : Going air (tag_due id []) (moment old) (moment mid) s.selects.asked.notes = peer_going Tells old mid id place s peer in
      let asked = placed_write [] (as_unread s.device peer _ _ refl) in
      let stores : StoresLaw (above os old) no_joins id m (ending_told answers.WrongKind) es =
      stores_above os old id m Stopped es (none_in (Write id m) (λ h. h) os old mid [] s.selects.asked.notes g asked)
      (polled_stores id (message_of m) (moment old) (moment mid) s.selects.asked.notes s.selects.asked.going s.selects.asked.same sound) in
      asks_obeyed (StoreOf (bytes_of id)) (Write id m) (λ h. h) os old mid [] s.selects.asked.notes answers.WrongKind idle places tt tt refl g (peer_over Tells old mid id place s peer)
      asked (record { tells = peer_tells Tells old mid id place s peer there; stores = stores })
      (leaves_more (StoreOf (bytes_of id)) (moment old).world (moment mid).world es sound s.selects.asked.same)

  -- writing was cut off
  pub write_cut : (new : Air Device) → may_be_read s.device ≡ true → WritesSome (moment mid) (moment new) s.device (message_of m) → CutOffUnlinked old new (Write id m)
  write_cut new tag w = λ ends peers.
      let os : Upon = record { ends = ends; peers = peers; link = None } in
      let commands : List Signal = w.told.commands in
      let ns : List Note = s.selects.asked.notes ++ w.told.asked.notes in
      let g : Going air (tag_due id commands) (moment old) (moment new) ns = of_both new commands w.told.asked.notes w.told.asked.going in
      let asked = placed_write commands (as_read s.device tag _ _ w.told.asks) in (
        asks_for commands,
        refl,
        front_of None (Write id m) (λ h. h) os old new commands ns idle tt refl g asked,
        subst (λ es. StoresLaw (above os old) no_joins id m Stopped es) (sym (trace_is old new (tag_due id commands) ns g idle))
            (stores_above os old id m Stopped g.events (none_in (Write id m) (λ h. h) os old new commands ns g asked)
            (stores_behind new commands w.told.asked.notes w.told.asked.going Stopped tag w.told.asked.same w.law)),
        cut_tag old mid id place idle s (StoreOf (device_id s.device)) (AsksWriteOf (message_of m) s.device) new w.told,
      )

-- ... or selecting was
pub selection_cut_write : (old new : Air Device) (id : DeviceId) (m : Msg) → IsIdle old → SelectionCut id (moment old) (moment new) → CutOffUnlinked old new (Write id m)
selection_cut_write old new id m idle part = λ ends peers.
    let os : Upon = record { ends = ends; peers = peers; link = None } in
    let some = write_asked old id m idle in
    let g : Going air (tag_due id some.0) (moment old) (moment new) part.notes = polled_of id some.0 (moment old) (moment new) part.notes part.going in (
      asks_for some.0,
      refl,
      front_of None (Write id m) (λ h. h) os old new some.0 part.notes idle tt refl g some.1,
      subst (λ es. StoresLaw (above os old) no_joins id m Stopped es) (sym (trace_is old new (tag_due id some.0) part.notes g idle))
          (stores_above os old id m Stopped g.events (none_in (Write id m) (λ h. h) os old new some.0 part.notes g some.1)
          (polled_stores id (message_of m) (moment old) (moment new) part.notes part.going part.same (sound_one old id idle))),
      polled_tag old new id some.0 idle part,
    )
