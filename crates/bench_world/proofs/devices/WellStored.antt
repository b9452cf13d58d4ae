-- Each Type 3 tag keeps a store that a new tag may have, through every legal step: a write alone changes one, and leaves such a store
-- at each time.
use Rattle.std.proofs.Common.{◌≡◌, ℕ, List, [], ◌∷◌, ◌++◌, map, Bool, true, false, nat_eq, if◌then◌else◌, Option, Some, None, refl, sym, ◌∙◌, ap, subst}
use Rattle.std.specs.List.{AllByRecursion}
use Rattle.std.specs.Cmp.Lexicographic.{pointwise}
use Rattle.nfc_base.specs.declared.event.Event.{Event}
use Rattle.air_core.specs.Conversation.{Note, Over, replay}
use Rattle.t3t_tag.specs.Store as three
use Rattle.nfca_poll.proofs.quiet.OneLevel.{pointwise_self}
use Rattle.t5t_tag.proofs.Bytes.{equal_bytes}
use Rattle.t3t_access.specs.OwnWriting.{IsBegun, IsNew}
use Rattle.tag_writer.specs.Law.{Ending}
use Rattle.snep_core.specs.Talk.{client_sap, sap_of_slot}
use Rattle.link_calls.specs.Asking.{LinkAsking, Does, Closes, Finding, Getting, put_from, Putting}
use Rattle.bench_script.specs.declared.command.Command.{Command}
use Rattle.bench_script.specs.declared.command.Command.TheVariants as commands
use Rattle.bench_script.specs.declared.command.Command.TheVariants.{Skip, Fates, PlaceT2, PlaceT3, PlaceT4, PlaceT5, PlacePeer, Lock, Busy, Offer, Remove, Dump, Inbox, Find, Crowd, Poll3, Read, Read3}
use Rattle.bench_script.specs.declared.command.Command.TheVariants.{Write, Write3, Link, Forge, Raw, Put, Get, Lookup, OnPut, OnGet, Unlink}
use Rattle.bench_script.specs.DeviceIds.{bytes_of}
use Rattle.bench_script.specs.Messages.{message_of}
use Rattle.bench_devices.specs.declared.device.Device.{Device}
use Rattle.bench_devices.specs.declared.device.Device.TheVariants.{T2, T3, T4, Peer, T5}
use Rattle.bench_devices.specs.Device.{BenchWorld, StablePart, air, device_busy, device_id, device_locked, device_store, kind_of, stable_of}
use Rattle.bench_devices.specs.Kinds.{DeviceKind, T2Kind, T3Kind, T4Kind, PeerKind, T5Kind, IfRead}
use Rattle.bench_devices.specs.Keeping.{AllKeepBut, AllStayDevices, AreSound, EachAsked, Fixed, IsApart, Kept, held_by, images_of, kept}
use Rattle.bench_devices.specs.Placed.{IfPlaced, device_with, with_changed, without}
use Rattle.bench_devices.specs.Threes.{KeepsWrite3Law}
use Rattle.bench_devices.specs.Writing.{KeepsWriteLaw}
use Rattle.bench_world.specs.declared.entry.Entry.{Entry}
use Rattle.bench_world.specs.Asked.{asked_on_link, slot_messages}
use Rattle.bench_world.specs.Calls.{IfLinked, due_asked, due_if}
use Rattle.bench_world.specs.Forging.{opens_link}
use Rattle.bench_world.specs.Links.{OpenLink}
use Rattle.bench_world.specs.Legal.{AnswerBy, AnswerLaw, CallLaw, CrowdLaw, FindLaw, ForgeLaw, FrontOf, Given, LegalStep, LinkingLaw, MayPlaceT3, MayRaw, Read3Law, ReadLaw, SenseLaw, State}
use Rattle.bench_world.specs.Legal.{Writing3Law, WritingLaw, world_at_start, changed, due, due_by, state_after, world_after}
use Rattle.bench_world.specs.Threes.{AreWellStored, IfThree, IsWellStored, KeepsStores3, WriteEnd3, end_told}
use Rattle.bench_world.specs.Writing.{KeepsStores, ending_told}
use Rattle.bench_world.specs.World.{Stable, WholeWorld, bench_air, stable}
use Rattle.bench_world.proofs.devices.FarStays.{far_stay}
use Rattle.bench_world.proofs.tags.Fronts.{field_after}
use Rattle.bench_world.proofs.forged.ForgeLeft.{forge_devices}
use Rattle.bench_world.proofs.devices.RawStores.{IsNoF, events_well, frames_no_f, raws_no_f}
use Rattle.bench_devices.proofs.finding.SelectingKept.{due_asked as each_asked}
use Rattle.bench_script.specs.DeviceIds.{tech_for}
use Rattle.nfc_base.specs.Signal.{Signal}
use Rattle.std.proofs.lemmas.List.Elements.{recursion_from_All}
use Rattle.bench_world.proofs.devices.HeldOn.{nothing_happened, own_found}
use Rattle.bench_world.proofs.tags.Numbers.{UsesFars}
use Rattle.bench_world.proofs.open_link.Talks.{on_link, still_on}
use Rattle.bench_world.proofs.calm.WriteBehind.{all_as, all_three, last_all, last_image}
use Rattle.bench_world.proofs.tags.WriteLegality.{found_named}

-- by what stays of a device
abbrev WellBy : DeviceKind → List ℕ → Type 0
WellBy k store = IfThree k (three.IsT3Store store) (Unit {0})

well_as : (k l : DeviceKind) (a b : List ℕ) → l ≡ k → b ≡ a → WellBy k a → WellBy l b
well_as k l a b kind store h = subst (λ x. WellBy x b) (sym kind) (subst (WellBy k) (sym store) h)

well_kept : (d e : Device) → kept e ≡ kept d → IsWellStored d → IsWellStored e
well_kept d e same h = well_as (kind_of d) (kind_of e) (device_store d) (device_store e) (ap (λ (k : Kept). k.fixed.kind) same) (ap (λ (k : Kept). k.store) same) h

stored_more : (ds : List Device) (d : Device) → AreWellStored ds → IsWellStored d → AreWellStored (ds ++ d ∷ [])
stored_more [] d h own = (own, tt)
stored_more (x ∷ ds) d h own = (h.0, stored_more ds d h.1 own)

stored_without : (id : List ℕ) (ds : List Device) → AreWellStored ds → AreWellStored (without id ds)
stored_without id [] h = tt
stored_without id (d ∷ ds) h = by_name (pointwise nat_eq (device_id d) id) (stored_without id ds h.1)
  where
    by_name : (v : Bool) → AreWellStored (without id ds) → AreWellStored (if v then ds else d ∷ without id ds)
    by_name true more = h.1
    by_name false more = (h.0, more)

stored_changed : (g : Device → Device) → ((d : Device) → IsWellStored d → IsWellStored (g d)) → (id : List ℕ) (ds : List Device) → AreWellStored ds → AreWellStored (with_changed g id ds)
stored_changed g stays id [] h = tt
stored_changed g stays id (d ∷ ds) h = by_name (pointwise nat_eq (device_id d) id) (stored_changed g stays id ds h.1)
  where
    by_name : (v : Bool) → AreWellStored (with_changed g id ds) → AreWellStored (if v then g d ∷ ds else d ∷ with_changed g id ds)
    by_name true more = (stays d h.0, h.1)
    by_name false more = (h.0, more)

locked_well : (block : ℕ) (d : Device) → IsWellStored d → IsWellStored (device_locked block d)
locked_well block (T2 d) h = h
locked_well block (T4 d) h = h
locked_well block (Peer d) h = h
locked_well block (T5 p) h = h
locked_well block (T3 p) h = h

busy_well : (count times : ℕ) (d : Device) → IsWellStored d → IsWellStored (device_busy count times d)
busy_well count times (T2 d) h = h
busy_well count times (T4 d) h = h
busy_well count times (Peer d) h = h
busy_well count times (T5 p) h = h
busy_well count times (T3 p) h = h

-- no store changed
stored_stays : (ds es : List Device) → AllStayDevices ds es → map stable_of es ≡ map stable_of ds → AreWellStored ds → AreWellStored es
stored_stays [] [] stay same h = tt
stored_stays [] (e ∷ es) stay same h = absurd stay
stored_stays (d ∷ ds) [] stay same h = absurd stay
stored_stays (d ∷ ds) (e ∷ es) stay same h =
    let one : stable_of e ≡ stable_of d = cc in
    let rest : map stable_of es ≡ map stable_of ds = cc in (
      well_as (kind_of d) (kind_of e) (device_store d) (device_store e) (ap (λ (k : Fixed). k.kind) stay.0.fixed) (ap (λ (k : StablePart). k.store) one) h.0,
      stored_stays ds es stay.1 rest h.1,
    )

-- that of the device with an identifier alone did
beside_apart : (k : List ℕ) (x : Device) → device_id x ≡ k → (ds es : List Device) → AllKeepBut k ds es → AllByRecursion (IsApart (kept x)) (map kept ds) → AreWellStored ds → AreWellStored es
beside_apart k x named [] [] keep apart h = tt
beside_apart k x named [] (e ∷ es) keep apart h = absurd keep
beside_apart k x named (d ∷ ds) [] keep apart h = absurd keep
beside_apart k x named (d ∷ ds) (e ∷ es) keep apart h =
    (well_kept d e (keep.0.other (λ own. apart.0 (own ∙ sym named))) h.0, beside_apart k x named ds es keep.1 apart.1 h.1)

stored_beside : (k : List ℕ) (ds es : List Device) → AllKeepBut k ds es → AreSound (map kept ds) → IfPlaced IsWellStored (Unit {0}) (device_with k es) → AreWellStored ds → AreWellStored es
stored_beside k [] [] keep sound own h = tt
stored_beside k [] (e ∷ es) keep sound own h = absurd keep
stored_beside k (d ∷ ds) [] keep sound own h = absurd keep
stored_beside k (d ∷ ds) (e ∷ es) keep sound own h = by_name (pointwise nat_eq (device_id e) k) refl own (λ later. stored_beside k ds es keep.1 sound.2 later h.1)
  where
    same_id : device_id e ≡ device_id d
    same_id = ap (λ (x : Fixed). x.id) keep.0.stays.fixed

    by_name : (v : Bool) → pointwise nat_eq (device_id e) k ≡ v → IfPlaced IsWellStored (Unit {0}) (if v then Some e else device_with k es)
        → (IfPlaced IsWellStored (Unit {0}) (device_with k es) → AreWellStored es) → AreWellStored (e ∷ es)
    by_name true is here later = (here, beside_apart k d (sym same_id ∙ equal_bytes (device_id e) k is) ds es keep.1 sound.1 h.1)
    by_name false is here later = (well_kept d e (keep.0.other (λ own'. apart_of is (same_id ∙ own'))) h.0, later here)
      where
        pointwise_is : (a b : List ℕ) → a ≡ b → pointwise nat_eq a b ≡ true
        pointwise_is a b same = ap (λ x. pointwise nat_eq x b) same ∙ pointwise_self b

        apart_of : pointwise nat_eq (device_id e) k ≡ false → device_id e ≡ k → ⊥
        apart_of other own' = absurd (let clash : true ≡ false = sym (pointwise_is (device_id e) k own') ∙ other in cc)

-- what holds of each of some devices holds of the one with an identifier
pub with_all : (P : Device → Type 0) (id : List ℕ) (ds : List Device) (d : Device) → AllByRecursion P ds → device_with id ds ≡ Some d → P d
with_all P id [] d all found = absurd cc
with_all P id (e ∷ ds) d all found = by_name (pointwise nat_eq (device_id e) id) found (λ later. with_all P id ds d all.1 later)
  where
    by_name : (v : Bool) → (if v then Some e else device_with id ds) ≡ Some d → (device_with id ds ≡ Some d → P d) → P d
    by_name true here later = let same : e ≡ d = cc in subst P same all.0
    by_name false here later = later here

-- where none has an identifier, none has it behind that
none_found : (k : List ℕ) (ds es : List Device) → AllKeepBut k ds es → device_with k ds ≡ None → device_with k es ≡ None
none_found k [] [] keep none = refl
none_found k [] (e ∷ es) keep none = absurd keep
none_found k (d ∷ ds) [] keep none = absurd keep
none_found k (d ∷ ds) (e ∷ es) keep none = by_name (pointwise nat_eq (device_id d) k) refl none (λ later. none_found k ds es keep.1 later)
  where
    same_id : device_id e ≡ device_id d
    same_id = ap (λ (x : Fixed). x.id) keep.0.stays.fixed

    by_name : (v : Bool) → pointwise nat_eq (device_id d) k ≡ v → (if v then Some d else device_with k ds) ≡ None → (device_with k ds ≡ None → device_with k es ≡ None) → device_with k (e ∷ es) ≡ None
    by_name true is here later = absurd cc
    by_name false is here later = ap (λ v. if v then Some e else device_with k es) (ap (λ i. pointwise nat_eq i k) same_id ∙ is) ∙ later here

-- The one that a command writes holds such a store then, where that is said of a Type 3 tag.
own_well : (k : List ℕ) (ds es : List Device) → AllKeepBut k ds es → AreWellStored ds
    → ((d : Device) → device_with k ds ≡ Some d → kind_of d ≡ T3Kind → three.IsT3Store (device_store d) → three.IsT3Store (held_by (device_with k es)))
    → IfPlaced IsWellStored (Unit {0}) (device_with k es)
own_well k ds es keep well says = by_found (device_with k ds) refl
  where
    by_kind : (d e : Device) → device_with k ds ≡ Some d → device_with k es ≡ Some e → (z : DeviceKind) → kind_of d ≡ z → IfThree z (three.IsT3Store (device_store d)) (Unit {0})
        → WellBy z (device_store e)
    by_kind d e found there T2Kind is h = tt
    by_kind d e found there T3Kind is h = subst three.IsT3Store (ap held_by there) (says d found is h)
    by_kind d e found there T4Kind is h = tt
    by_kind d e found there PeerKind is h = tt
    by_kind d e found there T5Kind is h = tt

    by_found : (o : Option Device) → device_with k ds ≡ o → IfPlaced IsWellStored (Unit {0}) (device_with k es)
    by_found None found = subst (λ o. IfPlaced IsWellStored (Unit {0}) o) (sym (none_found k ds es keep found)) tt
    by_found (Some d) found =
        let own = own_found k k ds es d keep found in
        let kind : kind_of own.0 ≡ kind_of d = ap (λ (x : Fixed). x.kind) own.2 in
        subst (λ o. IfPlaced IsWellStored (Unit {0}) o) (sym own.1)
        (subst (λ z. WellBy z (device_store own.0)) (sym kind) (by_kind d own.0 found own.1 (kind_of d) refl (with_all IsWellStored k ds d well found)))

-- what is said of each store is said of the last
held_last : (w : BenchWorld) (es : List Event) (k : List ℕ) (d : Device) → device_with k w.listeners ≡ Some d → three.IsT3Store (device_store d)
    → AllByRecursion three.IsT3Store (images_of (device_id d) w es)
    → three.IsT3Store (held_by (device_with k (replay air w es).listeners))
held_last w es k d found own all =
    subst (λ i. three.IsT3Store (held_by (device_with i (replay air w es).listeners))) (found_named k w.listeners d found)
    (subst three.IsT3Store (last_image (device_id d) w es (device_store d)) (last_all three.IsT3Store (device_store d) (images_of (device_id d) w es) own all))

-- A write of another kind of tag leaves a Type 3 tag's store, ...
still_own : (message : List ℕ) (ending : Ending) (w : BenchWorld) (es : List Event) (k : List ℕ) → IfPlaced (λ d. KeepsStores message d ending w es) (Unit {0}) (device_with k w.listeners)
    → (d : Device)
    → device_with k w.listeners ≡ Some d → kind_of d ≡ T3Kind → three.IsT3Store (device_store d) → three.IsT3Store (held_by (device_with k (replay air w es).listeners))
still_own message ending w es k law d found kind own =
    let here : KeepsStores message d ending w es = subst (λ o. IfPlaced (λ x. KeepsStores message x ending w es) (Unit {0}) o) found law in
    let same : AllByRecursion (λ s. s ≡ device_store d) (images_of (device_id d) w es) =
    subst (λ z. IfRead z (KeepsWriteLaw message d ending w es) (AllByRecursion (λ s. s ≡ device_store d) (images_of (device_id d) w es))) kind here in
    held_last w es k d found own (all_as (λ s. s ≡ device_store d) three.IsT3Store (λ s e. subst three.IsT3Store (sym e) own) (images_of (device_id d) w es) same)

-- ... and one of it leaves such a store at each time.
written_own : (message : List ℕ) (r : WriteEnd3) (w : BenchWorld) (es : List Event) (k : List ℕ) → IfPlaced (λ d. KeepsStores3 message d r w es) (Unit {0}) (device_with k w.listeners) → (d : Device)
    → device_with k w.listeners ≡ Some d → kind_of d ≡ T3Kind → three.IsT3Store (device_store d) → three.IsT3Store (held_by (device_with k (replay air w es).listeners))
written_own message r w es k law d found kind own =
    let here : KeepsStores3 message d r w es = subst (λ o. IfPlaced (λ x. KeepsStores3 message x r w es) (Unit {0}) o) found law in
    let kept' : KeepsWrite3Law message d r w es =
    subst (λ z. IfThree z (KeepsWrite3Law message d r w es) (AllByRecursion (λ s. s ≡ device_store d) (images_of (device_id d) w es))) kind here in
    held_last w es k d found own
    (all_three (λ s. s ≡ device_store d) (IsBegun message (device_store d)) (IsNew message (device_store d)) three.IsT3Store (λ s e. subst three.IsT3Store (sym e) own) (λ s b. b.store)
    (λ s n. n.store)
    (images_of (device_id d) w es) kept'.three)

-- So it is through a legal step.
module _ (s t : State) (g : Given) (e : Entry) (step : LegalStep s g e t) (sound : AreSound (map kept s.world.field.listeners)) (well : AreWellStored s.world.field.listeners) where
  abbrev Well : State → Type 0
  Well x = AreWellStored x.world.field.listeners

  abbrev ds : List Device
  ds = s.world.field.listeners

  quiet_well : (c : Command) → e.command ≡ c → ((ns : List Note) → due s g c ns ≡ Over) → Well (changed s c) → Well t
  quiet_well c is over h = subst Well (sym (nothing_happened s t g e step c is over)) h

  asked_well : (c : Command) → e.command ≡ c → (changed s c).world.field ≡ s.world.field → (stable (world_after s g.joins c e.events)).devices ≡ (stable (changed s c).world).devices → Well t
  asked_well c is still stays =
      let w : WholeWorld = world_at_start s g.joins c in
      let after : t ≡ state_after s g.joins c e.events (Some e.answer) = step.front.after ∙ ap (λ k. state_after s g.joins k e.events (Some e.answer)) is in
      subst Well (sym after)
      (stored_stays w.field.listeners (replay bench_air w e.events).field.listeners (far_stay e.events w).stay stays (subst (λ (x : BenchWorld). AreWellStored x.listeners) (sym still) well))

  linked_well : (c : Command) → e.command ≡ c → changed s c ≡ s → (o : Option OpenLink) → s.link ≡ o → (s.link ≡ None → (ns : List Note) → due s g c ns ≡ Over)
      → IfLinked o (λ l. (stable (world_after s g.joins c e.events)).devices ≡ (stable s.world).devices) (Unit {0}) → Well t
  linked_well c is still None at over stays = quiet_well c is (over at) (subst Well (sym still) well)
  linked_well c is still (Some l) at over stays = asked_well c is (ap (λ (x : State). x.world.field) still) (stays ∙ sym (ap (λ (x : State). (stable x.world).devices) still))

  if_linked : (P Q : OpenLink → Type 0) (R : Type 0) (o : Option OpenLink) → ((l : OpenLink) → P l → Q l) → IfLinked o P R → IfLinked o Q (Unit {0})
  if_linked P Q R None says h = tt
  if_linked P Q R (Some l) says h = says l h

  law_of : (c : Command) → e.command ≡ c → AnswerLaw s g c e.events e.answer
  law_of c is = subst (λ k. AnswerLaw s g k e.events e.answer) is step.answered

  front_of : (c : Command) → e.command ≡ c → FrontOf s g c e.events (Some e.answer) t
  front_of c is = subst (λ k. FrontOf s g k e.events (Some e.answer) t) is step.front

  talk_well : (asked : LinkAsking) (c : Command) → e.command ≡ c → asked_on_link c ≡ Some asked → AnswerBy (Some asked) s g c e.events e.answer → Well t
  talk_well asked c is asks law =
      linked_well c is (still_on s c (on_link c asked asks)) s.link refl (λ none ns. ap (λ o. due_by o s g c ns) asks ∙ ap (λ o. due_if o (λ l. due_asked asked l g.joins.own ns)) none)
      (if_linked _ _ _ s.link (λ l (law : CallLaw s g.joins l asked c e.events e.answer). law.devices) law)

  -- the store of one device was written
  written_well : (c : Command) (k : List ℕ) → e.command ≡ c → (UsesFars c → ⊥) → (changed s c).world.field ≡ s.world.field → AllKeepBut k ds (world_after s g.joins c e.events).field.listeners
      → ((d : Device) → device_with k ds ≡ Some d → kind_of d ≡ T3Kind → three.IsT3Store (device_store d) → three.IsT3Store (held_by (device_with k (replay air s.world.field e.events).listeners)))
      → Well t
  written_well c k is quiet still others says =
      let now : BenchWorld = (world_after s g.joins c e.events).field in
      let after : t ≡ state_after s g.joins c e.events (Some e.answer) = step.front.after ∙ ap (λ x. state_after s g.joins x e.events (Some e.answer)) is in
      let on_air : now ≡ replay air s.world.field e.events = field_after s t g c e.events quiet (front_of c is) ∙ ap (λ (w : BenchWorld). replay air w e.events) still in
      let here : (d : Device) → device_with k ds ≡ Some d → kind_of d ≡ T3Kind → three.IsT3Store (device_store d) → three.IsT3Store (held_by (device_with k now.listeners)) =
      subst (λ (w : BenchWorld). (d : Device) → device_with k ds ≡ Some d → kind_of d ≡ T3Kind → three.IsT3Store (device_store d) → three.IsT3Store (held_by (device_with k w.listeners))) (sym on_air)
      says in
      subst Well (sym after) (stored_beside k ds now.listeners others sound (own_well k ds now.listeners others well here) well)

  by_command : (c : Command) → e.command ≡ c → Well t
  by_command Skip is = absurd (law_of Skip is)
  by_command (Fates fates) is = quiet_well (Fates fates) is (λ ns. refl) well
  by_command (PlaceT2 i blocks head) is = quiet_well (PlaceT2 i blocks head) is (λ ns. refl) (stored_more ds _ well tt)
  by_command (PlaceT3 i blocks head) is =
      let may : MayPlaceT3 s i blocks head = (front_of (PlaceT3 i blocks head) is).accepted in
      quiet_well (PlaceT3 i blocks head) is (λ ns. refl) (stored_more ds _ well may.store)
  by_command (PlaceT4 i code container head) is = quiet_well (PlaceT4 i code container head) is (λ ns. refl) (stored_more ds _ well tt)
  by_command (PlaceT5 i blocks size head) is = quiet_well (PlaceT5 i blocks size head) is (λ ns. refl) (stored_more ds _ well tt)
  by_command (PlacePeer i lr miu rw limit) is = quiet_well (PlacePeer i lr miu rw limit) is (λ ns. refl) (stored_more ds _ well tt)
  by_command (Lock i block) is = quiet_well (Lock i block) is (λ ns. refl) (stored_changed (device_locked block) (locked_well block) (bytes_of i) ds well)
  by_command (Busy i count times) is = quiet_well (Busy i count times) is (λ ns. refl) (stored_changed (device_busy count times) (busy_well count times) (bytes_of i) ds well)
  by_command (Offer i key value) is = quiet_well (Offer i key value) is (λ ns. refl) well
  by_command (Remove i) is = quiet_well (Remove i) is (λ ns. refl) (stored_without (bytes_of i) ds well)
  by_command (Dump i) is = quiet_well (Dump i) is (λ ns. refl) well
  by_command (Inbox i) is = quiet_well (Inbox i) is (λ ns. refl) well
  by_command Find is = let law : FindLaw s g.joins e.events e.answer = law_of Find is in asked_well Find is refl (ap (λ (z : Stable). z.devices) law.stays)
  by_command Crowd is = let law : CrowdLaw s g.joins e.events e.answer = law_of Crowd is in asked_well Crowd is refl (ap (λ (z : Stable). z.devices) law.stays)
  by_command Poll3 is = let law : SenseLaw s g.joins e.events e.answer = law_of Poll3 is in asked_well Poll3 is refl (ap (λ (z : Stable). z.devices) law.stays)
  by_command (Read i) is = let law : ReadLaw s g.joins i g.asked e.events e.answer = law_of (Read i) is in asked_well (Read i) is refl (ap (λ (z : Stable). z.devices) law.stays)
  by_command (Read3 i) is = let law : Read3Law s g.joins i g.asked e.events e.answer = law_of (Read3 i) is in asked_well (Read3 i) is refl (ap (λ (z : Stable). z.devices) law.stays)
  by_command (Write i m) is =
      let law : WritingLaw s g.joins i m g.asked e.events e.answer = law_of (Write i m) is in
      written_well (Write i m) (bytes_of i) is (λ h. h) refl law.stores.others (still_own (message_of m) (ending_told e.answer) s.world.field e.events (bytes_of i) law.stores.law)
  by_command (Write3 i m) is =
      let law : Writing3Law s g.joins i m g.asked e.events e.answer = law_of (Write3 i m) is in
      written_well (Write3 i m) i is (λ h. h) refl law.stores.others (written_own (message_of m) (end_told e.answer) s.world.field e.events i law.stores.law)
  by_command (Link i miu window) is = let law : LinkingLaw s g.joins i miu window e.events e.answer = law_of (Link i miu window) is in
      asked_well (Link i miu window) is refl (ap (λ (z : Stable). z.devices) law.stays)
  by_command (Forge i payloads) is =
      let law : ForgeLaw s g.joins i payloads e.events e.answer = law_of (Forge i payloads) is in
      asked_well (Forge i payloads) is refl (forge_devices (opens_link i payloads e.events) s g.joins i payloads e.events law.leaves)
  by_command (Raw i frames) is =
      let c : Command = Raw i frames in
      let front : FrontOf s g c e.events (Some e.answer) t = front_of c is in
      let may : MayRaw s i frames = front.accepted in
      let each : AllByRecursion IsNoF frames = frames_no_f i frames (recursion_from_All (λ (f : Signal). f.tech ≡ tech_for i) frames may.each) in
      let asked : EachAsked IsNoF e.events = each_asked IsNoF (due s g c) (raws_no_f frames each i) [] e.events front.each in
      subst Well (sym front.after) (events_well e.events (world_at_start s g.joins c) asked well)
  by_command (Put m) is = talk_well (Does (put_from 0 (message_of m))) (Put m) is refl (law_of (Put m) is)
  by_command (Get most key) is = talk_well (Does (Getting client_sap most key)) (Get most key) is refl (law_of (Get most key) is)
  by_command (Lookup name) is = talk_well (Does (Finding name)) (Lookup name) is refl (law_of (Lookup name) is)
  by_command (OnPut slot m) is = talk_well (Does (put_from slot (message_of m))) (OnPut slot m) is refl (law_of (OnPut slot m) is)
  by_command (OnGet slot most key) is = talk_well (Does (Getting (sap_of_slot slot) most key)) (OnGet slot most key) is refl (law_of (OnGet slot most key) is)
  by_command (commands.Puts puts) is = talk_well (Does (Putting (slot_messages puts))) (commands.Puts puts) is refl (law_of (commands.Puts puts) is)
  by_command Unlink is = talk_well Closes Unlink is refl (law_of Unlink is)

  pub stored_step : AreWellStored t.world.field.listeners
  stored_step = by_command e.command refl
