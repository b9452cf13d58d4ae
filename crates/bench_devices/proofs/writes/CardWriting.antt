-- What a write of a Type 4 tag does: over its link, and with the activation before it.
use Rattle.std.proofs.Common.{◌≡◌, inl, inr, ℕ, List, [], ◌∷◌, ◌++◌, length, drop, true, false, refl, sym, ◌∙◌, ap, subst, append-nil}
use Rattle.std.specs.Prelude.{Result, Err}
use Rattle.std.specs.Result.{IfErr, OnErr}
use Rattle.std.specs.List.{AllByRecursion}
use Rattle.air_core.specs.laws.Turning.{events-append}
use Rattle.nfc_base.specs.declared.event.Event.{Event}
use Rattle.nfc_base.specs.declared.tag_link.AskFault.{AskFault}
use Rattle.nfc_base.specs.declared.tag_link.AskFault.TheVariants as asking
use Rattle.nfc_base.specs.declared.frame.Tech.TheVariants.{A}
use Rattle.nfc_base.specs.Signal.{Signal}
use Rattle.nfc_base.specs.TagLinks.{LinkView, passed}
use Rattle.air_core.specs.World.{World}
use Rattle.air_core.specs.Turn.{Air, world, moment}
use Rattle.air_core.specs.Conversation.{Moment, replay, with_events}
use Rattle.air_core.specs.Waits as waits
use Rattle.air_core.specs.PlainLinks.{Follows, stores_after, at_place}
use Rattle.isodep_link.specs.Activating.{rats, AsksRats, HasFreshTag, RatsSent, RatsEnds, Activates, IsActivatedLink}
use Rattle.isodep_link.specs.Asking.{asks, stand, iso_next}
use Rattle.isodep_link.specs.IsoLinks.{IsoSeen, IsoMoves, iso_view, seen_link, bytes_of}
use Rattle.isodep_link.specs.Reader.{waiting}
use Rattle.isodep_link.specs.declared.link.IsoLink.{IsoLink}
use Rattle.tag_reader.specs.declared.how.How.TheVariants as hows
use Rattle.tag_writer.specs.declared.fault.WriteFault.{WriteFault}
use Rattle.tag_writer.specs.declared.fault.WriteFault.TheVariants as faults
use Rattle.tag_writer.specs.Faults.{ending_of}
use Rattle.tag_writer.specs.Law.{Ending, Stopped, WriteLaw}
use Rattle.tag_writer.specs.Puttings.{of_link}
use Rattle.tag_writer.specs.Writing.{Keeps}
use Rattle.bench_devices.specs.declared.device.Device.{Device}
use Rattle.bench_devices.specs.Device.{BenchWorld, air, devices, device_id, device_store, device_card, device_tag, how_of, size_of}
use Rattle.bench_devices.specs.Placed.{device_with}
use Rattle.bench_devices.specs.Writing.{AsksWriteOf, ShowsWrite, KeepsWriteLaw}
use Rattle.bench_devices.specs.private.Linking.{Linked, IsNewLink, AsksOn, AsksSomeOn, WritesOn, WritesSomeOn, WritesLinked, CutLinkedWrite}
use Rattle.bench_devices.specs.Keeping.{Kept, ghosts, IsSound, IsAsideOf, EachAsked, held_by, StoreOf, LeavesDevices}
use Rattle.bench_devices.specs.Phases.{Stands, WriteEnd, FailsWrite, Writes, WritesSome, WritesAt, CutAtWrite}
use Rattle.bench_devices.proofs.finding.SelectingAir.{events_are}
use Rattle.bench_devices.proofs.finding.SelectingKept.{IsHarmless, due_asked}
use Rattle.bench_devices.proofs.selected.CardKept.{rats_harmless}
use Rattle.bench_devices.proofs.kinds.EveryFrame.{IsSoundOne, going_leaves}
use Rattle.bench_devices.proofs.kinds.ImagesJoin.{IsFirstAt, images_at, first_alone, law_behind, law_start, held_kept, same_going}
use Rattle.bench_devices.proofs.selected.Alone.{sound_alone, beside_all, sound_there, held_there}
use Rattle.bench_devices.proofs.reads.ReadingTags.{stands_one}
use Rattle.bench_devices.proofs.selected.LinkEnds.{LinkEnds}
use Rattle.bench_devices.proofs.selected.CardLinks as link
use Rattle.bench_devices.proofs.selected.CardLinks.{due_whole, stand_whole, asks_whole, from_step, from_plain, store_here, none_before, asked_told, four_tag}
use Rattle.bench_devices.proofs.selected.CardEnds.{card_ends}
use Rattle.bench_devices.proofs.selected.CardParts.{as_told, as_cut, linked_asks, linked_cut, unanswered_asks, rats_cut, rats_keep, made, link_is, refused}
use Rattle.bench_devices.proofs.writes.WriteTold.{IsWritten, write_does, write_does_some, write_law}
use Rattle.bench_devices.proofs.writes.WriteLists.{some_write}

-- Over the link to a tag that was activated.
module _ (message : List ℕ) (p : IsoSeen Device) (is : IsNewLink p) (d : Device) (l : Linked d p.air p.place p.reader) (q : IsoSeen Device) (m : IsoMoves ghosts device_card device_tag p q) where
  abbrev from : LinkView
  from = iso_view ghosts device_card device_tag p

  abbrev to : LinkView
  to = iso_view ghosts device_card device_tag q

  abbrev tag_at : Device
  tag_at = l.activated.has.listener

  same_id : device_id tag_at ≡ device_id d
  same_id = ap (λ (k : Kept). k.fixed.id) l.same

  all_write : (xs : List Signal) × AsksWriteOf message d xs
  all_write = some_write message d (four_tag d l.card) l.sound

  leaves_own : LeavesDevices (StoreOf (device_id tag_at)) (world p.air) m.asks.going.events (world q.air)
  leaves_own =
      let alone = l.activated.has.alone in
      let split : (world p.air).listeners ≡ alone.before ++ tag_at ∷ alone.behind = alone.split in
      going_leaves (device_id tag_at) A (iso_next p.reader (bytes_of m.asks.asked)) (moment p.air) (moment q.air) m.asks.notes tt
      (subst (IsSoundOne (device_id tag_at)) (sym split) (sound_alone alone.before tag_at alone.behind (subst IsSound (sym l.same) l.sound) alone.first))
      (subst (AllByRecursion (IsAsideOf (device_id tag_at))) (sym split) (beside_all alone.before tag_at alone.behind alone.first alone.later))
      (λ ks f due. due_whole (stand (asks p.reader (bytes_of m.asks.asked)) ks) f (stand_whole (asks p.reader (bytes_of m.asks.asked)) ks (asks_whole p.reader (bytes_of m.asks.asked))) due)
      m.asks.going

  leaves : LeavesDevices (StoreOf (device_id d)) (world p.air) m.asks.going.events (world q.air)
  leaves = subst (λ i. LeavesDevices (StoreOf i) (world p.air) m.asks.going.events (world q.air)) same_id leaves_own

  ends : LinkEnds (AsksWriteOf message d) (ShowsWrite message d) FailsWrite from to m.asks.asked
      (AsksOn (StoreOf (device_id d)) (AsksWriteOf message d) (ShowsWrite message d) FailsWrite p.reader (moment p.air) (moment q.air))
      (AsksSomeOn (StoreOf (device_id d)) (AsksWriteOf message d) p.reader (moment p.air) (moment q.air))
  ends = card_ends (StoreOf (device_id d)) (AsksWriteOf message d) (ShowsWrite message d) FailsWrite p is l.lit q m leaves

  -- the images of the store are the stores that the tag passed
  first_here : IsFirstAt (device_id d) (world p.air).listeners p.place
  first_here =
      let alone = l.activated.has.alone in
      subst (λ i. IsFirstAt i (world p.air).listeners p.place) same_id
      (subst (λ ds. IsFirstAt (device_id tag_at) ds p.place) (sym alone.split)
      (subst (IsFirstAt (device_id tag_at) (alone.before ++ tag_at ∷ alone.behind)) alone.stands (first_alone alone.before tag_at alone.behind alone.first)))

  store_at : at_place device_store [] (world p.air).listeners p.place ≡ device_store d
  store_at = link.held_there (world p.air).listeners p.place ∙ store_here p is d l

  law_here : (r : WriteEnd) → Keeps (how_of d) (size_of d) message (ending_of r) from to → KeepsWriteLaw message d (ending_of r) (world p.air) m.asks.going.events
  law_here r k =
      let same : drop (length p.air.trace) q.air.trace ≡ m.asks.going.events = events_are air (moment p.air) (moment q.air) m.asks.going.events m.asks.going.moment in
      let stores : List (List ℕ) = stores_after ghosts p.place (world p.air) m.asks.going.events in
      let follow : Follows from.state.store stores (passed from.step from.state m.obeys.obeyed) =
      subst (λ es. Follows from.state.store (stores_after ghosts p.place (world p.air) es) (passed from.step from.state m.obeys.obeyed)) same m.obeys.images in
      let law : WriteLaw (how_of d) (size_of d) (device_store d) message (ending_of r) (device_store d ∷ stores) =
      write_law message d all_write from to (from_step p is d l) (from_plain p is d l) m.asks.asked (none_before p is d l) is.over (asked_told p is d l q m) r k m.obeys.obeyed m.obeys.leads stores
      follow in
      subst (WriteLaw (how_of d) (size_of d) (device_store d) message (ending_of r))
      (ap (λ st. st ∷ stores) (sym store_at) ∙ sym (images_at (device_id d) p.place (world p.air) m.asks.going.events first_here)) law

  pub writes_on : (r : WriteEnd) → (r ≡ Err faults.Memory → ⊥) → IsWritten hows.T4 (size_of d) message from to r → WritesOn (moment p.air) (moment q.air) d p.reader message r
  writes_on r fed told4 =
      let t : IsWritten (how_of d) (size_of d) message from to r = subst (λ h. IsWritten h (size_of d) message from to r) (sym l.card) told4 in
      let told = write_does message d all_write from to (from_step p is d l) (from_plain p is d l) m.asks.asked (none_before p is d l) is.over (asked_told p is d l q m) ends r fed t in
      record { told = told; law = subst (KeepsWriteLaw message d (ending_of r) (world p.air)) (same_going (moment p.air) (moment q.air) m.asks.going told.asked.going) (law_here r t.keeps) }

  pub writes_some_on : (r : WriteEnd) → r ≡ Err faults.Memory → IsWritten hows.T4 (size_of d) message from to r → WritesSomeOn (moment p.air) (moment q.air) d p.reader message
  writes_some_on r starved told4 =
      let t : IsWritten (how_of d) (size_of d) message from to r = subst (λ h. IsWritten h (size_of d) message from to r) (sym l.card) told4 in
      let told = write_does_some message d all_write from to (from_step p is d l) (from_plain p is d l) m.asks.asked (none_before p is d l) is.over (asked_told p is d l q m) ends r starved t in
      let law : KeepsWriteLaw message d (ending_of r) (world p.air) told.asked.going.events =
      subst (KeepsWriteLaw message d (ending_of r) (world p.air)) (same_going (moment p.air) (moment q.air) m.asks.going told.asked.going) (law_here r t.keeps) in
      record { told = told; law = subst (λ x. KeepsWriteLaw message d (ending_of x) (world p.air) told.asked.going.events) starved law }

abbrev tell : AskFault → WriteEnd
tell fault = Err (of_link fault)

-- The link that was given to the tag, and what was asked over it, or why none was given.
module _ (message : List ℕ) (old : Air Device) (place : ℕ) (one : (e : Device) × Stands (moment old) place e × (how_of e ≡ hows.T4)) where
  abbrev d : Device
  d = one.0

  abbrev own : List ℕ
  own = device_id one.0

  of_any : (new : Air Device) (r : WriteEnd) → Writes (moment old) (moment new) d message r → (e : Device) → Stands (moment old) place e → Writes (moment old) (moment new) e message r
  of_any new r writes e stands = subst (λ x. Writes (moment old) (moment new) x message r) (sym (stands_one old place d one.1 e stands)) writes

  cut_any : (new : Air Device) → WritesSome (moment old) (moment new) d message → (e : Device) → Stands (moment old) place e → WritesSome (moment old) (moment new) e message
  cut_any new writes e stands = subst (λ x. WritesSome (moment old) (moment new) x message) (sym (stands_one old place d one.1 e stands)) writes

  all_asked : (xs : List Signal) × AsksWriteOf message d xs
  all_asked = some_write message d (four_tag d one.2) one.1.sound

  -- RATS changes no store
  module _ (mid : Air Device) (st : waits.Standing) (sent : RatsSent ghosts device_card device_tag old mid st) where
    rats_asked : EachAsked IsHarmless sent.going.events
    rats_asked = due_asked IsHarmless (waits.waits_next (rats ∷ [])) rats_harmless [] sent.going.events sent.going.each

    replayed : world mid ≡ replay air (world old) sent.going.events
    replayed = ap (λ (t : Moment (World Device)). t.world) sent.going.moment

    held_mid : held_by (device_with own (world mid).listeners) ≡ device_store d
    held_mid = held_kept own (world old).listeners (world mid).listeners (rats_keep old mid place d one.1 one.2 st sent) ∙ held_there old place d one.1

    law_then : (ending : Ending) (es : List Event) → KeepsWriteLaw message d ending (world mid) es → KeepsWriteLaw message d ending (world old) (sent.going.events ++ es)
    law_then ending es law =
        law_behind message d ending (world old) sent.going.events es rats_asked
        (subst (λ (w : BenchWorld). held_by (device_with own w.listeners) ≡ device_store d) replayed held_mid)
        (subst (λ (w : BenchWorld). KeepsWriteLaw message d ending w es) replayed law)

    law_rats : KeepsWriteLaw message d Stopped (world old) sent.going.events
    law_rats = subst (KeepsWriteLaw message d Stopped (world old)) (append-nil sent.going.events) (law_then Stopped [] (law_start message d (world mid) held_mid))

    law_sent : (es : List Event) → moment mid ≡ with_events air (moment old) es → KeepsWriteLaw message d Stopped (world old) es
    law_sent es whole =
        subst (KeepsWriteLaw message d Stopped (world old)) (sym (events_are air (moment old) (moment mid) sent.going.events sent.going.moment) ∙ events_are air (moment old) (moment mid) es whole)
        law_rats

  module _ (l : IsoLink Device) (there : l.place ≡ place) (given : HasFreshTag ghosts device_card device_tag old place → IsActivatedLink ghosts device_card device_tag old (seen_link l)) where
    by_link : IsActivatedLink ghosts device_card device_tag old (seen_link l)
    by_link = made old place one l there given

    abbrev mid : Air Device
    mid = l.field.now

    -- what happened over the link happened behind RATS
    law_both : (new : Air Device) (ending : Ending) (es fs : List Event) → moment new ≡ with_events air (moment mid) es → moment new ≡ with_events air (moment old) fs
        → KeepsWriteLaw message d ending (world mid) es → KeepsWriteLaw message d ending (world old) fs
    law_both new ending es fs later whole law =
        subst (KeepsWriteLaw message d ending (world old)) (both_events new by_link.sent es fs later whole) (law_then mid (waits.Asking 0 []) by_link.sent ending es law)
      where
        both_events : (new : Air Device) (sent : RatsSent ghosts device_card device_tag old mid (waits.Asking 0 [])) (es fs : List Event) → moment new ≡ with_events air (moment mid) es
            → moment new ≡ with_events air (moment old) fs → sent.going.events ++ es ≡ fs
        both_events new sent es fs later whole =
            sym (events_are air (moment old) (moment new) (sent.going.events ++ es) (later ∙ ap (λ t. with_events air t es) sent.going.moment ∙ events-append air (moment old) sent.going.events es))
            ∙ events_are air (moment old) (moment new) fs whole

    linked_ends : (new : Air Device) (r : WriteEnd) → WritesOn (moment mid) (moment new) d l.reader message r → Writes (moment old) (moment new) d message r
    linked_ends new r on =
        let o : WritesOn (moment mid) (moment new) d (waiting by_link.code) message r = subst (λ i. WritesOn (moment mid) (moment new) d i message r) by_link.reader on in
        let told =
        as_told (StoreOf own) (AsksWriteOf message d) (ShowsWrite message d) FailsWrite (moment old) (moment new) d r one.2
        (linked_asks (StoreOf own) (AsksWriteOf message d) (ShowsWrite message d) FailsWrite all_asked old mid place d one.1 one.2 (sound_there old place d one.1) new by_link.code by_link.sent
        by_link.tells r o.told) in
        record { told = told; law = law_both new (ending_of r) o.told.asked.going.events told.asked.going.events o.told.asked.going.moment told.asked.going.moment o.law }

    cut_ends : (new : Air Device) → WritesSomeOn (moment mid) (moment new) d l.reader message → WritesSome (moment old) (moment new) d message
    cut_ends new on =
        let o : WritesSomeOn (moment mid) (moment new) d (waiting by_link.code) message = subst (λ i. WritesSomeOn (moment mid) (moment new) d i message) by_link.reader on in
        let told =
        as_cut (StoreOf own) (AsksWriteOf message d) (ShowsWrite message d) FailsWrite (moment old) (moment new) d one.2
        (linked_cut (StoreOf own) (AsksWriteOf message d) (ShowsWrite message d) FailsWrite all_asked old mid place d one.1 one.2 (sound_there old place d one.1) new by_link.code by_link.sent
        by_link.tells o.told) in
        record { told = told; law = law_both new Stopped o.told.asked.going.events told.asked.going.events o.told.asked.going.moment told.asked.going.moment o.law }

    -- the field is given back as the link left it
    pub ends_linked : (left new : Air Device) → left ≡ new → (r : WriteEnd) → WritesLinked mid l.place l.reader (moment left) message r → WritesAt (moment old) (moment new) place message r
    ends_linked left new back r told fed =
        of_any new r (subst (λ a. Writes (moment old) (moment a) d message r) back (linked_ends left r (told fed d (link_is old place one l there given))))

    pub ends_cut : (left new : Air Device) → left ≡ new → (r : WriteEnd) → CutLinkedWrite mid l.place l.reader (moment left) message r → CutAtWrite (moment old) (moment new) place message r
    ends_cut left new back r cut starved =
        cut_any new (subst (λ a. WritesSome (moment old) (moment a) d message) back (cut_ends left (cut starved d (link_is old place one l there given))))

  -- No link was given.
  module _ {R : Type 0} (new : Air Device) (given : Result R AskFault) (fault : AskFault) (failed : given ≡ Err fault)
      (rests : OnErr given (IfErr given (λ e. AsksRats devices old new (Err e) × Activates ghosts device_card device_tag old new place (Err e)))) where
    -- RATS was sent then, up to some end of its wait
    law_refused : (e : AskFault) → RatsEnds ghosts device_card device_tag old new place (Err e) → (es : List Event) → moment new ≡ with_events air (moment old) es
        → KeepsWriteLaw message d Stopped (world old) es
    law_refused asking.FieldLost (inl dark) es whole = absurd (let clash : true ≡ false = sym (ap (λ (w : World Device). w.lit) one.1.world) ∙ dark.0 in cc)
    law_refused asking.FieldLost (inr ends) es whole = law_sent new (waits.Broken asking.FieldLost (rats ∷ [])) ends.0 es whole
    law_refused asking.SixBad ends es whole = law_sent new (waits.Broken asking.SixBad (rats ∷ [])) ends es whole
    law_refused asking.Memory ends es whole = law_sent new (waits.Asking ends.0 (rats ∷ [])) ends.1 es whole
    law_refused asking.Protocol ends es whole = absurd ends

    stopped : (e : AskFault) → ending_of (tell e) ≡ Stopped
    stopped asking.FieldLost = refl
    stopped asking.SixBad = refl
    stopped asking.Memory = refl
    stopped asking.Protocol = refl

    pub ends_unanswered : (e : WriteFault) → e ≡ of_link fault → WritesAt (moment old) (moment new) place message (Err e)
    ends_unanswered e is fed =
        let starved : fault ≡ asking.Memory → ⊥ = λ m. fed (ap Err (is ∙ ap of_link m)) in
        let ends : RatsEnds ghosts device_card device_tag old new place (Err fault) = refused old place one new given fault failed rests in
        let told =
        as_told (StoreOf own) (AsksWriteOf message d) (ShowsWrite message d) FailsWrite (moment old) (moment new) d (tell fault) one.2
        (unanswered_asks (StoreOf own) (AsksWriteOf message d) (ShowsWrite message d) FailsWrite all_asked old new place d one.1 one.2 (sound_there old place d one.1) tell refl (λ k. cc) refl
        (λ k. cc)
        fault starved ends) in
        let law : KeepsWriteLaw message d (ending_of (tell fault)) (world old) told.asked.going.events =
        subst (λ x. KeepsWriteLaw message d x (world old) told.asked.going.events) (sym (stopped fault)) (law_refused fault ends told.asked.going.events told.asked.going.moment) in
        let writes : Writes (moment old) (moment new) d message (tell fault) = record { told = told; law = law } in
        of_any new (Err e) (subst (λ x. Writes (moment old) (moment new) d message (Err x)) (sym is) writes)

    starved_of : (e : AskFault) → of_link e ≡ faults.Memory → e ≡ asking.Memory
    starved_of asking.FieldLost m = absurd cc
    starved_of asking.SixBad m = absurd cc
    starved_of asking.Memory m = refl
    starved_of asking.Protocol m = absurd cc

    pub cut_unanswered : (e : WriteFault) → e ≡ of_link fault → CutAtWrite (moment old) (moment new) place message (Err e)
    cut_unanswered e is starved =
        let want : fault ≡ asking.Memory = starved_of fault (sym is ∙ (let same : e ≡ faults.Memory = cc in same)) in
        let ends : RatsEnds ghosts device_card device_tag old new place (Err asking.Memory) =
        subst (λ f. RatsEnds ghosts device_card device_tag old new place (Err f)) want (refused old place one new given fault failed rests) in
        let told =
        as_cut (StoreOf own) (AsksWriteOf message d) (ShowsWrite message d) FailsWrite (moment old) (moment new) d one.2
        (rats_cut (StoreOf own) (AsksWriteOf message d) (ShowsWrite message d) FailsWrite all_asked old new place d one.1 one.2 (sound_there old place d one.1) (waits.Asking ends.0 (rats ∷ [])) ends.1
        ends.0 refl) in
        cut_any new (record { told = told; law = law_refused asking.Memory ends told.asked.going.events told.asked.going.moment })
