-- What a write of the selected Type 3 tag comes to, by what its link did, and that its stores keep the law meanwhile.
use Rattle.std.proofs.Common.{◌≡◌, ◌⊎◌, inl, inr, ℕ, suc, List, [], ◌∷◌, ◌++◌, length, drop, Bool, Some, None, Ok, Err, refl, sym, ◌∙◌, ap, subst, arith, append-nil}
use Rattle.std.specs.List.{AllByRecursion}
use Rattle.nfc_base.specs.Signal.{Signal}
use Rattle.nfc_base.specs.TagLinks.{LinkView, Type3, MayAsk, Leads, passed}
use Rattle.air_core.specs.World.{World}
use Rattle.air_core.specs.Turn.{Air, world, moment}
use Rattle.air_core.specs.PlainTags.{plain_kind}
use Rattle.air_core.specs.PlainLinks.{PlainSeen, PlainMoves, Follows, stores_after, plain_view}
use Rattle.air_core.specs.Waits.{waits_next}
use Rattle.air_core.proofs.DueWaits.{due_all}
use Rattle.tag_writer.specs.Law.{last_store}
use Rattle.t3t_tag.specs.Store.{attributes}
use Rattle.t3t_access.specs.declared.fault.T3Fault.{T3Fault}
use Rattle.t3t_access.specs.declared.fault.T3Fault.TheVariants as fault
use Rattle.t3t_access.specs.Answers.{check_of}
use Rattle.t3t_access.specs.Own.{IsTag3, Stays}
use Rattle.t3t_access.specs.OwnWriting.{IsBegun, IsNew, IsPutDue, AsksNoUpdate, AsksUpdates, AsksWrite, AsksOfWrite3, IsWrite3, Writes3, PassesThree}
use Rattle.t3t_access.specs.Reading.{StartTold}
use Rattle.t3t_access.specs.Talk as talk
use Rattle.t3t_access.specs.Writing.{Takes, all_puts, command_at, first_asked, AllDone, Breaks, WriteTold}
use Rattle.t3t_access.proofs.OwnLaw.{head_own}
use Rattle.t3t_access.proofs.OwnWritten.{free_all}
use Rattle.bench_devices.specs.declared.device.Device.{Device}
use Rattle.bench_devices.specs.Device.{air, device_id, device_locks, device_store, device_tech}
use Rattle.bench_devices.specs.Keeping.{ghosts, LeavesDevices, StoreOf}
use Rattle.bench_devices.specs.private.Linking.{IsNew as IsNewSeen}
use Rattle.bench_devices.specs.Threes.{StandsThree, AsksThree, AsksThreeSome, FailsThree, WriteAsksThree, WriteAsksThreeOf, ShowsThreeWrite, ShowsThreeWriteOf, LeavesThree, Write3Law, KeepsWrite3Law}
use Rattle.bench_devices.specs.Threes.{WritesThree, WritesThreeSome, WritesThreeAt, CutThreeWriteAt}
use Rattle.bench_devices.proofs.selected.Alone.{first_there, sound_there, beside_there, named_there}
use Rattle.bench_devices.proofs.kinds.EveryFrame.{going_leaves}
use Rattle.bench_devices.proofs.kinds.ImagesJoin.{images_at, same_going}
use Rattle.bench_devices.proofs.selected.LinkAsked.{asked_whole, asked_front}
use Rattle.bench_devices.proofs.selected.LinkEnds.{LinkEnds}
use Rattle.bench_devices.proofs.selected.NewLinks.{new_is, from_new}
use Rattle.bench_devices.proofs.selected.PlainEnds.{plain_ends, none_before, asked_told}
use Rattle.bench_devices.proofs.reads.ReadingTags.{begun, shows_store}
use Rattle.bench_devices.proofs.finding.SelectingAir.{events_are}
use Rattle.bench_devices.proofs.kinds.StoresFollow.{all_follow, first_follow, last_follow}
use Rattle.bench_devices.proofs.type3.ThreePuts.{ArePutsDue, PutsRest, puts_may, puts_next, puts_rest}
use Rattle.bench_devices.proofs.type3.ThreeReading.{calm_same}
use Rattle.bench_devices.proofs.type3.ThreeTags.{shows_three}
use Rattle.bench_devices.proofs.writes.WriteLists.{front_all}
use Rattle.bench_devices.proofs.type3.ThreeLaw.{End}
use Rattle.tag_writer.proofs.Going.{last_passed}
use Rattle.bench_devices.proofs.writes.WriteTold.{same_behind}

-- the tag told why it takes no message, by its form, or refused an Update
abbrev IsTold : T3Fault → Type 0
IsTold fault.NotNdef = Unit {0}
IsTold fault.Version = Unit {0}
IsTold fault.BadSize = Unit {0}
IsTold (fault.Refused status) = Unit {0}
IsTold e = ⊥

-- The law over stores that follow those that the tag passed.
module _ (message : List ℕ) (locked : List Bool) (a b : LinkView) (stores : List (List ℕ)) (more : List Signal) (leads : Leads a b more)
    (follow : Follows a.state.store stores (passed a.step a.state more)) where
  abbrev old : List ℕ
  old = a.state.store

  last_is : last_store old stores ≡ b.state.store
  last_is = last_follow old stores (passed a.step a.state more) follow ∙ last_passed a.step a.state more ∙ sym leads.store

  all_stay : Stays a b → AllByRecursion (λ s. s ≡ old) (old ∷ stores)
  all_stay s =
      let same : s.more ≡ more = same_behind a.obeyed s.more more (sym s.leads.obeyed ∙ leads.obeyed) in
      (refl, all_follow (λ t. t ≡ old) old stores (passed a.step a.state more) refl (subst (λ cs. AllByRecursion (λ t. t ≡ old) (passed a.step a.state cs)) same s.images) follow)

  left_by : (r : End) → IsWrite3 locked message a b r → LeavesThree message old (old ∷ stores) r
  left_by (Ok x) law = subst (IsNew message old) (sym last_is) law.ok.1
  left_by (Err (fault.Refused status)) law = subst (λ s. (s ≡ old) ⊎ IsBegun message old s) (sym last_is) law.err.left
  left_by (Err fault.NotNdef) law = all_stay law.err.1
  left_by (Err fault.Version) law = all_stay law.err.1
  left_by (Err fault.BadSize) law = all_stay law.err.1
  left_by (Err fault.ReadOnly) law = all_stay law.err.1
  left_by (Err (fault.TooLong most)) law = all_stay law.err.1
  left_by (Err fault.FieldLost) law = tt
  left_by (Err fault.SixBad) law = tt
  left_by (Err fault.Memory) law = tt
  left_by (Err fault.Protocol) law = tt
  left_by (Err fault.Unfinished) law = tt

  three_law : (r : End) → IsWrite3 locked message a b r → Write3Law message old r (old ∷ stores)
  three_law r law =
      let p : PassesThree message a b = law.passes in
      let same : more ≡ p.more = same_behind a.obeyed more p.more (sym leads.obeyed ∙ p.leads.obeyed) in
      let those : Follows old stores (passed a.step a.state p.more) = subst (λ cs. Follows old stores (passed a.step a.state cs)) same follow in
      record {
        three = first_follow (λ s. s ≡ old) (IsBegun message old) (IsNew message old) old stores (passed a.step a.state p.more) p.three.before p.three.during p.three.behind those p.three.joined
            p.three.olds p.three.empties p.three.news;
        leaves = left_by r law;
      }

module _ (a : Air Device) (place : ℕ) (id : List ℕ) (d : Device) (s : StandsThree (moment a) place id d) (message : List ℕ) (q : PlainSeen Device) (m : PlainMoves ghosts (begun a place) q) where
  abbrev from : LinkView
  from = plain_view ghosts (begun a place)

  abbrev to : LinkView
  to = plain_view ghosts q

  abbrev store : List ℕ
  store = device_store d

  abbrev locked : List Bool
  locked = device_locks d

  tag : IsTag3 id locked from
  tag = shows_three a place id d s.stands s.three s.store

  same_store : from.state.store ≡ store
  same_store = shows_store a place d s.stands

  abbrev IsAll : List Signal → Type 0
  IsAll = WriteAsksThreeOf id message d

  abbrev HasRest : List ℕ → Type 0
  HasRest st = (rest : List Signal) × WriteAsksThree id st locked message (m.asked.commands ++ rest)

  abbrev held : List ℕ
  held = from.state.store

  rest_from : (n : ℕ) → ArePutsDue id held locked message n → m.asked.commands ≡ first_asked id (attributes held) message n → HasRest held
  rest_from n due same =
      let r : PutsRest id held locked message n = puts_rest id held locked message n due in
      (r.rest, subst (λ cs. WriteAsksThree id held locked message (cs ++ r.rest)) (sym same) r.asks)

  rest_updates : (r : End) → AsksUpdates id locked message from to r → HasRest held
  rest_updates r u =
      by_front
      (asked_front from to m.asked.commands (none_before a place q m) refl (asked_told a place q m) IsNext (first_asked id (attributes held) message u.count) u.asks.answered (by_last u.asks.last))
    where
      IsNext : Signal → Type 0
      IsNext c = (c ≡ command_at id (attributes held) message u.count) × IsPutDue locked (attributes held) message u.count

      by_last : ((to.last ≡ talk.last_of from.last (first_asked id (attributes held) message u.count)) × (to.over ≡ from.over))
          ⊎ ((to.last ≡ Some (command_at id (attributes held) message u.count)) × IsPutDue locked (attributes held) message u.count)
          → (to.over ≡ from.over) ⊎ ((c : Signal) × (to.last ≡ Some c) × IsNext c)
      by_last (inl l) = inl l.1
      by_last (inr l) = inr (command_at id (attributes held) message u.count, l.0, (refl, l.1))

      by_front : (m.asked.commands ≡ first_asked id (attributes held) message u.count)
          ⊎ ((c : Signal) × IsNext c × (m.asked.commands ≡ first_asked id (attributes held) message u.count ++ c ∷ [])) → HasRest held
      by_front (inl same) = rest_from u.count u.asks.due same
      by_front (inr (c, next, same)) =
          rest_from (suc u.count) (puts_next id held locked message u.count u.asks.due next.1) (same ∙ ap (λ x. first_asked id (attributes held) message u.count ++ x ∷ []) next.0)

  none_due : ArePutsDue id held locked message 0
  none_due k less = absurd (omega (arith, less))

  rest_check : AsksNoUpdate id from to → HasRest held
  rest_check u =
      by_front (asked_front from to m.asked.commands (none_before a place q m) refl (asked_told a place q m) (λ c. c ≡ check_of id 0 1) [] (u.answered ∙ sym (append-nil from.answered))
      (by_last u.last))
    where
      by_last : ((to.last ≡ from.last) × (to.over ≡ from.over)) ⊎ (to.last ≡ Some (check_of id 0 1)) → (to.over ≡ from.over) ⊎ ((c : Signal) × (to.last ≡ Some c) × (c ≡ check_of id 0 1))
      by_last (inl l) = inl l.1
      by_last (inr l) = inr (check_of id 0 1, l, refl)

      by_front : (m.asked.commands ≡ []) ⊎ ((c : Signal) × (c ≡ check_of id 0 1) × (m.asked.commands ≡ c ∷ [])) → HasRest held
      by_front (inl same) =
          let r : PutsRest id held locked message 0 = puts_rest id held locked message 0 none_due in
          (check_of id 0 1 ∷ r.rest, subst (λ cs. WriteAsksThree id held locked message (cs ++ check_of id 0 1 ∷ r.rest)) (sym same) r.asks)
      by_front (inr (c, is, same)) = rest_from 0 none_due (same ∙ ap (λ x. x ∷ []) is)

  left : (r : End) → AsksWrite id locked message from to r → (rest : List Signal) × IsAll (m.asked.commands ++ rest)
  left r (inl u) = subst HasRest same_store (rest_updates r u)
  left r (inr u) = subst HasRest same_store (rest_check u.0)

  -- all of it was asked, where the link isn't over
  all_asked : (r : End) → (u : AsksUpdates id locked message from to r) → (IsPutDue locked (attributes held) message u.count → ⊥) → to.over ≡ None → IsAll m.asked.commands
  all_asked r u none open' =
      subst (λ st. WriteAsksThree id st locked message m.asked.commands) same_store (record {
        count = u.count;
        list = asked_whole from to m.asked.commands (none_before a place q m) refl (asked_told a place q m) (first_asked id (attributes held) message u.count) u.asks.answered open';
        due = u.asks.due;
        last = none;
      })

  -- each command that was asked is one that the tag may be asked
  abbrev MayAskIt : Signal → Type 0
  MayAskIt f = MayAsk (plain_kind (device_tech d)) (device_id d) f

  may_it : (f : Signal) → MayAsk Type3 id f → MayAskIt f
  may_it f may = subst (λ i. MayAsk (plain_kind (device_tech d)) i f) (sym s.three.1) (subst (λ t. MayAsk (plain_kind t) id f) (sym s.three.0) may)

  may_asked : (r : End) → AsksWrite id locked message from to r → AllByRecursion (MayAsk Type3 id) m.asked.commands
  may_asked r u = let rest = left r u in front_all (MayAsk Type3 id) m.asked.commands rest.0 (puts_may id store locked message (m.asked.commands ++ rest.0) rest.1)

  leaves : (r : End) → AsksWrite id locked message from to r → LeavesDevices (StoreOf (device_id d)) (world a) m.asked.going.events (world q.air)
  leaves r u =
      going_leaves (device_id d) (device_tech d) (waits_next m.asked.commands) (moment a) (moment q.air) m.asked.notes (named_there a place d s.stands) (sound_there a place d s.stands)
      (beside_there a place d s.stands) (λ ks f due. may_it f (due_all (MayAsk Type3 id) m.asked.commands (may_asked r u) ks f due)) m.asked.going

  abbrev Does : End → Type 0
  Does r = AsksThree (StoreOf (device_id d)) IsAll (ShowsThreeWriteOf message d) FailsThree (moment a) (moment q.air) r

  ends : (r : End) → AsksWrite id locked message from to r → LinkEnds IsAll (ShowsThreeWriteOf message d) FailsThree from to m.asked.commands Does
      (AsksThreeSome (StoreOf (device_id d)) IsAll (moment a) (moment q.air))
  ends r u =
      plain_ends (StoreOf (device_id d)) IsAll (ShowsThreeWriteOf message d) FailsThree a place (ap (λ (w : World Device). w.lit) s.stands.world) q m (leaves r u)

  law_here : (r : End) → IsWrite3 locked message from to r → KeepsWrite3Law message d r (world a) m.asked.going.events
  law_here r law =
      let es = m.asked.going.events in
      let stores : List (List ℕ) = stores_after ghosts place (world a) es in
      let same : drop (length a.trace) q.air.trace ≡ es = events_are air (moment a) (moment q.air) es m.asked.going.moment in
      let follow : Follows held stores (passed from.step from.state m.obeyed.commands) =
      subst (λ xs. Follows held (stores_after ghosts place (world a) xs) (passed from.step from.state m.obeyed.commands)) same m.obeyed.images in
      let here : Write3Law message held r (held ∷ stores) = three_law message locked from to stores m.obeyed.commands m.obeyed.leads follow r law in
      subst (Write3Law message store r) (ap (λ st. st ∷ stores) (sym same_store) ∙ sym (images_at (device_id d) place (world a) es (first_there a place d s.stands)))
      (subst (λ st. Write3Law message st r (st ∷ stores)) same_store here)

  -- all was answered
  told_all : (r : End) (u : AsksUpdates id locked message from to r) → (IsPutDue locked (attributes held) message u.count → ⊥) → to.over ≡ None → ShowsThreeWriteOf message d r → Does r
  told_all r u none open' shows =
      (ends r (inl u)).all (all_asked r u none open') open' r shows (λ e. subst (ShowsThreeWriteOf message d) e shows) (λ e. subst (ShowsThreeWriteOf message d) e shows)

  -- what is shown of this store
  abbrev ShowsOn : List ℕ → End → Type 0
  ShowsOn st r = ShowsThreeWrite st locked message r

  at_store : (P : List ℕ → Type 0) → P held → P store
  at_store P = subst P same_store

  -- the link wasn't over where the tag told why it takes no message, or refused
  open_start : (e : T3Fault) → IsTold e → StartTold id from to e ⊎ Breaks id from to message e → to.over ≡ None
  open_start fault.NotNdef t (inl h) = h.reads.answered.over
  open_start fault.NotNdef t (inr h) = absurd h.told
  open_start fault.Version t (inl h) = h.reads.answered.over
  open_start fault.Version t (inr h) = absurd h.told
  open_start fault.BadSize t (inl h) = h.reads.answered.over
  open_start fault.BadSize t (inr h) = absurd h.told
  open_start (fault.Refused status) t (inl h) = h.answered.over
  open_start (fault.Refused status) t (inr h) = h.told.answered.over
  open_start fault.FieldLost t h = absurd t
  open_start fault.SixBad t h = absurd t
  open_start fault.Memory t h = absurd t
  open_start fault.Protocol t h = absurd t
  open_start fault.ReadOnly t h = absurd t
  open_start (fault.TooLong most) t h = absurd t
  open_start fault.Unfinished t h = absurd t

  fault_told : (e : T3Fault) → (e ≡ fault.Memory → ⊥) → WriteTold id from to message (Err e) → IsWrite3 locked message from to (Err e) → AsksWrite id locked message from to (Err e) → Does (Err e)
  fault_told fault.NotNdef fed told law (inl u) = told_all (Err fault.NotNdef) u u.whole (open_start fault.NotNdef tt told) (at_store (λ st. ShowsOn st (Err fault.NotNdef)) law.err.0)
  fault_told fault.NotNdef fed told law (inr u) = absurd u.1
  fault_told fault.Version fed told law (inl u) = told_all (Err fault.Version) u u.whole (open_start fault.Version tt told) (at_store (λ st. ShowsOn st (Err fault.Version)) law.err.0)
  fault_told fault.Version fed told law (inr u) = absurd u.1
  fault_told fault.BadSize fed told law (inl u) = told_all (Err fault.BadSize) u u.whole (open_start fault.BadSize tt told) (at_store (λ st. ShowsOn st (Err fault.BadSize)) law.err.0)
  fault_told fault.BadSize fed told law (inr u) = absurd u.1
  fault_told (fault.Refused status) fed told law (inl u) =
      told_all (Err (fault.Refused status)) u u.whole (open_start (fault.Refused status) tt told)
      (at_store (λ st. ShowsOn st (Err (fault.Refused status))) (law.err.status', law.err.takes, law.err.number, law.err.some, law.err.locked'))
  fault_told (fault.Refused status) fed told law (inr u) = absurd u.1
  fault_told fault.ReadOnly fed told law (inl u) = told_all (Err fault.ReadOnly) u u.whole told.reads.answered.over (at_store (λ st. ShowsOn st (Err fault.ReadOnly)) law.err.0)
  fault_told fault.ReadOnly fed told law (inr u) = absurd u.1
  fault_told (fault.TooLong most) fed told law (inl u) = told_all (Err (fault.TooLong most)) u u.whole told.reads.answered.over (at_store (λ st. ShowsOn st (Err (fault.TooLong most))) law.err.0)
  fault_told (fault.TooLong most) fed told law (inr u) = absurd u.1
  fault_told fault.FieldLost fed told law u = let rest = left (Err fault.FieldLost) u in (ends (Err fault.FieldLost) u).lost rest.0 rest.1 law.err.0 (Err fault.FieldLost) refl (λ e. absurd cc)
  fault_told fault.SixBad fed told law u =
      let rest = left (Err fault.SixBad) u in
      (ends (Err fault.SixBad) u).six rest.0 rest.1 law.err.0 (λ calm. law.calm (calm_same from to calm)) (Err fault.SixBad) refl (λ e. absurd cc)
  fault_told fault.Memory fed told law u = absurd (fed refl)
  fault_told fault.Protocol fed told law u = absurd ((ends (Err fault.Protocol) u).odd law.err.0)
  fault_told fault.Unfinished fed told law u = absurd law.err

  -- whatever the writing came to
  done_told : WriteTold id from to message (Ok tt) → IsWrite3 locked message from to (Ok tt) → AsksWrite id locked message from to (Ok tt) → Does (Ok tt)
  done_told told law (inr u) = absurd u.1
  done_told told law (inl u) =
      let own : List ℕ = attributes held in
      let same : told.block ≡ own = sym told.writes.reads.head ∙ head_own id locked from tag told.block 0 told.block told.writes.reads.brought in
      let takes : Takes own message = subst (λ x. Takes x message) same told.writes.takes in
      let all : AllDone id from own message (all_puts message) = subst (λ x. AllDone id from x message (all_puts message)) same told.writes.done' in
      told_all (Ok tt) u u.whole told.writes.answered.over
      (at_store (λ st. ShowsOn st (Ok tt)) (takes, λ k less. free_all id locked from tag message takes (all_puts message) all k less))

  does : (r : End) → (r ≡ Err fault.Memory → ⊥) → WriteTold id from to message r → IsWrite3 locked message from to r → AsksWrite id locked message from to r → Does r
  does (Ok x) fed told law u = done_told told law u
  does (Err e) fed told law u = fault_told e (λ m'. fed (ap Err m')) told law u

  pub writes : (r : End) → (r ≡ Err fault.Memory → ⊥) → WriteTold id from to message r → IsWrite3 locked message from to r → AsksWrite id locked message from to r
      → WritesThree id (moment a) (moment q.air) d message r
  writes r fed told law u =
      let done' = does r fed told law u in
      record { told = done'; law = subst (KeepsWrite3Law message d r (world a)) (same_going (moment a) (moment q.air) m.asked.going done'.asked.going) (law_here r law) }

  pub writes_some : (r : End) → r ≡ Err fault.Memory → IsWrite3 locked message from to r → AsksWrite id locked message from to r → WritesThreeSome id (moment a) (moment q.air) d message
  writes_some r starved law u =
      let is : IsWrite3 locked message from to (Err fault.Memory) = subst (IsWrite3 locked message from to) starved law in
      let asks : AsksWrite id locked message from to (Err fault.Memory) = subst (AsksWrite id locked message from to) starved u in
      let rest = left (Err fault.Memory) asks in
      let some = (ends (Err fault.Memory) asks).some rest.0 rest.1 (inr is.err.0) in
      record { told = some; law = subst (KeepsWrite3Law message d (Err fault.Memory) (world a)) (same_going (moment a) (moment q.air) m.asked.going some.asked.going) (law_here (Err fault.Memory) is) }

-- on the link that is new
module _ (p : PlainSeen Device) (is : IsNewSeen p) (id message : List ℕ) (q : PlainSeen Device) (moves : PlainMoves ghosts p q) (r : End)
    (told : WriteTold id (plain_view ghosts p) (plain_view ghosts q) message r)
    (law : Writes3 id message (plain_view ghosts p) (plain_view ghosts q) r) (asks : AsksOfWrite3 id message (plain_view ghosts p) (plain_view ghosts q) r) where
  from_here : (P : LinkView → Type 0) → P (plain_view ghosts p) → P (plain_view ghosts (begun p.air p.place))
  from_here P = subst (λ x. P (plain_view ghosts x)) (sym (new_is p is))

  tag_here : (d : Device) → StandsThree (moment p.air) p.place id d → IsTag3 id (device_locks d) (plain_view ghosts p)
  tag_here d s = subst (λ x. IsTag3 id (device_locks d) (plain_view ghosts x)) (new_is p is) (shows_three p.air p.place id d s.stands s.three s.store)

  law_new : (d : Device) → StandsThree (moment p.air) p.place id d → IsWrite3 (device_locks d) message (plain_view ghosts (begun p.air p.place)) (plain_view ghosts q) r
  law_new d s = from_here (λ v. IsWrite3 (device_locks d) message v (plain_view ghosts q) r) (law (device_locks d) (tag_here d s))

  asks_new : (d : Device) → StandsThree (moment p.air) p.place id d → AsksWrite id (device_locks d) message (plain_view ghosts (begun p.air p.place)) (plain_view ghosts q) r
  asks_new d s = from_here (λ v. AsksWrite id (device_locks d) message v (plain_view ghosts q) r) (asks (device_locks d) (tag_here d s))

  pub ends_written : WritesThreeAt id (moment p.air) (moment q.air) p.place message r
  ends_written fed d s =
      writes p.air p.place id d s message q (from_new p is q moves) r fed (from_here (λ v. WriteTold id v (plain_view ghosts q) message r) told) (law_new d s) (asks_new d s)

  pub ends_write_cut : CutThreeWriteAt id (moment p.air) (moment q.air) p.place message r
  ends_write_cut starved d s = writes_some p.air p.place id d s message q (from_new p is q moves) r starved (law_new d s) (asks_new d s)
