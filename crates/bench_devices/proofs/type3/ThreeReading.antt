-- What a read of the selected Type 3 tag comes to, by what its link did.
use Rattle.std.proofs.Common.{◌≡◌, ◌⊎◌, inl, inr, ℕ, suc, List, [], ◌∷◌, ◌++◌, map, Some, None, Result, Ok, Err, refl, sym, ◌∙◌, ap, subst}
use Rattle.nfc_base.specs.Signal.{Signal}
use Rattle.nfc_base.specs.TagLinks.{LinkView}
use Rattle.air_core.specs.World.{World}
use Rattle.air_core.specs.Turn.{Air, moment}
use Rattle.air_core.specs.Conversation.{Asks}
use Rattle.air_core.specs.PlainLinks.{PlainSeen, PlainMoves, plain_view}
use Rattle.air_core.specs.Waits.{waits_next}
use Rattle.tag_reader.specs.Reading.{IsCalm}
use Rattle.t3t_tag.specs.Store.{attributes}
use Rattle.t3t_access.specs.declared.fault.T3Fault.{T3Fault}
use Rattle.t3t_access.specs.declared.fault.T3Fault.TheVariants as fault
use Rattle.t3t_access.specs.declared.found.Found3.{Found3}
use Rattle.t3t_access.specs.Own.{IsTag3, IsRead3, AsksInOrder, Asks3, AsksOf3, Reads3}
use Rattle.t3t_access.specs.Reading.{check_at, first_checks, IsDue, ReadTold}
use Rattle.t3t_access.specs.Talk as talk
use Rattle.bench_devices.specs.declared.device.Device.{Device}
use Rattle.bench_devices.specs.Device.{device_locks, device_store}
use Rattle.bench_devices.specs.Keeping.{kept, ghosts, NoStore}
use Rattle.bench_devices.specs.private.Linking.{IsNew}
use Rattle.bench_devices.specs.Threes.{StandsThree, AsksThreeSome, FailsThree, ReadAsksThree, ShowsThree, ReadsThree, ReadsThreeAt, CutThreeAt}
use Rattle.bench_devices.proofs.selected.LinkAsked.{asked_whole, asked_front}
use Rattle.bench_devices.proofs.selected.LinkEnds.{LinkEnds}
use Rattle.bench_devices.proofs.selected.NewLinks.{new_is, from_new}
use Rattle.bench_devices.proofs.selected.PlainEnds.{plain_ends, none_before, asked_told}
use Rattle.bench_devices.proofs.reads.ReadingTags.{begun, shows_store}
use Rattle.bench_devices.proofs.finding.SelectingKept.{going_keeps}
use Rattle.bench_devices.proofs.type3.ThreeLists.{AreDue, Rest, due_next, rest_of, reading_harmless}
use Rattle.bench_devices.proofs.type3.ThreeTags.{shows_three}

-- the calm of the two readers is one
pub calm_same : (a b : LinkView) → IsCalm a b → talk.IsCalm a b
calm_same a b c = record { begun = c.begun; lit = c.lit; calm = c.calm }

module _ (a : Air Device) (place : ℕ) (id : List ℕ) (d : Device) (s : StandsThree (moment a) place id d) (q : PlainSeen Device) (m : PlainMoves ghosts (begun a place) q) where
  abbrev from : LinkView
  from = plain_view ghosts (begun a place)

  abbrev to : LinkView
  to = plain_view ghosts q

  abbrev store : List ℕ
  store = device_store d

  same_store : from.state.store ≡ store
  same_store = shows_store a place d s.stands

  -- what was asked is the first of what is asked
  abbrev First : List ℕ → Type 0
  First st = (n : ℕ) × (m.asked.commands ≡ first_checks id (attributes st) n) × AreDue (attributes st) n

  asked_first : (n : ℕ) → AsksInOrder id from to n → First store
  asked_first n h =
      subst First same_store
      (by_front (asked_front from to m.asked.commands (none_before a place q m) refl (asked_told a place q m) IsNext (first_checks id own n) h.answered (by_last h.last)))
    where
      own : List ℕ
      own = attributes from.state.store

      IsNext : Signal → Type 0
      IsNext c = (c ≡ check_at id own n) × IsDue own n

      by_last : ((to.last ≡ talk.last_of from.last (first_checks id own n)) × (to.over ≡ from.over)) ⊎ ((to.last ≡ Some (check_at id own n)) × IsDue own n)
          → (to.over ≡ from.over) ⊎ ((c : Signal) × (to.last ≡ Some c) × IsNext c)
      by_last (inl l) = inl l.1
      by_last (inr l) = inr (check_at id own n, l.0, (refl, l.1))

      by_front : (m.asked.commands ≡ first_checks id own n) ⊎ ((c : Signal) × IsNext c × (m.asked.commands ≡ first_checks id own n ++ c ∷ [])) → First from.state.store
      by_front (inl same) = (n, same, h.due)
      by_front (inr (c, next, same)) = (suc n, same ∙ ap (λ x. first_checks id own n ++ x ∷ []) next.0, due_next own n h.due next.1)

  abbrev IsAll : List Signal → Type 0
  IsAll = ReadAsksThree id store

  left : First store → (rest : List Signal) × IsAll (m.asked.commands ++ rest)
  left f = let r : Rest id store f.0 = rest_of id store s.store f.0 f.2 in (r.rest, subst (λ cs. IsAll (cs ++ r.rest)) (sym f.1) r.asks)

  -- all of it was asked, where the link isn't over
  all_asked : (n : ℕ) → AsksInOrder id from to n → (IsDue (attributes from.state.store) n → ⊥) → to.over ≡ None → IsAll m.asked.commands
  all_asked n h none open' =
      subst (λ st. ReadAsksThree id st m.asked.commands) same_store (record {
        count = n;
        list = asked_whole from to m.asked.commands (none_before a place q m) refl (asked_told a place q m) (first_checks id (attributes from.state.store) n) h.answered open';
        due = h.due;
        last = none;
      })

  same_devices : First store → map kept q.air.listeners ≡ map kept a.listeners
  same_devices f =
      going_keeps (waits_next m.asked.commands) (moment a) (moment q.air) m.asked.notes
      (λ ns g due. reading_harmless id (attributes store) f.0 ns g (subst (λ cs. waits_next cs ns ≡ Asks g) f.1 due)) m.asked.going

  ends : First store → LinkEnds IsAll (ShowsThree store) FailsThree from to m.asked.commands (λ r. ReadsThree id (moment a) (moment q.air) d r) (AsksThreeSome NoStore IsAll (moment a) (moment q.air))
  ends f = plain_ends NoStore IsAll (ShowsThree store) FailsThree a place (ap (λ (w : World Device). w.lit) s.stands.world) q m (same_devices f)

  module _ (r : Result Found3 T3Fault) where
    -- all was answered
    told_all : (n : ℕ) → AsksInOrder id from to n → (IsDue (attributes from.state.store) n → ⊥) → to.over ≡ None → ShowsThree store r → ReadsThree id (moment a) (moment q.air) d r
    told_all n h none open' shows =
        (ends (asked_first n h)).all (all_asked n h none open') open' r shows (λ e. subst (ShowsThree store) e shows) (λ e. subst (ShowsThree store) e shows)

  fault_told : (e : T3Fault) → (e ≡ fault.Memory → ⊥) → ReadTold id from to (Err e) → IsRead3 from to (Err e) → Asks3 id from to (Err e) → ReadsThree id (moment a) (moment q.air) d (Err e)
  fault_told fault.NotNdef fed told law h = told_all (Err fault.NotNdef) h.count h.asks h.whole told.reads.answered.over (subst (λ st. ShowsThree st (Err fault.NotNdef)) same_store law.err)
  fault_told fault.Version fed told law h = told_all (Err fault.Version) h.count h.asks h.whole told.reads.answered.over (subst (λ st. ShowsThree st (Err fault.Version)) same_store law.err)
  fault_told fault.BadSize fed told law h = told_all (Err fault.BadSize) h.count h.asks h.whole told.reads.answered.over (subst (λ st. ShowsThree st (Err fault.BadSize)) same_store law.err)
  fault_told fault.Unfinished fed told law h = told_all (Err fault.Unfinished) h.count h.asks h.whole told.reads.answered.over (subst (λ st. ShowsThree st (Err fault.Unfinished)) same_store law.err)
  fault_told (fault.Refused status) fed told law h = absurd law.err
  fault_told fault.FieldLost fed told law h =
      let f = asked_first h.count h.asks in let rest = left f in (ends f).lost rest.0 rest.1 law.err.0 (Err fault.FieldLost) refl (λ e. absurd cc)
  fault_told fault.SixBad fed told law h =
      let f = asked_first h.count h.asks in let rest = left f in
      (ends f).six rest.0 rest.1 law.err.0 (λ calm. law.calm (calm_same from to calm)) (Err fault.SixBad) refl (λ e. absurd cc)
  fault_told fault.Memory fed told law h = absurd (fed refl)
  fault_told fault.Protocol fed told law h = absurd ((ends (asked_first h.count h.asks)).odd law.err.0)
  fault_told fault.ReadOnly fed told law h = absurd law.err
  fault_told (fault.TooLong most) fed told law h = absurd law.err

  -- whatever the reading came to
  pub reads : (r : Result Found3 T3Fault) → (r ≡ Err fault.Memory → ⊥) → ReadTold id from to r → IsRead3 from to r → Asks3 id from to r → ReadsThree id (moment a) (moment q.air) d r
  reads (Ok found) fed told law h =
      told_all (Ok found) h.count h.asks h.whole told.reads.answered.over (subst (λ st. ShowsThree st (Ok found)) same_store law.ok)
  reads (Err e) fed told law h = fault_told e (λ m'. fed (ap Err m')) told law h

  pub reads_some : (r : Result Found3 T3Fault) → r ≡ Err fault.Memory → IsRead3 from to r → Asks3 id from to r → AsksThreeSome NoStore IsAll (moment a) (moment q.air)
  reads_some r starved law h =
      let f = asked_first h.count h.asks in
      let rest = left f in
      let is : IsRead3 from to (Err fault.Memory) = subst (IsRead3 from to) starved law in
      (ends f).some rest.0 rest.1 (elim is.err [ inl own ↦ inl own | inr by ↦ inr by.0 ])

-- on the link that is new
module _ (p : PlainSeen Device) (is : IsNew p) (id : List ℕ) (q : PlainSeen Device) (moves : PlainMoves ghosts p q) (r : Result Found3 T3Fault)
    (told : ReadTold id (plain_view ghosts p) (plain_view ghosts q) r)
    (law : Reads3 id (plain_view ghosts p) (plain_view ghosts q) r) (asks : AsksOf3 id (plain_view ghosts p) (plain_view ghosts q) r) where
  abbrev here : (LinkView → Type 0) → Type 0
  here P = P (plain_view ghosts p) → P (plain_view ghosts (begun p.air p.place))

  from_here : (P : LinkView → Type 0) → here P
  from_here P = subst (λ x. P (plain_view ghosts x)) (sym (new_is p is))

  tag_here : (d : Device) → StandsThree (moment p.air) p.place id d → IsTag3 id (device_locks d) (plain_view ghosts p)
  tag_here d s = subst (λ x. IsTag3 id (device_locks d) (plain_view ghosts x)) (new_is p is) (shows_three p.air p.place id d s.stands s.three s.store)

  law_here : (d : Device) → StandsThree (moment p.air) p.place id d → IsRead3 (plain_view ghosts (begun p.air p.place)) (plain_view ghosts q) r
  law_here d s = from_here (λ v. IsRead3 v (plain_view ghosts q) r) (law (device_locks d) (tag_here d s))

  asks_here : (d : Device) → StandsThree (moment p.air) p.place id d → Asks3 id (plain_view ghosts (begun p.air p.place)) (plain_view ghosts q) r
  asks_here d s = from_here (λ v. Asks3 id v (plain_view ghosts q) r) (asks (device_locks d) (tag_here d s))

  pub ends_read : ReadsThreeAt id (moment p.air) (moment q.air) p.place r
  ends_read fed d s = reads p.air p.place id d s q (from_new p is q moves) r fed (from_here (λ v. ReadTold id v (plain_view ghosts q) r) told) (law_here d s) (asks_here d s)

  pub ends_cut : CutThreeAt id (moment p.air) (moment q.air) p.place r
  ends_cut starved d s = reads_some p.air p.place id d s q (from_new p is q moves) r starved (law_here d s) (asks_here d s)
