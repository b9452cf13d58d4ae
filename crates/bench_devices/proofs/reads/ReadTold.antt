-- What a read of a device tells, by the views of a link to it.
use Rattle.std.proofs.Common.{◌≡◌, inl, inr, ℕ, List, [], ◌++◌, true, None, refl, sym, ap, subst}
use Rattle.std.specs.Prelude.{Result, Ok, Err, IfOk, IfErr}
use Rattle.nfc_base.specs.Signal.{Signal}
use Rattle.nfc_base.specs.TagLinks.{LinkView}
use Rattle.air_core.specs.PlainLinks.{unanswered}
use Rattle.tag_reader.specs.declared.fault.ReadFault.{ReadFault}
use Rattle.tag_reader.specs.declared.fault.ReadFault.TheVariants as faults
use Rattle.tag_reader.specs.declared.found.Found.{Found}
use Rattle.tag_reader.specs.declared.how.How.{How}
use Rattle.tag_reader.specs.Asked.{ToRead, IsAsked}
use Rattle.tag_reader.specs.Calls.{HasAsked, HasAskedAll, GoesOn}
use Rattle.tag_reader.specs.Reading.{IsFound, IsReadFault, OnTold, is_told, IsCalm, IsToldOrMemory}
use Rattle.bench_devices.specs.declared.device.Device.{Device}
use Rattle.bench_devices.specs.Device.{device_store, how_of, size_of}
use Rattle.bench_devices.specs.Reading.{AsksOf, ShowsOf}
use Rattle.bench_devices.specs.Phases.{FailsRead}
use Rattle.bench_devices.proofs.selected.LinkAsked.{AskedSome, left_of, asked_whole, asked_some}
use Rattle.bench_devices.proofs.selected.LinkEnds.{LinkEnds}

-- what a reader tells of a read from one view to another
pub record IsRead (how : How) (size : ℕ) (a b : LinkView) (r : Result Found ReadFault) : Type 0 where
  pub order : HasAsked how size a.state.store a b
  pub all : OnTold r (HasAskedAll how size a.state.store a b)
  pub goes_on : OnTold r (GoesOn a b)
  pub ok : IfOk r (IsFound how size a.state.store)
  pub err : IfErr r (IsReadFault how size a.state.store a b)
  pub calm : IsCalm a b → IfErr r IsToldOrMemory

never_told : IsToldOrMemory faults.SixBad → ⊥
never_told (inl told) = cc
never_told (inr memory) = cc

-- Nothing was answered before on a link, which wasn't over; of a device that holds what it shows.
module _ (d : Device) (some : (xs : List Signal) × AsksOf d xs) (from to : LinkView) (store : from.state.store ≡ device_store d) (asked : List Signal) (none : from.answered ≡ [])
    (begun : from.over ≡ None) (told : to.answered ++ unanswered to.over to.last ≡ asked) where
  abbrev pub SomeOf : List ℕ → Type 0
  SomeOf held = AskedSome ToRead (how_of d) (size_of d) held asked

  pub read_some : HasAsked (how_of d) (size_of d) from.state.store from to → SomeOf (device_store d)
  read_some h = subst SomeOf store (asked_some from to asked none begun told ToRead (how_of d) (size_of d) from.state.store h)

  pub read_left : HasAsked (how_of d) (size_of d) from.state.store from to → (rest : List Signal) × AsksOf d (asked ++ rest)
  read_left h =
      let left = left_of ToRead (how_of d) (size_of d) (device_store d) asked some.0 (read_some h) some.1 in
      (left.0, subst (AsksOf d) left.1 some.1)

  read_whole : HasAskedAll (how_of d) (size_of d) from.state.store from to → to.over ≡ None → AsksOf d asked
  read_whole all open' =
      subst (AsksOf d) (sym (asked_whole from to asked none begun told all.commands all.answered open'))
      (subst (λ xs. IsAsked (how_of d) (size_of d) xs all.commands) store all.all)

  module _ {Does : Result Found ReadFault → Type 0} {DoesSome : Type 0} (ends : LinkEnds (AsksOf d) (ShowsOf d) FailsRead from to asked Does DoesSome) where
    -- all was answered
    told_all : (r : Result Found ReadFault) → HasAskedAll (how_of d) (size_of d) from.state.store from to → GoesOn from to → ShowsOf d r → Does r
    told_all r all goes shows = ends.all (read_whole all goes.over) goes.over r shows (λ e. subst (ShowsOf d) e shows) (λ e. subst (ShowsOf d) e shows)

    told_fault : (fault : ReadFault) → (fault ≡ faults.Memory → ⊥) → HasAsked (how_of d) (size_of d) from.state.store from to
        → (is_told fault ≡ true → HasAskedAll (how_of d) (size_of d) from.state.store from to) → (is_told fault ≡ true → GoesOn from to) → (IsCalm from to → IsToldOrMemory fault)
        → IsReadFault (how_of d) (size_of d) (device_store d) from to fault → Does (Err fault)
    told_fault faults.NotNdef fed h all goes calm is = told_all (Err faults.NotNdef) (all refl) (goes refl) is
    told_fault faults.Version fed h all goes calm is = told_all (Err faults.Version) (all refl) (goes refl) is
    told_fault faults.NoRead fed h all goes calm is = told_all (Err faults.NoRead) (all refl) (goes refl) is
    told_fault faults.Sectors fed h all goes calm is = told_all (Err faults.Sectors) (all refl) (goes refl) is
    told_fault faults.BadSize fed h all goes calm is = told_all (Err faults.BadSize) (all refl) (goes refl) is
    told_fault faults.NoMessageTlv fed h all goes calm is = told_all (Err faults.NoMessageTlv) (all refl) (goes refl) is
    told_fault faults.BadTlv fed h all goes calm is = told_all (Err faults.BadTlv) (all refl) (goes refl) is
    told_fault (faults.Refused code) fed h all goes calm is = absurd is
    told_fault faults.FieldLost fed h all goes calm is = let left = read_left h in ends.lost left.0 left.1 is.0 (Err faults.FieldLost) refl (λ e. absurd cc)
    told_fault faults.SixBad fed h all goes calm is =
        let left = read_left h in ends.six left.0 left.1 is.0 (λ still. never_told (calm still)) (Err faults.SixBad) refl (λ e. absurd cc)
    told_fault faults.Memory fed h all goes calm is = absurd (fed refl)
    told_fault faults.Protocol fed h all goes calm is = absurd (ends.odd is.0)

    -- whatever the reading came to
    pub read_does : (r : Result Found ReadFault) → (r ≡ Err faults.Memory → ⊥) → IsRead (how_of d) (size_of d) from to r → Does r
    read_does (Ok found) fed t = told_all (Ok found) t.all t.goes_on (subst (λ xs. IsFound (how_of d) (size_of d) xs found) store t.ok)
    read_does (Err fault) fed t =
        told_fault fault (λ m. fed (ap Err m)) t.order t.all t.goes_on t.calm (subst (λ xs. IsReadFault (how_of d) (size_of d) xs from to fault) store t.err)

    pub read_does_some : (r : Result Found ReadFault) → r ≡ Err faults.Memory → IsRead (how_of d) (size_of d) from to r → DoesSome
    read_does_some (Ok found) starved t = absurd cc
    read_does_some (Err fault) starved t =
        let left = read_left t.order in
        let memory : fault ≡ faults.Memory = cc in
        ends.some left.0 left.1 (elim (subst (IsReadFault (how_of d) (size_of d) from.state.store from to) memory t.err) [ inl own ↦ inl own | inr by ↦ inr by.0 ])
