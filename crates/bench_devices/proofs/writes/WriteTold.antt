-- What a write of a device tells, and what its stores are meanwhile, by the views of a link to it.
use Rattle.std.proofs.Common.{◌≡◌, ◌⊎◌, inl, inr, ℕ, List, [], ◌∷◌, ◌++◌, true, Some, None, refl, sym, ◌∙◌, ap, subst, append_assoc}
use Rattle.std.specs.Prelude.{Ok, Err, OnOk, IfErr}
use Rattle.nfc_base.specs.Signal.{Signal}
use Rattle.nfc_base.specs.TagLinks.{TagState, TagStep, LinkView, Leads, passed, plain_state}
use Rattle.air_core.specs.PlainLinks.{unanswered, Follows}
use Rattle.tag_reader.specs.declared.how.How.{How}
use Rattle.tag_reader.specs.Asked.{ToWrite}
use Rattle.tag_reader.specs.Calls.{HasSurveyed, GoesOn}
use Rattle.tag_reader.specs.Reading.{IsCalm}
use Rattle.tag_writer.specs.declared.fault.WriteFault.{WriteFault}
use Rattle.tag_writer.specs.declared.fault.WriteFault.TheVariants as faults
use Rattle.tag_writer.specs.Faults.{IsWriteFault, IsToldOrMemory, OnTold, is_told, ending_of}
use Rattle.tag_writer.specs.Law.{WriteLaw}
use Rattle.tag_writer.specs.Puts.{commands_of}
use Rattle.tag_writer.specs.WriteAsked.{IsWriteAsked, up_to_refused, all_puts, last_command}
use Rattle.tag_writer.specs.WriteAsked as writer
use Rattle.tag_writer.specs.Writing.{Keeps, HasWritten, HasWrittenAll, HasBegun, HasSucceeded}
use Rattle.tag_reader.specs.Survey.{surveyed}
use Rattle.bench_devices.specs.declared.device.Device.{Device}
use Rattle.bench_devices.specs.Device.{device_store, device_commands, how_of, size_of}
use Rattle.bench_devices.specs.Writing.{AsksWriteOf, ShowsWrite}
use Rattle.bench_devices.specs.Phases.{WriteEnd, FailsWrite}
use Rattle.bench_devices.proofs.selected.LinkAsked.{AskedSome, left_of, asked_whole, asked_front, asked_some}
use Rattle.bench_devices.proofs.selected.LinkEnds.{LinkEnds}
use Rattle.bench_devices.proofs.kinds.StoresFollow.{law_follow}

-- what a writer tells of a write from one view to another
pub record IsWritten (how : How) (size : ℕ) (message : List ℕ) (a b : LinkView) (r : WriteEnd) : Type 0 where
  pub keeps : Keeps how size message (ending_of r) a b
  pub order : HasWritten how size message a b
  pub all : OnTold r (HasWrittenAll how size message a b)
  pub goes_on : OnTold r (GoesOn a b)
  pub ok : OnOk r (HasSucceeded how size message a b)
  pub err : IfErr r (IsWriteFault how size message a b)
  pub calm : IsCalm a b → IfErr r IsToldOrMemory

never_told : IsToldOrMemory faults.SixBad → ⊥
never_told (inl told) = cc
never_told (inr memory) = cc

pub same_behind : {A : Type 0} (xs ys zs : List A) → xs ++ ys ≡ xs ++ zs → ys ≡ zs
same_behind [] ys zs e = e
same_behind (x ∷ xs) ys zs e = same_behind xs ys zs (let k : xs ++ ys ≡ xs ++ zs = cc in k)

-- Nothing was answered before on a link, which wasn't over; of a device that it shows, of which nothing is selected.
module _ (message : List ℕ) (d : Device) (some : (xs : List Signal) × AsksWriteOf message d xs) (from to : LinkView) (step : from.step ≡ device_commands d)
    (state : from.state ≡ plain_state (device_store d)) (asked : List Signal) (none : from.answered ≡ []) (begun : from.over ≡ None)
    (told : to.answered ++ unanswered to.over to.last ≡ asked) where
  here : (P : (TagState → Signal → TagStep) → TagState → Type 0) → P from.step from.state → P (device_commands d) (plain_state (device_store d))
  here P p = subst (λ s. P (device_commands d) s) state (subst (λ g. P g from.state) step p)

  store : from.state.store ≡ device_store d
  store = ap (λ s. s.store) state

  all_here : (commands : List Signal) → IsWriteAsked (how_of d) (size_of d) from.step from.state message commands → AsksWriteOf message d commands
  all_here commands is = here (λ g s. IsWriteAsked (how_of d) (size_of d) g s message commands) is

  write_whole : HasWrittenAll (how_of d) (size_of d) message from to → to.over ≡ None → AsksWriteOf message d asked
  write_whole all open' = subst (AsksWriteOf message d) (sym (asked_whole from to asked none begun told all.commands all.answered open')) (all_here all.commands all.asked)

  -- what was asked of it, while it is surveyed and behind that, is the first of all
  abbrev SomeOf : TagState → Type 0
  SomeOf s = AskedSome ToWrite (how_of d) (size_of d) s.store asked

  survey_left : HasSurveyed (how_of d) (size_of d) from.state.store from to → (rest : List Signal) × AsksWriteOf message d (asked ++ rest)
  survey_left h =
      let is : AsksWriteOf message d some.0 = some.1 in
      let behind : List Signal = up_to_refused (how_of d) (device_commands d) (surveyed (how_of d) (plain_state (device_store d))) (commands_of (all_puts is.parts)) in
      let front : SomeOf (plain_state (device_store d)) = subst SomeOf state (asked_some from to asked none begun told ToWrite (how_of d) (size_of d) from.state.store h) in
      let left = left_of ToWrite (how_of d) (size_of d) (device_store d) asked is.read front is.all in
      (left.0 ++ behind, subst (AsksWriteOf message d) (is.list ∙ ap (λ xs. xs ++ behind) left.1 ∙ append_assoc asked left.0 behind) is)

  abbrev IsNext : List Signal → Signal → Type 0
  IsNext rest c = (later : List Signal) × (rest ≡ c ∷ later)

  begun_left : HasBegun (how_of d) (size_of d) message from to → (rest : List Signal) × AsksWriteOf message d (asked ++ rest)
  begun_left b = by_front (asked_front from to asked none begun told (IsNext b.has.rest) b.has.asked b.has.answered (by_last b.has.last))
    where
      by_last : ((to.last ≡ last_command from.last b.has.asked) × (to.over ≡ from.over)) ⊎ ((c : Signal) × (later : List Signal) × (b.has.rest ≡ c ∷ later) × (to.last ≡ Some c))
          → (to.over ≡ from.over) ⊎ ((c : Signal) × (to.last ≡ Some c) × IsNext b.has.rest c)
      by_last (inl (last, open')) = inl open'
      by_last (inr (c, later, rest, last)) = inr (c, last, (later, rest))

      by_front : (asked ≡ b.has.asked) ⊎ ((c : Signal) × IsNext b.has.rest c × (asked ≡ b.has.asked ++ c ∷ [])) → (rest : List Signal) × AsksWriteOf message d (asked ++ rest)
      by_front (inl same) = (b.has.rest, subst (AsksWriteOf message d) (b.has.split ∙ ap (λ xs. xs ++ b.has.rest) (sym same)) (all_here b.commands b.asked))
      by_front (inr (c, next, same)) = (
        next.0,
        subst (AsksWriteOf message d)
            (b.has.split ∙ ap (λ xs. b.has.asked ++ xs) next.1 ∙ sym (append_assoc b.has.asked (c ∷ []) next.0) ∙ ap (λ xs. xs ++ next.0) (sym same))
            (all_here b.commands b.asked),
      )

  pub write_left : HasWritten (how_of d) (size_of d) message from to → (rest : List Signal) × AsksWriteOf message d (asked ++ rest)
  write_left (inl h) = survey_left h
  write_left (inr b) = begun_left b

  module _ {Does : WriteEnd → Type 0} {DoesSome : Type 0} (ends : LinkEnds (AsksWriteOf message d) (ShowsWrite message d) FailsWrite from to asked Does DoesSome) where
    abbrev Causes : WriteFault → (TagState → Signal → TagStep) → TagState → Type 0
    Causes fault g s = IsWriteFault (how_of d) (size_of d) message (record from { step = g; state = s }) to fault

    -- all was answered
    told_all : (r : WriteEnd) → HasWrittenAll (how_of d) (size_of d) message from to → GoesOn from to → ShowsWrite message d r → Does r
    told_all r all goes shows =
        ends.all (write_whole all goes.over) goes.over r shows (λ e. subst (ShowsWrite message d) e shows) (λ e. subst (ShowsWrite message d) e shows)

    told_fault : (fault : WriteFault) → (fault ≡ faults.Memory → ⊥) → HasWritten (how_of d) (size_of d) message from to
        → (is_told fault ≡ true → HasWrittenAll (how_of d) (size_of d) message from to) → (is_told fault ≡ true → GoesOn from to) → (IsCalm from to → IsToldOrMemory fault)
        → IsWriteFault (how_of d) (size_of d) message from to fault → Does (Err fault)
    told_fault faults.NotNdef fed h all goes calm is = told_all (Err faults.NotNdef) (all refl) (goes refl) (here (Causes faults.NotNdef) is)
    told_fault faults.Version fed h all goes calm is = told_all (Err faults.Version) (all refl) (goes refl) (here (Causes faults.Version) is)
    told_fault faults.NoRead fed h all goes calm is = told_all (Err faults.NoRead) (all refl) (goes refl) (here (Causes faults.NoRead) is)
    told_fault faults.Sectors fed h all goes calm is = told_all (Err faults.Sectors) (all refl) (goes refl) (here (Causes faults.Sectors) is)
    told_fault faults.BadSize fed h all goes calm is = told_all (Err faults.BadSize) (all refl) (goes refl) (here (Causes faults.BadSize) is)
    told_fault faults.NoMessageTlv fed h all goes calm is = told_all (Err faults.NoMessageTlv) (all refl) (goes refl) (here (Causes faults.NoMessageTlv) is)
    told_fault faults.BadTlv fed h all goes calm is = told_all (Err faults.BadTlv) (all refl) (goes refl) (here (Causes faults.BadTlv) is)
    told_fault (faults.Refused code) fed h all goes calm is = told_all (Err (faults.Refused code)) (all refl) (goes refl) (here (Causes (faults.Refused code)) is)
    told_fault faults.ReadOnly fed h all goes calm is = told_all (Err faults.ReadOnly) (all refl) (goes refl) (here (Causes faults.ReadOnly) is)
    told_fault (faults.TooLong n) fed h all goes calm is = told_all (Err (faults.TooLong n)) (all refl) (goes refl) (here (Causes (faults.TooLong n)) is)
    told_fault faults.ShortMlc fed h all goes calm is = told_all (Err faults.ShortMlc) (all refl) (goes refl) (here (Causes faults.ShortMlc) is)
    told_fault faults.FieldLost fed h all goes calm is = let left = write_left h in ends.lost left.0 left.1 is.0 (Err faults.FieldLost) refl (λ e. absurd cc)
    told_fault faults.SixBad fed h all goes calm is =
        let left = write_left h in ends.six left.0 left.1 is.0 (λ still. never_told (calm still)) (Err faults.SixBad) refl (λ e. absurd cc)
    told_fault faults.Memory fed h all goes calm is = absurd (fed refl)
    told_fault faults.Protocol fed h all goes calm is = absurd (ends.odd is.0)

    -- whatever the writing came to
    pub write_does : (r : WriteEnd) → (r ≡ Err faults.Memory → ⊥) → IsWritten (how_of d) (size_of d) message from to r → Does r
    write_does (Ok done) fed t = told_all (Ok done) t.all t.goes_on (here (λ g s. writer.Writes (how_of d) (size_of d) g s message None) t.ok.writes)
    write_does (Err fault) fed t = told_fault fault (λ m. fed (ap Err m)) t.order t.all t.goes_on t.calm t.err

    pub write_does_some : (r : WriteEnd) → r ≡ Err faults.Memory → IsWritten (how_of d) (size_of d) message from to r → DoesSome
    write_does_some (Ok done) starved t = absurd cc
    write_does_some (Err fault) starved t =
        let left = write_left t.order in
        let memory : fault ≡ faults.Memory = cc in
        ends.some left.0 left.1 (elim (subst (IsWriteFault (how_of d) (size_of d) message from to) memory t.err) [ inl own ↦ inl own.0 | inr by ↦ inr by.0 ])

  -- The stores that the device has after some events keep the law, where they follow those that it passed.
  pub write_law : (r : WriteEnd) → Keeps (how_of d) (size_of d) message (ending_of r) from to → (more : List Signal) → Leads from to more → (stores : List (List ℕ))
      → Follows from.state.store stores (passed from.step from.state more) → WriteLaw (how_of d) (size_of d) (device_store d) message (ending_of r) (device_store d ∷ stores)
  write_law r k more leads stores follow =
      let same : more ≡ k.more = same_behind from.obeyed more k.more (sym leads.obeyed ∙ k.leads.obeyed) in
      let those : Follows from.state.store stores (passed from.step from.state k.more) = subst (λ xs. Follows from.state.store stores (passed from.step from.state xs)) same follow in
      subst (λ xs. WriteLaw (how_of d) (size_of d) xs message (ending_of r) (xs ∷ stores)) store
      (law_follow (how_of d) (size_of d) from.state.store message (ending_of r) stores (passed from.step from.state k.more) those k.law)
