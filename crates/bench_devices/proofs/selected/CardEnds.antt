-- What asking an activated Type 4 tag comes to, by what its link did.
use Rattle.std.proofs.Common.{◌≡◌, ◌⊎◌, inl, inr, ◌<◌, List, [], ◌++◌, length, drop, not, true, false, Some, None, refl, sym, ◌∙◌, ap, subst, arith, append-nil}
use Rattle.std.proofs.lemmas.List.{map-append}
use Rattle.std.proofs.lemmas.Bool.{cases_lt}
use Rattle.nfc_base.specs.declared.tag_link.AskFault.{AskFault}
use Rattle.nfc_base.specs.declared.tag_link.AskFault.TheVariants as asking
use Rattle.nfc_base.specs.Signal.{Signal}
use Rattle.nfc_base.specs.Trace.{noise, breaks}
use Rattle.nfc_base.specs.TagLinks.{LinkView}
use Rattle.air_core.specs.World.{World}
use Rattle.air_core.specs.Turn.{world, moment}
use Rattle.air_core.specs.Conversation.{Moment, Going, Over, EachDue, replay}
use Rattle.air_core.specs.laws.Turning.{due_weaker}
use Rattle.isodep_link.specs.Asking.{IsoStanding, Rests, Broken, asks, stand, due_at, iso_next}
use Rattle.isodep_link.specs.IsoLinks.{IsoSeen, bytes_of, IsoStandsAt, iso_view, IsoMoves}
use Rattle.tag_reader.specs.Reading.{IsCalm}
use Rattle.bench_devices.specs.declared.device.Device.{Device}
use Rattle.bench_devices.specs.Device.{devices, device_card, device_tag}
use Rattle.bench_devices.specs.Answering.{TellsExchange, IsUnbrokenExchange}
use Rattle.bench_devices.specs.Device.{air}
use Rattle.bench_devices.proofs.finding.SelectingAir.{events_are}
use Rattle.bench_devices.specs.private.Linking.{IsNewLink, AsksOn, AsksSomeOn}
use Rattle.bench_devices.specs.Keeping.{ghosts, Changes, LeavesDevices}
use Rattle.bench_devices.proofs.selected.LinkEnds.{LinkEnds}
use Rattle.bench_devices.proofs.selected.PlainEnds.{none_behind}
use Rattle.air_core.proofs.BrokenWaits.{stays_lit}
use Rattle.bench_devices.proofs.reads.CardReadingNotes.{exchange_lost, broken_more, unbroken_more, due_front}

-- A command asks all of such a list of a tag, this shows what it tells where all was answered, and this how it fails.
module _ {X : Type 0} (what : Changes) (IsAll : List Signal → Type 0) (Shows : X → Type 0) (Fails : AskFault → X → Type 0) (p : IsoSeen Device) (is : IsNewLink p) (bright : p.air.lit ≡ true)
    (q : IsoSeen Device) (m : IsoMoves ghosts device_card device_tag p q) where
  abbrev from : LinkView
  from = iso_view ghosts device_card device_tag p

  abbrev to : LinkView
  to = iso_view ghosts device_card device_tag q

  -- what its list has behind the commands that were asked
  abbrev IsLeft : List Signal → Type 0
  IsLeft rest = IsAll (m.asks.asked ++ rest)

  abbrev Kept : Type 0
  Kept = LeavesDevices what (world p.air) m.asks.going.events (world q.air)

  abbrev AsksSo : X → Type 0
  AsksSo x = AsksOn what IsAll Shows Fails p.reader (moment p.air) (moment q.air) x

  abbrev end : IsoStanding
  end = stand (asks p.reader (bytes_of m.asks.asked)) m.asks.notes

  ends_so : IsoStandsAt q.over q.air.lit q.reader end
  ends_so = m.asks.stands is.over

  -- the field was lost exactly where the exchanges ended so
  broken_by : 0 < breaks m.asks.going.events → end ≡ Broken asking.FieldLost
  broken_by some = exchange_lost devices p.reader (bytes_of m.asks.asked) (moment p.air) (moment q.air) m.asks.notes m.asks.going some

  some_break : q.air.lit ≡ false → 0 < breaks m.asks.going.events
  some_break dim = elim (cases_lt 0 (breaks m.asks.going.events)) [
    | inl some ↦ some
    | inr none ↦ absurd (
        let lit : (replay air (world p.air) m.asks.going.events).lit ≡ true = stays_lit devices (world p.air) m.asks.going.events bright (omega (arith, none)) in
        let last : q.air.lit ≡ (replay air (world p.air) m.asks.going.events).lit = ap (λ (t : Moment (World Device)). t.world.lit) m.asks.going.moment in
        let clash : true ≡ false = sym lit ∙ sym last ∙ dim in
        cc)
  ]

  -- all that is asked is written in blocks
  in_blocks : (rest : List Signal) → bytes_of (m.asks.asked ++ rest) ≡ bytes_of m.asks.asked ++ bytes_of rest
  in_blocks rest = map-append (λ (f : Signal). f.bytes) m.asks.asked rest

  -- what was asked is the first of what is asked
  abbrev asked_front_of : (rest : List Signal) → Going air (iso_next p.reader (bytes_of (m.asks.asked ++ rest))) (moment p.air) (moment q.air) m.asks.notes
  asked_front_of rest =
      let front : EachDue (iso_next p.reader (bytes_of m.asks.asked ++ bytes_of rest)) [] m.asks.going.events =
      due_weaker (iso_next p.reader (bytes_of m.asks.asked ++ bytes_of rest)) (iso_next p.reader (bytes_of m.asks.asked))
      (λ ns n e due. due_front p.reader (bytes_of m.asks.asked) (bytes_of rest) ns n e due)
      [] m.asks.going.events m.asks.going.each in
      record {
        events = m.asks.going.events;
        moment = m.asks.going.moment;
        turns = m.asks.going.turns;
        each = subst (λ cs. EachDue (iso_next p.reader cs) [] m.asks.going.events) (sym (in_blocks rest)) front;
        fates = m.asks.going.fates;
        fresh = m.asks.going.fresh;
        known = m.asks.going.known;
      }

  -- It was cut off, with the link as it was, or by the link's own want of memory: no exchange has ended by a fault then.
  still_waiting : (q.over ≡ None) ⊎ (q.over ≡ Some asking.Memory) → IsUnbrokenExchange end
  still_waiting (inl open') =
      let done : end ≡ Rests q.reader = subst (λ o. IsoStandsAt o q.air.lit q.reader end) open' ends_so in
      subst IsUnbrokenExchange (sym done) tt
  still_waiting (inr starved) =
      let ends = subst (λ o. IsoStandsAt o q.air.lit q.reader end) starved ends_so in
      subst IsUnbrokenExchange (sym ends.1) tt

  cut_told : Kept → (rest : List Signal) → IsLeft rest → (q.over ≡ None) ⊎ (q.over ≡ Some asking.Memory) → AsksSomeOn what IsAll p.reader (moment p.air) (moment q.air)
  cut_told kept rest left cause =
      let more : IsUnbrokenExchange (stand (asks p.reader (bytes_of m.asks.asked ++ bytes_of rest)) m.asks.notes) =
      unbroken_more p.reader (bytes_of m.asks.asked) (bytes_of rest) m.asks.notes (still_waiting cause) in
      record {
        commands = m.asks.asked ++ rest;
        asks = left;
        asked = record { notes = m.asks.notes; going = asked_front_of rest; same = kept };
        unbroken = subst (λ cs. IsUnbrokenExchange (stand (asks p.reader cs) m.asks.notes)) (sym (in_blocks rest)) more;
        unlost = elim (cases_lt 0 (breaks m.asks.going.events)) [
          | inl some ↦ absurd (subst IsUnbrokenExchange (broken_by some) (still_waiting cause))
          | inr none ↦ omega (arith, none)
        ];
      }

  -- What it did, where its exchanges stand so at the end.
  told_by : Kept → (x : X) (rest : List Signal) → IsLeft rest → (s : IsoStanding) → stand (asks p.reader (bytes_of m.asks.asked ++ bytes_of rest)) m.asks.notes ≡ s → due_at s ≡ Over
      → TellsExchange Shows Fails s x → (Fails asking.FieldLost x → 0 < breaks m.asks.going.events) → (0 < breaks m.asks.going.events → Fails asking.FieldLost x)
      → (Fails asking.SixBad x → 0 < noise m.asks.going.events) → AsksSo x
  told_by kept x rest left s stands over tells lost by_break noisy =
      let there : stand (asks p.reader (bytes_of (m.asks.asked ++ rest))) m.asks.notes ≡ s = ap (λ cs. stand (asks p.reader cs) m.asks.notes) (in_blocks rest) ∙ stands in
      record {
        commands = m.asks.asked ++ rest;
        asks = left;
        asked = record { notes = m.asks.notes; going = asked_front_of rest; over = ap due_at there ∙ over; same = kept };
        ends = subst (λ st. TellsExchange Shows Fails st x) (sym there) tells;
        lost = (lost, by_break);
        noisy = noisy;
      }

  -- All was answered.
  all_told : Kept → IsAll m.asks.asked → q.over ≡ None → (x : X) → Shows x → (Fails asking.FieldLost x → ⊥) → (Fails asking.SixBad x → ⊥) → AsksSo x
  all_told kept all open' x shows no_loss no_six =
      let done : end ≡ Rests q.reader = subst (λ o. IsoStandsAt o q.air.lit q.reader end) open' ends_so in
      told_by kept x [] (subst IsAll (sym (append-nil m.asks.asked)) all)
      (Rests q.reader) (ap (λ cs. stand (asks p.reader cs) m.asks.notes) (append-nil (bytes_of m.asks.asked)) ∙ done) refl shows
      (λ e. absurd (no_loss e))
      (λ some. absurd (let clash : Rests q.reader ≡ Broken asking.FieldLost = sym done ∙ broken_by some in cc))
      (λ e. absurd (no_six e))

  -- An exchange ended by a fault.
  broken_told : Kept → (rest : List Signal) → IsLeft rest → (x : X) (e : AskFault) → end ≡ Broken e → Fails e x
      → (Fails asking.FieldLost x → 0 < breaks m.asks.going.events) → (0 < breaks m.asks.going.events → Fails asking.FieldLost x)
      → (Fails asking.SixBad x → 0 < noise m.asks.going.events) → AsksSo x
  broken_told kept rest left x e stands fails lost by_break noisy =
      told_by kept x rest left (Broken e) (broken_more p.reader (bytes_of m.asks.asked) (bytes_of rest) m.asks.notes e stands) refl fails lost by_break noisy

  lost_told : Kept → (rest : List Signal) → IsLeft rest → q.over ≡ Some asking.FieldLost → (x : X) → Fails asking.FieldLost x → (Fails asking.SixBad x → ⊥) → AsksSo x
  lost_told kept rest left over x fails no_six =
      let ends = subst (λ o. IsoStandsAt o q.air.lit q.reader end) over ends_so in
      let some : 0 < breaks m.asks.going.events = some_break ends.0 in
      broken_told kept rest left x asking.FieldLost (broken_by some) fails (λ e. some) (λ b. fails) (λ e. absurd (no_six e))

  -- Without noise the link ends no command.
  six_noisy : (IsCalm from to → ⊥) → 0 < noise m.asks.going.events
  six_noisy loud = elim (cases_lt 0 (noise m.asks.going.events)) [
    | inl some ↦ some
    | inr none ↦ absurd (
        let here : from.noise ≡ 0 = ap noise (ap (λ n. drop n p.air.trace) is.start ∙ none_behind p.air.trace) in
        let start : q.start ≡ length p.air.trace = m.asks.same.1 ∙ is.start in
        let there : to.noise ≡ noise m.asks.going.events =
        ap (λ n. noise (drop n q.air.trace)) start ∙ ap noise (events_are air (moment p.air) (moment q.air) m.asks.going.events m.asks.going.moment) in
        loud (record { begun = is.over; lit = ap not bright; calm = inl (omega (arith, here, there, none)) }))
  ]

  six_told : Kept → (rest : List Signal) → IsLeft rest → q.over ≡ Some asking.SixBad → (IsCalm from to → ⊥) → (x : X) → Fails asking.SixBad x → (Fails asking.FieldLost x → ⊥) → AsksSo x
  six_told kept rest left over loud x fails no_loss =
      let ends : end ≡ Broken asking.SixBad = subst (λ o. IsoStandsAt o q.air.lit q.reader end) over ends_so in
      broken_told kept rest left x asking.SixBad ends fails (λ e. absurd (no_loss e))
      (λ some. absurd (let clash : Broken asking.SixBad ≡ Broken asking.FieldLost = sym ends ∙ broken_by some in cc))
      (λ e. six_noisy loud)

  never_odd : q.over ≡ Some asking.Protocol → ⊥
  never_odd over = subst (λ o. IsoStandsAt o q.air.lit q.reader end) over ends_so

  pub card_ends : Kept → LinkEnds IsAll Shows Fails from to m.asks.asked AsksSo (AsksSomeOn what IsAll p.reader (moment p.air) (moment q.air))
  card_ends kept = record {
    all = λ all open' x shows no_loss no_six. all_told kept all open' x shows no_loss no_six;
    lost = λ rest left over x fails no_six. lost_told kept rest left over x fails no_six;
    six = λ rest left over loud x fails no_loss. six_told kept rest left over loud x fails no_loss;
    odd = never_odd;
    some = λ rest left cause. cut_told kept rest left cause;
  }
