-- What asking a selected tag comes to that takes commands as they are sent, by what its link did.
use Rattle.std.proofs.Common.{◌≡◌, ◌⊎◌, inl, inr, ℕ, ◌<◌, List, [], ◌∷◌, ◌++◌, length, drop, not, true, false, Some, None, refl, sym, ◌∙◌, ap, subst, arith, append-nil}
use Rattle.std.proofs.lemmas.Bool.{cases_lt}
use Rattle.nfc_base.specs.declared.event.Event.{Event}
use Rattle.nfc_base.specs.declared.tag_link.AskFault.{AskFault}
use Rattle.nfc_base.specs.declared.tag_link.AskFault.TheVariants.{FieldLost, SixBad, Memory, Protocol}
use Rattle.nfc_base.specs.Signal.{Signal}
use Rattle.nfc_base.specs.Trace.{noise, breaks}
use Rattle.nfc_base.specs.TagLinks.{LinkView}
use Rattle.air_core.specs.World.{World}
use Rattle.air_core.specs.Turn.{Air, world, moment}
use Rattle.air_core.specs.Conversation.{Moment, Over, Going, replay}
use Rattle.air_core.specs.laws.Turning.{due_weaker}
use Rattle.air_core.specs.Waits.{Standing, Asking, Broken, stand, due_at, waits_next}
use Rattle.air_core.specs.laws.Waiting.{front_due, stand_on}
use Rattle.air_core.specs.PlainLinks.{PlainSeen, PlainMoves, StandsAt, unanswered, answered_in, plain_view}
use Rattle.tag_reader.specs.Reading.{IsCalm}
use Rattle.bench_devices.specs.declared.device.Device.{Device}
use Rattle.bench_devices.specs.declared.device.Device.TheVariants.{T2, T4, Peer, T5, T3}
use Rattle.bench_devices.specs.Device.{air, devices, seen_of}
use Rattle.bench_devices.specs.Answering.{TellsStanding, TellsBy, IsUnbroken, GoesOnBy}
use Rattle.bench_devices.specs.CardAsking.{tag_next}
use Rattle.bench_devices.specs.private.Linking.{IsPlain}
use Rattle.bench_devices.specs.Keeping.{ghosts, Changes, LeavesDevices}
use Rattle.bench_devices.specs.Phases.{AsksTag, AsksSome}
use Rattle.air_core.proofs.LostField.{going_lost}
use Rattle.air_core.proofs.BrokenWaits.{EndsLost, lost_ends, broken_front, stays_lit}
use Rattle.bench_devices.proofs.finding.SelectingAir.{events_are}
use Rattle.bench_devices.proofs.selected.LinkEnds.{LinkEnds}
use Rattle.bench_devices.proofs.reads.ReadingTags.{begun, no_tag}

pub none_behind : (xs : List Event) → drop (length xs) xs ≡ []
none_behind [] = refl
none_behind (x ∷ xs) = none_behind xs

-- A command asks all of such a list of a tag, this shows what it tells where all was answered, and this how it fails.
module _ {X : Type 0} (what : Changes) (IsAll : List Signal → Type 0) (Shows : X → Type 0) (Fails : AskFault → X → Type 0) where
  -- what it does, and so much of it
  abbrev pub AsksPlain : Moment (World Device) → Moment (World Device) → X → Type 0
  AsksPlain old new x = AsksTag what IsAll waits_next (λ cs ns. TellsStanding Shows Fails (stand 0 cs ns)) Fails old new x

  -- so it asks the tag as it is seen
  pub as_told : (old new : Moment (World Device)) (d : Device) (x : X) → IsPlain d → AsksPlain old new x → AsksTag what IsAll (tag_next (seen_of d)) (TellsBy (seen_of d) Shows Fails) Fails old new x
  as_told old new (T2 d) x plain s = record { commands = s.commands; asks = s.asks; asked = s.asked; ends = s.ends; lost = s.lost; noisy = s.noisy }
  as_told old new (T4 d) x plain s = absurd plain.0
  as_told old new (Peer d) x plain s = absurd (no_tag plain.1)
  as_told old new (T5 p) x plain s = record { commands = s.commands; asks = s.asks; asked = s.asked; ends = s.ends; lost = s.lost; noisy = s.noisy }
  as_told old new (T3 p) x plain s = record { commands = s.commands; asks = s.asks; asked = s.asked; ends = s.ends; lost = s.lost; noisy = s.noisy }

  abbrev pub AsksPlainSome : Moment (World Device) → Moment (World Device) → Type 0
  AsksPlainSome old new = AsksSome what IsAll waits_next (λ cs ns. IsUnbroken (stand 0 cs ns)) old new

  pub as_cut : (old new : Moment (World Device)) (d : Device) → IsPlain d → AsksPlainSome old new → AsksSome what IsAll (tag_next (seen_of d)) (GoesOnBy (seen_of d)) old new
  as_cut old new (T2 d) plain s = record { commands = s.commands; asks = s.asks; asked = s.asked; unbroken = s.unbroken; unlost = s.unlost }
  as_cut old new (T4 d) plain s = absurd plain.0
  as_cut old new (Peer d) plain s = absurd (no_tag plain.1)
  as_cut old new (T5 p) plain s = record { commands = s.commands; asks = s.asks; asked = s.asked; unbroken = s.unbroken; unlost = s.unlost }
  as_cut old new (T3 p) plain s = record { commands = s.commands; asks = s.asks; asked = s.asked; unbroken = s.unbroken; unlost = s.unlost }

  module _ (a : Air Device) (place : ℕ) (bright : a.lit ≡ true) (q : PlainSeen Device) (m : PlainMoves ghosts (begun a place) q) where
    abbrev from : LinkView
    from = plain_view ghosts (begun a place)

    abbrev to : LinkView
    to = plain_view ghosts q

    -- what its list has behind the commands that were asked
    abbrev pub IsLeft : List Signal → Type 0
    IsLeft rest = IsAll (m.asked.commands ++ rest)

    abbrev Kept : Type 0
    Kept = LeavesDevices what (world a) m.asked.going.events (world q.air)

    abbrev AsksSo : X → Type 0
    AsksSo x = AsksPlain (moment a) (moment q.air) x

    -- the field was lost exactly where the waits ended so
    broken_by : 0 < breaks m.asked.going.events → EndsLost m.asked.commands m.asked.notes
    broken_by some = lost_ends air m.asked.commands (moment a) (moment q.air) m.asked.notes m.asked.going
        (going_lost devices (waits_next m.asked.commands) (moment a) (moment q.air) m.asked.notes m.asked.going some)

    some_break : q.air.lit ≡ false → 0 < breaks m.asked.going.events
    some_break dim = elim (cases_lt 0 (breaks m.asked.going.events)) [
      | inl some ↦ some
      | inr none ↦ absurd (
          let lit : (replay air (world a) m.asked.going.events).lit ≡ true = stays_lit devices (world a) m.asked.going.events bright (omega (arith, none)) in
          let end : q.air.lit ≡ (replay air (world a) m.asked.going.events).lit = ap (λ (t : Moment (World Device)). t.world.lit) m.asked.going.moment in
          let clash : true ≡ false = sym lit ∙ sym end ∙ dim in
          cc)
    ]

    -- what was asked is the first of what is asked
    abbrev asked_front_of : (rest : List Signal) → Going air (waits_next (m.asked.commands ++ rest)) (moment a) (moment q.air) m.asked.notes
    asked_front_of rest = record {
      events = m.asked.going.events;
      moment = m.asked.going.moment;
      turns = m.asked.going.turns;
      each = due_weaker (waits_next (m.asked.commands ++ rest)) (waits_next m.asked.commands) (λ ns n e due. front_due 0 m.asked.commands rest ns n e due) [] m.asked.going.events m.asked.going.each;
      fates = m.asked.going.fates;
      fresh = m.asked.going.fresh;
      known = m.asked.going.known;
    }

    -- It was cut off, with the link as it was, or by the link's own want of memory: no wait has ended by a fault then.
    abbrev Waiting : Type 0
    Waiting = (bad : ℕ) × (left : List Signal) × (stand 0 m.asked.commands m.asked.notes ≡ Asking bad left)

    still_waiting : (q.over ≡ None) ⊎ (q.over ≡ Some Memory) → Waiting
    still_waiting (inl open') = (0, [], subst (λ o. StandsAt o q.air.lit (stand 0 m.asked.commands m.asked.notes)) open' (m.asked.stands refl))
    still_waiting (inr starved) =
        let ends = subst (λ o. StandsAt o q.air.lit (stand 0 m.asked.commands m.asked.notes)) starved (m.asked.stands refl) in
        (ends.2, ends.1 ∷ [], ends.3)

    cut_told : Kept → (rest : List Signal) → IsLeft rest → (q.over ≡ None) ⊎ (q.over ≡ Some Memory) → AsksPlainSome (moment a) (moment q.air)
    cut_told kept rest left cause =
        let w = still_waiting cause in
        let there : stand 0 (m.asked.commands ++ rest) m.asked.notes ≡ Asking w.0 (w.1 ++ rest) =
        ap (stand 0 (m.asked.commands ++ rest)) (sym (append-nil m.asked.notes)) ∙ stand_on 0 m.asked.commands m.asked.notes w.0 w.1 w.2 rest [] in
        record {
          commands = m.asked.commands ++ rest;
          asks = left;
          asked = record { notes = m.asked.notes; going = asked_front_of rest; same = kept };
          unbroken = subst IsUnbroken (sym there) tt;
          unlost = elim (cases_lt 0 (breaks m.asked.going.events)) [
            | inl some ↦ absurd (let on = broken_by some in let clash : Asking w.0 w.1 ≡ Broken FieldLost on.0 = sym w.2 ∙ on.1 in cc)
            | inr none ↦ omega (arith, none)
          ];
        }

    -- What it did, where its waits stand so at the end.
    told_by : Kept → (x : X) (rest : List Signal) → IsLeft rest → (s : Standing) → stand 0 (m.asked.commands ++ rest) m.asked.notes ≡ s → due_at s ≡ Over → TellsStanding Shows Fails s x
        → (Fails FieldLost x → 0 < breaks m.asked.going.events) → (0 < breaks m.asked.going.events → Fails FieldLost x) → (Fails SixBad x → 0 < noise m.asked.going.events) → AsksSo x
    told_by kept x rest left s stands over tells lost by_break noisy = record {
      commands = m.asked.commands ++ rest;
      asks = left;
      asked = record { notes = m.asked.notes; going = asked_front_of rest; over = ap due_at stands ∙ over; same = kept };
      ends = subst (λ st. TellsStanding Shows Fails st x) (sym stands) tells;
      lost = (lost, by_break);
      noisy = noisy;
    }

    -- All was answered.
    all_told : Kept → IsAll m.asked.commands → q.over ≡ None → (x : X) → Shows x → (Fails FieldLost x → ⊥) → (Fails SixBad x → ⊥) → AsksSo x
    all_told kept all open' x shows no_loss no_six =
        let done : stand 0 m.asked.commands m.asked.notes ≡ Asking 0 [] = subst (λ o. StandsAt o q.air.lit (stand 0 m.asked.commands m.asked.notes)) open' (m.asked.stands refl) in
        told_by kept x [] (subst IsAll (sym (append-nil m.asked.commands)) all)
        (Asking 0 []) (ap (λ cs. stand 0 cs m.asked.notes) (append-nil m.asked.commands) ∙ done) refl shows
        (λ e. absurd (no_loss e))
        (λ some. absurd (let on = broken_by some in let clash : Asking 0 [] ≡ Broken FieldLost on.0 = sym done ∙ on.1 in cc))
        (λ e. absurd (no_six e))

    -- A wait ended by a fault.
    broken_told : Kept → (rest : List Signal) → IsLeft rest → (x : X) (e : AskFault) (left : List Signal) → stand 0 m.asked.commands m.asked.notes ≡ Broken e left → Fails e x
        → (Fails FieldLost x → 0 < breaks m.asked.going.events) → (0 < breaks m.asked.going.events → Fails FieldLost x) → (Fails SixBad x → 0 < noise m.asked.going.events) → AsksSo x
    broken_told kept rest all x e left stands fails lost by_break noisy =
        told_by kept x rest all (Broken e (left ++ rest)) (broken_front 0 m.asked.commands m.asked.notes e left rest stands) refl fails lost by_break noisy

    lost_told : Kept → (rest : List Signal) → IsLeft rest → q.over ≡ Some FieldLost → (x : X) → Fails FieldLost x → (Fails SixBad x → ⊥) → AsksSo x
    lost_told kept rest left over x fails no_six =
        let ends = subst (λ o. StandsAt o q.air.lit (stand 0 m.asked.commands m.asked.notes)) over (m.asked.stands refl) in
        let some : 0 < breaks m.asked.going.events = some_break ends.0 in
        let on = broken_by some in
        broken_told kept rest left x FieldLost on.0 on.1 fails (λ e. some) (λ b. fails) (λ e. absurd (no_six e))

    -- Without noise the link ends no command.
    six_noisy : (IsCalm from to → ⊥) → 0 < noise m.asked.going.events
    six_noisy loud = elim (cases_lt 0 (noise m.asked.going.events)) [
      | inl some ↦ some
      | inr none ↦ absurd (
          let here : from.noise ≡ 0 = ap noise (none_behind a.trace) in
          let there : to.noise ≡ noise m.asked.going.events =
          ap (λ n. noise (drop n q.air.trace)) m.same.1 ∙ ap noise (events_are air (moment a) (moment q.air) m.asked.going.events m.asked.going.moment) in
          loud (record { begun = refl; lit = ap not bright; calm = inl (omega (arith, here, there, none)) }))
    ]

    six_told : Kept → (rest : List Signal) → IsLeft rest → q.over ≡ Some SixBad → (IsCalm from to → ⊥) → (x : X) → Fails SixBad x → (Fails FieldLost x → ⊥) → AsksSo x
    six_told kept rest left over loud x fails no_loss =
        let ends = subst (λ o. StandsAt o q.air.lit (stand 0 m.asked.commands m.asked.notes)) over (m.asked.stands refl) in
        broken_told kept rest left x SixBad (ends.1 ∷ []) ends.2 fails (λ e. absurd (no_loss e))
        (λ some. absurd (let on = broken_by some in let clash : Broken SixBad (ends.1 ∷ []) ≡ Broken FieldLost on.0 = sym ends.2 ∙ on.1 in cc))
        (λ e. six_noisy loud)

    never_odd : q.over ≡ Some Protocol → ⊥
    never_odd over = subst (λ o. StandsAt o q.air.lit (stand 0 m.asked.commands m.asked.notes)) over (m.asked.stands refl)

    pub plain_ends : Kept → LinkEnds IsAll Shows Fails from to m.asked.commands AsksSo (AsksPlainSome (moment a) (moment q.air))
    plain_ends kept = record {
      all = λ all open' x shows no_loss no_six. all_told kept all open' x shows no_loss no_six;
      lost = λ rest left over x fails no_six. lost_told kept rest left over x fails no_six;
      six = λ rest left over loud x fails no_loss. six_told kept rest left over loud x fails no_loss;
      odd = never_odd;
      some = λ rest left cause. cut_told kept rest left cause;
    }

-- what was asked, by the link
module _ (a : Air Device) (place : ℕ) (q : PlainSeen Device) (m : PlainMoves ghosts (begun a place) q) where
  pub none_before : (plain_view ghosts (begun a place)).answered ≡ []
  none_before = ap answered_in (none_behind a.trace)

  pub asked_told : (plain_view ghosts q).answered ++ unanswered q.over q.last ≡ m.asked.commands
  asked_told = m.asked.told ∙ ap (λ xs. (xs ++ []) ++ m.asked.commands) none_before
