-- An enquiry that sends SENSF_REQ alone, from a reset on: what it asks of the bench's devices, and what it hears of them.
use Rattle.std.proofs.Common.{◌≡◌, ◌↔◌, ◌⊎◌, inl, inr, ℕ, zero, suc, ◌<◌, ◌≤◌, List, [], ◌∷◌, ◌++◌, map, length, drop, true, false, Result, Ok, Err, refl, sym, ◌∙◌, ap, subst, append_assoc, arith}
use Rattle.nfc_base.specs.declared.event.Event.{Event}
use Rattle.nfc_base.specs.declared.event.Event.TheVariants.{Reset, Request, Answer, Clash}
use Rattle.nfc_base.specs.Signal.{Signal}
use Rattle.nfc_base.specs.Trace.{turns, breaks, noise}
use Rattle.air_core.specs.Joint.{joint}
use Rattle.air_core.specs.Turn.{Air, moment}
use Rattle.air_core.specs.World.{World}
use Rattle.air_core.specs.Conversation.{Note, Lit, Got, Lost, Next, LightUp, Asks, Moment, Going, EachDue, with_events, receptions, trace_of}
use Rattle.air_core.proofs.Turns.{going_start, going_reset, going_then}
use Rattle.air_core.proofs.Following.{light_is_no_request, over_is_no_request}
use Rattle.air_core.proofs.LostField.{lit_by, HasLost, going_lit, going_lost}
use Rattle.nfca_poll.specs.declared.fault.PollFault.{PollFault}
use Rattle.nfca_poll.specs.declared.fault.PollFault.TheVariants as faults
use Rattle.nfca_poll.specs.ByHeard.{turns_since}
use Rattle.nfca_poll.specs.Enquiry.{Enquiry, Progress, Reaches, Loses, progress, enquiring, answer_of, Enquires, LosesByBreak}
use Rattle.nfca_poll.specs.Inventory.{tries}
use Rattle.nfca_poll.proofs.quiet.Crowding.{drop-front}
use Rattle.t3t_access.specs.Polling.{sensf_req}
use Rattle.bench_devices.specs.declared.device.Device.{Device}
use Rattle.bench_devices.specs.Device.{air, devices}
use Rattle.bench_devices.specs.Keeping.{kept, NoStore}
use Rattle.bench_devices.specs.Noise.{noisy_tries}
use Rattle.bench_devices.specs.Phases.{Asked, AskedPart}
use Rattle.bench_devices.specs.Polling as followed
use Rattle.bench_devices.specs.Polling.{asks}
use Rattle.bench_devices.specs.Sensing.{from_reset, AreNoisy}
use Rattle.bench_devices.proofs.finding.Following.{Closes, asks_same, told_same}
use Rattle.bench_devices.proofs.finding.Inventoried.{all_of}
use Rattle.bench_devices.proofs.turns.NoisyTurns.{tries_same}
use Rattle.bench_devices.proofs.turns.QuietPolling.{HandsNone, PollsQuietly, quietly}
use Rattle.bench_devices.proofs.finding.SelectingAir.{events_are, loses, stays_lit}
use Rattle.bench_devices.proofs.finding.SelectingKept.{IsHarmless, going_keeps}
use Rattle.bench_devices.proofs.finding.SelectingV.{relit}
use Rattle.bench_devices.proofs.finding.Sensed.{answers_in, stays_sensed, sensed_harmless, sensed_hands_none}
use Rattle.bench_devices.proofs.finding.Unmoved.{OnlyAsks, AllHeard, AllStay, all_stay, all_heard}

module _ {S X : Type 0} (e : Enquiry S X) (closes : Closes e) (asks_one : (ns : List Note) (f : Signal) → enquiring e ns ≡ Asks f → f ≡ sensf_req)
    (asks_no_light : (ns : List Note) → enquiring e ns ≡ LightUp → ⊥) where
  only_due : (before es : List Event) → EachDue (enquiring e) before es → OnlyAsks sensf_req es
  only_due before [] q = tt
  only_due before (Reset ∷ es) q = absurd (asks_no_light (receptions before) q.0)
  only_due before (Request f x ∷ es) q = (asks_one (receptions before) f q.0, only_due (before ++ Request f x ∷ []) es q.1)
  only_due before (Answer g x ∷ es) q = only_due (before ++ Answer g x ∷ []) es q
  only_due before (Clash g x ∷ es) q = only_due (before ++ Clash g x ∷ []) es q

  pub quiet : (old new : Air Device) (r : Result X PollFault) → Enquires e devices old r new → PollsQuietly e old r new
  quiet old new r polls = quietly e (λ ns f due. subst HandsNone (sym (asks_one ns f due)) sensed_hands_none) old new r polls

  abbrev next : List Note → Next
  next ns = asks (from_reset e ns)

  pub next_asked : (ns : List Note) (f : Signal) → next ns ≡ Asks f → IsHarmless f
  next_asked [] f due = absurd (light_is_no_request f due)
  next_asked (Lit ∷ ns) f due = subst IsHarmless (sym (asks_one ns f (sym (asks_same e closes ns) ∙ due))) sensed_harmless
  next_asked (Got h ∷ ns) f due = absurd (over_is_no_request f due)
  next_asked (Lost ∷ ns) f due = absurd (over_is_no_request f due)

  -- a field of which nothing was asked
  pub uncut : (old new : Air Device) → new ≡ old → AskedPart NoStore next (moment old) (moment new)
  uncut old new same =
      let P : Air Device → Type 0 = λ a. AskedPart NoStore next (moment old) (moment a) in
      subst P (sym same) (record { notes = []; going = going_start air next (moment old); same = refl })

  module _ (old mid new : Air Device) (r : Result X PollFault) (reset : moment mid ≡ with_events air (moment old) (Reset ∷ [])) (polls : PollsQuietly e mid r new) where
    abbrev notes : List Note
    notes = polls.notes

    abbrev later : List Event
    later = polls.going.events

    relit_at : mid.listeners ≡ map relit old.listeners
    relit_at = ap (λ (m : Moment (World Device)). m.world.listeners) reset

    pub mid_lit : mid.lit ≡ true
    mid_lit = ap (λ (m : Moment (World Device)). m.world.lit) reset

    abbrev begun : Going air next (moment old) (moment mid) (Lit ∷ [])
    begun = going_reset air next (moment old) (moment old) (moment mid) [] (going_start air next (moment old)) refl reset

    abbrev pub whole : Going air next (moment old) (moment new) (Lit ∷ notes)
    whole = going_then air next next (enquiring e) (moment old) (moment mid) (moment new) (Lit ∷ []) notes (λ ns n p d. p) (asks_same e closes) begun polls.going

    later_is : drop (length mid.trace) new.trace ≡ later
    later_is = events_are air (moment mid) (moment new) later polls.going.moment

    whole_is : whole.events ≡ Reset ∷ later
    whole_is =
        let T : Moment (World Device) → List Event = λ m. m.trace in
        let all : new.trace ≡ old.trace ++ (Reset ∷ later) = ap T polls.going.moment ∙ ap (λ t. t ++ later) (ap T reset) ∙ append_assoc old.trace (Reset ∷ []) later in
        sym (events_are air (moment old) (moment new) whole.events whole.moment) ∙ ap (drop (length old.trace)) all ∙ drop-front old.trace (Reset ∷ later)

    -- the turns of the call are those behind the reset
    pub turns_are : turns_since mid new ≡ turns whole.events
    turns_are = ap turns later_is ∙ sym (ap turns whole_is)

    pub told : (r ≡ Err faults.Memory → ⊥) → from_reset e (Lit ∷ notes) ≡ followed.Told r []
    told starved = told_same e closes air (moment mid) (moment new) notes r polls.going polls.comes starved

    pub same_kept : map kept new.listeners ≡ map kept old.listeners
    same_kept = going_keeps next (moment old) (moment new) (Lit ∷ notes) next_asked whole

    abbrev pub asked : (r ≡ Err faults.Memory → ⊥) → Asked NoStore next (moment old) (moment new)
    asked starved = record { notes = Lit ∷ notes; going = whole; over = ap asks (told starved); same = same_kept }

    -- however it ended, so much was asked
    pub cut : AskedPart NoStore next (moment old) (moment new)
    cut = record { notes = Lit ∷ notes; going = whole; same = same_kept }

    only : OnlyAsks sensf_req later
    only = only_due [] later polls.going.each

    stay : AllStay sensf_req (map relit old.listeners)
    stay = all_of (λ d. _) stays_sensed (map relit old.listeners)

    pub heard : AllHeard (joint (answers_in old.listeners)) notes
    heard =
        let J : List Note → Type 0 = AllHeard (joint (answers_in old.listeners)) in
        let made : later ≡ trace_of air (moment mid).world polls.going.turns.moves = polls.going.turns.made in
        subst J (ap receptions (sym made) ∙ polls.going.known)
        (all_heard sensf_req (map relit old.listeners) stay polls.going.turns.moves (moment mid).world relit_at (subst (OnlyAsks sensf_req) made only))

    -- each of the tries behind the reset had noise
    pub noisy : tries ≤ noise (drop (length mid.trace) new.trace) → AreNoisy whole.events
    noisy n =
        let L : List Event → Type 0 = λ es. tries ≤ noise es in
        let same : noise later ≡ noisy_tries sensf_req later = tries_same air (moment mid).world sensf_req later refl polls.going.turns only in
        subst AreNoisy (sym whole_is) (subst (λ k. tries ≤ k) same (subst L later_is n))

    dark_lit : mid.lit ≡ false → ⊥
    dark_lit d = let l : mid.lit ≡ true = mid_lit in cc

    lost_there : (mid.lit ≡ false) ⊎ (0 < breaks (drop (length mid.trace) new.trace)) → 0 < breaks whole.events
    lost_there (inl d) = absurd (dark_lit d)
    lost_there (inr h) = subst (λ es. 0 < breaks es) (sym whole_is) (subst (λ es. 0 < breaks es) later_is h)

    broken : 0 < breaks later → r ≡ Err faults.FieldLost
    broken h =
        let gone : HasLost notes = going_lost devices (enquiring e) (moment mid) (moment new) notes polls.going h in
        polls.comes ∙ ap (answer_of e) (loses e e.start notes gone)

    -- the field was lost exactly where a Break was used
    pub lost_by : LosesByBreak mid r new → (r ≡ Err faults.FieldLost) ↔ (0 < breaks whole.events)
    lost_by loses' = ((λ l. lost_there (loses' l)), (λ h. broken (subst (λ es. 0 < breaks es) whole_is h)))

    -- where it ended well, the field is as the reset left it
    module _ (x : X) (well : r ≡ Ok x) where
      not_lost : r ≡ Err faults.FieldLost → ⊥
      not_lost l = let k : r ≡ Ok x = well in cc

      unbroken : breaks later ≡ 0
      unbroken = by_count (breaks later) refl
        where
          by_count : (n : ℕ) → breaks later ≡ n → breaks later ≡ 0
          by_count zero is = is
          by_count (suc n) is = absurd (not_lost (broken (omega (arith, is))))

      pub listeners_are : new.listeners ≡ map relit old.listeners
      listeners_are =
          ap (λ (m : Moment (World Device)). m.world.listeners) polls.going.moment
          ∙ all_stay sensf_req later (moment mid).world only (subst (AllStay sensf_req) (sym relit_at) stay) unbroken ∙ relit_at

      no_loss : (p : Progress S) → Ok x ≡ answer_of e p → ◌≡◌ {A = Progress S} Loses p → ⊥
      no_loss p is l = let k : Ok x ≡ Err faults.FieldLost = is ∙ ap (answer_of e) (sym l) in cc

      lit_at_end : lit_by true notes ≡ true
      lit_at_end = by_progress (progress e e.start notes) refl (sym well ∙ polls.comes)
        where
          by_progress : (p : Progress S) → progress e e.start notes ≡ p → Ok x ≡ answer_of e (progress e e.start notes) → lit_by true notes ≡ true
          by_progress (Reaches s) h is = stays_lit e e.start s notes h
          by_progress Loses h is = absurd (no_loss (progress e e.start notes) is (sym h))

      pub world_lit : new.lit ≡ true
      world_lit = going_lit devices (enquiring e) (moment mid) (moment new) notes polls.going ∙ ap (λ v. lit_by v notes) mid_lit ∙ lit_at_end
