-- A search for all devices: what its two calls of polling asked, and what they came to.
use Rattle.std.proofs.Common.{◌≡◌, ◌⊎◌, inl, inr, ℕ, zero, suc, ◌+◌, ◌<◌, ◌≤◌, List, [], ◌∷◌, ◌++◌, map, length, drop, filter_map, true, false, Option, Some, None, Result, Ok, Err, refl, sym, ◌∙◌, ap}
use Rattle.std.proofs.Common.{subst, append_assoc, arith}
use Rattle.std.specs.List.{AllByRecursion}
use Rattle.nfc_base.specs.declared.event.Event.{Event}
use Rattle.air_core.specs.Joint.{same_signal}
use Rattle.nfc_base.specs.Trace.{breaks, noise}
use Rattle.air_core.specs.Turn.{Air, moment}
use Rattle.air_core.specs.World.{World}
use Rattle.air_core.specs.Conversation.{Note, Next, IsDemand, Moment, Going, receptions}
use Rattle.air_core.proofs.Turns.{due_weaker, going_then}
use Rattle.nfca_poll.specs.declared.fault.Picked.{Picked}
use Rattle.nfca_poll.specs.declared.kind.Kind.TheVariants as kinds
use Rattle.nfca_poll.specs.declared.fault.PollFault.{PollFault}
use Rattle.nfca_poll.specs.declared.fault.PollFault.TheVariants as faults
use Rattle.nfca_poll.specs.declared.inventory.Vcrowd.{Vcrowd}
use Rattle.nfca_poll.specs.declared.inventory.Vcrowd.TheVariants.{Nobody}
use Rattle.nfca_poll.specs.Enquiry.{progress, enquiring, answer_of, Enquires, LosesByBreak}
use Rattle.nfca_poll.specs.Inventory.{Tries, tries, inventory, inventory_all, IsSteady, NoneAnswers, HasCauseV}
use Rattle.nfca_poll.specs.Rounds.{Begins as Starts, all_devices, finding}
use Rattle.nfca_poll.specs.RoundTrace.{Misses}
use Rattle.nfca_poll.specs.RoundEnds as rounds
use Rattle.nfc_base.specs.Prefix.{IsPrefix}
use Rattle.nfca_poll.specs.Crowd.{Each, crowd}
use Rattle.nfca_poll.specs.RoundEnds.{FindsCrowd}
use Rattle.nfca_poll.proofs.quiet.Crowding.{drop-front}
use Rattle.tag_reader.specs.declared.how.How.{How}
use Rattle.tag_reader.specs.declared.how.How.TheVariants as hows
use Rattle.bench_devices.specs.declared.device.Device.{Device}
use Rattle.bench_devices.specs.declared.device.Device.TheVariants.{T2, T4, Peer, T5, T3}
use Rattle.bench_devices.specs.Device.{devices, device_id}
use Rattle.bench_devices.specs.Crowded.{card_if, v_if, crowd_of, inventory_of, others_of}
use Rattle.bench_devices.specs.Device.{air}
use Rattle.bench_devices.specs.Answering.{AreOthers, InventoryEnds, FindEnds}
use Rattle.bench_devices.specs.Noise.{is_call, noisy_tries, MissedRound}
use Rattle.bench_devices.specs.Keeping.{Kept, kept, AreSound, AreTame, NoStore, EachAsked}
use Rattle.bench_devices.specs.Phases.{AreTidy, AskedPart, IsEnd, Searches}
use Rattle.bench_devices.specs.Polling as followed
use Rattle.bench_devices.specs.Polling.{Followed, follows, finding_all, then_inventory, then_others, asks}
use Rattle.bench_devices.specs.declared.sweeping.Everybody.{Everybody}
use Rattle.bench_devices.proofs.kinds.Ours.{steady_at_all}
use Rattle.bench_devices.proofs.finding.Following.{asks_same, told_same, follows_on}
use Rattle.air_core.proofs.Following.{no_demand}
use Rattle.bench_devices.proofs.turns.NoisyTurns.{missed_calls, gave_up_calls, tries_same, only_up_to, only_no_round, only_no_sens, noisy_then, at_least, missed_then}
use Rattle.bench_devices.proofs.finding.Unmoved.{OnlyAsks}
use Rattle.bench_devices.proofs.finding.Searching.{IsCall, asks_calls, asks_harmless, search_closes}
use Rattle.bench_devices.proofs.finding.SelectingAir.{events_are, loses}
use Rattle.air_core.proofs.LostField.{breaks-append, HasLost, going_lost}
use Rattle.bench_devices.proofs.finding.SelectingCards.{polled, tidy, cards_of, own_idents, few_cards}
use Rattle.bench_devices.proofs.turns.QuietPolling.{AsksQuietly, PollsQuietly, call_hands_none, other_hands_none, quietly}
use Rattle.bench_devices.proofs.finding.SelectingKept.{due_asked, going_keeps}
use Rattle.bench_devices.proofs.finding.Inventoried.{IsAwake, only_due, none_told, all_of, Comes, inventory_closes, inventory_other, inventory_harmless, inventory_comes}
use Rattle.bench_devices.proofs.kinds.Awake.{awake_behind}

abbrev next : List Note → Next
next ns = asks (finding_all ns)

-- at its requests nothing is handed over
pub finds_quietly : AsksQuietly finding
finds_quietly ns f e = let is : IsCall f = asks_calls all_devices ns f e in call_hands_none f is.begins

pub inventories_quietly : AsksQuietly inventory
inventories_quietly ns f e = other_hands_none f (inventory_other ns f e)

pub quiet_find : (old new : Air Device) (r : Result (List Picked) PollFault) → Enquires finding devices old r new → PollsQuietly finding old r new
quiet_find old new r turns = quietly finding finds_quietly old new r turns

pub quiet_inventory : (old new : Air Device) (r : Result Vcrowd PollFault) → Enquires inventory devices old r new → PollsQuietly inventory old r new
quiet_inventory old new r turns = quietly inventory inventories_quietly old new r turns

-- the search of NFC-A comes first
first_by : (p : Followed (List Picked)) (n : Next) → asks p ≡ n → IsDemand n → asks (then_inventory p) ≡ n
first_by (followed.Asks m) n e d = e
first_by (followed.Told r ns) n e d = absurd (no_demand n (sym e) d)

first_asks : (ns : List Note) (n : Next) → enquiring finding ns ≡ n → IsDemand n → next ns ≡ n
first_asks ns n e d = first_by (follows finding ns) n (asks_same finding (search_closes all_devices) ns ∙ e) d

-- and the inventory behind it
pub others_ask : (cards : List Picked) (p : Followed Vcrowd) → asks (then_others cards p) ≡ asks p
others_ask cards (followed.Asks n) = refl
others_ask cards (followed.Told (Ok others) ns) = refl
others_ask cards (followed.Told (Err e) ns) = refl

then_asks : (cards : List Picked) (hs : List Note) → follows finding hs ≡ followed.Told (Ok cards) [] → (ns : List Note) → next (hs ++ ns) ≡ enquiring inventory ns
then_asks cards hs told ns =
    ap (λ p. asks (then_inventory p)) (follows_on finding hs ns (Ok cards) told) ∙ others_ask cards (follows inventory ns) ∙ asks_same inventory inventory_closes ns

-- What a search tells of the devices is the same before and behind it.
same_cards : (ds : List Device) → cards_of ds ≡ filter_map card_if ds
same_cards [] = refl
same_cards (T2 d ∷ ds) = ap (λ cs. record { id = d.id; kind = kinds.T2; front = d.front } ∷ cs) (same_cards ds)
same_cards (T4 d ∷ ds) = ap (λ cs. record { id = d.id; kind = kinds.T4; front = d.front } ∷ cs) (same_cards ds)
same_cards (Peer d ∷ ds) = ap (λ cs. record { id = d.id; kind = kinds.Peer; front = d.front } ∷ cs) (same_cards ds)
same_cards (T5 p ∷ ds) = same_cards ds
same_cards (T3 p ∷ ds) = same_cards ds

v_how : How → Option (List ℕ)
v_how hows.T2 = None
v_how hows.T4 = None
v_how (hows.T5 id) = Some id

v_kept : (ds : List Device) → filter_map v_if ds ≡ filter_map (λ (k : Kept). v_how k.fixed.how) (map kept ds)
unfolding v_how
v_kept [] = refl
v_kept (T2 d ∷ ds) = v_kept ds
v_kept (T4 d ∷ ds) = v_kept ds
v_kept (T3 p ∷ ds) = v_kept ds
v_kept (Peer d ∷ ds) = v_kept ds
v_kept (T5 p ∷ ds) = ap (λ is. p.tag.id ∷ is) (v_kept ds)

same_others : (a b : List Device) → map kept a ≡ map kept b → inventory_of (filter_map v_if a) ≡ others_of b
same_others a b e = ap inventory_of (v_kept a ∙ ap (filter_map (λ (k : Kept). v_how k.fixed.how)) e ∙ sym (v_kept b))

err_of : {X : Type 0} (e f : PollFault) → ◌≡◌ {A = Result X PollFault} (Err e) (Err f) → e ≡ f
err_of e f h = cc

ok_no_err : {X : Type 0} (x : X) (e : PollFault) → ◌≡◌ {A = Result X PollFault} (Ok x) (Err e) → ⊥
ok_no_err x e h = cc

none_of : (n : ℕ) → (0 < n → ⊥) → n ≡ 0
none_of zero h = refl
none_of (suc n) h = absurd (h (omega arith))

front_none : (m n : ℕ) → m ≡ 0 → m + n ≡ n
front_none m n e = omega (arith, e)

-- what the two calls have come to, where the search of NFC-A found these
abbrev pub together : List Picked → Result Vcrowd PollFault → Result Everybody PollFault
together cards (Ok others) = Ok (record { cards = cards; others = others })
together cards (Err e) = Err e

module _ (old mid : Air Device) (found : Result (List Picked) PollFault) (tame : AreTame (map kept old.listeners)) (calm : AreTidy old.listeners) (turns : PollsQuietly finding old found mid)
    (ends_so : FindsCrowd devices device_id old found mid) (lost : found ≡ Err faults.FieldLost → 0 < breaks (drop (length old.trace) mid.trace)) where
  abbrev first : List Event
  first = turns.going.events

  first_is : drop (length old.trace) mid.trace ≡ first
  first_is = events_are air (moment old) (moment mid) first turns.going.moment

  first_kept : map kept mid.listeners ≡ map kept old.listeners
  first_kept = going_keeps (enquiring finding) (moment old) (moment mid) turns.notes (asks_harmless all_devices) turns.going

  ends : rounds.FindEnds (cards_of old.listeners) found first
  ends = let P : List Event → Type 0 = λ es. rounds.FindEnds (cards_of old.listeners) found es in subst P first_is (ends_so polled (tidy old.listeners calm) (own_idents old.listeners tame))

  told : (found ≡ Err faults.Memory → ⊥) → follows finding turns.notes ≡ followed.Told found []
  told starved = told_same finding (search_closes all_devices) air (moment old) (moment mid) turns.notes found turns.going turns.comes starved

  calls : EachAsked (λ f. is_call f ≡ true) first
  calls = due_asked (λ f. is_call f ≡ true) (enquiring finding) (λ ns f e. let is : IsCall f = asks_calls all_devices ns f e in is.called) [] first turns.going.each

  broken : 0 < breaks first → found ≡ Err faults.FieldLost
  broken h =
      let gone : HasLost turns.notes = going_lost devices (enquiring finding) (moment old) (moment mid) turns.notes turns.going h in
      turns.comes ∙ ap (answer_of finding) (loses finding (Starts 1) turns.notes gone)

  -- what was asked of NFC-A is the first part of a search
  abbrev alone : Going air next (moment old) (moment mid) turns.notes
  alone = record {
    events = first;
    moment = turns.going.moment;
    turns = turns.going.turns;
    each = due_weaker next (enquiring finding) first_asks [] first turns.going.each;
    fates = turns.going.fates;
    fresh = turns.going.fresh;
    known = turns.going.known;
  }

  -- want of memory cut it off
  pub cut_one : AskedPart NoStore next (moment old) (moment mid)
  cut_one = record { notes = turns.notes; going = alone; same = first_kept }

  -- the search of NFC-A ended by a fault
  module _ (e : PollFault) (bad : found ≡ Err e) where
    bad_ends : rounds.FindEnds (cards_of old.listeners) (Err e) first
    bad_ends = let P : Result (List Picked) PollFault → Type 0 = λ x. rounds.FindEnds (cards_of old.listeners) x first in subst P bad ends

    ends_by : (q : PollFault) → (q ≡ faults.Memory → ⊥) → rounds.FindEnds (cards_of old.listeners) (Err q) first → FindEnds IsEnd old.listeners (Err q) [] first (Err q)
    ends_by faults.Nobody fed h = absurd h
    ends_by faults.Disturbed fed h = (refl, gave_up_calls air (moment old).world first turns.going.turns calls h)
    ends_by faults.FieldLost fed h = refl
    ends_by faults.Memory fed h = absurd (fed refl)
    ends_by faults.NotFound fed h = absurd h
    ends_by faults.BadAnswer fed h = absurd (few_cards old.listeners tame h)

    module _ (fed : e ≡ faults.Memory → ⊥) where
      told_bad : follows finding turns.notes ≡ followed.Told (Err e) []
      told_bad = told (λ m. fed (err_of e faults.Memory (sym bad ∙ m))) ∙ ap (λ x. followed.Told x []) bad

      lost_one : ◌≡◌ {A = Result Everybody PollFault} (Err e) (Err faults.FieldLost) → 0 < breaks first
      lost_one l = subst (λ es. 0 < breaks es) first_is (lost (bad ∙ ap Err (err_of e faults.FieldLost l)))

      lost_back : 0 < breaks first → ◌≡◌ {A = Result Everybody PollFault} (Err e) (Err faults.FieldLost)
      lost_back h = ap Err (err_of e faults.FieldLost (sym bad ∙ broken h))

      -- no inventory followed
      pub searches_one : Searches (moment old) (moment mid) (Err e)
      searches_one = record {
        asked = record { notes = turns.notes; going = alone; over = ap (λ p. asks (then_inventory p)) told_bad; same = first_kept };
        tells = record {
          found = Err e;
          behind = [];
          searched = ap (follows finding) turns.going.known ∙ told_bad;
          ends = ends_by e fed bad_ends;
          lost = (lost_one, lost_back);
        };
      }

  -- it ended well, and the inventory followed
  module _ (cards : List Picked) (well : found ≡ Ok cards) where
    well_ends : IsPrefix cards (crowd_of old.listeners) × ((cards ≡ crowd_of old.listeners) ⊎ Misses first)
    well_ends =
        let P : Result (List Picked) PollFault → Type 0 = λ x. rounds.FindEnds (cards_of old.listeners) x first in
        let Q : List Picked → Type 0 = λ c. IsPrefix cards c × ((cards ≡ c) ⊎ Misses first) in
        subst Q (ap crowd (same_cards old.listeners)) (subst P well ends)

    told_well : follows finding turns.notes ≡ followed.Told (Ok cards) []
    told_well = told (λ m. ok_no_err cards faults.Memory (sym well ∙ m)) ∙ ap (λ x. followed.Told x []) well

    unbroken : breaks first ≡ 0
    unbroken = none_of (breaks first) (λ h. ok_no_err cards faults.FieldLost (sym well ∙ broken h))

    asked_some : first ≡ [] → ⊥
    asked_some e =
        let none : turns.notes ≡ [] = sym turns.going.known ∙ ap receptions e in
        ok_no_err cards faults.Memory (sym well ∙ turns.comes ∙ ap (λ ns. answer_of finding (progress finding (Starts 1) ns)) none)

    awake : AllByRecursion IsAwake mid.listeners
    awake =
        let at : mid.listeners ≡ _ = ap (λ (m : Moment (World Device)). m.world.listeners) turns.going.moment in
        subst (AllByRecursion IsAwake) (sym at) (awake_behind first (moment old).world turns.going.each turns.going.fresh unbroken asked_some)

    module _ (new : Air Device) (r : Result Vcrowd PollFault) (more : PollsQuietly inventory mid r new) (cause : Each (IsSteady devices inventory_all) mid.listeners → HasCauseV devices mid r new)
        (lost_more : LosesByBreak mid r new) (lit : mid.lit ≡ true) where
      abbrev rest : List Event
      rest = more.going.events

      rest_is : drop (length mid.trace) new.trace ≡ rest
      rest_is = events_are air (moment mid) (moment new) rest more.going.moment

      abbrev whole : Going air next (moment old) (moment new) (turns.notes ++ more.notes)
      whole =
          going_then air next (enquiring finding) (enquiring inventory) (moment old) (moment mid) (moment new) turns.notes more.notes first_asks (then_asks cards turns.notes told_well) turns.going
          more.going

      whole_is : whole.events ≡ first ++ rest
      whole_is =
          let T : Moment (World Device) → List Event = λ m. m.trace in
          let all : new.trace ≡ old.trace ++ (first ++ rest) = ap T more.going.moment ∙ ap (λ t. t ++ rest) (ap T turns.going.moment) ∙ append_assoc old.trace first rest in
          sym (events_are air (moment old) (moment new) whole.events whole.moment) ∙ ap (drop (length old.trace)) all ∙ drop-front old.trace (first ++ rest)

      breaks_whole : breaks whole.events ≡ breaks rest
      breaks_whole = ap breaks whole_is ∙ breaks-append first rest ∙ front_none (breaks first) (breaks rest) unbroken

      comes : Comes (others_of old.listeners) r
      comes =
          let C : Vcrowd → Type 0 = λ v. Comes v r in
          let sound = subst (λ ks. AreSound ks) (sym first_kept) tame.sound in
          subst C (same_others mid.listeners old.listeners first_kept)
          (subst (Comes (inventory_of (filter_map v_if mid.listeners))) (sym more.comes) (inventory_comes (moment mid) (moment new) more.notes more.going awake sound))

      abbrev causes : HasCauseV devices mid r new
      causes = cause (all_of (IsSteady devices inventory_all) steady_at_all mid.listeners)

      -- the inventory asks one thing
      only : OnlyAsks inventory_all rest
      only = only_due [] rest more.going.each

      noisy : tries ≤ noise (drop (length mid.trace) new.trace) → tries ≤ noisy_tries inventory_all whole.events
      noisy h =
          let L : List Event → Type 0 = λ es. tries ≤ noise es in
          let same : noise rest ≡ noisy_tries inventory_all rest = tries_same air (moment mid).world inventory_all rest refl more.going.turns only in
          subst (λ es. tries ≤ noisy_tries inventory_all es) (sym whole_is)
          (at_least (noisy_tries inventory_all (first ++ rest)) (noisy_tries inventory_all first) (noisy_tries inventory_all rest) tries
          (noisy_then (λ g. same_signal inventory_all g) first rest more.going.fresh) (subst (λ k. tries ≤ k) same (subst L rest_is h)))

      missed : Misses first → MissedRound whole.events
      missed h =
          subst MissedRound (sym whole_is)
          (missed_then rest more.going.fresh (only_up_to inventory_all rest only) (only_no_round inventory_all rest only) (only_no_sens inventory_all rest refl only) first
          (missed_calls air (moment old).world first turns.going.turns calls h))

      all_or : (cards ≡ crowd_of old.listeners) ⊎ Misses first → (cards ≡ crowd_of old.listeners) ⊎ MissedRound whole.events
      all_or (inl h) = inl h
      all_or (inr h) = inr (missed h)

      are_others : (others : Vcrowd) → r ≡ Ok others → (others ≡ others_of old.listeners) ⊎ (others ≡ Nobody) → AreOthers old.listeners others whole.events
      are_others others e (inl same) = inl same
      are_others others e (inr nobody) = by_miss (causes.nobody (e ∙ ap Ok nobody))
        where
          by_miss : NoneAnswers devices inventory_all mid.listeners ⊎ (tries ≤ noise (drop (length mid.trace) new.trace)) → AreOthers old.listeners others whole.events
          by_miss (inl none) = inl (nobody ∙ sym (none_told mid.listeners awake none) ∙ same_others mid.listeners old.listeners first_kept)
          by_miss (inr n) = inr (nobody, noisy n)

      ends_with : (q : Result Vcrowd PollFault) → (q ≡ Err faults.Memory → ⊥) → r ≡ q → Comes (others_of old.listeners) q → InventoryEnds IsEnd old.listeners cards q whole.events (together cards q)
      ends_with (Ok others) fed e c = (are_others others e c, refl)
      ends_with (Err faults.Nobody) fed e c = absurd c
      ends_with (Err faults.Disturbed) fed e c = (refl, noisy (causes.disturbed e))
      ends_with (Err faults.FieldLost) fed e c = refl
      ends_with (Err faults.Memory) fed e c = absurd (fed refl)
      ends_with (Err faults.NotFound) fed e c = absurd c
      ends_with (Err faults.BadAnswer) fed e c = absurd c

      broken_more : 0 < breaks rest → r ≡ Err faults.FieldLost
      broken_more h =
          let gone : HasLost more.notes = going_lost devices (enquiring inventory) (moment mid) (moment new) more.notes more.going h in
          more.comes ∙ ap (answer_of inventory) (loses inventory (Tries 0 false) more.notes gone)

      lit_lost : (mid.lit ≡ false) ⊎ (0 < breaks (drop (length mid.trace) new.trace)) → 0 < breaks rest
      lit_lost (inl dark) = absurd (let k : mid.lit ≡ true = lit in cc)
      lit_lost (inr h) = subst (λ es. 0 < breaks es) rest_is h

      lost_with : (q : Result Vcrowd PollFault) → r ≡ q → together cards q ≡ Err faults.FieldLost → 0 < breaks rest
      lost_with (Ok others) e l = absurd (ok_no_err (record { cards = cards; others = others }) faults.FieldLost l)
      lost_with (Err f) e l = lit_lost (lost_more (e ∙ ap Err (err_of f faults.FieldLost l)))

      lost_again : (q : Result Vcrowd PollFault) → r ≡ q → r ≡ Err faults.FieldLost → together cards q ≡ Err faults.FieldLost
      lost_again (Ok others) e l = absurd (ok_no_err others faults.FieldLost (sym e ∙ l))
      lost_again (Err f) e l = ap Err (err_of f faults.FieldLost (sym e ∙ l))

      whole_kept : map kept new.listeners ≡ map kept old.listeners
      whole_kept = going_keeps (enquiring inventory) (moment mid) (moment new) more.notes inventory_harmless more.going ∙ first_kept

      -- want of memory cut off the inventory
      pub cut_both : AskedPart NoStore next (moment old) (moment new)
      cut_both = record { notes = turns.notes ++ more.notes; going = whole; same = whole_kept }

      -- it was over, and both are one search
      pub searches_both : (r ≡ Err faults.Memory → ⊥) → Searches (moment old) (moment new) (together cards r)
      searches_both fed =
          let told_others : follows inventory more.notes ≡ followed.Told r [] =
          told_same inventory inventory_closes air (moment mid) (moment new) more.notes r more.going more.comes fed in
          record {
            asked = record {
              notes = turns.notes ++ more.notes;
              going = whole;
              over = then_asks cards turns.notes told_well more.notes ∙ sym (asks_same inventory inventory_closes more.notes) ∙ ap asks told_others;
              same = whole_kept;
            };
            tells = record {
              found = Ok cards;
              behind = more.notes;
              searched = ap (follows finding) whole.known ∙ follows_on finding turns.notes more.notes (Ok cards) told_well;
              ends = (well_ends.0, all_or well_ends.1, r, told_others, ends_with r fed refl comes);
              lost = (
                (λ l. subst (λ n. 0 < n) (sym breaks_whole) (lost_with r refl l)),
                (λ h. lost_again r refl (broken_more (subst (λ n. 0 < n) breaks_whole h))),
              );
            };
          }
