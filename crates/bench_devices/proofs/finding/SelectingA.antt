-- Selecting a device of NFC-A, by what its call of polling asked and what it came to.
use Rattle.std.proofs.Common.{◌≡◌, ◌≢◌, ◌⊎◌, inl, inr, ℕ, ◌<◌, List, [], ◌∷◌, ◌++◌, map, length, drop, true, false, IsSome, Result, Ok, Err, refl, sym, ◌∙◌, ap, subst}
use Rattle.std.specs.List.{AllByRecursion}
use Rattle.nfc_base.specs.declared.event.Event.{Event}
use Rattle.nfc_base.specs.Trace.{breaks}
use Rattle.air_core.specs.Turn.{Air, moment}
use Rattle.air_core.specs.World.{World}
use Rattle.air_core.specs.Conversation.{Note, Next, Moment, Going, receptions}
use Rattle.air_core.specs.PlainTags.{IsAside}
use Rattle.nfca_poll.specs.declared.kind.Kind.{Kind}
use Rattle.nfca_poll.specs.declared.fault.PollFault.{PollFault}
use Rattle.nfca_poll.specs.declared.fault.PollFault.TheVariants as faults
use Rattle.nfca_poll.specs.Ident.{IsIdent}
use Rattle.nfca_poll.specs.Front.{Front, Off, Idle, Sleep, Ready, Active, is_ready, is_active}
use Rattle.nfca_poll.specs.Crowd.{Card, Each, is_rest, card_of}
use Rattle.nfca_poll.specs.Enquiry.{progress, enquiring, answer_of, Enquires}
use Rattle.nfca_poll.specs.Rounds.{Begins, device_of, picking}
use Rattle.nfca_poll.specs.RoundTrace.{Misses}
use Rattle.nfca_poll.specs.RoundEnds.{LeavesActive, PickEnds, SelectsAlone}
use Rattle.nfca_poll.proofs.quiet.Eaches.{each_front, each_back}
use Rattle.bench_script.specs.declared.command.DeviceId.TheVariants as ids
use Rattle.bench_devices.specs.declared.device.Device.{Device}
use Rattle.bench_devices.specs.declared.device.Device.TheVariants.{T2, T4, Peer, T5, T3}
use Rattle.bench_devices.specs.declared.polling.SeenKind.{SeenKind}
use Rattle.bench_devices.specs.Device.{devices, device_id, device_selected, seen_of, may_be_found}
use Rattle.bench_devices.specs.Device.{air, seen_of}
use Rattle.bench_devices.specs.Placed.{device_with}
use Rattle.bench_devices.specs.Answering.{HasPollCause, MissedBy, IsAbsent}
use Rattle.bench_devices.specs.Noise.{is_call}
use Rattle.nfc_base.specs.declared.frame.Tech.TheVariants as techs
use Rattle.bench_devices.specs.Choosing.{StandsAt}
use Rattle.bench_devices.specs.Keeping.{kept, AreSound, AreTame, ghosts, NoStore, EachAsked}
use Rattle.bench_devices.specs.Phases.{AreTidy, Stands, Asked, Selects, SelectsAt, SelectionCut}
use Rattle.bench_devices.specs.Polling as followed
use Rattle.bench_devices.specs.Polling.{follows, kind_by, seen_kind, selecting, asks}
use Rattle.bench_devices.proofs.finding.Following.{seen_by, kind_told, kind_asks, seen_lost, asks_same, told_same}
use Rattle.air_core.proofs.Following.{going_as}
use Rattle.bench_devices.proofs.turns.NoisyTurns.{missed_calls, gave_up_calls}
use Rattle.bench_devices.proofs.finding.Searching.{IsCall, asks_calls, asks_harmless, search_closes, ends_lit}
use Rattle.bench_devices.proofs.finding.SelectingAir.{events_are, loses}
use Rattle.air_core.proofs.LostField.{HasLost, going_lit, going_lost}
use Rattle.bench_devices.proofs.finding.SelectingCards.{ours, polled, tidy, cards_of, own_idents, few_cards}
use Rattle.bench_devices.proofs.turns.QuietPolling.{AsksQuietly, PollsQuietly, call_hands_none, quietly}
use Rattle.bench_devices.proofs.finding.SelectingKept.{due_asked, going_keeps}
use Rattle.bench_devices.proofs.finding.SelectingLinks.{AreUnlinked, unasked, unlinked_amid, unlinked_behind}
use Rattle.bench_devices.proofs.finding.SelectingPlaces.{some_named, sound_amid, others_before, others_behind, same_place}

-- what is seen of the device, by the kind that was told
abbrev pub any : Result Kind PollFault → Result SeenKind PollFault
any r = seen_by seen_kind r

-- no card has an identifier: no device has it
other_ids : (id : List ℕ) (ds : List Device) → Each (λ c. c.id ≢ id) (cards_of ds) → IsAbsent (ids.A id) ds
other_ids id [] h = tt
other_ids id (T2 d ∷ ds) h = ((λ e. h.0 e.1), other_ids id ds h.1)
other_ids id (T4 d ∷ ds) h = ((λ e. h.0 e.1), other_ids id ds h.1)
other_ids id (Peer d ∷ ds) h = ((λ e. h.0 e.1), other_ids id ds h.1)
other_ids id (T5 p ∷ ds) h = ((λ e. absurd (let k : techs.V ≡ techs.A = e.0 in cc)), other_ids id ds h)
other_ids id (T3 p ∷ ds) h = ((λ e. absurd (let k : techs.F ≡ techs.A = e.0 in cc)), other_ids id ds h)

-- the device that has a card
record CardAt (ds : List Device) (a : List Card) (c : Card) (b : List Card) : Type 0 where
  pub before : List Device
  pub device : Device
  pub behind : List Device
  pub split : ds ≡ before ++ device ∷ behind
  pub card : card_of ours device ≡ c
  pub first : cards_of before ≡ a
  pub later : cards_of behind ≡ b

no_card : (c : Card) (b : List Card) → [] ≡ c ∷ b → ⊥
no_card c b e = cc

head_or : Card → List Card → Card
head_or y [] = y
head_or y (x ∷ xs) = x

tail_of : List Card → List Card
tail_of [] = []
tail_of (x ∷ xs) = xs

abbrev IsCarded : Device → Type 0
IsCarded d = (ds : List Device) → cards_of (d ∷ ds) ≡ card_of ours d ∷ cards_of ds

-- the first of some devices has the card, or another one has it
card_here : (d : Device) (ds : List Device) (c : Card) (b : List Card) → card_of ours d ∷ cards_of ds ≡ c ∷ b → CardAt (d ∷ ds) [] c b
unfolding head_or tail_of
card_here d ds c b e = record { before = []; device = d; behind = ds; split = refl; card = ap (head_or (card_of ours d)) e; first = refl; later = ap tail_of e }

card_later : (d : Device) (ds : List Device) (x : Card) (a : List Card) (c : Card) (b : List Card) → IsCarded d → card_of ours d ∷ cards_of ds ≡ x ∷ (a ++ c ∷ b) → CardAt ds a c b
    → CardAt (d ∷ ds) (x ∷ a) c b
unfolding head_or
card_later d ds x a c b carded e r = record {
  before = d ∷ r.before;
  device = r.device;
  behind = r.behind;
  split = ap (λ xs. d ∷ xs) r.split;
  card = r.card;
  first = carded r.before ∙ ap (λ xs. card_of ours d ∷ xs) r.first ∙ ap (λ y. y ∷ a) (ap (head_or (card_of ours d)) e);
  later = r.later;
}

card_at : (ds : List Device) (a : List Card) (c : Card) (b : List Card) → cards_of ds ≡ a ++ c ∷ b → CardAt ds a c b
unfolding tail_of
card_at [] [] c b e = absurd (no_card c b e)
card_at [] (x ∷ a) c b e = absurd (no_card x (a ++ c ∷ b) e)
card_at (T5 p ∷ ds) a c b e =
    let r : CardAt ds a c b = card_at ds a c b e in
    record { before = T5 p ∷ r.before; device = r.device; behind = r.behind; split = ap (λ xs. T5 p ∷ xs) r.split; card = r.card; first = r.first; later = r.later }
card_at (T3 p ∷ ds) a c b e =
    let r : CardAt ds a c b = card_at ds a c b e in
    record { before = T3 p ∷ r.before; device = r.device; behind = r.behind; split = ap (λ xs. T3 p ∷ xs) r.split; card = r.card; first = r.first; later = r.later }
card_at (T2 d ∷ ds) [] c b e = card_here (T2 d) ds c b e
card_at (T2 d ∷ ds) (x ∷ a) c b e = card_later (T2 d) ds x a c b (λ xs. refl) e (card_at ds a c b (ap tail_of e))
card_at (T4 d ∷ ds) [] c b e = card_here (T4 d) ds c b e
card_at (T4 d ∷ ds) (x ∷ a) c b e = card_later (T4 d) ds x a c b (λ xs. refl) e (card_at ds a c b (ap tail_of e))
card_at (Peer d ∷ ds) [] c b e = card_here (Peer d) ds c b e
card_at (Peer d ∷ ds) (x ∷ a) c b e = card_later (Peer d) ds x a c b (λ xs. refl) e (card_at ds a c b (ap tail_of e))

-- a device whose card is active is selected, and is what its card tells
no_off : Off ≡ Active false → ⊥
no_off e = cc

told_right : (d : Device) (c : Card) → card_of ours d ≡ c → c.front ≡ Active false → (seen_of d ≡ seen_kind c.kind) × (device_selected d ≡ true) × (may_be_found d ≡ true)
told_right (T2 d) c e f = (ap (λ (x : Card). seen_kind x.kind) e, ap (λ (x : Card). is_active x.front) e ∙ ap is_active f, refl)
told_right (T4 d) c e f = (ap (λ (x : Card). seen_kind x.kind) e, ap (λ (x : Card). is_active x.front) e ∙ ap is_active f, refl)
told_right (Peer d) c e f = (ap (λ (x : Card). seen_kind x.kind) e, ap (λ (x : Card). is_active x.front) e ∙ ap is_active f, refl)
told_right (T5 p) c e f = absurd (no_off (ap (λ (x : Card). x.front) e ∙ f))
told_right (T3 p) c e f = absurd (no_off (ap (λ (x : Card). x.front) e ∙ f))

rest_unready : (front : Front) → is_rest front ≡ true → (is_ready front ≡ false) × (is_active front ≡ false)
rest_unready Off h = (refl, refl)
rest_unready Idle h = (refl, refl)
rest_unready Sleep h = (refl, refl)
rest_unready (Ready k starred) h = absurd cc
rest_unready (Active starred) h = absurd cc

-- devices whose cards are at rest are aside
all_aside : (id : List ℕ) (ds : List Device) → Each (λ c. is_rest c.front ≡ true) (cards_of ds) → AllByRecursion (λ l. id ≡ device_id l → ⊥) ds → AllByRecursion (IsAside ghosts id) ds
all_aside id [] h o = tt
all_aside id (T2 d ∷ ds) h o = (record { rests = λ t. rest_unready d.front h.0; other = o.0 }, all_aside id ds h.1 o.1)
all_aside id (T4 d ∷ ds) h o = (record { rests = λ t. rest_unready d.front h.0; other = o.0 }, all_aside id ds h.1 o.1)
all_aside id (Peer d ∷ ds) h o = (record { rests = λ t. rest_unready d.front h.0; other = o.0 }, all_aside id ds h.1 o.1)
all_aside id (T5 p ∷ ds) h o = (record { rests = λ t. absurd cc; other = o.0 }, all_aside id ds h o.1)
all_aside id (T3 p ∷ ds) h o = (record { rests = λ t. absurd cc; other = o.0 }, all_aside id ds h o.1)

-- at its calls nothing is handed over
pub asks_quietly : (id : List ℕ) → AsksQuietly (picking id)
asks_quietly id ns f e = let is : IsCall f = asks_calls (device_of id) ns f e in call_hands_none f is.begins

pub quiet : (id : List ℕ) (old new : Air Device) (r : Result Kind PollFault) → Enquires (picking id) devices old r new → PollsQuietly (picking id) old r new
quiet id old new r turns = quietly (picking id) (asks_quietly id) old new r turns

module _ (id : List ℕ) (old new : Air Device) (r : Result Kind PollFault) (ident : IsIdent id) (tame : AreTame (map kept old.listeners)) (calm : AreTidy old.listeners)
    (turns : PollsQuietly (picking id) old r new) where
  abbrev next : List Note → Next
  next ns = asks (selecting (ids.A id) ns)

  next_same : (ns : List Note) → next ns ≡ enquiring (picking id) ns
  next_same ns = kind_asks seen_kind (follows (picking id) ns) ∙ asks_same (picking id) (search_closes (device_of id)) ns

  abbrev going : Going air (enquiring (picking id)) (moment old) (moment new) turns.notes
  going = turns.going

  abbrev events : List Event
  events = turns.going.events

  trace_is : drop (length old.trace) new.trace ≡ events
  trace_is = events_are air (moment old) (moment new) events turns.going.moment

  pub same_kept : map kept new.listeners ≡ map kept old.listeners
  same_kept = going_keeps (enquiring (picking id)) (moment old) (moment new) turns.notes (asks_harmless (device_of id)) going

  pub told : (r ≡ Err faults.Memory → ⊥) → selecting (ids.A id) turns.notes ≡ followed.Told (any r) []
  told starved = ap (kind_by seen_kind) (told_same (picking id) (search_closes (device_of id)) air (moment old) (moment new) turns.notes r going turns.comes starved) ∙ kind_told seen_kind r []

  abbrev asked : (r ≡ Err faults.Memory → ⊥) → Asked NoStore next (moment old) (moment new)
  asked starved = record {
    notes = turns.notes;
    going = going_as air next (enquiring (picking id)) (moment old) (moment new) turns.notes next_same going;
    over = ap asks (told starved);
    same = same_kept;
  }

  -- however it ended, so much was asked
  pub cut : SelectionCut (ids.A id) (moment old) (moment new)
  cut = record { notes = turns.notes; going = going_as air next (enquiring (picking id)) (moment old) (moment new) turns.notes next_same going; same = same_kept }

  lost_back : 0 < breaks events → any r ≡ Err faults.FieldLost
  lost_back h =
      let lost : HasLost turns.notes = going_lost devices (enquiring (picking id)) (moment old) (moment new) turns.notes going h in
      ap any (turns.comes ∙ ap (answer_of (picking id)) (loses (picking id) (Begins 1) turns.notes lost))

  module _ (lost : r ≡ Err faults.FieldLost → 0 < breaks (drop (length old.trace) new.trace)) (crowd : SelectsAlone devices device_id id old r new) where
    ends : PickEnds id (cards_of old.listeners) r (cards_of new.listeners) events
    ends = let P : List Event → Type 0 = λ es. PickEnds id (cards_of old.listeners) r (cards_of new.listeners) es in
        subst P trace_is (crowd polled (tidy old.listeners calm) (own_idents old.listeners tame))

    calls : EachAsked (λ f. is_call f ≡ true) events
    calls = due_asked (λ f. is_call f ≡ true) (enquiring (picking id)) (λ ns f e. let is : IsCall f = asks_calls (device_of id) ns f e in is.called) [] events turns.going.each

    missing : Each (λ c. c.id ≢ id) (cards_of old.listeners) ⊎ Misses events → MissedBy (ids.A id) old.listeners events
    missing (inl h) = inl (other_ids id old.listeners h)
    missing (inr h) = inr (missed_calls air (moment old).world events turns.going.turns calls h)

    cause : (q : Result Kind PollFault) → PickEnds id (cards_of old.listeners) q (cards_of new.listeners) events → (q ≡ Err faults.Memory → ⊥) → HasPollCause (ids.A id) old.listeners (any q) events
    cause (Ok kind) h m = tt
    cause (Err faults.Nobody) h m = h
    cause (Err faults.Disturbed) h m = gave_up_calls air (moment old).world events turns.going.turns calls h
    cause (Err faults.FieldLost) h m = tt
    cause (Err faults.Memory) h m = absurd (m refl)
    cause (Err faults.NotFound) h m = missing h
    cause (Err faults.BadAnswer) h m = few_cards old.listeners tame h

    pub selects : (r ≡ Err faults.Memory → ⊥) → Selects (ids.A id) (any r) (moment old) (moment new)
    selects starved = record {
      asked = asked starved;
      told = told starved;
      cause = cause r ends starved;
      lost = ((λ e. subst (λ es. 0 < breaks es) trace_is (lost (seen_lost seen_kind r e))), lost_back);
    }

    module _ (kind : Kind) (well : r ≡ Ok kind) where
      leaves : LeavesActive id kind (cards_of old.listeners) (cards_of new.listeners)
      leaves = let P : Result Kind PollFault → Type 0 = λ x. PickEnds id (cards_of old.listeners) x (cards_of new.listeners) events in subst P well ends

      abbrev picked : Card
      picked = record { id = id; kind = kind; front = Active false }

      found : CardAt new.listeners leaves.0 picked leaves.1
      found = card_at new.listeners leaves.0 picked leaves.1 leaves.2

      sound : AreSound (map kept (found.before ++ found.device ∷ found.behind))
      sound = let P : List Device → Type 0 = λ ls. AreSound (map kept ls) in subst P found.split (subst AreSound (sym same_kept) tame.sound)

      own : device_id found.device ≡ id
      own = ap (λ (c : Card). c.id) found.card

      -- there is a device of this identifier
      pub placed : IsSome (device_with id new.listeners)
      placed = subst (λ ls. IsSome (device_with id ls)) (sym found.split) (some_named id found.before found.device found.behind own)

      world_lit : new.lit ≡ true
      world_lit =
          going_lit devices (enquiring (picking id)) (moment old) (moment new) turns.notes going
          ∙ ends_lit (device_of id) old.lit kind turns.notes (sym well ∙ turns.comes)

      resting : Each (λ c. is_rest c.front ≡ true) (cards_of found.before ++ cards_of found.behind)
      resting = let P : List Card → Type 0 = λ cs. Each (λ c. is_rest c.front ≡ true) cs in subst (λ b. P (cards_of found.before ++ b)) (sym found.later)
          (subst (λ a. P (a ++ leaves.1)) (sym found.first) leaves.3)

      not_starved : Ok kind ≡ Err faults.Memory → ⊥
      not_starved e = cc

      right : (seen_of found.device ≡ seen_kind kind) × (device_selected found.device ≡ true) × (may_be_found found.device ≡ true)
      right = told_right found.device picked found.card refl

      -- it began with a reset, so none has a link
      asked_some : events ≡ [] → ⊥
      asked_some e =
          let none : turns.notes ≡ [] = sym turns.going.known ∙ ap receptions e in
          not_starved (sym well ∙ turns.comes ∙ ap (λ ns. answer_of (picking id) (progress (picking id) (Begins 1) ns)) none)

      unlinked : AreUnlinked new.listeners
      unlinked =
          let at : new.listeners ≡ _ = ap (λ (m : Moment (World Device)). m.world.listeners) turns.going.moment in
          subst AreUnlinked (sym at) (unlinked_behind id events (moment old).world turns.going.each turns.going.fresh asked_some calm)

      stands : (place : ℕ) → length found.before ≡ place → Stands (moment new) place found.device
      stands place at = record {
        before = found.before;
        behind = found.behind;
        world = ap (λ v. record { lit = v; listeners = new.listeners }) world_lit ∙ ap (λ ls. record { lit = true; listeners = ls }) found.split;
        at = at;
        sound = sound_amid found.before found.device found.behind sound;
        selected = right.1;
        unasked = unasked found.device (unlinked_amid found.before found.device found.behind (subst AreUnlinked found.split unlinked));
        first = all_aside (device_id found.device) found.before (each_front (λ c. is_rest c.front ≡ true) (cards_of found.before) (cards_of found.behind) resting)
            (others_before found.before found.device found.behind sound);
        later = all_aside (device_id found.device) found.behind (each_back (λ c. is_rest c.front ≡ true) (cards_of found.before) (cards_of found.behind) resting)
            (others_behind found.before found.device found.behind sound);
      }

      -- it is selected, and stands at the place that was found
      pub selects_at : (place : ℕ) → StandsAt id new.listeners place → SelectsAt (ids.A id) place (moment old) (moment new)
      selects_at place s =
          let P : Result Kind PollFault → Type 0 = λ x. Selects (ids.A id) (any x) (moment old) (moment new) in
          let at : length found.before ≡ length s.before =
          same_place found.before found.device found.behind s.before s.device s.behind sound (sym found.split ∙ s.split) (own ∙ sym s.named) in
          record {
            selects = subst (λ k. Selects (ids.A id) (Ok k) (moment old) (moment new)) (sym right.0) (subst P well (selects (λ e. not_starved (sym well ∙ e))));
            device = found.device;
            named = own;
            found = right.2;
            stands = stands place (at ∙ s.at);
          }
