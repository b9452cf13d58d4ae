-- A command that selects a tag and asks commands of it, where all passes: behind the selection each note is a whole answer.
use Rattle.std.proofs.Common.{◌≡◌, ◌⊎◌, inl, inr, ℕ, List, [], ◌∷◌, ◌++◌, length, map, Option, None, IsSome, Result, Ok, Err, refl, sym, ◌∙◌, ap, subst, append_assoc, append-nil, true}
use Rattle.std.specs.List.{AllByRecursion}
use Rattle.std.proofs.lemmas.List.{append_cancel_left, map-append}
use Rattle.nfc_base.specs.declared.event.Event.{Event}
use Rattle.nfc_base.specs.declared.event.Event.TheVariants.{Reset}
use Rattle.nfc_base.specs.declared.event.Heard.{Heard}
use Rattle.nfc_base.specs.declared.event.Heard.TheVariants.{Whole}
use Rattle.nfc_base.specs.Signal.{Signal}
use Rattle.air_core.specs.Conversation.{Note, Lit, Got, Lost, note, Next, Over, LightUp, Asks, Moment, Going, TurnsTo, AreTurns, EachDue, FatesFrom, receptions, with_events}
use Rattle.air_core.specs.Waits.{Broken, Astray, stand}
use Rattle.isodep_link.specs.Asking as exchange
use Rattle.nfca_poll.specs.declared.kind.Kind.{Kind}
use Rattle.nfca_poll.specs.declared.fault.PollFault.{PollFault}
use Rattle.nfca_poll.specs.declared.fault.PollFault.TheVariants as faults
use Rattle.nfca_poll.specs.Enquiry.{enquiring, Enquires}
use Rattle.nfca_poll.specs.Ident.{IsIdent}
use Rattle.nfca_poll.specs.Inventory.{picking_v}
use Rattle.nfca_poll.specs.Rounds.{device_of, picking}
use Rattle.nfca_poll.proofs.quiet.FoundCrowd.{selects_alone}
use Rattle.nfca_poll.proofs.calls.CallEnds.{pick_lost}
use Rattle.bench_script.specs.declared.command.DeviceId.{DeviceId}
use Rattle.bench_script.specs.declared.command.DeviceId.TheVariants as ids
use Rattle.bench_script.specs.DeviceIds.{bytes_of}
use Rattle.bench_devices.specs.declared.device.Device.{Device}
use Rattle.bench_devices.specs.declared.polling.SeenKind.{SeenKind}
use Rattle.bench_devices.specs.declared.polling.SeenKind.TheVariants as seen
use Rattle.bench_devices.specs.CardAsking.{CardStanding, Activates, Exchanges, card_due, card_stands, tag_next}
use Rattle.bench_devices.specs.Choosing.{StandsAt}
use Rattle.bench_devices.specs.Device.{BenchWorld, air, devices, device_id, how_of, seen_of, may_be_found}
use Rattle.bench_devices.specs.Hearing.{IsAnswered}
use Rattle.bench_devices.specs.Keeping.{Kept, kept, AreTame}
use Rattle.bench_devices.specs.Phases.{AreTidy, Stands, SelectsAt}
use Rattle.bench_devices.specs.Placed.{device_with}
use Rattle.bench_devices.specs.Polling as polls
use Rattle.bench_devices.specs.Polling.{Followed, Told, follows, kind_by, seen_kind, selecting, asks}
use Rattle.bench_devices.specs.TagAsking.{then_asks, tag_due}
use Rattle.bench_devices.proofs.selected.CardHeard.{field_of}
use Rattle.bench_devices.proofs.finding.Following.{follows_on}
use Rattle.bench_devices.proofs.selected.PlainHeard.{IsHeeded}
use Rattle.bench_devices.proofs.turns.QuietPolling.{PollsQuietly, mutely}
use Rattle.bench_devices.proofs.finding.Polls.{IsFresh, came, Polls, poll_start, poll_turn, poll_lit}
use Rattle.bench_devices.proofs.turns.QuietWalk.{Passing, left_passing}
use Rattle.bench_devices.proofs.finding.Searching.{search_closes}
use Rattle.bench_devices.proofs.finding.SelectingA as a_kind
use Rattle.bench_devices.proofs.finding.SelectingV as v_kind
use Rattle.bench_devices.proofs.finding.SelectingV.{v_closes}
use Rattle.bench_devices.proofs.finding.SelectingPlaces.{Amid, none_or_amid}
use Rattle.bench_devices.proofs.selected.TagHeard.{TagGoes, TagHeard, tag_heard, begins_heard}
use Rattle.bench_devices.proofs.turns.Walk.{walk}
use Rattle.air_core.proofs.BrokenWaits.{never_light}

-- two accounts of the same turns know the same
same_notes : (next last : List Note → Next) (a b : Moment BenchWorld) (hs ks : List Note) → Going air next a b hs → Going air last a b ks → ks ≡ hs
same_notes next last a b hs ks g k =
    let one : b.trace ≡ a.trace ++ g.events = ap (λ (m : Moment BenchWorld). m.trace) g.moment in
    let two : b.trace ≡ a.trace ++ k.events = ap (λ (m : Moment BenchWorld). m.trace) k.moment in
    let same : k.events ≡ g.events = append_cancel_left a.trace k.events g.events (sym two ∙ one) in
    sym k.known ∙ ap receptions same ∙ g.known

-- A device was selected: it stands somewhere, and nothing that stays of any changed.
pub record Selected (id : DeviceId) (a b : Moment BenchWorld) (kind : SeenKind) : Type 0 where
  pub place : ℕ
  pub device : Device
  pub stands : Stands b place device
  pub named : device_id device ≡ bytes_of id
  pub found : may_be_found device ≡ true
  pub kind_is : seen_of device ≡ kind
  pub same : map kept b.world.listeners ≡ map kept a.world.listeners

same_kind : (k l : SeenKind) → Told (Ok k) [] ≡ Told (Ok l) [] → k ≡ l
same_kind k l e = cc

selected_by : (id : DeviceId) (a b : Moment BenchWorld) (next : List Note → Next) (hs : List Note) (kind : SeenKind) (place : ℕ) → Going air next a b hs → selecting id hs ≡ Told (Ok kind) []
    → SelectsAt id place a b → Selected id a b kind
selected_by id a b next hs kind place g told s =
    let notes : s.selects.asked.notes ≡ hs = same_notes next (λ ns. asks (selecting id ns)) a b hs s.selects.asked.notes g s.selects.asked.going in
    record {
      place = place;
      device = s.device;
      stands = s.stands;
      named = s.named;
      found = s.found;
      kind_is = same_kind (seen_of s.device) kind (sym s.selects.told ∙ ap (selecting id) notes ∙ told);
      same = s.selects.asked.same;
    }

at_first : (id : List ℕ) (ls : List Device) → IsSome (device_with id ls) → (place : ℕ) × StandsAt id ls place
at_first id ls some = by_one (none_or_amid id ls)
  where
    by_one : (device_with id ls ≡ None) ⊎ Amid id ls → (place : ℕ) × StandsAt id ls place
    by_one (inl none) = absurd (let clash : IsSome {T = Device} None = subst (λ (o : Option Device). IsSome o) none some in cc)
    by_one (inr r) = (length r.before, record { before = r.before; device = r.device; behind = r.behind; split = r.split; at = refl; named = r.named })

pub selected_a : (id : List ℕ) (a b : Moment BenchWorld) (hs : List Note) (kind : Kind) → IsIdent id → AreTame (map kept a.world.listeners) → AreTidy a.world.listeners
    → Polls (picking id) air a b hs → follows (picking id) hs ≡ Told (Ok kind) [] → Selected (ids.A id) a b (seen_kind kind)
selected_a id a b hs kind ident tame tidy p told =
    let turns : PollsQuietly (picking id) (field_of a) (Ok kind) (field_of b) =
    record { notes = hs; going = p.going; comes = came (picking id) (picking id).start ((picking id).ended (picking id).start) hs kind refl told } in
    let asked : Enquires (picking id) devices (field_of a) (Ok kind) (field_of b) = mutely (picking id) (a_kind.asks_quietly id) (field_of a) (field_of b) (Ok kind) turns in
    let lost = pick_lost id devices (field_of a) (field_of b) (Ok kind) asked in
    let crowd = selects_alone devices device_id id (field_of a) (field_of b) (Ok kind) asked in
    let some = a_kind.placed id (field_of a) (field_of b) (Ok kind) ident tame tidy turns lost crowd kind refl in
    let at = at_first id b.world.listeners some in
    selected_by (ids.A id) a b (enquiring (picking id)) hs (seen_kind kind) at.0 p.going (ap (kind_by seen_kind) told)
    (a_kind.selects_at id (field_of a) (field_of b) (Ok kind) ident tame tidy turns lost crowd kind refl at.0 at.1)

-- what is selected by an inventory is a Type 5 tag
five_by : {X : Type 0} (p : Followed X) (k : SeenKind) → kind_by (λ x. seen.T5) p ≡ Told (Ok k) [] → k ≡ seen.T5
five_by (polls.Asks n) k e = absurd (let clash : polls.Asks n ≡ Told (Ok k) [] = e in cc)
five_by (Told (Ok x) ns) k e = cc
five_by (Told (Err f) ns) k e = absurd (let clash : ◌≡◌ {A = Followed SeenKind} (Told (Err f) ns) (Told (Ok k) []) = e in cc)

five_told : (id : List ℕ) (ns : List Note) (k : SeenKind) → selecting (ids.V id) ns ≡ Told (Ok k) [] → k ≡ seen.T5
five_told id [] k e = absurd (let clash : polls.Asks LightUp ≡ Told (Ok k) [] = e in cc)
five_told id (Lit ∷ ns) k e = five_by (follows (picking_v id) ns) k e
five_told id (Got h ∷ ns) k e = absurd (let clash : polls.Asks Over ≡ Told (Ok k) [] = e in cc)
five_told id (Lost ∷ ns) k e = absurd (let clash : ◌≡◌ {A = Followed SeenKind} (Told (Err faults.FieldLost) ns) (Told (Ok k) []) = e in cc)

selected_v : (id : List ℕ) (a mid b : Moment BenchWorld) (hs : List Note) (x : Unit {0}) → length id ≡ 8 → AreTame (map kept a.world.listeners) → mid ≡ with_events air a (Reset ∷ [])
    → Polls (picking_v id) air mid b hs → follows (picking_v id) hs ≡ Told (Ok x) [] → Selected (ids.V id) a b seen.T5
selected_v id a mid b hs x eight tame reset p told =
    let turns : PollsQuietly (picking_v id) (field_of mid) (Ok x) (field_of b) =
    record { notes = hs; going = p.going; comes = came (picking_v id) (picking_v id).start ((picking_v id).ended (picking_v id).start) hs x refl told } in
    let some = v_kind.placed id eight (field_of a) (field_of mid) (field_of b) (Ok x) tame reset turns (λ e. absurd cc) (λ steady. record { not_found = λ e. absurd cc; bad = λ e well. absurd cc })
    refl in
    let at = at_first id b.world.listeners some in
    let s : SelectsAt (ids.V id) at.0 a b =
    v_kind.selects_at id eight (field_of a) (field_of mid) (field_of b) (Ok x) tame reset turns (λ e. absurd cc) (λ steady. record { not_found = λ e. absurd cc; bad = λ e well. absurd cc }) refl at.0
    at.1 in
    record {
      place = at.0;
      device = s.device;
      stands = s.stands;
      named = s.named;
      found = s.found;
      kind_is = five_told id s.selects.asked.notes (seen_of s.device) s.selects.told;
      same = s.selects.asked.same;
    }

card_dark : (s : CardStanding) → card_due s ≡ LightUp → ⊥
card_dark (Activates bad) e = cc
card_dark (Exchanges (exchange.Waits i f cs)) e = cc
card_dark (Exchanges (exchange.Rests i)) e = cc
card_dark (Exchanges (exchange.Broken x)) e = cc
card_dark (Exchanges exchange.Astray) e = cc

-- Nothing of a tag lights the field up.
never_lit : (kind : SeenKind) (asked : List Signal) (ns : List Note) → tag_next kind asked ns ≡ LightUp → ⊥
never_lit seen.T2 asked ns e = never_light (stand 0 asked ns) e
never_lit seen.T4 asked ns e = card_dark (card_stands asked ns) e
never_lit seen.T5 asked ns e = never_light (stand 0 asked ns) e
never_lit seen.Peer asked ns e = cc

module _ (asked : List Signal) (a : Moment BenchWorld) (tame : AreTame (map kept a.world.listeners)) (tidy : AreTidy a.world.listeners) where
  -- each device with the identifier heeds what is asked
  abbrev pub Heed : DeviceId → Type 0
  Heed id = (d : Device) (before behind : List Kept) → map kept a.world.listeners ≡ before ++ kept d ∷ behind → device_id d ≡ bytes_of id → AllByRecursion (IsHeeded (how_of d)) asked

  -- the selection is over, and each note since is a whole answer
  record Behind (id : DeviceId) (b : Moment BenchWorld) (hs : List Note) : Type 0 where
    pub front : List Note
    pub since : List Note
    pub kind : SeenKind
    pub is : hs ≡ front ++ since
    pub told : (ms : List Note) → selecting id (front ++ ms) ≡ Told (Ok kind) ms
    pub all : AllByRecursion IsAnswered since
    pub goes : TagGoes asked kind b since

  abbrev Polling : DeviceId → Moment BenchWorld → List Note → Type 0
  Polling (ids.A i) b hs = Polls (picking i) air a b hs
  Polling (ids.V i) b hs =
      ((hs ≡ []) × (b ≡ a)) ⊎ ((mid : Moment BenchWorld) × (ks : List Note) × (mid ≡ with_events air a (Reset ∷ [])) × (hs ≡ Lit ∷ ks) × Polls (picking_v i) air mid b ks)

  abbrev Course : DeviceId → Moment BenchWorld → List Note → Type 0
  Course id b hs = Polling id b hs ⊎ Behind id b hs

  all_more : (ns : List Note) (g : Signal) → AllByRecursion IsAnswered ns → AllByRecursion IsAnswered (ns ++ Got (Whole g) ∷ [])
  all_more [] g h = (tt, tt)
  all_more (n ∷ ns) g h = (h.0, all_more ns g h.1)

  due_behind : (id : DeviceId) (b : Moment BenchWorld) (hs : List Note) (x : Behind id b hs) → tag_due id asked hs ≡ tag_next x.kind asked x.since
  due_behind id b hs x = ap (tag_due id asked) x.is ∙ ap (then_asks asked) (x.told x.since)

  turn_behind : (id : DeviceId) (b c : Moment BenchWorld) (hs : List Note) (f : Signal) (h : Option Heard) → Behind id b hs → Passing b.queue → tag_due id asked hs ≡ Asks f → TurnsTo air b c f h
      → Behind id c (hs ++ note h ∷ [])
  turn_behind id b c hs f h x calm due turn =
      let r : TagHeard asked x.kind c x.since h = tag_heard asked x.kind b c x.since f h x.goes calm (sym (due_behind id b hs x) ∙ due) turn in
      let B : Option Heard → Type 0 = λ o. Behind id c (hs ++ note o ∷ []) in
      subst B (sym r.heard) (record {
        front = x.front;
        since = x.since ++ Got (Whole r.answer) ∷ [];
        kind = x.kind;
        is = ap (λ t. t ++ Got (Whole r.answer) ∷ []) x.is ∙ append_assoc x.front x.since (Got (Whole r.answer) ∷ []);
        told = x.told;
        all = all_more x.since r.answer x.all;
        goes = r.goes;
      })

  enters : (id : DeviceId) → Heed id → (b : Moment BenchWorld) (hs : List Note) (kind : SeenKind) → Selected id a b kind → ((ms : List Note) → selecting id (hs ++ ms) ≡ Told (Ok kind) ms)
      → Behind id b hs
  enters id heed b hs kind s told =
      let split : map kept a.world.listeners ≡ map kept s.stands.before ++ kept s.device ∷ map kept s.stands.behind =
      sym s.same ∙ ap (λ (w : BenchWorld). map kept w.listeners) s.stands.world ∙ map-append kept s.stands.before (s.device ∷ s.stands.behind) in
      record {
        front = hs;
        since = [];
        kind = kind;
        is = sym (append-nil hs);
        told = told;
        all = tt;
        goes = subst (λ k. TagGoes asked k b []) s.kind_is
            (begins_heard asked b s.place s.device s.stands s.found (heed s.device (map kept s.stands.before) (map kept s.stands.behind) split s.named));
      }

  -- a selection of an NFC-A device that is told
  enters_a : (i : List ℕ) → IsIdent i → Heed (ids.A i) → (b : Moment BenchWorld) (hs : List Note) (kind : Kind) (ns : List Note) → Polls (picking i) air a b hs
      → follows (picking i) hs ≡ Told (Ok kind) ns → Behind (ids.A i) b hs
  enters_a i ident heed b hs kind ns p at =
      let none : ns ≡ [] = subst IsFresh at p.fresh in
      let told : follows (picking i) hs ≡ Told (Ok kind) [] = at ∙ ap (λ ks. Told (Ok kind) ks) none in
      enters (ids.A i) heed b hs (seen_kind kind) (selected_a i a b hs kind ident tame tidy p told) (λ ms. ap (kind_by seen_kind) (follows_on (picking i) hs ms (Ok kind) told))

  enters_v : (i : List ℕ) → length i ≡ 8 → Heed (ids.V i) → (b mid : Moment BenchWorld) (hs ks : List Note) (x : Unit {0}) (ns : List Note) → mid ≡ with_events air a (Reset ∷ []) → hs ≡ Lit ∷ ks
      → Polls (picking_v i) air mid b ks → follows (picking_v i) ks ≡ Told (Ok x) ns → Behind (ids.V i) b hs
  enters_v i eight heed b mid hs ks x ns reset is p at =
      let none : ns ≡ [] = subst IsFresh at p.fresh in
      let told : follows (picking_v i) ks ≡ Told (Ok x) [] = at ∙ ap (λ ks. Told (Ok x) ks) none in
      subst (Behind (ids.V i) b) (sym is)
      (enters (ids.V i) heed b (Lit ∷ ks) seen.T5 (selected_v i a mid b ks x eight tame reset p told) (λ ms. ap (kind_by (λ y. seen.T5)) (follows_on (picking_v i) ks ms (Ok x) told)))

  -- identifiers as devices have them
  abbrev pub IsId : DeviceId → Type 0
  IsId (ids.A i) = IsIdent i
  IsId (ids.V i) = length i ≡ 8

  poll_turn_a : (i : List ℕ) → IsIdent i → Heed (ids.A i) → (b c : Moment BenchWorld) (hs : List Note) (f : Signal) (h : Option Heard) → Polls (picking i) air a b hs → Passing b.queue
      → tag_due (ids.A i) asked hs ≡ Asks f → TurnsTo air b c f h → (p : Followed Kind) → follows (picking i) hs ≡ p → Course (ids.A i) c (hs ++ note h ∷ [])
  poll_turn_a i ident heed b c hs f h x calm due turn (polls.Asks n) at =
      inl (poll_turn (picking i) air (search_closes (device_of i)) a b c hs f h n x at (sym (ap (λ q. then_asks asked (kind_by seen_kind q)) at) ∙ due) turn)
  poll_turn_a i ident heed b c hs f h x calm due turn (Told (Ok kind) ns) at = inr (turn_behind (ids.A i) b c hs f h (enters_a i ident heed b hs kind ns x at) calm due turn)
  poll_turn_a i ident heed b c hs f h x calm due turn (Told (Err e) ns) at =
      let over : Over ≡ Asks f = sym (ap (λ q. then_asks asked (kind_by seen_kind q)) at) ∙ due in
      absurd (let clash : Over ≡ Asks f = over in cc)

  poll_turn_v : (i : List ℕ) → length i ≡ 8 → Heed (ids.V i) → (b c mid : Moment BenchWorld) (hs ks : List Note) (f : Signal) (h : Option Heard) → mid ≡ with_events air a (Reset ∷ []) → hs ≡ Lit ∷ ks
      → Polls (picking_v i) air mid b ks → Passing b.queue → tag_due (ids.V i) asked hs ≡ Asks f → TurnsTo air b c f h → (p : Followed (Unit {0})) → follows (picking_v i) ks ≡ p
      → Course (ids.V i) c (hs ++ note h ∷ [])
  poll_turn_v i eight heed b c mid hs ks f h reset is x calm due turn (polls.Asks n) at =
      let here : n ≡ Asks f = sym (ap (λ q. then_asks asked (kind_by (λ y. seen.T5) q)) at) ∙ sym (ap (tag_due (ids.V i) asked) is) ∙ due in
      inl (inr (mid, ks ++ note h ∷ [], reset, ap (λ t. t ++ note h ∷ []) is, poll_turn (picking_v i) air (v_closes i) mid b c ks f h n x at here turn))
  poll_turn_v i eight heed b c mid hs ks f h reset is x calm due turn (Told (Ok y) ns) at = inr (turn_behind (ids.V i) b c hs f h (enters_v i eight heed b mid hs ks y ns reset is x at) calm due turn)
  poll_turn_v i eight heed b c mid hs ks f h reset is x calm due turn (Told (Err e) ns) at =
      let over : Over ≡ Asks f = sym (ap (λ q. then_asks asked (kind_by (λ y. seen.T5) q)) at) ∙ sym (ap (tag_due (ids.V i) asked) is) ∙ due in
      absurd (let clash : Over ≡ Asks f = over in cc)

  turns : (id : DeviceId) → IsId id → Heed id → (b c : Moment BenchWorld) (hs : List Note) (f : Signal) (h : Option Heard) → Course id b hs → Passing b.queue → tag_due id asked hs ≡ Asks f
      → TurnsTo air b c f h
      → Course id c (hs ++ note h ∷ [])
  turns id is heed b c hs f h (inr x) calm due turn = inr (turn_behind id b c hs f h x calm due turn)
  turns (ids.A i) is heed b c hs f h (inl x) calm due turn = poll_turn_a i is heed b c hs f h x calm due turn (follows (picking i) hs) refl
  turns (ids.V i) is heed b c hs f h (inl (inl x)) calm due turn = absurd (let clash : LightUp ≡ Asks f = sym (ap (tag_due (ids.V i) asked) x.0) ∙ due in cc)
  turns (ids.V i) is heed b c hs f h (inl (inr x)) calm due turn = poll_turn_v i is heed b c x.0 hs x.1 f h x.2 x.3 x.4 calm due turn (follows (picking_v i) x.1) refl

  -- a reset
  poll_lit_a : (i : List ℕ) (b c : Moment BenchWorld) (hs : List Note) → Polls (picking i) air a b hs → tag_due (ids.A i) asked hs ≡ LightUp → c ≡ with_events air b (Reset ∷ []) → (p : Followed Kind)
      → follows (picking i) hs ≡ p
      → Course (ids.A i) c (hs ++ Lit ∷ [])
  poll_lit_a i b c hs x due reset (polls.Asks n) at =
      inl (poll_lit (picking i) air (search_closes (device_of i)) a b c hs n x at (sym (ap (λ q. then_asks asked (kind_by seen_kind q)) at) ∙ due) reset)
  poll_lit_a i b c hs x due reset (Told (Ok kind) ns) at = absurd (never_lit (seen_kind kind) asked ns (sym (ap (λ q. then_asks asked (kind_by seen_kind q)) at) ∙ due))
  poll_lit_a i b c hs x due reset (Told (Err e) ns) at =
      let over : Over ≡ LightUp = sym (ap (λ q. then_asks asked (kind_by seen_kind q)) at) ∙ due in
      absurd (let clash : Over ≡ LightUp = over in cc)

  poll_lit_v : (i : List ℕ) (b c mid : Moment BenchWorld) (hs ks : List Note) → mid ≡ with_events air a (Reset ∷ []) → hs ≡ Lit ∷ ks → Polls (picking_v i) air mid b ks
      → tag_due (ids.V i) asked hs ≡ LightUp
      → c ≡ with_events air b (Reset ∷ []) → (p : Followed (Unit {0})) → follows (picking_v i) ks ≡ p → Course (ids.V i) c (hs ++ Lit ∷ [])
  poll_lit_v i b c mid hs ks start is x due reset (polls.Asks n) at =
      let here : n ≡ LightUp = sym (ap (λ q. then_asks asked (kind_by (λ y. seen.T5) q)) at) ∙ sym (ap (tag_due (ids.V i) asked) is) ∙ due in
      inl (inr (mid, ks ++ Lit ∷ [], start, ap (λ t. t ++ Lit ∷ []) is, poll_lit (picking_v i) air (v_closes i) mid b c ks n x at here reset))
  poll_lit_v i b c mid hs ks start is x due reset (Told (Ok y) ns) at =
      absurd (never_lit seen.T5 asked ns (sym (ap (λ q. then_asks asked (kind_by (λ y. seen.T5) q)) at) ∙ sym (ap (tag_due (ids.V i) asked) is) ∙ due))
  poll_lit_v i b c mid hs ks start is x due reset (Told (Err e) ns) at =
      let over : Over ≡ LightUp = sym (ap (λ q. then_asks asked (kind_by (λ y. seen.T5) q)) at) ∙ sym (ap (tag_due (ids.V i) asked) is) ∙ due in
      absurd (let clash : Over ≡ LightUp = over in cc)

  relit : (id : DeviceId) (b : Moment BenchWorld) (hs : List Note) → Course id b hs → tag_due id asked hs ≡ LightUp → Course id (with_events air b (Reset ∷ [])) (hs ++ Lit ∷ [])
  relit id b hs (inr x) due = absurd (never_lit x.kind asked x.since (sym (due_behind id b hs x) ∙ due))
  relit (ids.A i) b hs (inl x) due = poll_lit_a i b (with_events air b (Reset ∷ [])) hs x due refl (follows (picking i) hs) refl
  relit (ids.V i) b hs (inl (inl x)) due =
      let c : Moment BenchWorld = with_events air b (Reset ∷ []) in
      inl (inr (
        c,
        [],
        ap (λ t. with_events air t (Reset ∷ [])) x.1,
        ap (λ t. t ++ Lit ∷ []) x.0,
        poll_start (picking_v i) air c,
      ))
  relit (ids.V i) b hs (inl (inr x)) due = poll_lit_v i b (with_events air b (Reset ∷ [])) x.0 hs x.1 x.2 x.3 x.4 due refl (follows (picking_v i) x.1) refl

  begins : (id : DeviceId) → Course id a []
  begins (ids.A i) = inl (poll_start (picking i) air a)
  begins (ids.V i) = inl (inl (refl, refl))

  -- what was told at the end
  no_more : (r s : Result SeenKind PollFault) (ns ks : List Note) → ns ≡ [] → Told r ns ≡ Told s ks → ks ≡ []
  no_more r s ns ks none e = (let same : ns ≡ ks = cc in sym same ∙ none)

  fresh_ends : {X : Type 0} (kind : X → SeenKind) (p : Followed X) (k : SeenKind) (behind : List Note) → IsFresh p → kind_by kind p ≡ Told (Ok k) behind → behind ≡ []
  fresh_ends kind (polls.Asks n) k behind fresh e = absurd (let clash : polls.Asks n ≡ Told (Ok k) behind = e in cc)
  fresh_ends kind (Told (Ok x) ns) k behind fresh e = no_more (Ok (kind x)) (Ok k) ns behind fresh e
  fresh_ends kind (Told (Err f) ns) k behind fresh e = no_more (Err f) (Ok k) ns behind fresh e

  answered : (id : DeviceId) (b : Moment BenchWorld) (hs : List Note) → Course id b hs → (k : SeenKind) (behind : List Note) → selecting id hs ≡ Told (Ok k) behind → AllByRecursion IsAnswered behind
  answered id b hs (inr x) k behind e =
      let both : Told (Ok x.kind) x.since ≡ Told (Ok k) behind = sym (x.told x.since) ∙ ap (selecting id) (sym x.is) ∙ e in
      let same : x.since ≡ behind = cc in
      subst (AllByRecursion IsAnswered) same x.all
  answered (ids.A i) b hs (inl x) k behind e = subst (AllByRecursion IsAnswered) (sym (fresh_ends seen_kind (follows (picking i) hs) k behind x.fresh e)) tt
  answered (ids.V i) b hs (inl (inl x)) k behind e = absurd (let clash : polls.Asks LightUp ≡ Told (Ok k) behind = sym (ap (selecting (ids.V i)) x.0) ∙ e in cc)
  answered (ids.V i) b hs (inl (inr x)) k behind e =
      subst (AllByRecursion IsAnswered) (sym (fresh_ends (λ y. seen.T5) (follows (picking_v i) x.1) k behind x.4.fresh (sym (ap (selecting (ids.V i)) x.3) ∙ e))) tt

  -- In a command that selects a tag and asks it what it heeds, each note behind the selection is a whole answer.
  pub tag_hears : (id : DeviceId) → IsId id → Heed id → (es : List Event) → Passing a.queue → AreTurns air a.world es → FatesFrom a.queue es → EachDue (tag_due id asked) [] es
      → (k : SeenKind) (behind : List Note) → selecting id (receptions es) ≡ Told (Ok k) behind → AllByRecursion IsAnswered behind
  tag_hears id is heed es calm made fates each k behind told =
      let end = walk air Passing left_passing (tag_due id asked) (Course id) (λ b hs x due. relit id b hs x due) (λ b c hs f h x passes due turn. turns id is heed b c hs f h x passes due turn)
      made.moves a [] [] refl (begins id) calm (subst (EachDue (tag_due id asked) []) made.made each) (subst (FatesFrom a.queue) made.made fates) in
      answered id end.0 (receptions es) (subst (Course id end.0) (ap receptions (sym made.made)) end.1) k behind told
