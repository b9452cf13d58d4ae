-- Where a link is opened, whatever is lost and whatever is asked behind the selection: the device that is selected is the placed one with the
-- identifier, so it is seen to be what it is.
use Rattle.std.proofs.Common.{◌≡◌, ◌⊎◌, inl, inr, ℕ, List, [], ◌∷◌, ◌++◌, map, Option, Some, Ok, Err, refl, sym, ◌∙◌, ap, subst, append_assoc}
use Rattle.std.proofs.lemmas.List.{map-append}
use Rattle.nfc_base.specs.Signal.{Signal}
use Rattle.nfc_base.specs.declared.event.Event.{Event}
use Rattle.nfc_base.specs.declared.event.Event.TheVariants.{Reset}
use Rattle.nfc_base.specs.declared.event.Heard.{Heard}
use Rattle.air_core.specs.Conversation.{Note, Lit, note, Next, Over, LightUp, Asks, EachDue, AreTurns, FatesFrom, Moment, Going, TurnsTo, with_events, receptions, queue_after}
use Rattle.air_core.specs.laws.Turning.{due_weaker}
use Rattle.far_air.specs.Quietly.{NoneHands, DoesQuietly}
use Rattle.far_air.proofs.OnField.{quiet_fields}
use Rattle.peer_air.specs.PeerFars.{peer_ends}
use Rattle.nfca_poll.specs.declared.fault.PollFault.{PollFault}
use Rattle.nfca_poll.specs.declared.kind.Kind.{Kind}
use Rattle.nfca_poll.specs.Enquiry.{enquiring}
use Rattle.nfca_poll.specs.Ident.{IsIdent}
use Rattle.nfca_poll.specs.Rounds.{device_of, picking}
use Rattle.bench_script.specs.declared.command.DeviceId.TheVariants.{A}
use Rattle.bench_devices.specs.declared.device.Device.{Device}
use Rattle.bench_devices.specs.declared.polling.SeenKind.{SeenKind}
use Rattle.bench_devices.specs.Kinds.{seen_by}
use Rattle.bench_devices.specs.Device.{BenchWorld, air, devices, device_linked, seen_of}
use Rattle.bench_devices.specs.Keeping.{Kept, kept, AreTame}
use Rattle.bench_devices.specs.Phases.{AreTidy}
use Rattle.bench_devices.specs.Placed.{device_with}
use Rattle.bench_devices.specs.Polling as polls
use Rattle.bench_devices.specs.Polling.{Followed, Told, follows, kind_by, seen_kind, selecting, asks}
use Rattle.bench_devices.proofs.finding.Following.{kind_asks, asks_same, follows_on}
use Rattle.bench_devices.proofs.finding.Polls.{IsFresh, Polls, poll_start, poll_turn, poll_lit}
use Rattle.bench_devices.proofs.finding.Searching.{search_closes}
use Rattle.bench_devices.proofs.selected.SelectedHeard.{Selected, selected_a}
use Rattle.bench_devices.proofs.turns.Walk.{walk}
use Rattle.bench_world.specs.World.{WholeWorld, bench_air}
use Rattle.bench_world.proofs.open_link.LinkObeyed.{none_selecting}
use Rattle.bench_world.proofs.devices.Placing.{IsWith, is_with}

-- the field of a moment
abbrev field_at : Moment WholeWorld → Moment BenchWorld
field_at b = record { world = b.world.field; queue = b.queue; trace = b.trace }

-- what is due goes by the selection: what that asks first, and nothing behind its fault
module _ (id : List ℕ) (next : List Note → Next) (goes : Followed SeenKind → Next) (by_selection : (hs : List Note) → next hs ≡ goes (selecting (A id) hs))
    (asks_first : (n : Next) → goes (polls.Asks n) ≡ n) (ends_there : (e : PollFault) (ns : List Note) → goes (Told (Err e) ns) ≡ Over) (a : Moment WholeWorld) where
  -- the selection is over, and this was told
  record IsChosen (kind : Kind) : Type 0 where
    pub mid : Moment WholeWorld
    pub front : List Note
    pub polls : Polls (picking id) bench_air a mid front
    pub told : follows (picking id) front ≡ Told (Ok kind) []

  record Behind (hs : List Note) : Type 0 where
    pub kind : Kind
    pub chosen : IsChosen kind
    pub since : List Note
    pub is : hs ≡ chosen.front ++ since

  abbrev Course : Moment WholeWorld → List Note → Type 0
  Course b hs = Polls (picking id) bench_air a b hs ⊎ Behind hs

  more : (hs : List Note) (k : Note) → Behind hs → Behind (hs ++ k ∷ [])
  more hs k x = record {
    kind = x.kind;
    chosen = x.chosen;
    since = x.since ++ k ∷ [];
    is = ap (λ t. t ++ k ∷ []) x.is ∙ append_assoc x.chosen.front x.since (k ∷ []);
  }

  -- what was just told
  chosen_now : (b : Moment WholeWorld) (hs : List Note) (kind : Kind) (ns : List Note) → Polls (picking id) bench_air a b hs → follows (picking id) hs ≡ Told (Ok kind) ns → IsChosen kind
  chosen_now b hs kind ns x at =
      let none : ns ≡ [] = subst IsFresh at x.fresh in
      record { mid = b; front = hs; polls = x; told = at ∙ ap (λ ks. Told (Ok kind) ks) none }

  due_by : (p : Followed Kind) (hs : List Note) (n : Next) → follows (picking id) hs ≡ p → next hs ≡ n → goes (kind_by seen_kind p) ≡ n
  due_by p hs n at due = sym (ap (λ q. goes (kind_by seen_kind q)) at) ∙ sym (by_selection hs) ∙ due

  turned : (b c : Moment WholeWorld) (hs : List Note) (f : Signal) (h : Option Heard) → Polls (picking id) bench_air a b hs → next hs ≡ Asks f → TurnsTo bench_air b c f h
      → (p : Followed Kind) → follows (picking id) hs ≡ p → Course c (hs ++ note h ∷ [])
  unfolding chosen_now
  turned b c hs f h x due turn (polls.Asks n) at =
      inl (poll_turn (picking id) bench_air (search_closes (device_of id)) a b c hs f h n x at (sym (asks_first n) ∙ due_by (polls.Asks n) hs (Asks f) at due) turn)
  turned b c hs f h x due turn (Told (Ok kind) ns) at = inr (record { kind = kind; chosen = chosen_now b hs kind ns x at; since = note h ∷ []; is = refl })
  turned b c hs f h x due turn (Told (Err e) ns) at = absurd (let clash : Over ≡ Asks f = sym (ends_there e ns) ∙ due_by (Told (Err e) ns) hs (Asks f) at due in cc)

  lit : (b : Moment WholeWorld) (hs : List Note) → Polls (picking id) bench_air a b hs → next hs ≡ LightUp → (p : Followed Kind) → follows (picking id) hs ≡ p
      → Course (with_events bench_air b (Reset ∷ [])) (hs ++ Lit ∷ [])
  unfolding chosen_now
  lit b hs x due (polls.Asks n) at =
      inl (poll_lit (picking id) bench_air (search_closes (device_of id)) a b (with_events bench_air b (Reset ∷ [])) hs n x at (sym (asks_first n) ∙ due_by (polls.Asks n) hs LightUp at due) refl)
  lit b hs x due (Told (Ok kind) ns) at = inr (record { kind = kind; chosen = chosen_now b hs kind ns x at; since = Lit ∷ []; is = refl })
  lit b hs x due (Told (Err e) ns) at = absurd (let clash : Over ≡ LightUp = sym (ends_there e ns) ∙ due_by (Told (Err e) ns) hs LightUp at due in cc)

  turns_on : (b c : Moment WholeWorld) (hs : List Note) (f : Signal) (h : Option Heard) → Course b hs → next hs ≡ Asks f → TurnsTo bench_air b c f h → Course c (hs ++ note h ∷ [])
  turns_on b c hs f h (inl x) due turn = turned b c hs f h x due turn (follows (picking id) hs) refl
  turns_on b c hs f h (inr x) due turn = inr (more hs (note h) x)

  relit : (b : Moment WholeWorld) (hs : List Note) → Course b hs → next hs ≡ LightUp → Course (with_events bench_air b (Reset ∷ [])) (hs ++ Lit ∷ [])
  relit b hs (inl x) due = lit b hs x due (follows (picking id) hs) refl
  relit b hs (inr x) due = inr (more hs Lit x)

  -- So where a kind was told, the selection is over.
  record Tells (k : SeenKind) : Type 0 where
    pub kind : Kind
    pub chosen : IsChosen kind
    pub same : seen_kind kind ≡ k

  one_kind : (j k : SeenKind) (ns ks : List Note) → Told (Ok j) ns ≡ Told (Ok k) ks → j ≡ k
  one_kind j k ns ks e = cc

  tells_now : (b : Moment WholeWorld) (hs : List Note) → Polls (picking id) bench_air a b hs → (k : SeenKind) (behind : List Note) (p : Followed Kind) → follows (picking id) hs ≡ p
      → kind_by seen_kind p ≡ Told (Ok k) behind
      → Tells k
  tells_now b hs x k behind (polls.Asks n) at told = absurd (let clash : ◌≡◌ {A = Followed SeenKind} (polls.Asks n) (Told (Ok k) behind) = told in cc)
  tells_now b hs x k behind (Told (Ok kind) ns) at told = record { kind = kind; chosen = chosen_now b hs kind ns x at; same = one_kind (seen_kind kind) k ns behind told }
  tells_now b hs x k behind (Told (Err e) ns) at told = absurd (let clash : ◌≡◌ {A = Followed SeenKind} (Told (Err e) ns) (Told (Ok k) behind) = told in cc)

  tells : (b : Moment WholeWorld) (hs : List Note) → Course b hs → (k : SeenKind) (behind : List Note) → selecting (A id) hs ≡ Told (Ok k) behind → Tells k
  tells b hs (inl x) k behind told = tells_now b hs x k behind (follows (picking id) hs) refl told
  tells b hs (inr x) k behind told =
      let on : selecting (A id) hs ≡ Told (Ok (seen_kind x.kind)) x.since =
      ap (selecting (A id)) x.is ∙ ap (kind_by seen_kind) (follows_on (picking id) x.chosen.front x.since (Ok x.kind) x.chosen.told) in
      record { kind = x.kind; chosen = x.chosen; same = one_kind (seen_kind x.kind) k x.since behind (sym on ∙ told) }

  -- The selection did to the field what it does on the quiet air.
  on_field : (kind : Kind) (x : IsChosen kind) → Polls (picking id) air (field_at a) (field_at x.mid) x.front
  on_field kind x =
      let g : Going bench_air (enquiring (picking id)) a x.mid x.front = x.polls.going in
      let each : EachDue (λ ns. asks (selecting (A id) ns)) [] g.events =
      due_weaker (λ ns. asks (selecting (A id) ns)) (enquiring (picking id))
      (λ ms n h d. kind_asks seen_kind (follows (picking id) ms) ∙ asks_same (picking id) (search_closes (device_of id)) ms ∙ h) [] g.events g.each in
      let none : NoneHands devices a.world.field g.events = none_selecting (A id) g.events each g.fresh a.world.field in
      let q : DoesQuietly devices device_linked peer_ends a.world g.events = quiet_fields devices device_linked peer_ends a.world g.events none in
      let M : BenchWorld → Moment BenchWorld = λ w. record { world = w; queue = queue_after a.queue g.events; trace = a.trace ++ g.events } in
      record {
        going = record {
          events = g.events;
          moment = ap field_at g.moment ∙ ap M q.field;
          turns = q.turns.0 g.turns;
          each = g.each;
          fates = g.fates;
          fresh = g.fresh;
          known = g.known;
        };
        fresh = x.polls.fresh;
      }

  -- So the placed device is of the kind that is told.
  pub kind_told : IsIdent id → AreTame (map kept a.world.field.listeners) → AreTidy a.world.field.listeners → a.trace ≡ [] → (es : List Event) → AreTurns bench_air a.world es → FatesFrom a.queue es
      → EachDue next [] es → (d : Device) → device_with id a.world.field.listeners ≡ Some d → (k : SeenKind) (behind : List Note) → selecting (A id) (receptions es) ≡ Told (Ok k) behind
      → seen_of d ≡ k
  kind_told ident tame tidy none es made fates each d placed k behind told =
      let end =
      walk bench_air (λ q. Unit {0}) (λ q xs h. tt) next Course relit (λ b c hs f h x passes due turn. turns_on b c hs f h x due turn) made.moves a [] [] refl
      (inl (poll_start (picking id) bench_air a)) tt
      (subst (EachDue next []) made.made each) (subst (FatesFrom a.queue) made.made fates) in
      let r : Tells k = tells end.0 (receptions es) (subst (Course end.0) (ap receptions (sym made.made)) end.1) k behind told in
      let s : Selected (A id) (field_at a) (field_at r.chosen.mid) (seen_kind r.kind) =
      selected_a id (field_at a) (field_at r.chosen.mid) r.chosen.front r.kind ident tame tidy (on_field r.kind r.chosen) r.chosen.told in
      let split : map kept a.world.field.listeners ≡ map kept s.stands.before ++ kept s.device ∷ map kept s.stands.behind =
      sym s.same ∙ ap (λ (w : BenchWorld). map kept w.listeners) s.stands.world ∙ map-append kept s.stands.before (s.device ∷ s.stands.behind) in
      let w : IsWith a.world.field.listeners id (kept s.device) =
      is_with a.world.field.listeners (map kept s.stands.before) (kept s.device) (map kept s.stands.behind) id tame.sound split s.named in
      let same : w.device ≡ d = one_device w.device d (sym w.found ∙ placed) in
      ap seen_of (sym same) ∙ ap (λ (x : Kept). seen_by x.fixed.kind) w.same ∙ s.kind_is ∙ r.same
    where
      one_device : (x y : Device) → ◌≡◌ {A = Option Device} (Some x) (Some y) → x ≡ y
      one_device x y e = cc
