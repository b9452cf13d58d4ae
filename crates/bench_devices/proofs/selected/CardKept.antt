-- What frames leave of the devices where a Type 4 tag is activated and asked: nothing that stays of them changes but the store
-- of the tag that is asked.
use Rattle.std.proofs.Common.{◌≡◌, ℕ, List, [], ◌∷◌, ◌++◌, length, map, Bool, true, false, ◌||◌, if◌then◌else◌, Option, Some, None, refl, sym, ◌∙◌, ap, subst}
use Rattle.std.specs.List.{AllByRecursion}
use Rattle.std.proofs.lemmas.List.{map-append, length-map}
use Rattle.nfc_base.specs.declared.frame.Tech.TheVariants.{A}
use Rattle.nfc_base.specs.declared.event.Event.{Event}
use Rattle.nfc_base.specs.declared.event.Event.TheVariants.{Reset, Request, Answer, Clash}
use Rattle.nfc_base.specs.declared.event.Fate.{Fate}
use Rattle.nfc_base.specs.declared.event.Fate.TheVariants.{Pass, Damage, Lose, Break}
use Rattle.nfc_base.specs.Signal.{Signal, whole_a}
use Rattle.air_core.specs.World.{World, hears, stepped_by, requested, came_back}
use Rattle.air_core.specs.Conversation.{Note, Next, Asks, Moment, Going, replay}
use Rattle.air_core.specs.Waits.{waits_next}
use Rattle.air_core.specs.PlainTags.{IsAside}
use Rattle.air_core.specs.PlainLinks.{at_place}
use Rattle.nfca_poll.specs.declared.upper.UpStep.{UpStep}
use Rattle.nfca_poll.specs.declared.upper.UpStep.TheVariants as steps
use Rattle.nfca_poll.specs.Calls.{call_of}
use Rattle.nfca_poll.specs.Front.{Front, Off, Idle, Sleep, Ready, Active, is_ready, is_active, front_next}
use Rattle.nfca_poll.specs.Fronted.{Fronted, left_at, moved, active_after, after_by}
use Rattle.nfca_poll.specs.laws.FrontLaws as fronted
use Rattle.nfca_poll.specs.Levels.{levels}
use Rattle.nfc_base.specs.Blocks.{with_block}
use Rattle.t2t_tag.specs.declared.command.T2Command.{T2Command}
use Rattle.t2t_tag.specs.declared.command.T2Command.TheVariants.{Read, Write}
use Rattle.t2t_tag.specs.Spelling.{spelled_command}
use Rattle.t2t_tag.specs.Step.{is_writable, t2_obeyed, reply_frame, held_after}
use Rattle.t2t_tag.specs.Store.{T2Memory}
use Rattle.t4t_tag.specs.Store.{T4State, IsSameTag, store_of}
use Rattle.t4t_tag.specs.Step.{t4_answer}
use Rattle.t4t_tag.proofs.Steps.{same_tag}
use Rattle.t5t_tag.specs.Store.{T5State}
use Rattle.t5t_tag.specs.Step.{t5_after}
use Rattle.t5t_tag.proofs.Steps.{same_tag as same_five}
use Rattle.tag_reader.specs.declared.how.How.TheVariants as hows
use Rattle.isodep_link.specs.declared.card.CardStep.{CardStep}
use Rattle.isodep_link.specs.declared.card.CardStep.TheVariants as card
use Rattle.isodep_link.specs.Activating.{rats}
use Rattle.isodep_link.specs.Blocks.{spelled_block}
use Rattle.nfc_base.specs.Headed.{is_rats}
use Rattle.isodep_link.specs.Sizes.{rats_code, piece_size, ats_frame}
use Rattle.isodep_link.specs.Card.{CardState, CardTurn, card_table, framed, stays, heeded}
use Rattle.isodep_link.specs.Card as ends
use Rattle.isodep_link.proofs.Made.{stays_made, replied_made}
use Rattle.bench_devices.specs.laws.Uppers.{t4_upper}
use Rattle.bench_devices.specs.Cards.{T4Near, card_now}
use Rattle.bench_devices.specs.declared.device.Device.{Device}
use Rattle.bench_devices.specs.declared.device.Device.TheVariants.{T2, T4, Peer, T5, T3}
use Rattle.bench_devices.specs.Kinds.{T2Kind, T3Kind, T4Kind, T5Kind}
use Rattle.bench_devices.specs.Device.{devices, device_id, device_store, device_ready, device_selected, device_locks, no_target, by_card, on_link, did_if, says_of, t2_machine, t4_did, t4_machine}
use Rattle.bench_devices.specs.Device.{air}
use Rattle.bench_devices.specs.Keeping.{ghosts, Fixed, fixed, Kept, kept, EachAsked}
use Rattle.bench_devices.specs.laws.Standing.{at_rest, step_keeps}
use Rattle.air_core.proofs.DueWaits.{due_all}
use Rattle.bench_devices.proofs.kinds.PeerMade.{peer_kept}
use Rattle.bench_devices.proofs.finding.SelectingKept.{IsHarmless, due_asked, kept_dark, kept_lit}
use Rattle.t3t_tag.specs.Store.{T3State}
use Rattle.t3t_tag.specs.Step.{t3_after}
use Rattle.bench_devices.specs.Lights.{three_named, three_locks}
use Rattle.bench_devices.specs.Powered.{Powered}

-- What holds of the machine of a Type 4 device, with and without a link, holds of it behind a frame where it holds of what the
-- frame leaves.
module _ (P : T4Near → Type 0) (clears : (u : T4Near) → P u → P (t4_machine.cleared u)) where
  left_holds : (front next : Front) (u : T4Near) → P u → P (left_at t4_machine front next u)
  left_holds Off next u h = h
  left_holds Idle next u h = h
  left_holds Sleep next u h = h
  left_holds (Ready k starred) next u h = h
  left_holds (Active starred) Off u h = clears u h
  left_holds (Active starred) Idle u h = clears u h
  left_holds (Active starred) Sleep u h = clears u h
  left_holds (Active starred) (Ready k other) u h = clears u h
  left_holds (Active starred) (Active other) u h = h

  plain_holds : (d : Fronted T4Near) (f : Signal) → P d.upper → P (moved t4_machine d (front_next (levels d.id) d.front (call_of f))).upper
  plain_holds d f h = left_holds d.front (front_next (levels d.id) d.front (call_of f)) d.upper h

  active_holds : (s : UpStep) (v : T4Near) (d : Fronted T4Near) (f : Signal) → P d.upper → P v → P (active_after t4_machine s v d f).upper
  active_holds steps.Foreign v d f h k = plain_holds d f h
  active_holds steps.Quiet v d f h k = k
  active_holds (steps.Reply g) v d f h k = k
  active_holds (steps.Sleep g) v d f h k = clears v k
  active_holds (steps.Idle g) v d f h k = clears v k

  step_holds : (front : Front) (d : Fronted T4Near) (f : Signal) → P d.upper → P (t4_did d.upper f).after → P (after_by t4_machine front d f None).upper
  step_holds Off d f h k = plain_holds d f h
  step_holds Idle d f h k = plain_holds d f h
  step_holds Sleep d f h k = plain_holds d f h
  step_holds (Ready level starred) d f h k = plain_holds d f h
  step_holds (Active starred) d f h k = active_holds (t4_did d.upper f).says (t4_did d.upper f).after d f h k

-- a frame at which no card delivers a command
abbrev pub DeliversNone : Signal → Type 0
DeliversNone f = (tag : T4State) (t : CardState) → (on_link tag t f).after.tag ≡ tag

-- the tag that a card's turn leaves
abbrev left_by : T4State → CardTurn → T4State
left_by tag turn = (by_card tag turn.state turn.does).after.tag

-- neither at RATS, nor at a frame that spells nothing
rats_delivers_none : DeliversNone rats
rats_delivers_none tag t = by_state t.mute t.begun
  where
    by_state : (mute begun : Bool)
        → left_by tag (if mute then framed (stays t) else (if begun then framed (stays t) else record { state = record t { most = piece_size 8 }; does = card.Reply (ats_frame t.code) })) ≡ tag
    by_state true begun = refl
    by_state false true = refl
    by_state false false = refl

pub spells_none : (f : Signal) → rats_code f ≡ None → spelled_block f ≡ None → DeliversNone f
spells_none f no_rats no_block tag t =
    ap (λ o. left_by tag (if t.mute then framed (stays t) else heeded t o (spelled_block f))) no_rats
    ∙ ap (λ o. left_by tag (if t.mute then framed (stays t) else heeded t None o)) no_block ∙ by_mute t.mute
  where
    by_mute : (mute : Bool) → left_by tag (if mute then framed (stays t) else heeded t None None) ≡ tag
    by_mute true = refl
    by_mute false = refl

-- a card's end stays what it was made as, whatever its tag answers
by_card_made : (tag : T4State) (t : CardState) (does : CardStep) → ends.darkened (by_card tag t does).after.card ≡ ends.darkened t
by_card_made tag t card.Quiet = refl
by_card_made tag t (card.Reply f) = refl
by_card_made tag t (card.Deliver command) = replied_made t (t4_answer tag command.items)
by_card_made tag t (card.Asleep f) = refl

now_made : (u : T4Near) → ends.darkened (card_now u) ≡ ends.darkened u.card
now_made u = by_link u.linked
  where
    by_link : (v : Bool) → ends.darkened (if v then u.card else ends.darkened u.card) ≡ ends.darkened u.card
    by_link true = refl
    by_link false = refl

did_made : (u : T4Near) (f : Signal) (v : Bool) → ends.darkened (did_if v u f).after.card ≡ ends.darkened u.card
did_made u f true = let t : CardState = card_now u in by_card_made u.tag (card_table t f).state (card_table t f).does ∙ stays_made t f ∙ now_made u
did_made u f false = refl

did_none : (u : T4Near) (f : Signal) → DeliversNone f → (v : Bool) → (did_if v u f).after.tag ≡ u.tag
did_none u f none true = none u.tag (card_now u)
did_none u f none false = refl

-- what stays of a Type 4 tag
abbrev fixed_four : List ℕ → ℕ → List ℕ → CardState → Fixed
fixed_four id code container made =
    record { id = id; kind = T4Kind; how = hows.T4; size = 0; locked = []; code = code; container = container; made = made; target = no_target }

abbrev tagged : List ℕ → T4State → CardState → Kept
tagged id t made = record { fixed = fixed_four id t.code t.container made; store = store_of t }

-- such a frame changes no Type 4 tag but in its state
pub four_keeps : (d : Fronted T4Near) (f : Signal) → DeliversNone f → kept (T4 (after_by t4_machine d.front d f None)) ≡ kept (T4 d)
four_keeps d f none =
    let P : T4Near → Type 0 = λ u. tagged d.id u.tag (ends.darkened u.card) ≡ tagged d.id d.upper.tag (ends.darkened d.upper.card) in
    let new : Fronted T4Near = after_by t4_machine d.front d f None in
    let taken : Bool = d.upper.linked || is_rats f in
    let did : T4Near = (did_if taken d.upper f).after in
    ap (λ id. tagged id new.upper.tag (ends.darkened new.upper.card)) (fronted.step_keeps t4_upper d f None).identifier'
    ∙ step_holds P (λ u h. h) d.front d f refl
    (ap (λ t. tagged d.id t (ends.darkened did.card)) (did_none d.upper f none taken) ∙ ap (tagged d.id d.upper.tag) (did_made d.upper f taken))

rats_two : (id : List ℕ) (front : Front) (u : T2Memory) → kept (devices.after (T2 (record { id = id; front = front; upper = u })) rats None) ≡ kept (T2 (record { id = id; front = front; upper = u }))
rats_two id Off u = refl
rats_two id Idle u = refl
rats_two id Sleep u = refl
rats_two id (Ready level starred) u = refl
rats_two id (Active true) u = refl
rats_two id (Active false) u = refl

rats_keeps : IsHarmless rats
rats_keeps (T2 d) = rats_two d.id d.front d.upper
rats_keeps (T4 d) = four_keeps d rats rats_delivers_none
rats_keeps (Peer d) = peer_kept d rats None
rats_keeps (T5 p) = refl
rats_keeps (T3 p) = refl

-- RATS, however often it is sent, changes no device but in its state.
pub rats_harmless : (ns : List Note) (f : Signal) → waits_next (rats ∷ []) ns ≡ Asks f → IsHarmless f
rats_harmless ns f due = subst IsHarmless (sym (due_all (λ g. g ≡ rats) (rats ∷ []) (refl, tt) ns f due)) rats_keeps

-- No frame changes more of a Type 4 tag than its file.
abbrev itself : (t : T4State) → IsSameTag t t
itself t = record { code = refl; container = refl; length = refl }

by_card_same : (tag : T4State) (t : CardState) (does : CardStep) → IsSameTag tag (by_card tag t does).after.tag
by_card_same tag t card.Quiet = itself tag
by_card_same tag t (card.Reply f) = itself tag
by_card_same tag t (card.Deliver command) = same_tag tag command.items
by_card_same tag t (card.Asleep f) = itself tag

did_same : (u : T4Near) (f : Signal) (v : Bool) → IsSameTag u.tag (did_if v u f).after.tag
did_same u f true = by_card_same u.tag (card_table (card_now u) f).state (card_table (card_now u) f).does
did_same u f false = itself u.tag

pub four_same : (d : Fronted T4Near) (f : Signal) → IsSameTag d.upper.tag (after_by t4_machine d.front d f None).upper.tag
four_same d f =
    let P : T4Near → Type 0 = λ u. IsSameTag d.upper.tag u.tag in
    step_holds P (λ u h. record { code = h.code; container = h.container; length = h.length }) d.front d f (itself d.upper.tag) (did_same d.upper f (d.upper.linked || is_rats f))

four_made : (d : Fronted T4Near) (f : Signal) → ends.darkened (after_by t4_machine d.front d f None).upper.card ≡ ends.darkened d.upper.card
four_made d f =
    let P : T4Near → Type 0 = λ u. ends.darkened u.card ≡ ends.darkened d.upper.card in
    step_holds P (λ u h. h) d.front d f refl (did_made d.upper f (d.upper.linked || is_rats f))

-- No frame changes which blocks of a Type 2 tag are locked.
locks_left : (front next : Front) (u : T2Memory) → (left_at t2_machine front next u).locked ≡ u.locked
locks_left Off next u = refl
locks_left Idle next u = refl
locks_left Sleep next u = refl
locks_left (Ready k starred) next u = refl
locks_left (Active starred) Off u = refl
locks_left (Active starred) Idle u = refl
locks_left (Active starred) Sleep u = refl
locks_left (Active starred) (Ready k other) u = refl
locks_left (Active starred) (Active other) u = refl

obeyed_locks : (u : T2Memory) (c : T2Command) → (t2_obeyed u c).locked ≡ u.locked
obeyed_locks u (Read block) = refl
obeyed_locks u (Write block content) = by_free (is_writable u block)
  where
    by_free : (v : Bool) → (if v then record u { store = with_block 4 u.store block content } else u).locked ≡ u.locked
    by_free true = refl
    by_free false = refl

active_locks : (d : Fronted T2Memory) (f : Signal) (o : Option T2Command) → (active_after t2_machine (says_of (reply_frame d.upper o)) (held_after d.upper o) d f).upper.locked ≡ d.upper.locked
active_locks d f None = locks_left d.front (front_next (levels d.id) d.front (call_of f)) d.upper
active_locks d f (Some c) = obeyed_locks d.upper c

two_locks : (front : Front) (d : Fronted T2Memory) (f : Signal) → (after_by t2_machine front d f None).upper.locked ≡ d.upper.locked
two_locks Off d f = locks_left d.front (front_next (levels d.id) d.front (call_of f)) d.upper
two_locks Idle d f = locks_left d.front (front_next (levels d.id) d.front (call_of f)) d.upper
two_locks Sleep d f = locks_left d.front (front_next (levels d.id) d.front (call_of f)) d.upper
two_locks (Ready level starred) d f = locks_left d.front (front_next (levels d.id) d.front (call_of f)) d.upper
two_locks (Active starred) d f = active_locks d f (spelled_command f)

-- What is fixed of a device stays at every frame, whether it hears it or not.
abbrev fixed_two : List ℕ → List Bool → Fixed
fixed_two id locked =
    record { id = id; kind = T2Kind; how = hows.T2; size = 16; locked = locked; code = 0; container = []; made = ends.fresh 0; target = no_target }

abbrev fixed_five : List ℕ → ℕ → List Bool → Fixed
fixed_five id size locked =
    record { id = id; kind = T5Kind; how = hows.T5 id; size = size; locked = locked; code = 0; container = []; made = ends.fresh 0; target = no_target }

abbrev fixed_three : List ℕ → List Bool → Fixed
fixed_three id locked =
    record { id = id; kind = T3Kind; how = hows.T2; size = 0; locked = locked; code = 0; container = []; made = ends.fresh 0; target = no_target }

five_fixed : (p : Powered T5State) (f : Signal) (v : Bool) → fixed (T5 (if v then record { tag = t5_after p.tag f; lit = true } else p)) ≡ fixed (T5 p)
five_fixed p f true =
    let new : T5State = t5_after p.tag f in
    let same = same_five p.tag f in
    ap (λ id. fixed_five id new.size new.locked) same.id ∙ ap (λ n. fixed_five p.tag.id n new.locked) same.size ∙ ap (fixed_five p.tag.id p.tag.size) same.locked
five_fixed p f false = refl

three_fixed : (p : Powered T3State) (f : Signal) (v : Bool) → fixed (T3 (if v then record { tag = t3_after p.tag f; lit = true } else p)) ≡ fixed (T3 p)
three_fixed p f true = ap (λ id. fixed_three id (t3_after p.tag f).locked) (three_named p.tag f) ∙ ap (fixed_three p.tag.id) (three_locks p.tag f)
three_fixed p f false = refl

heard_fixed : (d e : Device) → fixed e ≡ fixed d → (v : Bool) → fixed (if v then e else d) ≡ fixed d
heard_fixed d e same true = same
heard_fixed d e same false = refl

pub fixed_step : (d : Device) (f : Signal) → fixed (stepped_by devices d f None) ≡ fixed d
fixed_step (T2 d) f =
    heard_fixed (T2 d) (devices.after (T2 d) f None)
    (ap (λ id. fixed_two id (device_locks (devices.after (T2 d) f None))) (step_keeps (T2 d) f None).identifier' ∙ ap (fixed_two d.id) (two_locks d.front d f))
    (hears devices (T2 d) f)
fixed_step (T4 d) f =
    let same = four_same d f in
    let new : T4Near = (after_by t4_machine d.front d f None).upper in
    heard_fixed (T4 d) (devices.after (T4 d) f None)
    (ap (λ id. fixed_four id new.tag.code new.tag.container (ends.darkened new.card)) (fronted.step_keeps t4_upper d f None).identifier'
    ∙ ap (λ code. fixed_four d.id code new.tag.container (ends.darkened new.card)) same.code
    ∙ ap (λ container. fixed_four d.id d.upper.tag.code container (ends.darkened new.card)) same.container
    ∙ ap (fixed_four d.id d.upper.tag.code d.upper.tag.container) (four_made d f))
    (hears devices (T4 d) f)
fixed_step (Peer d) f = ap (λ (k : Kept). k.fixed) (peer_kept d f None)
fixed_step (T5 p) f = heard_fixed (T5 p) (devices.after (T5 p) f None) (five_fixed p f p.lit) (hears devices (T5 p) f)
fixed_step (T3 p) f = heard_fixed (T3 p) (devices.after (T3 p) f None) (three_fixed p f p.lit) (hears devices (T3 p) f)

-- no device of NFC-A that is ready or selected
abbrev pub IsAtRest : Device → Type 0
IsAtRest d = devices.tech d ≡ A → (device_ready d ≡ false) × (device_selected d ≡ false)

rest_two : (id : List ℕ) (front : Front) (u : T2Memory) (f : Signal) → is_ready front ≡ false → is_active front ≡ false
    → kept (devices.after (T2 (record { id = id; front = front; upper = u })) f None) ≡ kept (T2 (record { id = id; front = front; upper = u }))
rest_two id Off u f r a = refl
rest_two id Idle u f r a = refl
rest_two id Sleep u f r a = refl
rest_two id (Ready level starred) u f r a = absurd cc
rest_two id (Active starred) u f r a = absurd cc

rest_four : (id : List ℕ) (front : Front) (u : T4Near) (f : Signal) → is_ready front ≡ false → is_active front ≡ false
    → kept (devices.after (T4 (record { id = id; front = front; upper = u })) f None) ≡ kept (T4 (record { id = id; front = front; upper = u }))
rest_four id Off u f r a = refl
rest_four id Idle u f r a = refl
rest_four id Sleep u f r a = refl
rest_four id (Ready level starred) u f r a = absurd cc
rest_four id (Active starred) u f r a = absurd cc

-- it hears a whole frame and stays as it is, at rest
pub rest_keeps : (d : Device) (bytes : List ℕ) → IsAtRest d → kept (stepped_by devices d (whole_a bytes) None) ≡ kept d
rest_keeps (T2 d) bytes r = rest_two d.id d.front d.upper (whole_a bytes) (r refl).0 (r refl).1
rest_keeps (T4 d) bytes r = rest_four d.id d.front d.upper (whole_a bytes) (r refl).0 (r refl).1
rest_keeps (Peer d) bytes r = peer_kept d (whole_a bytes) None
rest_keeps (T5 p) bytes r = refl
rest_keeps (T3 p) bytes r = refl

pub rest_stays : (d : Device) (bytes : List ℕ) → IsAtRest d → IsAtRest (stepped_by devices d (whole_a bytes) None)
rest_stays (T2 d) bytes r t = (let h = at_rest (T2 d) bytes refl (r refl).0 (r refl).1 in (h.2, h.3))
rest_stays (T4 d) bytes r t = (let h = at_rest (T4 d) bytes refl (r refl).0 (r refl).1 in (h.2, h.3))
rest_stays (Peer d) bytes r t = (let h = at_rest (Peer d) bytes refl (r refl).0 (r refl).1 in (h.2, h.3))
rest_stays (T5 p) bytes r t = absurd cc
rest_stays (T3 p) bytes r t = absurd cc

pub dark_at_rest : (d : Device) → IsAtRest (devices.darkened d)
dark_at_rest (T2 d) t = (refl, refl)
dark_at_rest (T4 d) t = (refl, refl)
dark_at_rest (Peer d) t = (refl, refl)
dark_at_rest (T5 p) t = absurd cc
dark_at_rest (T3 p) t = absurd cc

pub lit_at_rest : (d : Device) → IsAtRest (devices.woken (devices.darkened d))
lit_at_rest (T2 d) t = (refl, refl)
lit_at_rest (T4 d) t = (refl, refl)
lit_at_rest (Peer d) t = (refl, refl)
lit_at_rest (T5 p) t = absurd cc
lit_at_rest (T3 p) t = absurd cc

-- A change of devices that leaves those at rest as they are but in their state, and of any other what is fixed.
record IsStill (g : Device → Device) : Type 0 where
  pub keeps : (e : Device) → IsAtRest e → kept (g e) ≡ kept e
  pub stays : (e : Device) → IsAtRest e → IsAtRest (g e)
  pub same : (e : Device) → fixed (g e) ≡ fixed e

still_step : (bytes : List ℕ) → IsStill (λ l. stepped_by devices l (whole_a bytes) None)
still_step bytes = record { keeps = λ e r. rest_keeps e bytes r; stays = λ e r. rest_stays e bytes r; same = λ e. fixed_step e (whole_a bytes) }

still_dark : IsStill devices.darkened
still_dark = record { keeps = λ e r. kept_dark e; stays = λ e r. dark_at_rest e; same = λ e. ap (λ k. k.fixed) (kept_dark e) }

kept_again : (e : Device) → kept (devices.woken (devices.darkened e)) ≡ kept e
kept_again e = kept_lit (devices.darkened e) ∙ kept_dark e

still_reset : IsStill (λ l. devices.woken (devices.darkened l))
still_reset = record { keeps = λ e r. kept_again e; stays = λ e r. lit_at_rest e; same = λ e. ap (λ k. k.fixed) (kept_again e) }

module _ (g : Device → Device) (still : IsStill g) where
  map_same : (ds : List Device) → AllByRecursion IsAtRest ds → map kept (map g ds) ≡ map kept ds
  map_same [] r = refl
  map_same (d ∷ ds) r = ap (λ k. k ∷ map kept (map g ds)) (still.keeps d r.0) ∙ ap (λ ks. kept d ∷ ks) (map_same ds r.1)

  map_rests : (ds : List Device) → AllByRecursion IsAtRest ds → AllByRecursion IsAtRest (map g ds)
  map_rests [] r = tt
  map_rests (d ∷ ds) r = (still.stays d r.0, map_rests ds r.1)

module _ (before : List Device) (d : Device) (behind : List Device) where
  -- These devices stand as those did, and one of them holds what it holds; the others are at rest, and hold what they held.
  record Stand (ds : List Device) : Type 0 where
    pub front : List Device
    pub one : Device
    pub back : List Device
    pub split : ds ≡ front ++ one ∷ back
    pub first : map kept front ≡ map kept before
    pub same : fixed one ≡ fixed d
    pub later : map kept back ≡ map kept behind
    pub front_rests : AllByRecursion IsAtRest front
    pub back_rests : AllByRecursion IsAtRest back

  stand_on : (g : Device → Device) → IsStill g → (ds : List Device) → Stand ds → Stand (map g ds)
  stand_on g still ds s = record {
    front = map g s.front;
    one = g s.one;
    back = map g s.back;
    split = ap (map g) s.split ∙ map-append g s.front (s.one ∷ s.back);
    first = map_same g still s.front s.front_rests ∙ s.first;
    same = still.same s.one ∙ s.same;
    later = map_same g still s.back s.back_rests ∙ s.later;
    front_rests = map_rests g still s.front s.front_rests;
    back_rests = map_rests g still s.back s.back_rests;
  }

  requested_stand : (w : World Device) (f : Signal) (x : Fate) → f ≡ whole_a f.bytes → Stand w.listeners → Stand (requested devices w f x).listeners
  requested_stand w f Pass whole s = stand_on _ (subst (λ h. IsStill (λ l. stepped_by devices l h None)) (sym whole) (still_step f.bytes)) w.listeners s
  requested_stand w f Damage whole s = s
  requested_stand w f Lose whole s = s
  requested_stand w f Break whole s = stand_on devices.darkened still_dark w.listeners s

  back_stand : (w : World Device) (x : Fate) → Stand w.listeners → Stand (came_back devices w x).listeners
  back_stand w Pass s = s
  back_stand w Damage s = s
  back_stand w Lose s = s
  back_stand w Break s = stand_on devices.darkened still_dark w.listeners s

  events_stand : (es : List Event) (w : World Device) → EachAsked (λ f. f ≡ whole_a f.bytes) es → Stand w.listeners → Stand (replay air w es).listeners
  events_stand [] w h s = s
  events_stand (Reset ∷ es) w h s = events_stand es (air.happens w Reset) h (stand_on _ still_reset w.listeners s)
  events_stand (Request f x ∷ es) w h s = events_stand es (requested devices w f x) h.1 (requested_stand w f x h.0 s)
  events_stand (Answer g x ∷ es) w h s = events_stand es (came_back devices w x) h (back_stand w x s)
  events_stand (Clash g x ∷ es) w h s = events_stand es (came_back devices w x) h (back_stand w x s)

  -- a device of the same kind that holds the same
  same_kept : (e : Device) → fixed e ≡ fixed d → device_store e ≡ device_store d → kept e ≡ kept d
  same_kept e same store =
      let K : Fixed → List ℕ → Kept = λ x xs. record { fixed = x; store = xs } in
      ap (λ x. K x (device_store e)) same ∙ ap (K (fixed d)) store

  at_front : (front : List Device) (e : Device) (back : List Device) → at_place device_store [] (front ++ e ∷ back) (length front) ≡ device_store e
  at_front [] e back = refl
  at_front (x ∷ front) e back = at_front front e back

  stand_same : (ds : List Device) (place : ℕ) → length before ≡ place → Stand ds → at_place device_store [] ds place ≡ device_store d → map kept ds ≡ map kept (before ++ d ∷ behind)
  stand_same ds place at s holds =
      let long : length s.front ≡ place = sym (length-map s.front kept) ∙ ap length s.first ∙ length-map before kept ∙ at in
      let there : at_place device_store [] ds place ≡ device_store s.one =
      ap (λ xs. at_place device_store [] xs place) s.split ∙ ap (at_place device_store [] (s.front ++ s.one ∷ s.back)) (sym long) ∙ at_front s.front s.one s.back in
      let one : kept s.one ≡ kept d = same_kept s.one s.same (sym there ∙ holds) in
      ap (map kept) s.split ∙ map-append kept s.front (s.one ∷ s.back)
      ∙ ap (λ ks. ks ++ kept s.one ∷ map kept s.back) s.first
      ∙ ap (λ k. map kept before ++ k ∷ map kept s.back) one
      ∙ ap (λ ks. map kept before ++ kept d ∷ ks) s.later
      ∙ sym (map-append kept before (d ∷ behind))

aside_rests : (own : List ℕ) (ds : List Device) → AllByRecursion (IsAside ghosts own) ds → AllByRecursion IsAtRest ds
aside_rests own [] h = tt
aside_rests own (d ∷ ds) h = (h.0.rests, aside_rests own ds h.1)

-- Whole frames of NFC-A are asked of a device beside which all others are at rest: where it holds at the end what it held, no
-- device changed but in its state.
pub exchange_keeps : (next : List Note → Next) (a b : Moment (World Device)) (ns : List Note) (place : ℕ) (before : List Device) (d : Device) (behind : List Device)
    → Going air next a b ns → ((ks : List Note) (f : Signal) → next ks ≡ Asks f → f ≡ whole_a f.bytes)
    → a.world.listeners ≡ before ++ d ∷ behind → length before ≡ place
    → AllByRecursion (IsAside ghosts (device_id d)) before → AllByRecursion (IsAside ghosts (device_id d)) behind
    → at_place device_store [] b.world.listeners place ≡ device_store d → map kept b.world.listeners ≡ map kept a.world.listeners
exchange_keeps next a b ns place before d behind g whole split at first later holds =
    let start : Stand before d behind a.world.listeners = record {
      front = before;
      one = d;
      back = behind;
      split = split;
      first = refl;
      same = refl;
      later = refl;
      front_rests = aside_rests (device_id d) before first;
      back_rests = aside_rests (device_id d) behind later;
    } in
    let asked : EachAsked (λ f. f ≡ whole_a f.bytes) g.events = due_asked (λ f. f ≡ whole_a f.bytes) next whole [] g.events g.each in
    let end : Stand before d behind b.world.listeners =
    subst (λ (m : Moment (World Device)). Stand before d behind m.world.listeners) (sym g.moment) (events_stand before d behind g.events a.world asked start) in
    stand_same before d behind b.world.listeners place at end holds ∙ ap (map kept) (sym split)
