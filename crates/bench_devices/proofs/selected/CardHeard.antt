-- A selected Type 4 tag of which nothing was asked answers RATS and then each block of the reader, where all passes: so each answer is
-- heard.
use Rattle.std.proofs.Common.{◌≡◌, ◌⊎◌, inl, inr, ℕ, zero, ◌+◌, ◌*◌, ◌<◌, ◌≤◌, List, [], ◌∷◌, ◌++◌, length, true, Option, Some, None, refl, sym, ◌∙◌, ap, subst, arith, append_assoc, append-nil}
use Rattle.std.specs.List.{AllByRecursion}
use Rattle.nfc_base.specs.declared.event.Event.{Event}
use Rattle.nfc_base.specs.declared.event.Fate.TheVariants.{Pass}
use Rattle.nfc_base.specs.declared.event.Heard.{Heard}
use Rattle.nfc_base.specs.declared.event.Heard.TheVariants.{Whole, Collided, Damaged, Silent}
use Rattle.nfc_base.specs.Signal.{Signal}
use Rattle.nfc_base.specs.StopAndWait.{Stage, Requests, stage_of}
use Rattle.nfc_base.specs.Trace.{noise, heard_by}
use Rattle.nfc_base.specs.declared.tag_link.AskFault.TheVariants as asking
use Rattle.nfc_base.proofs.LinkTurns.{J}
use Rattle.air_core.specs.Joint.{Joint, Nothing, Single, Clashing}
use Rattle.air_core.specs.Conversation.{Note, Got, Over, Asks, Moment, TurnsTo, joint_events, joint_back, turn_events}
use Rattle.air_core.specs.Quiet.{QuietTurn}
use Rattle.air_core.specs.Turn.{Air, moment}
use Rattle.air_core.proofs.PlainTurns.{noise_append}
use Rattle.isodep_link.specs.Sizes.{limit, ats_frame}
use Rattle.isodep_link.specs.declared.reader.ReaderStep.{ReaderStep}
use Rattle.isodep_link.specs.declared.reader.ReaderStep.TheVariants as steps
use Rattle.isodep_link.specs.Activating.{rats, ats_code, HasFreshTag, IsActivated}
use Rattle.isodep_link.specs.Asking as exchange
use Rattle.isodep_link.specs.Asking.{HasCardTag}
use Rattle.isodep_link.specs.Blocks.{block_frame}
use Rattle.nfc_base.specs.Pieces.{pieces}
use Rattle.isodep_link.specs.Exchange.{iso_dep, reader_does}
use Rattle.isodep_link.specs.Reader.{ReaderState, reader_table, request, begun, waiting}
use Rattle.isodep_link.proofs.ActivateLaw.{After, first_rats, rats_turn, rats_done, rats_never}
use Rattle.isodep_link.proofs.AskingLaw.{OnTag, begins_on, turn_on, noisy, answered_asked}
use Rattle.isodep_link.proofs.Heeding.{AreBytes}
use Rattle.isodep_link.proofs.Obeyed.{keeps}
use Rattle.bench_devices.specs.declared.device.Device.{Device}
use Rattle.bench_devices.specs.Device.{BenchWorld, air, devices, device_card, device_tag}
use Rattle.bench_devices.specs.CardAsking.{CardStanding, Activates, Exchanges, told_code, card_stand, card_due}
use Rattle.bench_devices.specs.Keeping.{ghosts}
use Rattle.bench_devices.specs.laws.Standing.{tag_holds}
use Rattle.bench_devices.proofs.turns.CardBytes.{sent_bytes}
use Rattle.bench_devices.proofs.reads.CardReadingNotes.{exchanges_stand}
use Rattle.bench_devices.proofs.turns.QuietRats.{laws, one_answer}
use Rattle.bench_devices.proofs.turns.QuietWalk.{Passing, fated_passes, told_passes}

-- the field at a moment
abbrev pub field_of : Moment BenchWorld → Air Device
field_of b = record { lit = b.world.lit; listeners = b.world.listeners; fates = b.queue; trace = b.trace }

-- a turn of the air is one of the field
as_turn : (b c : Moment BenchWorld) (f : Signal) (h : Option Heard) → TurnsTo air b c f h → QuietTurn devices (field_of b) f zero h (field_of c) zero
as_turn b c f h t = record {
  lit = t.lit;
  after = ap (λ (m : Moment BenchWorld). m.world) t.moment;
  fates = ap (λ (m : Moment BenchWorld). m.queue) t.moment;
  trace = ap (λ (m : Moment BenchWorld). m.trace) t.moment;
  told = t.heard;
  same = refl;
}

-- a turn that passes has no noise
joint_calm : (f : Signal) (j : Joint) → noise (joint_events j Pass) ≡ 0
joint_calm f Nothing = refl
joint_calm f (Single g) = refl
joint_calm f (Clashing g) = refl

turn_calm : (w : BenchWorld) (f : Signal) → noise (turn_events air w f Pass Pass) ≡ 0
turn_calm w f = let none = joint_calm f (air.joint w f) in omega (arith, none)

-- a command that is short, and whose items are bytes
abbrev pub IsSent : List ℕ → Type 0
IsSent command = (length command ≤ limit) × AreBytes command

-- commands are under way: one is asked, from some field on in which nothing was lost since, and these are left behind it
pub record InExchange (commands : List (List ℕ)) (place : ℕ) (b : Moment BenchWorld) (ns : List Note) : Type 0 where
  pub old : Air Device
  pub first : ReaderState
  pub done : List (List ℕ)
  pub arrived : List Signal
  pub tag : HasCardTag ghosts device_card device_tag old place first done arrived
  pub command : List ℕ
  pub bytes : AreBytes command
  pub reader : ReaderState
  pub frame : Signal
  pub on : OnTag ghosts device_card device_tag tag.listener first done arrived command old (field_of b) place reader (Requests frame) (exchange.Waits reader frame [])
  pub since : List Event
  pub trace : b.trace ≡ old.trace ++ since
  pub calm : noise since ≡ 0
  pub left : List (List ℕ)
  pub sent : AllByRecursion IsSent left
  pub stands : (ms : List Note) → card_stand commands (Activates zero) (ns ++ ms) ≡ Exchanges (exchange.stand (exchange.Waits reader frame left) ms)

-- so a reading of the tag is under way, or nothing more is due
abbrev pub CardGoes : List (List ℕ) → ℕ → Moment BenchWorld → List Note → Type 0
CardGoes commands place b ns = InExchange commands place b ns ⊎ (card_due (card_stand commands (Activates zero) ns) ≡ Over)

-- what a turn of it comes to
pub record CardHeard (commands : List (List ℕ)) (place : ℕ) (c : Moment BenchWorld) (ns : List Note) (h : Option Heard) : Type 0 where
  pub answer : Signal
  pub heard : h ≡ Some (Whole answer)
  pub goes : CardGoes commands place c (ns ++ Got (Whole answer) ∷ [])

nothing_due : (commands : List (List ℕ)) (ns : List Note) (s : CardStanding) → ((ms : List Note) → card_stand commands (Activates zero) (ns ++ ms) ≡ card_stand commands s ms)
    → card_due s ≡ Over → card_due (card_stand commands (Activates zero) ns) ≡ Over
nothing_due commands ns s stands over = ap (λ ks. card_due (card_stand commands (Activates zero) ks)) (sym (append-nil ns)) ∙ ap card_due (stands []) ∙ over

-- the next command begins, if there is one
next_command : (commands : List (List ℕ)) (place : ℕ) (c : Moment BenchWorld) (ns : List Note) (i : ReaderState) (done : List (List ℕ)) (arrived : List Signal) (left : List (List ℕ))
    → HasCardTag ghosts device_card device_tag (field_of c) place i done arrived → AllByRecursion IsSent left
    → ((ms : List Note) → card_stand commands (Activates zero) (ns ++ ms) ≡ Exchanges (exchange.stand (exchange.asks i left) ms)) → CardGoes commands place c ns
next_command commands place c ns i done arrived [] tag sent stands =
    inr (ap (λ ks. card_due (card_stand commands (Activates zero) ks)) (sym (append-nil ns)) ∙ ap card_due (stands []))
next_command commands place c ns i done arrived (command ∷ left) tag sent stands = inl (record {
  old = field_of c;
  first = i;
  done = done;
  arrived = arrived;
  tag = tag;
  command = command;
  bytes = sent.0.1;
  reader = begun i command;
  frame = block_frame (request (begun i command).core);
  on = begins_on ghosts laws device_card device_tag tag_holds tag.listener tag.is i done arrived command (field_of c) place tag.selected tag.alone sent.0.0 tag.step tag.cut;
  since = [];
  trace = sym (append-nil c.trace);
  calm = refl;
  left = left;
  sent = sent.1;
  stands = stands;
})

-- In an exchange the answer is heard, and it goes on.
module _ (commands : List (List ℕ)) (place : ℕ) (b c : Moment BenchWorld) (ns : List Note) (h : Option Heard) (x : InExchange commands place b ns) (calm : Passing b.queue)
    (turn : TurnsTo air b c x.frame h) where
  abbrev At : Air Device → ReaderState → Stage Signal → exchange.IsoStanding → Type 0
  At new i stage s = OnTag ghosts device_card device_tag x.tag.listener x.first x.done x.arrived x.command x.old new place i stage s

  frame_bytes : AreBytes x.frame.bytes
  frame_bytes =
      let l : Device = x.tag.listener in
      let K = keeps (device_card l).most (device_card l).busy x.command in
      let a = x.on.along in
      let j = subst (λ (s : Stage Signal). J iso_dep x.done x.command K (2 * pieces x.first.core.most x.command) a.world s) a.stage_is a.inv in
      sent_bytes (device_card l).most (device_card l).busy x.command a.world.asking a.world.answering a.world.given x.frame j.0 j.1 x.bytes

  quiet : QuietTurn devices (field_of b) x.frame zero h (field_of c) zero
  quiet = as_turn b c x.frame h turn

  abbrev es : List Event
  es = turn_events air b.world x.frame Pass Pass

  trace_here : c.trace ≡ b.trace ++ es
  trace_here = quiet.trace ∙ ap (λ t. b.trace ++ t) (fated_passes air b.queue b.world x.frame calm)

  trace_then : c.trace ≡ x.old.trace ++ (x.since ++ es)
  trace_then = trace_here ∙ ap (λ t. t ++ es) x.trace ∙ append_assoc x.old.trace x.since es

  calm_then : noise (x.since ++ es) ≡ 0
  calm_then =
      let sum : noise (x.since ++ es) ≡ noise x.since + noise es = noise_append x.since es in
      let none : noise es ≡ 0 = turn_calm b.world x.frame in
      omega (arith, sum, none, x.calm)

  loud : ((a : Signal) → h ≡ Some (Whole a) → ⊥) → ⊥
  loud never =
      let some : 0 < noise (x.since ++ es) =
      noisy ghosts laws device_card device_tag tag_holds x.tag.listener x.tag.is x.first x.done x.arrived x.command x.old (field_of b) place x.reader x.frame frame_bytes x.on zero zero (field_of c) h
      quiet never
      (x.since ++ es) trace_then in
      omega (arith, some, calm_then)

  -- the answer is heard
  whole : (g : Option Heard) → h ≡ g → (a : Signal) × (h ≡ Some (Whole a))
  whole (Some (Whole a)) e = (a, e)
  whole (Some (Collided a)) e = absurd (loud (λ d k. (let clash : Some (Collided a) ≡ Some (Whole d) = sym e ∙ k in cc)))
  whole (Some Damaged) e = absurd (loud (λ d k. (let clash : Some Damaged ≡ Some (Whole d) = sym e ∙ k in cc)))
  whole (Some Silent) e = absurd (loud (λ d k. (let clash : Some Silent ≡ Some (Whole d) = sym e ∙ k in cc)))
  whole None e = absurd (loud (λ d k. (let clash : None ≡ Some (Whole d) = sym e ∙ k in cc)))

  module _ (a : Signal) (told : h ≡ Some (Whole a)) where
    heard_turn : QuietTurn devices (field_of b) x.frame zero (Some (Whole a)) (field_of c) zero
    heard_turn = subst (λ o. QuietTurn devices (field_of b) x.frame zero o (field_of c) zero) told quiet

    abbrev now : ReaderState
    now = (reader_table x.reader (Whole a)).state

    after : At (field_of c) now (stage_of (reader_does (reader_table x.reader (Whole a)).does)) (exchange.goes_by now (reader_table x.reader (Whole a)).does [])
    after =
        turn_on ghosts laws device_card device_tag tag_holds x.tag.listener x.tag.is x.first x.done x.arrived x.command x.old (field_of b) place x.reader x.frame frame_bytes x.on zero zero
        (field_of c) (Whole a) heard_turn

    lit_then : c.world.lit ≡ true
    lit_then = after.lit ∙ sym x.on.lit ∙ turn.lit

    stands_then : (ms : List Note) → card_stand commands (Activates zero) ((ns ++ Got (Whole a) ∷ []) ++ ms)
        ≡ Exchanges (exchange.stand (exchange.goes_by now (reader_table x.reader (Whole a)).does x.left) ms)
    stands_then ms = ap (card_stand commands (Activates zero)) (append_assoc ns (Got (Whole a) ∷ []) ms) ∙ x.stands (Got (Whole a) ∷ ms)

    on_then : (d : ReaderStep) → At (field_of c) now (stage_of (reader_does d)) (exchange.goes_by now d [])
        → ((ms : List Note) → card_stand commands (Activates zero) ((ns ++ Got (Whole a) ∷ []) ++ ms) ≡ Exchanges (exchange.stand (exchange.goes_by now d x.left) ms))
        → CardGoes commands place c (ns ++ Got (Whole a) ∷ [])
    on_then (steps.Send f) on stands = inl (record {
      old = x.old;
      first = x.first;
      done = x.done;
      arrived = x.arrived;
      tag = x.tag;
      command = x.command;
      bytes = x.bytes;
      reader = now;
      frame = f;
      on = on;
      since = x.since ++ es;
      trace = trace_then;
      calm = calm_then;
      left = x.left;
      sent = x.sent;
      stands = stands;
    })
    on_then (steps.Finished r) on stands =
        let next = answered_asked ghosts laws device_card device_tag tag_holds x.tag.listener x.tag.is x.first x.done x.arrived x.command x.old (field_of c) place now r.items (exchange.Rests now) on
        lit_then in
        next_command commands place c (ns ++ Got (Whole a) ∷ []) now _ _ x.left next.1 x.sent stands
    on_then steps.SixBad on stands =
        inr (nothing_due commands (ns ++ Got (Whole a) ∷ []) (Exchanges (exchange.Broken asking.SixBad)) (λ ms. stands ms ∙ sym (exchanges_stand commands (exchange.Broken asking.SixBad) ms)) refl)
    on_then steps.Protocol on stands =
        inr (nothing_due commands (ns ++ Got (Whole a) ∷ []) (Exchanges (exchange.Broken asking.Protocol)) (λ ms. stands ms ∙ sym (exchanges_stand commands (exchange.Broken asking.Protocol) ms)) refl)

  exchange_heard : CardHeard commands place c ns h
  exchange_heard =
      let w = whole h refl in
      record { answer = w.0; heard = w.1; goes = on_then w.0 w.1 (reader_table x.reader (Whole w.0)).does (after w.0 w.1) (stands_then w.0 w.1) }

-- Whatever is due while a reading is under way is heard.
pub same_frame : (f g : Signal) → Asks f ≡ Asks g → g ≡ f
same_frame f g e = cc

pub card_heard : (commands : List (List ℕ)) (place : ℕ) (b c : Moment BenchWorld) (ns : List Note) (f : Signal) (h : Option Heard) → CardGoes commands place b ns → Passing b.queue
    → card_due (card_stand commands (Activates zero) ns) ≡ Asks f → TurnsTo air b c f h → CardHeard commands place c ns h
card_heard commands place b c ns f h (inr over) calm due turn = absurd (let clash : Over ≡ Asks f = sym over ∙ due in cc)
card_heard commands place b c ns f h (inl x) calm due turn =
    let here : card_due (card_stand commands (Activates zero) ns) ≡ Asks x.frame = ap (λ ks. card_due (card_stand commands (Activates zero) ks)) (sym (append-nil ns)) ∙ ap card_due (x.stands []) in
    let same : x.frame ≡ f = same_frame f x.frame (sym due ∙ here) in
    exchange_heard commands place b c ns h x calm (subst (λ g. TurnsTo air b c g h) (sym same) turn)

-- RATS that a selected Type 4 tag hears is answered, which tells its size code; then the first command is asked.
module _ (commands : List (List ℕ)) (sent : AllByRecursion IsSent commands) (place : ℕ) (b c : Moment BenchWorld) (h : Option Heard) (calm : Passing b.queue) (turn : TurnsTo air b c rats h)
    (t : HasFreshTag ghosts device_card device_tag (field_of b) place) where
  quiet_rats : QuietTurn devices (field_of b) rats zero h (field_of c) zero
  quiet_rats = as_turn b c rats h turn

  abbrev ats : Signal
  ats = ats_frame t.takes.made.code

  single : air.joint b.world rats ≡ Single ats
  single =
      subst (λ v. air.joint (record { lit = v; listeners = b.world.listeners }) rats ≡ Single ats) (sym turn.lit)
      (one_answer (field_of b) (field_of b) place turn.lit t ats (t.takes.steps 0).answer)

  rats_told : h ≡ Some (Whole ats)
  rats_told = turn.heard ∙ told_passes air b.queue b.world rats calm ∙ ap (λ j. heard_by Pass (joint_back j Pass)) single

  abbrev AfterRats : Option Heard → Type 0
  AfterRats o = After ghosts laws device_card device_tag tag_holds (field_of b) place t (field_of c) 0 o

  after_rats : AfterRats (Some (Whole ats))
  after_rats =
      subst AfterRats rats_told
      (rats_turn ghosts laws device_card device_tag tag_holds (field_of b) place t (field_of b) 0 (omega arith) (first_rats ghosts laws device_card device_tag tag_holds (field_of b) place t) zero zero
      (field_of c) h quiet_rats)

  by_code : (o : Option ℕ) → ats_code ats ≡ o → CardGoes commands place c (Got (Whole ats) ∷ [])
  by_code None e = absurd (rats_never ghosts laws device_card device_tag tag_holds (field_of b) place t (field_of c) 0 ats after_rats e)
  by_code (Some code) e =
      let ends = rats_done ghosts laws device_card device_tag tag_holds (field_of b) place t (field_of c) 0 ats after_rats code e in
      let activated : IsActivated ghosts device_card device_tag (field_of c) place (waiting code) = ends.2 in
      next_command commands place c (Got (Whole ats) ∷ []) (waiting code) [] [] commands activated.has sent
      (λ ms. ap (λ o. card_stand commands (told_code commands o) ms) e ∙ exchanges_stand commands (exchange.asks (waiting code) commands) ms)

  pub rats_heard : CardHeard commands place c [] h
  rats_heard = record { answer = ats; heard = rats_told; goes = by_code (ats_code ats) refl }
