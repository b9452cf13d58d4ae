use Rattle.std.proofs.Common.{◌≡◌, ℕ, List, [], Bool, false, Result, Ok, Err, IfOk, sym, ◌∙◌, ap, subst, rules}
use Rattle.nfc_base.specs.declared.far.Mute.{Mute}
use Rattle.nfc_base.specs.Signal.{Signal, whole_a}
use Rattle.air_core.specs.declared.fault.AirFault.{AirFault}
use Rattle.air_core.specs.Turn.{Transmits}
use Rattle.air_core.proofs.ListenerLaws.{laws_of}
use Rattle.air_core.proofs.PlainAside.{Laws}
use Rattle.isodep_link.proofs.AskingLaw.{first_here, next_here, ends_answered, ends_six, ends_never, ends_lost, ends_stopped}
use Rattle.isodep_link.specs.Blocks.{block_frame}
use Rattle.isodep_link.specs.Reader.{begun, request}
use Rattle.isodep_link.specs.Reader.{ReaderState}
use Rattle.isodep_link.specs.Asking.{Waits}
use Rattle.isodep_link.proofs.AnyTag.{command_said, command_sends, command_answered, command_six, command_refused, command_lost, command_stopped}
use Rattle.isodep_link.proofs.Moves.{falls_by}
use Rattle.isodep_link.proofs.exchange.ask_card.Given as given
use Rattle.isodep_link.proofs.exchange.ask_card.Goals as goal

-- the mute far end
abbrev restarts : Mute → List ℕ → Mute → Type 0
restarts old general new = new ≡ old

abbrev steps : Mute → List ℕ → List ℕ → Mute → Type 0
steps old payload reply new = (new ≡ old) × (reply ≡ [])

abbrev stops : Mute → List ℕ → Mute → Type 0
stops old payload new = ⊥

abbrev is_stuck : Mute → Bool
is_stuck far = false

laws : (g : given.Over) → Laws g.L.Listener
laws g = laws_of g.met.L.Listener

ok_value : {E : Type 0} (r : Result Signal E) (f g : Signal) → r ≡ Ok f → IfOk r (λ x. x ≡ g) → f ≡ g
ok_value (Ok x) f g e h = let q : x ≡ f = cc in sym q ∙ h
ok_value (Err x) f g e h = absurd cc

-- what is sent first
begins : (i j : ReaderState) (f g : Signal) → j ≡ i → g ≡ f → Waits i f [] ≡ Waits j g []
begins i j f g e d = ap (λ (x : ReaderState). Waits x f []) (sym e) ∙ ap (λ (x : Signal). Waits j x []) (sym d)

never_stops : (a b : Mute) (p : List ℕ) → stops a p b → ⊥
never_stops a b p h = h

pub loop-heard-init : goal.loop-heard-init
loop-heard-init g c = record {
  bytes = search rules;
  said =
      command_said g.L.Listener.machine c.args.field.now c.args.reader.now c.args.command.now.bytes _ c.begin-frame.new.self c.begin-frame.result
      (begins (begun c.args.reader.now c.args.command.now.bytes) c.begin-frame.new.self (block_frame (request (begun c.args.reader.now c.args.command.now.bytes).core)) c.begin-frame.result
      (c.begin-frame.ensures.step ∙ ap (λ xs. begun c.args.reader.now xs) c.view.ensures.bytes)
      (c.begin-frame.ensures.request ∙ ap (λ xs. block_frame (request (begun c.args.reader.now xs).core)) c.view.ensures.bytes));
  goes = λ commands arrived t.
      first_here g.L.Listener (laws g) g.L.CardListener.card g.L.CardListener.tag g.met.L.CardListener.holds c.args.field.now c.args.place c.args.reader.now c.args.command.now.bytes commands arrived t
      c.requires.fits c.begin-frame.new.self c.begin-frame.result
      (c.begin-frame.ensures.step ∙ ap (λ xs. begun c.args.reader.now xs) c.view.ensures.bytes)
      (c.begin-frame.ensures.request ∙ ap (λ xs. block_frame (request (begun c.args.reader.now xs).core)) c.view.ensures.bytes);
}

pub loop-heard-preserved : goal.loop-heard-preserved
loop-heard-preserved g c = record {
  bytes = search rules;
  said = command_sends g.L.Listener.machine c.args.field.now c.args.reader.now c.args.command.now.bytes c.loop-heard.far c.transmit.new.far c.loop-heard.field c.transmit.new.self c.loop-heard.reader
      c.loop-heard.frame c.loop-heard.invariant.said c.in-Ok.heard c.in-Ok.ensures.turn c.next_into.new.self _ c.in-Send.ensures.step;
  goes = λ commands arrived t.
      next_here g.L.Listener (laws g) g.L.CardListener.card g.L.CardListener.tag g.met.L.CardListener.holds c.args.field.now c.args.place c.args.reader.now c.args.command.now.bytes commands arrived t
      c.loop-heard.field c.loop-heard.reader c.loop-heard.frame c.loop-heard.invariant.bytes (c.loop-heard.invariant.goes commands arrived t) {F = Mute} restarts steps c.loop-heard.far
      c.transmit.new.far c.transmit.new.self
      c.in-Ok.heard c.in-Ok.ensures.turn c.next_into.new.self _ c.in-Send.ensures.step;
}

pub returns-in-Finished-clause-ends : goal.returns-in-Finished-clause-ends
returns-in-Finished-clause-ends g c = λ commands arrived t.
    ends_answered g.L.Listener (laws g) g.L.CardListener.card g.L.CardListener.tag g.met.L.CardListener.holds c.args.field.now c.args.place c.args.reader.now c.args.command.now.bytes commands arrived
    t
    c.loop-heard.field c.loop-heard.reader c.loop-heard.frame c.loop-heard.invariant.bytes (c.loop-heard.invariant.goes commands arrived t) {F = Mute} restarts steps c.loop-heard.far
    c.transmit.new.far c.transmit.new.self
    c.in-Ok.heard c.in-Ok.ensures.turn c.next_into.new.self c.in-Finished.answer.items c.in-Finished.ensures.step c.unwrap.result
    (ok_value c.whole.result c.unwrap.result (whole_a c.deref.result.now) c.unwrap.ensures c.whole.ensures.ok ∙ ap whole_a c.deref.ensures.0)

pub returns-in-SixBad-clause-ends : goal.returns-in-SixBad-clause-ends
returns-in-SixBad-clause-ends g c = λ commands arrived t.
    ends_six g.L.Listener (laws g) g.L.CardListener.card g.L.CardListener.tag g.met.L.CardListener.holds c.args.field.now c.args.place c.args.reader.now c.args.command.now.bytes commands arrived t
    c.loop-heard.field c.loop-heard.reader c.loop-heard.frame c.loop-heard.invariant.bytes (c.loop-heard.invariant.goes commands arrived t) {F = Mute} restarts steps c.loop-heard.far
    c.transmit.new.far c.transmit.new.self
    c.in-Ok.heard c.in-Ok.ensures.turn c.next_into.new.self c.in-SixBad.ensures.step

pub returns-in-Protocol-clause-ends : goal.returns-in-Protocol-clause-ends
returns-in-Protocol-clause-ends g c = λ commands arrived t.
    ends_never g.L.Listener (laws g) g.L.CardListener.card g.L.CardListener.tag g.met.L.CardListener.holds c.args.field.now c.args.place c.args.reader.now c.args.command.now.bytes commands arrived t
    c.loop-heard.field c.loop-heard.reader c.loop-heard.frame c.loop-heard.invariant.bytes (c.loop-heard.invariant.goes commands arrived t) {F = Mute} restarts steps c.loop-heard.far
    c.transmit.new.far c.transmit.new.self
    c.in-Ok.heard c.in-Ok.ensures.turn c.next_into.new.self c.in-Protocol.ensures.step

pub returns-in-Err-FieldLost-clause-ends : goal.returns-in-Err-FieldLost-clause-ends
returns-in-Err-FieldLost-clause-ends g c = λ commands arrived t.
    let P : AirFault → Type 0 = λ e. Transmits g.L.Listener.machine restarts steps stops is_stuck c.loop-heard.field c.loop-heard.frame c.loop-heard.far (Err e) c.transmit.new.self
    c.transmit.new.far in
    ends_lost g.L.Listener (laws g) g.L.CardListener.card g.L.CardListener.tag g.met.L.CardListener.holds c.args.field.now c.args.place c.args.reader.now c.args.command.now.bytes commands arrived t
    c.loop-heard.field c.loop-heard.reader c.loop-heard.frame c.loop-heard.invariant.bytes (c.loop-heard.invariant.goes commands arrived t) {F = Mute} restarts steps c.loop-heard.far
    c.transmit.new.far c.transmit.new.self
    stops is_stuck c.loop-heard.reader (subst P c.in-Err-FieldLost.field-0-is c.in-Err-FieldLost.ensures.turn)

pub returns-in-Err-Memory-clause-ends : goal.returns-in-Err-Memory-clause-ends
returns-in-Err-Memory-clause-ends g c = λ commands arrived t.
    let P : AirFault → Type 0 = λ e. Transmits g.L.Listener.machine restarts steps stops is_stuck c.loop-heard.field c.loop-heard.frame c.loop-heard.far (Err e) c.transmit.new.self
    c.transmit.new.far in
    ends_stopped g.L.Listener (laws g) g.L.CardListener.card g.L.CardListener.tag g.met.L.CardListener.holds c.args.field.now c.args.place c.args.reader.now c.args.command.now.bytes commands arrived t
    c.loop-heard.field c.loop-heard.reader c.loop-heard.frame c.loop-heard.invariant.bytes (c.loop-heard.invariant.goes commands arrived t) {F = Mute} restarts steps c.loop-heard.far
    c.transmit.new.far c.transmit.new.self
    stops is_stuck (subst P c.in-Err-Memory.field-0-is c.in-Err-Memory.ensures.turn)

pub loop-heard-smaller : goal.loop-heard-smaller
loop-heard-smaller g c = falls_by c.loop-heard.reader c.next_into.new.self c.in-Ok.heard c.next_into.new.sent c.next_into.ensures.some c.in-Send.ensures.step

pub returns-in-Finished-clause-turns : goal.returns-in-Finished-clause-turns
returns-in-Finished-clause-turns g c =
    command_answered g.L.Listener.machine c.args.field.now c.args.reader.now c.args.command.now.bytes c.loop-heard.far c.transmit.new.far c.loop-heard.field c.transmit.new.self c.loop-heard.reader
    c.loop-heard.frame c.loop-heard.invariant.said
    c.in-Ok.heard c.in-Ok.ensures.turn c.next_into.new.self c.in-Finished.answer.items c.in-Finished.ensures.step c.unwrap.result
    (ok_value c.whole.result c.unwrap.result (whole_a c.deref.result.now) c.unwrap.ensures c.whole.ensures.ok ∙ ap whole_a c.deref.ensures.0)

pub returns-in-SixBad-clause-turns : goal.returns-in-SixBad-clause-turns
returns-in-SixBad-clause-turns g c =
    command_six g.L.Listener.machine c.args.field.now c.args.reader.now c.args.command.now.bytes c.loop-heard.far c.transmit.new.far c.loop-heard.field c.transmit.new.self c.loop-heard.reader
    c.loop-heard.frame c.loop-heard.invariant.said
    c.in-Ok.heard c.in-Ok.ensures.turn c.next_into.new.self c.in-SixBad.ensures.step

pub returns-in-Protocol-clause-turns : goal.returns-in-Protocol-clause-turns
returns-in-Protocol-clause-turns g c =
    command_refused g.L.Listener.machine c.args.field.now c.args.reader.now c.args.command.now.bytes c.loop-heard.far c.transmit.new.far c.loop-heard.field c.transmit.new.self c.loop-heard.reader
    c.loop-heard.frame c.loop-heard.invariant.said
    c.in-Ok.heard c.in-Ok.ensures.turn c.next_into.new.self c.in-Protocol.ensures.step

pub returns-in-Err-FieldLost-clause-turns : goal.returns-in-Err-FieldLost-clause-turns
returns-in-Err-FieldLost-clause-turns g c =
    let P : AirFault → Type 0 = λ e. Transmits g.L.Listener.machine restarts steps stops is_stuck c.loop-heard.field c.loop-heard.frame c.loop-heard.far (Err e) c.transmit.new.self
    c.transmit.new.far in
    command_lost g.L.Listener.machine c.args.field.now c.args.reader.now c.args.command.now.bytes c.loop-heard.far c.transmit.new.far c.loop-heard.field c.transmit.new.self c.loop-heard.reader
    c.loop-heard.frame c.loop-heard.invariant.said
    stops is_stuck (subst P c.in-Err-FieldLost.field-0-is c.in-Err-FieldLost.ensures.turn)

pub returns-in-Err-Memory-clause-turns : goal.returns-in-Err-Memory-clause-turns
returns-in-Err-Memory-clause-turns g c =
    let P : AirFault → Type 0 = λ e. Transmits g.L.Listener.machine restarts steps stops is_stuck c.loop-heard.field c.loop-heard.frame c.loop-heard.far (Err e) c.transmit.new.self
    c.transmit.new.far in
    command_stopped g.L.Listener.machine c.args.field.now c.args.reader.now c.args.command.now.bytes c.loop-heard.far c.transmit.new.far c.loop-heard.field c.transmit.new.self c.loop-heard.reader
    c.loop-heard.frame c.loop-heard.invariant.said
    stops is_stuck never_stops (subst P c.in-Err-Memory.field-0-is c.in-Err-Memory.ensures.turn)
