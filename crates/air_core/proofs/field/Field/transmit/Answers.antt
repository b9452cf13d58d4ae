use Rattle.std.proofs.Common.{◌≡◌, [], ◌∷◌, ◌++◌, take, length, ◌≤◌, ◌*◌, true, Ok, refl, sym, subst, ◌∙◌, ap, arith}
use Rattle.std.proofs.lemmas.Grind.{common_steps}
use Rattle.nfc_base.specs.declared.event.Event.TheVariants.{Request, Answer, Clash}
use Rattle.nfc_base.specs.declared.event.Fate.TheVariants.{Pass, Break}
use Rattle.nfc_base.specs.declared.event.Heard.TheVariants.{Whole, Collided, Silent}
use Rattle.nfc_base.specs.Bits.{bits_of, of_bits}
use Rattle.air_core.specs.Conversation.{first_fate, later_fates}
use Rattle.air_core.specs.Joint.{Joint, joint, Nothing, Single, Clashing}
use Rattle.air_core.specs.private.Joining.{joined_with}
use Rattle.air_core.specs.private.Settling.{settled}
use Rattle.air_core.specs.World.{came_back}
use Rattle.air_core.specs.Turn.{world}
use Rattle.air_core.specs.private.Joining.{AreOf}
use Rattle.nfc_base.specs.Signal.{Signal}
use Rattle.air_core.proofs.FirstBits.{first_of}
use Rattle.air_core.proofs.Transmitting.{transmits_silence, transmits_answer, transmits_clash, transmits_break, transmits_stop}
use Rattle.air_core.proofs.field.Field.transmit.Goals as goal

pub returns-in_default-clause-turn : goal.returns-in_default-clause-turn
returns-in_default-clause-turn g c =
    let lit : c.args.self.now.lit ≡ true = grind (arith, common_steps) in
    let pass : first_fate c.args.self.now.fates ≡ Pass = grind (arith, common_steps) in
    let from : c.deref_mut.result.now ≡ c.args.self.now.listeners = grind (arith, common_steps) in
    transmits_stop g.L.Listener.machine g.A.Answerer.restarts g.A.Answerer.steps g.A.Answerer.stops g.A.Answerer.is_stuck c.args.self.now c.args.request.now c.args.far.now
    c.deref_mut.result.now _ c.hear_all.new.far c.hear_all.new.listeners lit pass from c.in_default.ensures.err (grind (arith, common_steps))

pub returns-in-Nothing-clause-turn : goal.returns-in-Nothing-clause-turn
returns-in-Nothing-clause-turn g c =
    let lit : c.args.self.now.lit ≡ true = grind (arith, common_steps) in
    let pass : first_fate c.args.self.now.fates ≡ Pass = grind (arith, common_steps) in
    let from : c.deref_mut.result.now ≡ c.args.self.now.listeners = grind (arith, common_steps) in
    let told = c.in-Ok.ensures.ok in
    let joins : Nothing ≡ joint told.0 = sym (ap (λ j. joined_with j c.hear_all.new.answers.first []) c.in-Nothing.is) ∙ told.2 in
    transmits_silence g.L.Listener.machine g.A.Answerer.restarts g.A.Answerer.steps g.A.Answerer.stops g.A.Answerer.is_stuck c.args.self.now c.args.request.now c.args.far.now
    c.deref_mut.result.now _ c.hear_all.new.far told.0 c.hear_all.new.listeners lit pass from told.1 joins (grind (arith, common_steps))

pub returns-in-Break-clause-turn : goal.returns-in-Break-clause-turn
returns-in-Break-clause-turn g c =
    let lit : c.args.self.now.lit ≡ true = grind (arith, common_steps) in
    let fate : first_fate c.args.self.now.fates ≡ Break = grind (arith, common_steps) in
    transmits_break g.L.Listener.machine g.A.Answerer.restarts g.A.Answerer.steps g.A.Answerer.stops g.A.Answerer.is_stuck c.args.self.now c.args.request.now c.args.far.now
    c.miss.new.self c.miss.result lit fate (c.miss.ensures.result Silent) (grind (arith, common_steps)) (grind (arith, common_steps)) (grind (arith, common_steps))

pub returns-in-Pass-note_answer-clause-turn : goal.returns-in-Pass-note_answer-clause-turn
returns-in-Pass-note_answer-clause-turn g c =
    let lit : c.args.self.now.lit ≡ true = grind (arith, common_steps) in
    let pass : first_fate c.args.self.now.fates ≡ Pass = grind (arith, common_steps) in
    let from : c.deref_mut.result.now ≡ c.args.self.now.listeners = grind (arith, common_steps) in
    let told = c.in-Ok.ensures.ok in
    let joins : Single c.hear_all.new.answers.first ≡ joint told.0 = sym (ap (λ j. joined_with j c.hear_all.new.answers.first []) c.in-Alike.is) ∙ told.2 in
    transmits_answer g.L.Listener.machine g.A.Answerer.restarts g.A.Answerer.steps g.A.Answerer.stops g.A.Answerer.is_stuck c.args.self.now c.args.request.now c.args.far.now
    c.deref_mut.result.now _ c.hear_all.new.far told.0 c.hear_all.new.listeners (Ok (Whole c.hear_all.new.answers.first)) c.hear_all.new.answers.first Pass
    lit pass from told.1 joins (grind (arith, common_steps)) refl (grind (arith, common_steps)) (grind (arith, common_steps)) (grind (arith, common_steps))

pub returns-in_default-note_answer-clause-turn : goal.returns-in_default-note_answer-clause-turn
returns-in_default-note_answer-clause-turn g c =
    let lit : c.args.self.now.lit ≡ true = grind (arith, common_steps) in
    let pass : first_fate c.args.self.now.fates ≡ Pass = grind (arith, common_steps) in
    let from : c.deref_mut.result.now ≡ c.args.self.now.listeners = grind (arith, common_steps) in
    let told = c.in-Ok.ensures.ok in
    let joins : Single c.hear_all.new.answers.first ≡ joint told.0 = sym (ap (λ j. joined_with j c.hear_all.new.answers.first []) c.in-Alike.is) ∙ told.2 in
    let fate : c.note_answer.result ≡ first_fate (later_fates c.args.self.now.fates) = grind (arith, common_steps) in
    let is : c.miss-in_default-note_answer.result ≡ settled (Whole c.hear_all.new.answers.first) c.note_answer.result =
    c.miss-in_default-note_answer.ensures.result (Whole c.hear_all.new.answers.first) in
    let left : world c.miss-in_default-note_answer.new.self ≡ came_back g.L.Listener.machine (record { lit = true; listeners = c.hear_all.new.listeners }) c.note_answer.result =
    grind (arith, common_steps) in
    let fates : c.miss-in_default-note_answer.new.self.fates ≡ later_fates (later_fates c.args.self.now.fates) = grind (arith, common_steps) in
    let trace : c.miss-in_default-note_answer.new.self.trace ≡ (c.args.self.now.trace ++ Request c.args.request.now Pass ∷ []) ++ Answer c.hear_all.new.answers.first c.note_answer.result ∷ [] =
    grind (arith, common_steps) in
    transmits_answer g.L.Listener.machine g.A.Answerer.restarts g.A.Answerer.steps g.A.Answerer.stops g.A.Answerer.is_stuck c.args.self.now c.args.request.now c.args.far.now
    c.deref_mut.result.now c.miss-in_default-note_answer.new.self c.hear_all.new.far told.0 c.hear_all.new.listeners c.miss-in_default-note_answer.result c.hear_all.new.answers.first
    c.note_answer.result
    lit pass from told.1 joins fate is left fates trace

pub returns-in-Pass-note_clash-clause-turn : goal.returns-in-Pass-note_clash-clause-turn
returns-in-Pass-note_clash-clause-turn g c =
    let lit : c.args.self.now.lit ≡ true = grind (arith, common_steps) in
    let pass : first_fate c.args.self.now.fates ≡ Pass = grind (arith, common_steps) in
    let from : c.deref_mut.result.now ≡ c.args.self.now.listeners = grind (arith, common_steps) in
    let told = c.in-Ok.ensures.ok in
    let fits : c.in-Differing.shared ≤ 8 * length c.hear_all.new.answers.first.bytes = subst (λ j. AreOf j c.hear_all.new.answers.first) c.in-Differing.is c.in-Ok.ensures.fits in
    let clash : Signal = c.first_bits-clash.result in
    let cut : clash ≡ of_bits c.hear_all.new.answers.first.tech (take c.in-Differing.shared (bits_of c.hear_all.new.answers.first.bytes)) =
    first_of c.hear_all.new.answers.first clash c.in-Differing.shared fits c.first_bits-clash.ensures.tech c.first_bits-clash.ensures.bytes c.first_bits-clash.ensures.tail in
    let C : Signal → Joint = λ x. Clashing x in
    let joins : Clashing clash ≡ joint told.0 = ap C cut ∙ sym (ap (λ j. joined_with j c.hear_all.new.answers.first []) c.in-Differing.is) ∙ told.2 in
    transmits_clash g.L.Listener.machine g.A.Answerer.restarts g.A.Answerer.steps g.A.Answerer.stops g.A.Answerer.is_stuck c.args.self.now c.args.request.now c.args.far.now
    c.deref_mut.result.now _ c.hear_all.new.far told.0 c.hear_all.new.listeners (Ok (Collided clash)) clash Pass
    lit pass from told.1 joins (grind (arith, common_steps)) refl (grind (arith, common_steps)) (grind (arith, common_steps)) (grind (arith, common_steps))

pub returns-in_default-note_clash-clause-turn : goal.returns-in_default-note_clash-clause-turn
returns-in_default-note_clash-clause-turn g c =
    let lit : c.args.self.now.lit ≡ true = grind (arith, common_steps) in
    let pass : first_fate c.args.self.now.fates ≡ Pass = grind (arith, common_steps) in
    let from : c.deref_mut.result.now ≡ c.args.self.now.listeners = grind (arith, common_steps) in
    let told = c.in-Ok.ensures.ok in
    let fits : c.in-Differing.shared ≤ 8 * length c.hear_all.new.answers.first.bytes = subst (λ j. AreOf j c.hear_all.new.answers.first) c.in-Differing.is c.in-Ok.ensures.fits in
    let clash : Signal = c.first_bits-clash.result in
    let cut : clash ≡ of_bits c.hear_all.new.answers.first.tech (take c.in-Differing.shared (bits_of c.hear_all.new.answers.first.bytes)) =
    first_of c.hear_all.new.answers.first clash c.in-Differing.shared fits c.first_bits-clash.ensures.tech c.first_bits-clash.ensures.bytes c.first_bits-clash.ensures.tail in
    let C : Signal → Joint = λ x. Clashing x in
    let joins : Clashing clash ≡ joint told.0 = ap C cut ∙ sym (ap (λ j. joined_with j c.hear_all.new.answers.first []) c.in-Differing.is) ∙ told.2 in
    let fate : c.note_clash.result ≡ first_fate (later_fates c.args.self.now.fates) = grind (arith, common_steps) in
    let is : c.miss-in_default-note_clash.result ≡ settled (Collided clash) c.note_clash.result = c.miss-in_default-note_clash.ensures.result (Collided clash) in
    let left : world c.miss-in_default-note_clash.new.self ≡ came_back g.L.Listener.machine (record { lit = true; listeners = c.hear_all.new.listeners }) c.note_clash.result =
    grind (arith, common_steps) in
    let fates : c.miss-in_default-note_clash.new.self.fates ≡ later_fates (later_fates c.args.self.now.fates) = grind (arith, common_steps) in
    let trace : c.miss-in_default-note_clash.new.self.trace ≡ (c.args.self.now.trace ++ Request c.args.request.now Pass ∷ []) ++ Clash clash c.note_clash.result ∷ [] = grind (arith, common_steps) in
    transmits_clash g.L.Listener.machine g.A.Answerer.restarts g.A.Answerer.steps g.A.Answerer.stops g.A.Answerer.is_stuck c.args.self.now c.args.request.now c.args.far.now
    c.deref_mut.result.now c.miss-in_default-note_clash.new.self c.hear_all.new.far told.0 c.hear_all.new.listeners c.miss-in_default-note_clash.result clash c.note_clash.result
    lit pass from told.1 joins fate is left fates trace
