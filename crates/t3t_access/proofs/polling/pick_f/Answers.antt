use Rattle.std.proofs.Common.{◌≡◌, ℕ, List, ◌<◌, ◌+◌, false, Some, Result, Ok, Err, inl, inr, refl, sym, ◌∙◌, ap, subst, arith, ◌≤◌}
use Rattle.std.proofs.lemmas.Grind.{common_steps}
use Rattle.nfca_poll.specs.declared.fault.PollFault.{PollFault}
use Rattle.nfca_poll.specs.declared.fault.PollFault.TheVariants as faults
use Rattle.nfca_poll.specs.Enquiry.{Enquires, LosesByBreak}
use Rattle.nfca_poll.specs.Inventory.{Inventory, Tries, pick_ended}
use Rattle.t3t_access.specs.Polling.{picking_f, sensf_req, is_sensf_res, pick_step}
use Rattle.t3t_access.proofs.Sought.{others_stand, none_stands, strange_judged}
use Rattle.nfc_base.specs.Signal.{Signal}
use Rattle.air_core.specs.Turn.{moment}
use Rattle.air_core.specs.Conversation.{TurnsTo}
use Rattle.nfca_poll.specs.Muted.{mute_air}
use Rattle.nfca_poll.proofs.quiet.Steady.{well_heard, alone_heard, vain_start, vain_turn, far_missed}
use Rattle.nfca_poll.proofs.enquiries.Enquiring.{Reached, reached_start, reached_turn, enquires_err, enquires_end}
use Rattle.nfca_poll.proofs.enquiries.LostField.{lost_err}
use Rattle.nfca_poll.proofs.quiet.Inventories.{asks_again, pick_again, pick_over}
use Rattle.t3t_access.proofs.TellingPickedF.{tells_picked_f}
use Rattle.t3t_access.proofs.polling.pick_f.Goals as goal

pub returns-in_err-answer-clause-turns : goal.returns-in_err-answer-clause-turns
returns-in_err-answer-clause-turns g c lit =
    let n : ℕ = c.loop.counter in
    let h : n < 4 = omega arith in
    let E : Result (Unit {0}) PollFault → Type 0 = λ r. Enquires (picking_f c.args.id) g.L.Listener.machine c.args.field.now r c.ask.new.field in
    let same : c.from_residual.result ≡ Err c.in_err-answer.field-0.0 = grind (arith, common_steps) in
    subst E (sym same)
    (enquires_err (picking_f c.args.id) g.L.Listener.machine c.args.field.now c.loop.field c.ask.new.field (Tries n false) c.request-request.result c.in_err-answer.field-0.0 c.loop.invariant.so_far
    (asks_again (Unit {0}) sensf_req c.request-request.result n false h c.request-request.ensures) (pick_again n false h) c.in_err-answer.ensures)

pub returns-in-Whole-clause-turns : goal.returns-in-Whole-clause-turns
returns-in-Whole-clause-turns g c lit =
    let n : ℕ = c.loop.counter in
    let h : n < 4 = omega arith in
    let s : Inventory (Unit {0}) = pick_step c.args.id (Tries n false) c.in_ok-answer.field-0 in
    enquires_end (picking_f c.args.id) g.L.Listener.machine c.args.field.now c.ask.new.field s _
    (reached_turn (picking_f c.args.id) g.L.Listener.machine c.args.field.now c.loop.field c.ask.new.field (Tries n false) c.request-request.result c.in_ok-answer.field-0 c.loop.invariant.so_far
    (asks_again (Unit {0}) sensf_req c.request-request.result n false h c.request-request.ensures) c.in_ok-answer.ensures)
    (ap (λ x. pick_ended (pick_step c.args.id (Tries n false) x)) c.in-Whole.is ∙ ap Some (sym c.judge_res.ensures))

pub returns-in-Collided-clause-turns : goal.returns-in-Collided-clause-turns
returns-in-Collided-clause-turns g c lit =
    let n : ℕ = c.loop.counter in
    let h : n < 4 = omega arith in
    let s : Inventory (Unit {0}) = pick_step c.args.id (Tries n false) c.in_ok-answer.field-0 in
    let picks : pick_ended s ≡ Some (Ok tt) =
    elim c.in-Collided.is [ inl w ↦ ap (λ x. pick_ended (pick_step c.args.id (Tries n false) x)) w.1 | inr w ↦ ap (λ x. pick_ended (pick_step c.args.id (Tries n false) x)) w ] in
    enquires_end (picking_f c.args.id) g.L.Listener.machine c.args.field.now c.ask.new.field s (Ok tt)
    (reached_turn (picking_f c.args.id) g.L.Listener.machine c.args.field.now c.loop.field c.ask.new.field (Tries n false) c.request-request.result c.in_ok-answer.field-0 c.loop.invariant.so_far
    (asks_again (Unit {0}) sensf_req c.request-request.result n false h c.request-request.ensures) c.in_ok-answer.ensures)
    picks

pub loop-preserved : goal.loop-preserved
loop-preserved g c =
    let n : ℕ = c.loop.counter in
    let h : n < 4 = omega arith in
    let R : Inventory (Unit {0}) → Type 0 = λ s. Reached (picking_f c.args.id) g.L.Listener.machine c.args.field.now c.ask.new.field s in
    let turn : R (pick_step c.args.id (Tries n false) c.in_ok-answer.field-0) =
    reached_turn (picking_f c.args.id) g.L.Listener.machine c.args.field.now c.loop.field c.ask.new.field (Tries n false) c.request-request.result c.in_ok-answer.field-0 c.loop.invariant.so_far
    (asks_again (Unit {0}) sensf_req c.request-request.result n false h c.request-request.ensures) c.in_ok-answer.ensures in
    let goes : pick_step c.args.id (Tries n false) c.in_ok-answer.field-0 ≡ Tries (n + 1) false = ap (pick_step c.args.id (Tries n false)) c.in-Silent.is in
    let T : Signal → Type 0 = λ x. TurnsTo (mute_air g.L.Listener.machine) (moment c.loop.field) (moment c.ask.new.field) x (Some c.in_ok-answer.field-0) in
    record {
      lit = c.in_ok-answer.ensures.1;
      so_far = subst R goes turn;
      vain = vain_turn g.L.Listener.machine sensf_req (picking_f c.args.id) c.args.field.now c.loop.field c.ask.new.field (Tries n false) n false false c.in_ok-answer.field-0 c.loop.invariant.vain
          c.loop.invariant.so_far
          (subst T c.request-request.ensures c.in_ok-answer.ensures.0) (inl (c.in-Silent.is, refl));
    }

pub returns-in_err-answer-clause-lost : goal.returns-in_err-answer-clause-lost
returns-in_err-answer-clause-lost g c =
    let E : Result (Unit {0}) PollFault → Type 0 = λ r. LosesByBreak c.args.field.now r c.ask.new.field in
    let same : c.from_residual.result ≡ Err c.in_err-answer.field-0.0 = grind (arith, common_steps) in
    subst E (sym same)
    (lost_err g.L.Listener.machine (picking_f c.args.id) c.args.field.now c.loop.field c.ask.new.field (Tries c.loop.counter false) c.request-request.result c.in_err-answer.field-0.0
    c.loop.invariant.so_far c.in_err-answer.ensures)

pub loop-init : goal.loop-init
loop-init g c = record {
  lit = grind (arith, common_steps);
  so_far = reached_start (picking_f c.args.id) g.L.Listener.machine c.args.field.now;
  vain = vain_start g.L.Listener.machine sensf_req c.args.field.now;
}

pub returns-in_err-answer-clause-told : goal.returns-in_err-answer-clause-told
returns-in_err-answer-clause-told g c lit = tells_picked_f c.args.id g.L.Listener.machine c.args.field.now c.ask.new.field _ (returns-in_err-answer-clause-turns g c lit)

pub returns-in-Collided-clause-told : goal.returns-in-Collided-clause-told
returns-in-Collided-clause-told g c lit = tells_picked_f c.args.id g.L.Listener.machine c.args.field.now c.ask.new.field _ (returns-in-Collided-clause-turns g c lit)

pub returns-clause-turns : goal.returns-clause-turns
returns-clause-turns g c lit =
    enquires_end (picking_f c.args.id) g.L.Listener.machine c.args.field.now c.loop.field (Tries c.loop.counter false) (Err faults.NotFound) c.loop.invariant.so_far
    (pick_over c.loop.counter false (omega arith))

pub returns-clause-told : goal.returns-clause-told
returns-clause-told g c lit = tells_picked_f c.args.id g.L.Listener.machine c.args.field.now c.loop.field _ (returns-clause-turns g c lit)

pub returns-in-Whole-clause-told : goal.returns-in-Whole-clause-told
returns-in-Whole-clause-told g c lit = tells_picked_f c.args.id g.L.Listener.machine c.args.field.now c.ask.new.field _ (returns-in-Whole-clause-turns g c lit)

pub returns-in-Whole-clause-cause : goal.returns-in-Whole-clause-cause
returns-in-Whole-clause-cause g c lit s =
    let m = g.L.Listener.machine in
    let id : List ℕ = c.args.id in
    let f : Signal = c.in-Whole.answer in
    let T : Signal → Type 0 = λ x. TurnsTo (mute_air m) (moment c.loop.field) (moment c.ask.new.field) x (Some c.in_ok-answer.field-0) in
    let turn : T sensf_req = subst T c.request-request.ensures c.in_ok-answer.ensures.0 in
    record {
      not_found = λ e. inl (others_stand m id f c.args.field.now.listeners (sym c.judge_res.ensures ∙ e)
          (alone_heard m sensf_req (picking_f id) c.args.field.now c.loop.field c.ask.new.field c.loop.counter false c.in_ok-answer.field-0 f c.loop.invariant.vain turn c.in-Whole.is s));
      bad = λ e well. strange_judged id f (sym c.judge_res.ensures ∙ e)
          (well_heard m sensf_req (picking_f id) is_sensf_res c.args.field.now c.loop.field c.ask.new.field c.loop.counter false c.in_ok-answer.field-0 f c.loop.invariant.vain turn c.in-Whole.is s
          well);
    }

pub returns-clause-cause : goal.returns-clause-cause
returns-clause-cause g c lit s =
    let m = g.L.Listener.machine in
    let n : ℕ = c.loop.counter in
    let all : 4 ≤ n = omega arith in
    record {
      not_found = λ e. none_stands m c.args.id c.args.field.now.listeners (far_missed m sensf_req c.args.field.now c.loop.field n false all c.loop.invariant.vain s);
      bad = λ e. absurd cc;
    }
