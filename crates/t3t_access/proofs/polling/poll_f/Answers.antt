use Rattle.std.proofs.Common.{◌≡◌, ℕ, ◌<◌, ◌+◌, true, false, Result, Ok, Err, refl, sym, ◌∙◌, ap, subst, arith, ◌⊎◌, ◌≤◌, Bool, if◌then◌else◌, Some, inl, inr, length, drop}
use Rattle.std.proofs.lemmas.Grind.{common_steps}
use Rattle.nfca_poll.specs.declared.fault.PollFault.{PollFault}
use Rattle.nfca_poll.specs.declared.fault.PollFault.TheVariants as faults
use Rattle.t3t_access.specs.declared.polling.Fcrowd.{Fcrowd}
use Rattle.t3t_access.specs.declared.polling.Fcrowd.TheVariants.{Nobody, One, Crowd}
use Rattle.nfca_poll.specs.Enquiry.{Enquires, LosesByBreak}
use Rattle.nfca_poll.specs.Inventory.{Inventory, Tries, presence_step, presence_ended}
use Rattle.t3t_access.specs.Polling.{all_sensed, polling_f, sensf_req, is_sensf_res}
use Rattle.nfc_base.specs.Signal.{Signal}
use Rattle.nfc_base.specs.Trace.{noise}
use Rattle.air_core.specs.Turn.{moment}
use Rattle.air_core.specs.Conversation.{TurnsTo}
use Rattle.nfc_base.specs.declared.event.Heard.TheVariants.{Damaged, Silent}
use Rattle.nfca_poll.specs.Muted.{mute_air}
use Rattle.nfca_poll.proofs.quiet.Steady.{InVain, vain_start, vain_turn, vain_noisy, well_heard, far_missed}
use Rattle.nfca_poll.proofs.enquiries.Enquiring.{Reached, reached_start, reached_turn, enquires_err, enquires_end}
use Rattle.nfca_poll.proofs.enquiries.LostField.{lost_err}
use Rattle.t3t_access.proofs.TellingSensed.{tells_polled_f}
use Rattle.nfca_poll.proofs.quiet.Inventories.{asks_again, one_again, one_present, one_strange, one_over, not_true}
use Rattle.t3t_access.proofs.polling.poll_f.Goals as goal
use Rattle.t3t_access.proofs.polling.poll_f.Goals.{in-Damaged, in-Silent}

pub returns-in_err-answer-clause-turns : goal.returns-in_err-answer-clause-turns
returns-in_err-answer-clause-turns g c lit =
    let n : ℕ = c.loop.counter in
    let h : n < 4 = omega arith in
    let E : Result Fcrowd PollFault → Type 0 = λ r. Enquires polling_f g.L.Listener.machine c.args.field.now r c.ask.new.field in
    let same : c.from_residual.result ≡ Err c.in_err-answer.field-0.0 = grind (arith, common_steps) in
    subst E (sym same)
    (enquires_err polling_f g.L.Listener.machine c.args.field.now c.loop.field c.ask.new.field (Tries n c.loop.damaged) c.request-request.result c.in_err-answer.field-0.0 c.loop.invariant.so_far
    (asks_again Fcrowd sensf_req c.request-request.result n c.loop.damaged h c.request-request.ensures) (one_again all_sensed n c.loop.damaged h) c.in_err-answer.ensures)

pub returns-in-Some-clause-turns : goal.returns-in-Some-clause-turns
returns-in-Some-clause-turns g c lit =
    let n : ℕ = c.loop.counter in
    let h : n < 4 = omega arith in
    let s : Inventory Fcrowd = presence_step all_sensed (Tries n c.loop.damaged) c.in_ok-answer.field-0 in
    let there : is_sensf_res c.in-Whole.answer ≡ true = c.in-Some.ensures.exact.0 refl in
    enquires_end polling_f g.L.Listener.machine c.args.field.now c.ask.new.field s (Ok _)
    (reached_turn polling_f g.L.Listener.machine c.args.field.now c.loop.field c.ask.new.field (Tries n c.loop.damaged) c.request-request.result c.in_ok-answer.field-0 c.loop.invariant.so_far
    (asks_again Fcrowd sensf_req c.request-request.result n c.loop.damaged h c.request-request.ensures) c.in_ok-answer.ensures)
    (ap (λ x. presence_ended all_sensed (presence_step all_sensed (Tries n c.loop.damaged) x)) c.in-Whole.is
    ∙ one_present all_sensed n c.loop.damaged c.in-Whole.answer (One c.in-Some.id) there (ap One c.in-Some.ensures.some))

pub returns-in-None-clause-turns : goal.returns-in-None-clause-turns
returns-in-None-clause-turns g c lit =
    let n : ℕ = c.loop.counter in
    let h : n < 4 = omega arith in
    let s : Inventory Fcrowd = presence_step all_sensed (Tries n c.loop.damaged) c.in_ok-answer.field-0 in
    let strange : is_sensf_res c.in-Whole.answer ≡ false = not_true (is_sensf_res c.in-Whole.answer) (λ e. absurd (let f : false ≡ true = c.in-None.ensures.exact.1 e in cc)) in
    enquires_end polling_f g.L.Listener.machine c.args.field.now c.ask.new.field s (Err _)
    (reached_turn polling_f g.L.Listener.machine c.args.field.now c.loop.field c.ask.new.field (Tries n c.loop.damaged) c.request-request.result c.in_ok-answer.field-0 c.loop.invariant.so_far
    (asks_again Fcrowd sensf_req c.request-request.result n c.loop.damaged h c.request-request.ensures) c.in_ok-answer.ensures)
    (ap (λ x. presence_ended all_sensed (presence_step all_sensed (Tries n c.loop.damaged) x)) c.in-Whole.is ∙ one_strange all_sensed n c.loop.damaged c.in-Whole.answer strange)

pub returns-in-Collided-clause-turns : goal.returns-in-Collided-clause-turns
returns-in-Collided-clause-turns g c lit =
    let n : ℕ = c.loop.counter in
    let h : n < 4 = omega arith in
    let s : Inventory Fcrowd = presence_step all_sensed (Tries n c.loop.damaged) c.in_ok-answer.field-0 in
    enquires_end polling_f g.L.Listener.machine c.args.field.now c.ask.new.field s (Ok Crowd)
    (reached_turn polling_f g.L.Listener.machine c.args.field.now c.loop.field c.ask.new.field (Tries n c.loop.damaged) c.request-request.result c.in_ok-answer.field-0 c.loop.invariant.so_far
    (asks_again Fcrowd sensf_req c.request-request.result n c.loop.damaged h c.request-request.ensures) c.in_ok-answer.ensures)
    (ap (λ x. presence_ended all_sensed (presence_step all_sensed (Tries n c.loop.damaged) x)) c.in-Collided.is)

pub loop-preserved : goal.loop-preserved
loop-preserved g c =
    let n : ℕ = c.loop.counter in
    let h : n < 4 = omega arith in
    let R : Inventory Fcrowd → Type 0 = λ s. Reached polling_f g.L.Listener.machine c.args.field.now c.ask.new.field s in
    let turn : R (presence_step all_sensed (Tries n c.loop.damaged) c.in_ok-answer.field-0) =
    reached_turn polling_f g.L.Listener.machine c.args.field.now c.loop.field c.ask.new.field (Tries n c.loop.damaged) c.request-request.result c.in_ok-answer.field-0 c.loop.invariant.so_far
    (asks_again Fcrowd sensf_req c.request-request.result n c.loop.damaged h c.request-request.ensures) c.in_ok-answer.ensures in
    let goes : presence_step all_sensed (Tries n c.loop.damaged) c.in_ok-answer.field-0 ≡ Tries (n + 1) c.match-branch-2.damaged =
    elim c.match-branch-2.branch [ in-Damaged w ↦ grind (arith, common_steps) | in-Silent w ↦ grind (arith, common_steps) ] in
    let which : ((c.in_ok-answer.field-0 ≡ Silent) × (c.match-branch-2.damaged ≡ c.loop.damaged)) ⊎ ((c.in_ok-answer.field-0 ≡ Damaged) × (c.match-branch-2.damaged ≡ true)) =
    elim c.match-branch-2.branch [ in-Damaged w ↦ inr (grind (arith, common_steps), grind (arith, common_steps)) | in-Silent w ↦ inl (grind (arith, common_steps), grind (arith, common_steps)) ] in
    let T : Signal → Type 0 = λ x. TurnsTo (mute_air g.L.Listener.machine) (moment c.loop.field) (moment c.ask.new.field) x (Some c.in_ok-answer.field-0) in
    record {
      lit = c.in_ok-answer.ensures.1;
      so_far = subst R goes turn;
      vain = vain_turn g.L.Listener.machine sensf_req polling_f c.args.field.now c.loop.field c.ask.new.field (Tries n c.loop.damaged) n c.loop.damaged c.match-branch-2.damaged c.in_ok-answer.field-0
          c.loop.invariant.vain c.loop.invariant.so_far
          (subst T c.request-request.ensures c.in_ok-answer.ensures.0) which;
    }

pub returns-in_err-answer-clause-lost : goal.returns-in_err-answer-clause-lost
returns-in_err-answer-clause-lost g c =
    let E : Result Fcrowd PollFault → Type 0 = λ r. LosesByBreak c.args.field.now r c.ask.new.field in
    let same : c.from_residual.result ≡ Err c.in_err-answer.field-0.0 = grind (arith, common_steps) in
    subst E (sym same)
    (lost_err g.L.Listener.machine polling_f c.args.field.now c.loop.field c.ask.new.field (Tries c.loop.counter c.loop.damaged) c.request-request.result c.in_err-answer.field-0.0
    c.loop.invariant.so_far c.in_err-answer.ensures)

pub loop-init : goal.loop-init
loop-init g c = record {
  lit = grind (arith, common_steps);
  so_far = reached_start polling_f g.L.Listener.machine c.args.field.now;
  vain = vain_start g.L.Listener.machine sensf_req c.args.field.now;
}

pub returns-then-damaged-clause-cause : goal.returns-then-damaged-clause-cause
returns-then-damaged-clause-cause g c lit s =
    let m = g.L.Listener.machine in
    let n : ℕ = c.loop.counter in
    let all : 4 ≤ n = omega arith in
    let yes : c.loop.damaged ≡ true = grind (arith, common_steps) in
    let D : Bool → Type 0 = λ v. InVain m sensf_req c.args.field.now c.loop.field n v in
    let k : n ≤ noise (drop (length c.args.field.now.trace) c.loop.field.trace) = vain_noisy m sensf_req c.args.field.now c.loop.field n (subst D yes c.loop.invariant.vain) s in
    record { disturbed = λ e. omega (arith, all, k); nobody = λ e. absurd cc; bad = λ e. absurd cc }

pub returns-clause-cause : goal.returns-clause-cause
returns-clause-cause g c lit s =
    let m = g.L.Listener.machine in
    let n : ℕ = c.loop.counter in
    let all : 4 ≤ n = omega arith in
    record { disturbed = λ e. absurd cc; nobody = λ e. far_missed m sensf_req c.args.field.now c.loop.field n c.loop.damaged all c.loop.invariant.vain s; bad = λ e. absurd cc }

pub returns-in-None-clause-cause : goal.returns-in-None-clause-cause
returns-in-None-clause-cause g c lit s =
    let m = g.L.Listener.machine in
    let strange : is_sensf_res c.in-Whole.answer ≡ false = not_true (is_sensf_res c.in-Whole.answer) (λ e. absurd (let f : false ≡ true = c.in-None.ensures.exact.1 e in cc)) in
    let T : Signal → Type 0 = λ x. TurnsTo (mute_air m) (moment c.loop.field) (moment c.ask.new.field) x (Some c.in_ok-answer.field-0) in
    record {
      disturbed = λ e. absurd cc;
      nobody = λ e. absurd cc;
      bad = λ e well.
          let yes : is_sensf_res c.in-Whole.answer ≡ true =
          well_heard m sensf_req polling_f is_sensf_res c.args.field.now c.loop.field c.ask.new.field c.loop.counter c.loop.damaged c.in_ok-answer.field-0 c.in-Whole.answer c.loop.invariant.vain
          (subst T c.request-request.ensures c.in_ok-answer.ensures.0) c.in-Whole.is s well in
          cc;
    }

pub returns-in_err-answer-clause-told : goal.returns-in_err-answer-clause-told
returns-in_err-answer-clause-told g c lit = tells_polled_f g.L.Listener.machine c.args.field.now c.ask.new.field _ (returns-in_err-answer-clause-turns g c lit)

pub returns-in-Some-clause-told : goal.returns-in-Some-clause-told
returns-in-Some-clause-told g c lit = tells_polled_f g.L.Listener.machine c.args.field.now c.ask.new.field _ (returns-in-Some-clause-turns g c lit)

pub returns-in-None-clause-told : goal.returns-in-None-clause-told
returns-in-None-clause-told g c lit = tells_polled_f g.L.Listener.machine c.args.field.now c.ask.new.field _ (returns-in-None-clause-turns g c lit)

pub returns-in-Collided-clause-told : goal.returns-in-Collided-clause-told
returns-in-Collided-clause-told g c lit = tells_polled_f g.L.Listener.machine c.args.field.now c.ask.new.field _ (returns-in-Collided-clause-turns g c lit)

pub returns-then-damaged-clause-turns : goal.returns-then-damaged-clause-turns
returns-then-damaged-clause-turns g c lit =
    let yes : c.loop.damaged ≡ true = grind (arith, common_steps) in
    enquires_end polling_f g.L.Listener.machine c.args.field.now c.loop.field (Tries c.loop.counter c.loop.damaged) (Err faults.Disturbed) c.loop.invariant.so_far
    (one_over all_sensed c.loop.counter c.loop.damaged (omega arith) ∙ ap (λ v. Some (if v then Err faults.Disturbed else Ok Nobody)) yes)

pub returns-then-damaged-clause-told : goal.returns-then-damaged-clause-told
returns-then-damaged-clause-told g c lit = tells_polled_f g.L.Listener.machine c.args.field.now c.loop.field _ (returns-then-damaged-clause-turns g c lit)

pub returns-clause-turns : goal.returns-clause-turns
returns-clause-turns g c lit =
    let no : c.loop.damaged ≡ false = grind (arith, common_steps) in
    enquires_end polling_f g.L.Listener.machine c.args.field.now c.loop.field (Tries c.loop.counter c.loop.damaged) (Ok Nobody) c.loop.invariant.so_far
    (one_over all_sensed c.loop.counter c.loop.damaged (omega arith) ∙ ap (λ v. Some (if v then Err faults.Disturbed else Ok Nobody)) no)

pub returns-clause-told : goal.returns-clause-told
returns-clause-told g c lit = tells_polled_f g.L.Listener.machine c.args.field.now c.loop.field _ (returns-clause-turns g c lit)
