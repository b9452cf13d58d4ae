use Rattle.std.proofs.Common.{◌<◌, ℕ, ◌+◌, List, drop, sym, ◌∙◌, subst}
use Rattle.nfc_base.specs.LinkTurns.{arrived}
use Rattle.dep_link.specs.Payloads.{brings_payload}
use Rattle.dep_link.specs.Exchange.{frames_of}
use Rattle.dep_link.proofs.Brings.{Left, left_here, passed_on, taken_on, whole_on}
use Rattle.dep_link.proofs.brought.brings_payload.Goals as goal
use Rattle.dep_link.proofs.brought.brings_payload.Goals.{in-Passed, in-Taken}

pub returns-in-Whole : goal.returns-in-Whole
returns-in-Whole c =
    whole_on c.loop-event.next c.event-item.result (drop (c.loop-event.event-index + 1) c.args.events.now) _ c.in-Whole.ensures
    (left_here c.loop-event.next c.loop-event.event-index c.args.events.now c.event-item.result _ c.loop-event-test.true c.event-item.is c.loop-event.invariant.left)

pub loop-event-preserved : goal.loop-event-preserved
loop-event-preserved c =
    let here = left_here c.loop-event.next c.loop-event.event-index c.args.events.now c.event-item.result (brings_payload c.args.first (frames_of (arrived c.args.events.now))) c.loop-event-test.true
    c.event-item.is c.loop-event.invariant.left in
    let rest : List _ = drop (c.loop-event.event-index + 1) c.args.events.now in
    elim c.match-taken_in.branch [
      | in-Passed w ↦ record {
        number = subst (λ (n : ℕ). n < 4) (sym w.next-is) c.loop-event.invariant.number;
        left = subst (λ (n : ℕ). Left n (frames_of (arrived rest)) (brings_payload c.args.first (frames_of (arrived c.args.events.now)))) (sym w.next-is)
            (passed_on c.loop-event.next c.event-item.result rest _ w.in-Passed.ensures here);
      }
      | in-Taken w ↦ record {
        number = subst (λ (n : ℕ). n < 4) (sym w.next-is) w.after-next.ensures.bound;
        left = subst (λ (n : ℕ). Left n (frames_of (arrived rest)) (brings_payload c.args.first (frames_of (arrived c.args.events.now)))) (sym (w.next-is ∙ w.after-next.ensures.next))
            (taken_on c.loop-event.next c.event-item.result rest _ w.in-Taken.ensures here);
      }
    ]
