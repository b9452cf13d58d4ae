use Rattle.std.proofs.Common.{sym, subst, Option}
use Rattle.std.specs.Prelude.{MatchOption}
use Rattle.nfc_base.specs.declared.event.Event.{Event}
use Rattle.trace_audit.specs.ReadEvents.{IsNext}
use Rattle.trace_audit.proofs.FrontLines.{none_next}
use Rattle.trace_audit.proofs.reading.next_event.Goals as goal

pub returns-in_err-event : goal.returns-in_err-event
returns-in_err-event c =
    let Is : Event → Type 0 = IsNext c.args.line c.args.command.now c.args.last c.args.text.now in
    subst (λ (r : Option Event). MatchOption r ((e : Event) → Is e → ⊥) Is) (sym c.from_residual.ensures)
    (λ e is. none_next c.args.line c.args.command.now c.args.last c.args.text.now e c.in_err-event.ensures is)
