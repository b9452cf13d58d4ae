use Rattle.std.proofs.Common.{List, ℕ, sym, subst, Option}
use Rattle.std.specs.Prelude.{MatchOption}
use Rattle.std.specs.Borrow.{Bor}
use Rattle.nfc_base.specs.declared.event.Event.{Event}
use Rattle.trace_audit.specs.ReadEvents.{IsInFront}
use Rattle.trace_audit.proofs.FrontLines.{first_is}
use Rattle.trace_audit.proofs.reading.front_event.Goals as goal

pub returns-in_err-event : goal.returns-in_err-event
returns-in_err-event c =
    let Is : Event → List ℕ → Type 0 = IsInFront c.args.line c.args.command.now c.args.last c.args.text.now in
    subst (λ (r : Option (Event × Bor (List ℕ))). MatchOption r ((e : Event) (more : List ℕ) → Is e more → ⊥) (λ x. Is x.0 x.1.now)) (sym c.from_residual-in_err-event.ensures)
    (λ e more is.
    let first = c.in_ok-first.ensures in
    c.in_err-event.ensures e (record {
      tech = is.tech;
      on_air = is.on_air;
      is = first_is c.args.line c.args.text.now first.0 c.in_ok-first.first.now c.in_ok-first.rest.now more e c.ranges.line.fits is.on_air first.1 first.2 first.3 is.is;
    }))
