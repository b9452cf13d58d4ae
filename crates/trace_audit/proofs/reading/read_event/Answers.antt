use Rattle.std.proofs.Common.{◌≡◌, ◌≢◌, sym, ◌∙◌, ap, subst, Option}
use Rattle.std.specs.Prelude.{MatchOption}
use Rattle.std.specs.Cmp.Lexicographic.{other_text}
use Rattle.nfc_base.specs.declared.event.Event.{Event}
use Rattle.bench_world.specs.Report.{event_text, line_text}
use Rattle.bench_world.specs.ReadBack.{IsOf}
use Rattle.trace_audit.proofs.reading.read_event.Goals as goal

pub returns-in_err-event : goal.returns-in_err-event
returns-in_err-event c =
    subst (λ (r : Option Event). MatchOption r ((e : Event) → IsOf c.args.tech e → c.args.text.now ≢ line_text c.args.line (event_text e))
    (λ e. IsOf c.args.tech e × (c.args.text.now ≡ line_text c.args.line (event_text e)))) (sym c.from_residual.ensures)
    (λ e of is. let found = c.in_err-event.ensures.finds e (record { of = of; number = c.args.line; small = c.ranges.line.fits; is = is }) in cc)

pub returns-else-eq : goal.returns-else-eq
returns-else-eq c = λ e of is.
    let same : c.in_ok-event.event ≡ e = (let found = c.in_ok-event.ensures.finds e (record { of = of; number = c.args.line; small = c.ranges.line.fits; is = is }) in cc) in
    other_text c.as_slice.result.now c.args.text.now (sym c.if-eq.false ∙ c.eq.ensures)
    (c.as_slice.ensures.value ∙ c.event_line.ensures ∙ ap (λ (x : Event). line_text c.args.line (event_text x)) same ∙ sym is)
