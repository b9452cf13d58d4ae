use Rattle.std.proofs.Common.{◌≡◌, ◌≢◌, [], ap, sym, ◌∙◌, subst, arith, Some}
use Rattle.std.specs.Prelude.{codes}
use Rattle.std.specs.Cmp.Lexicographic.{other_text, same_text}
use Rattle.nfc_base.specs.Signal.{Signal, signal, IsSignal}
use Rattle.trace_audit.proofs.Finding.{digits_known, no_bytes, same_signal}
use Rattle.trace_audit.proofs.event_texts.frame_with.Goals as goal

pub returns-then-eq-clause-finds : goal.returns-then-eq-clause-finds
returns-then-eq-clause-finds c = λ f is.
    let dash : c.args.digits.now ≡ codes "-" = same_text c.args.digits.now c.as_slice.result.now (sym c.if-eq.true ∙ c.eq.ensures) ∙ c.as_slice.ensures in
    let same : f ≡ signal c.args.tech [] c.args.tail = same_signal f (signal c.args.tech [] c.args.tail) is.technology (no_bytes f.bytes (sym is.is ∙ dash)) is.part in
    c.part_of.ensures.finds (subst IsSignal same is.on_air) ∙ ap (λ (g : Signal). Some g) (sym same)

pub returns-then-count-gt-MOST_BYTES-clause-finds : goal.returns-then-count-gt-MOST_BYTES-clause-finds
returns-then-count-gt-MOST_BYTES-clause-finds c = λ f is.
    let some : c.args.digits.now ≢ codes "-" = λ dash. other_text c.args.digits.now c.as_slice.result.now (sym c.if-eq.false ∙ c.eq.ensures) (dash ∙ sym c.as_slice.ensures) in
    let known = digits_known c.args.tech c.args.digits.now c.args.tail f is some in
    absurd (omega (arith, known.0, is.on_air.fits))

pub returns-clause-finds : goal.returns-clause-finds
returns-clause-finds c = λ f is.
    let some : c.args.digits.now ≢ codes "-" = λ dash. other_text c.args.digits.now c.as_slice.result.now (sym c.if-eq.false ∙ c.eq.ensures) (dash ∙ sym c.as_slice.ensures) in
    let known = digits_known c.args.tech c.args.digits.now c.args.tail f is some in
    let room : c.decodes.new.room ≡ f.bytes = (c.decodes.ensures f.bytes known.1 is.on_air.bytes).1 in
    let same : f ≡ signal c.args.tech c.decodes.new.room c.args.tail = same_signal f (signal c.args.tech c.decodes.new.room c.args.tail) is.technology (sym room) is.part in
    c.part_of-2.ensures.finds (subst IsSignal same is.on_air) ∙ ap (λ (g : Signal). Some g) (sym same)
