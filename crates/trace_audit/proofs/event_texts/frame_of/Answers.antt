use Rattle.std.proofs.Common.{◌≡◌, sym, ◌∙◌, subst}
use Rattle.trace_audit.specs.private.Finding.{IsDigitsOf}
use Rattle.trace_audit.proofs.Finding.{first_digit, whole_word, part_word}
use Rattle.trace_audit.proofs.event_texts.frame_of.Goals as goal

pub returns-in_default-clause-finds : goal.returns-in_default-clause-finds
returns-in_default-clause-finds c = λ f is. c.frame_with.ensures.finds f (whole_word c.args.tech c.args.word.now f c.in_default.ensures is)

pub returns-in_err-tail_of-clause-finds : goal.returns-in_err-tail_of-clause-finds
returns-in_err-tail_of-clause-finds c = λ f is.
    let cut = c.in-Some.ensures in
    let part = part_word c.args.tech c.args.word.now c.in-Some.digits.now c.in-Some.count.now f cut.0 cut.1 is in
    absurd (c.in_err-tail_of.ensures f.tail part.1 part.2 part.0)

pub returns-clause-finds : goal.returns-clause-finds
returns-clause-finds c = λ f is.
    let cut = c.in-Some.ensures in
    let part = part_word c.args.tech c.args.word.now c.in-Some.digits.now c.in-Some.count.now f cut.0 cut.1 is in
    let same : f.tail ≡ c.in_ok-tail_of.field-0 = first_digit f.tail c.in_ok-tail_of.field-0 (sym part.0 ∙ c.in_ok-tail_of.ensures) in
    c.frame_with-2.ensures.finds f (subst (λ t. IsDigitsOf c.args.tech c.in-Some.digits.now t f) same part.3)
