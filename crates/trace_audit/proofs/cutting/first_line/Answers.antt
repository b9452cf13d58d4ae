use Rattle.std.proofs.Common.{◌++◌, ◌+◌, ℕ, drop, length, sym, ◌∙◌, ap}
use Rattle.std.proofs.lemmas.List.{take-append-drop}
use Rattle.trace_audit.proofs.FrontLines.{line_cut}
use Rattle.trace_audit.proofs.cutting.first_line.Goals as goal

pub returns : goal.returns
returns c =
    let cut = c.in_ok-line.ensures in
    let at : ℕ = length c.in_ok-line.line.now + 1 in (
      c.in_ok-line.line.now,
      c.split_at.ensures.front ∙ line_cut c.args.text.now c.in_ok-line.line.now c.in_ok-line.field-0-1.now cut.0,
      cut.1,
      sym (take-append-drop at c.args.text.now) ∙ ap (λ x. x ++ drop at c.args.text.now) (sym c.split_at.ensures.front) ∙ ap (λ x. c.split_at.result.0.now ++ x) (sym c.split_at.ensures.back),
    )
