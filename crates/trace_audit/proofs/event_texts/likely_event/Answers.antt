use Rattle.std.proofs.Common.{◌≡◌, ◌∷◌, ◌-◌, [], ℕ, List, length, drop, true, false, ◌∙◌, subst, nat_eq}
use Rattle.std.specs.Cmp.Lexicographic.{pointwise}
use Rattle.bench_world.specs.Report.{event_text}
use Rattle.trace_audit.proofs.Finding.{line_parts, front_of, ends_so}
use Rattle.trace_audit.proofs.event_texts.likely_event.Goals as goal

pub returns-in_err-strip_suffix-clause-finds : goal.returns-in_err-strip_suffix-clause-finds
returns-in_err-strip_suffix-clause-finds c = λ e is.
    let cut = c.in_ok-said.ensures in
    let said = line_parts c.args.tech c.args.text.now c.in_ok-said.field-0-0.now c.in_ok-said.said.now e cut.0 cut.1 is in
    let ends : drop (length c.in_ok-said.said.now - 1) c.in_ok-said.said.now ≡ 10 ∷ [] = ends_so c.in_ok-said.said.now (event_text e) said in
    let never : true ≡ false = subst (λ (x : List ℕ). pointwise nat_eq x (10 ∷ []) ≡ false) ends c.in_err-strip_suffix.ensures.cases in
    cc

pub returns-clause-finds : goal.returns-clause-finds
returns-clause-finds c = λ e is.
    let cut = c.in_ok-said.ensures in
    let said = line_parts c.args.tech c.args.text.now c.in_ok-said.field-0-0.now c.in_ok-said.said.now e cut.0 cut.1 is in
    c.event_of.ensures.finds e (record { of = is.of; is = c.in_ok-strip_suffix.ensures.cases.1 ∙ front_of c.in_ok-said.said.now (event_text e) said })
