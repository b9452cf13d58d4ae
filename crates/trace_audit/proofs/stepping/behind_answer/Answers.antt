use Rattle.std.proofs.Common.{◌≡◌, ◌++◌, ℕ, List, sym, ◌∙◌, subst, ap, Option}
use Rattle.std.specs.Prelude.{MatchOption}
use Rattle.std.specs.Borrow.{Bor}
use Rattle.bench_world.specs.Report.{answer_text, line_text}
use Rattle.trace_audit.proofs.Pieces.{stripped, unstripped, pieces_on, pieces_back, piece_first}
use Rattle.trace_audit.proofs.stepping.behind_answer.Goals as goal

pub returns-in_err-left : goal.returns-in_err-left
returns-in_err-left c =
    let line : List ℕ = line_text c.args.entry.now.line (answer_text c.args.entry.now.answer) in
    let left : List ℕ = c.pieces.left.now in
    let piece : List ℕ = c.as_slice.result.now in
    let behind : List ℕ = c.next.new.self in
    let gives : c.pieces.pieces ≡ piece ++ behind = c.in-Some.ensures.steps.0 ∙ ap (λ x. x ++ behind) (sym c.as_slice.ensures.value) in
    subst (λ (r : Option (Bor (List ℕ))). MatchOption r ((rest : List ℕ) → c.args.text.now ≡ line ++ rest → ⊥) (λ rest. c.args.text.now ≡ line ++ rest.now)) (sym c.from_residual.ensures)
    (λ rest is. unstripped left piece (behind ++ rest) c.in_err-left.ensures.cases (piece_first left piece c.pieces.pieces behind left rest gives (c.pieces.invariant.back rest is)))

pub pieces-preserved : goal.pieces-preserved
pieces-preserved c =
    let left : List ℕ = c.pieces.left.now in
    let piece : List ℕ = c.as_slice.result.now in
    let behind : List ℕ = c.next.new.self in
    let rest : List ℕ = c.in_ok-left.left.now in
    let gives : c.pieces.pieces ≡ piece ++ behind = c.in-Some.ensures.steps.0 ∙ ap (λ x. x ++ behind) (sym c.as_slice.ensures.value) in
    let cases = c.in_ok-left.ensures.cases in
    let strip : left ≡ piece ++ rest = stripped left piece rest cases.0 cases.1 in
    record {
      on = λ more e. c.pieces.invariant.on more (pieces_on left piece c.pieces.pieces behind rest more gives strip e);
      back = λ more e. pieces_back left piece c.pieces.pieces behind rest more gives strip (c.pieces.invariant.back more e);
    }
