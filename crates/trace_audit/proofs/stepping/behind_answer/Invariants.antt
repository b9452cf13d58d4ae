use Rattle.std.proofs.Common.{◌≡◌, ◌++◌, List, ℕ, length}
use Rattle.bench_world.specs.Report.{answer_text, line_text}
use Rattle.trace_audit.proofs.stepping.behind_answer.Given as goal

abbrev pub invariant-pieces : goal.invariant-pieces
invariant-pieces l = record {
  on : (rest : List ℕ) → l.left ≡ l.pieces ++ rest → l.fn.text ≡ line_text l.entry.line (answer_text l.entry.answer) ++ rest;
  back : (rest : List ℕ) → l.fn.text ≡ line_text l.entry.line (answer_text l.entry.answer) ++ rest → l.left ≡ l.pieces ++ rest;
}

abbrev pub decreases-pieces : goal.decreases-pieces
decreases-pieces l = length l.pieces
