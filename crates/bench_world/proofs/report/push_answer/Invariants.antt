use Rattle.std.proofs.Common.{◌≡◌, ◌++◌, length}
use Rattle.bench_world.specs.Report.{line_text, answer_text}
use Rattle.bench_world.proofs.report.push_answer.Given as goal

abbrev pub invariant-pieces : goal.invariant-pieces
invariant-pieces l = l.text.items ++ l.pieces ≡ l.fn.text.items ++ line_text l.entry.line (answer_text l.entry.answer)

abbrev pub decreases-pieces : goal.decreases-pieces
decreases-pieces l = length l.pieces
