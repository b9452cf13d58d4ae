use Rattle.std.proofs.Common.{◌≡◌, ◌++◌, length}
use Rattle.bench_world.specs.Report.{line_text, answer_text}
use Rattle.nfc_bench.specs.Gathering.{IsWritten}
use Rattle.nfc_bench.proofs.top.writing.gather_answer.Given as goal

abbrev pub invariant-pieces : goal.invariant-pieces
invariant-pieces g l = record {
  written : IsWritten (l.fn.held.items ++ line_text l.entry.line (answer_text l.entry.answer)) (l.held.items ++ l.pieces) (g.K.Sink.taken l.fn.sink) (g.K.Sink.taken l.sink);
  still : g.K.Sink.faults l.sink ≡ g.K.Sink.faults l.fn.sink;
}

abbrev pub decreases-pieces : goal.decreases-pieces
decreases-pieces g l = length l.pieces
