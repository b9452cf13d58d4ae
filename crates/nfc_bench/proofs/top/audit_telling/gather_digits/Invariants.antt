use Rattle.std.proofs.Common.{◌≡◌, ◌++◌, length}
use Rattle.hex.specs.Hex.{encode_upper}
use Rattle.nfc_bench.specs.Gathering.{IsWritten}
use Rattle.nfc_bench.proofs.top.audit_telling.gather_digits.Given as goal

abbrev pub invariant-pieces : goal.invariant-pieces
invariant-pieces g l = record {
  written : IsWritten (l.fn.held.items ++ encode_upper l.bytes) (l.held.items ++ encode_upper l.left) (g.K.Sink.taken l.fn.sink) (g.K.Sink.taken l.sink);
  still : g.K.Sink.faults l.sink ≡ g.K.Sink.faults l.fn.sink;
}

abbrev pub decreases-pieces : goal.decreases-pieces
decreases-pieces g l = length l.left
