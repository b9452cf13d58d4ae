use Rattle.std.proofs.Common.{◌≡◌, length, ◌-◌, ◌≤◌, take}
use Rattle.nfc_io.specs.Moves.{with_end}
use Rattle.nfc_io.proofs.sink.write_all.Given as goal

abbrev pub invariant-pieces : goal.invariant-pieces
invariant-pieces g l = record {
  within : l.at ≤ length l.bytes;
  still : g.K.Sink.faults l.sink ≡ g.K.Sink.faults l.fn.sink;
  gained : g.K.Sink.taken l.sink ≡ with_end (g.K.Sink.taken l.fn.sink) (take l.at l.bytes);
}

abbrev pub decreases-pieces : goal.decreases-pieces
decreases-pieces g l = length l.bytes - l.at
