use Rattle.std.proofs.Common.{◌≡◌, ◌+◌, ◌++◌, length, drop}
use Rattle.nfc_base.specs.Bits.{bits}
use Rattle.nfca_poll.proofs.known.KnownBits.push_frame.Given as goal

abbrev pub invariant-loop-at : goal.invariant-loop-at
invariant-loop-at l = record {
  count : length l.self-inside.bits.items ≡ length l.fn.self + l.at;
  more : l.self-inside.bits.items ++ drop l.at (bits l.frame) ≡ l.fn.self ++ bits l.frame;
}
