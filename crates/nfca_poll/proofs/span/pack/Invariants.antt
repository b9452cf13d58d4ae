use Rattle.std.proofs.Common.{◌≡◌, ◌≤◌, ◌-◌, ◌*◌, ◌++◌, length, take, drop}
use Rattle.nfc_base.specs.Bits.{bits_of, packed}
use Rattle.nfca_poll.proofs.span.pack.Given as goal

abbrev pub invariant-loop-at : goal.invariant-loop-at
invariant-loop-at l = record {
  low : l.from ≤ l.at;
  high : l.at ≤ l.to;
  count : 8 * length l.packed.items ≡ l.at - l.from;
  bytes : packed (drop l.from (take l.to (bits_of l.bytes))) ≡ l.packed.items ++ packed (drop l.at (take l.to (bits_of l.bytes)));
}

abbrev pub decreases-loop-at : goal.decreases-loop-at
decreases-loop-at l = l.to - l.at
