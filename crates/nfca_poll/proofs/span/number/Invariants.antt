use Rattle.std.proofs.Common.{◌≡◌, ◌≤◌, ◌<◌, ◌-◌, ◌^◌, take, drop}
use Rattle.nfc_base.specs.Bits.{bits_of, number_of}
use Rattle.nfca_poll.proofs.span.number.Given as goal

abbrev pub invariant-loop-at : goal.invariant-loop-at
invariant-loop-at l = record {
  low : l.from ≤ l.at;
  high : l.at ≤ l.to;
  small : l.value < 2 ^ (l.to - l.at);
  value : l.value ≡ number_of (drop l.at (take l.to (bits_of l.bytes)));
}

abbrev pub decreases-loop-at : goal.decreases-loop-at
decreases-loop-at l = l.at
