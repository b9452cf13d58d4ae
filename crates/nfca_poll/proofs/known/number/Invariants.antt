use Rattle.std.proofs.Common.{◌≡◌, ◌≤◌, ◌<◌, ◌-◌, ◌^◌, length, drop}
use Rattle.nfc_base.specs.Bits.{number_of}
use Rattle.nfca_poll.proofs.known.number.Given as goal

abbrev pub invariant-loop-at : goal.invariant-loop-at
invariant-loop-at l = record {
  high : l.at ≤ length l.bits;
  small : l.value < 2 ^ (length l.bits - l.at);
  value : l.value ≡ number_of (drop l.at l.bits);
}

abbrev pub decreases-loop-at : goal.decreases-loop-at
decreases-loop-at l = l.at
