use Rattle.std.proofs.Common.{◌≡◌, ◌+◌, ◌*◌, ◌++◌, length}
use Rattle.nfc_base.specs.Bits.{packed}
use Rattle.nfca_poll.proofs.known.pack.Given as goal

abbrev pub invariant-loop-left : goal.invariant-loop-left
invariant-loop-left l = record {
  count : 8 * length l.packed.items + length l.left ≡ length l.bits;
  bytes : packed l.bits ≡ l.packed.items ++ packed l.left;
}

abbrev pub decreases-loop-left : goal.decreases-loop-left
decreases-loop-left l = length l.left
