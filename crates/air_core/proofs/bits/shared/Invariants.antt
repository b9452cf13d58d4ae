use Rattle.std.proofs.Common.{◌≡◌, ◌≤◌, ◌-◌, ◌++◌, take, drop}
use Rattle.air_core.specs.Joint.{common}
use Rattle.nfc_base.specs.Bits.{bits_of}
use Rattle.air_core.proofs.bits.shared.Given as goal

abbrev pub invariant-loop-k : goal.invariant-loop-k
invariant-loop-k l = record {
  n : l.k ≤ l.n;
  m : l.k ≤ l.m;
  same : common (take l.n (bits_of l.a)) (take l.m (bits_of l.b)) ≡ take l.k (bits_of l.a) ++ common (drop l.k (take l.n (bits_of l.a))) (drop l.k (take l.m (bits_of l.b)));
}

abbrev pub decreases-loop-k : goal.decreases-loop-k
decreases-loop-k l = l.n - l.k
