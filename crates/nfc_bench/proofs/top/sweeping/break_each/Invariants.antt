use Rattle.std.proofs.Common.{◌≡◌}
use Rattle.nfc_bench.specs.SweepStops.{HasBrokenAll}
use Rattle.nfc_bench.proofs.top.sweeping.break_each.Given as goal

abbrev pub invariant-runs : goal.invariant-runs
invariant-runs l = record {
  broken : HasBrokenAll l.fn.lines l.passes l.fn.bench l.bench;
  same : l.lines ≡ record l.fn.lines { passes = l.lines.passes };
}
