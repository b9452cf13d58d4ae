use Rattle.std.proofs.Common.{◌≡◌, ◌≤◌, ◌-◌}
use Rattle.nfc_bench.specs.private.AuditReading.{HasGathered}
use Rattle.nfc_bench.proofs.top.audit_input.read_ahead.Given as goal

abbrev pub invariant-lines : goal.invariant-lines
invariant-lines g l = record {
  gathered : HasGathered (g.S.Source.left l.fn.source) (g.S.Source.left l.source) l.reader l.script.items l.count;
  few : l.count ≤ 1000;
  still : g.S.Source.faults l.source ≡ g.S.Source.faults l.fn.source;
}

abbrev pub decreases-lines : goal.decreases-lines
decreases-lines g l = 1000 - l.count
