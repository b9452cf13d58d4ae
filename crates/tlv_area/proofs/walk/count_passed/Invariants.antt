use Rattle.std.proofs.Common.{length, ◌-◌, ◌≤◌, take}
use Rattle.std.specs.List.{All}
use Rattle.tlv_area.specs.Walking.{IsPassed}
use Rattle.tlv_area.proofs.walk.count_passed.Given as goal

abbrev pub invariant-loop-count : goal.invariant-loop-count
invariant-loop-count l = record {
  counted : l.count ≤ length l.reserved;
  passed : All (IsPassed l.at) (take l.count l.reserved);
}

abbrev pub decreases-loop-count : goal.decreases-loop-count
decreases-loop-count l = length l.reserved - l.count
