use Rattle.std.proofs.Common.{ℕ, ◌<◌, ◌≤◌, length, drop}
use Rattle.tlv_area.specs.Layout.{free}
use Rattle.tlv_area.specs.Map.{in_ranges}
use Rattle.tlv_area.specs.Reading.{IsPast}
use Rattle.tlv_area.proofs.ranges.past.Given as goal

abbrev pub invariant-loop-range : goal.invariant-loop-range
invariant-loop-range l = record {
  low : l.fn.at ≤ l.address;
  high : l.address ≤ l.end;
  some : (p : ℕ) → IsPast (in_ranges (drop l.range-index l.reserved)) l.address l.end l.left p → IsPast (in_ranges l.reserved) l.fn.at l.end l.fn.count p;
  none : length (free (in_ranges (drop l.range-index l.reserved)) l.address l.end) < l.left → length (free (in_ranges l.reserved) l.fn.at l.end) < l.fn.count;
}
