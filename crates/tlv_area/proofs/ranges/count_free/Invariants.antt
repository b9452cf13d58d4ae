use Rattle.std.proofs.Common.{◌≡◌, ◌+◌, ◌-◌, ◌≤◌, length, drop}
use Rattle.tlv_area.specs.Layout.{free}
use Rattle.tlv_area.specs.Map.{in_ranges}
use Rattle.tlv_area.proofs.ranges.count_free.Given as goal

abbrev pub invariant-loop-range : goal.invariant-loop-range
invariant-loop-range l = record {
  low : l.fn.at ≤ l.address;
  high : l.address ≤ l.end;
  count : l.count + length (free (in_ranges (drop l.range-index l.reserved)) l.address l.end) ≡ length (free (in_ranges l.reserved) l.fn.at l.end);
  bound : l.count ≤ l.address - l.fn.at;
}
