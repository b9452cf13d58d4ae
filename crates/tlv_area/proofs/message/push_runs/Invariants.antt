use Rattle.std.proofs.Common.{◌≡◌, ◌++◌, ◌≤◌, drop}
use Rattle.tlv_area.specs.Layout.{free, bytes_at}
use Rattle.tlv_area.specs.Map.{in_ranges}
use Rattle.tlv_area.proofs.message.push_runs.Given as goal

abbrev pub invariant-loop-range : goal.invariant-loop-range
invariant-loop-range l = record {
  low : l.fn.from ≤ l.at;
  high : l.at ≤ l.to;
  bytes : l.message.items ++ bytes_at l.known (free (in_ranges (drop l.range-index l.reserved)) l.at l.to)
      ≡ l.fn.message.items ++ bytes_at l.known (free (in_ranges l.reserved) l.fn.from l.to);
}
