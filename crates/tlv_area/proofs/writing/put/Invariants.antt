use Rattle.std.proofs.Common.{◌≡◌, ◌≤◌, ℕ, List, length, drop}
use Rattle.tlv_area.specs.Layout.{free}
use Rattle.tlv_area.specs.Map.{in_ranges}
use Rattle.tlv_area.specs.Writing.{IsPut}
use Rattle.tlv_area.proofs.writing.put.Given as goal

abbrev pub invariant-loop-range : goal.invariant-loop-range
invariant-loop-range l = record {
  low : l.fn.from ≤ l.at;
  high : l.at ≤ l.to;
  room : length l.memory ≡ length l.initial.memory;
  fits : length l.left ≡ length (free (in_ranges (drop l.range-index l.reserved)) l.at l.to);
  rest : (new : List ℕ) → IsPut (free (in_ranges (drop l.range-index l.reserved)) l.at l.to) l.memory new l.left →
      IsPut (free (in_ranges l.reserved) l.fn.from l.to) l.initial.memory new l.bytes;
}
