use Rattle.std.proofs.Common.{length, ◌-◌, ◌≤◌, take}
use Rattle.nfc_io.specs.Lines.{NoLf}
use Rattle.nfc_io.proofs.held.find_lf.Given as goal

abbrev pub invariant-bytes : goal.invariant-bytes
invariant-bytes l = record {
  within : l.at ≤ length l.text;
  clean : NoLf (take l.at l.text);
}

abbrev pub decreases-bytes : goal.decreases-bytes
decreases-bytes l = length l.text - l.at
