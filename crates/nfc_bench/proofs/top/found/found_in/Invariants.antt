use Rattle.std.proofs.Common.{◌≡◌, ◌≤◌, take}
use Rattle.std.specs.Option.{option_copied}
use Rattle.nfc_bench.specs.Sweep.{found_among}
use Rattle.nfc_bench.proofs.top.found.found_in.Given as goal

abbrev pub invariant-runs : goal.invariant-runs
invariant-runs l = record {
  counted : l.found ≡ found_among (option_copied l.before) l.written.items (take l.run-index l.broken);
}
