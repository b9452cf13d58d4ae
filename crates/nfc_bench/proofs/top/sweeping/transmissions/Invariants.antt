use Rattle.std.proofs.Common.{◌≡◌, ◌+◌, ◌≤◌, drop}
use Rattle.nfc_bench.specs.Sweep.{all_transmissions}
use Rattle.nfc_bench.proofs.top.sweeping.transmissions.Given as goal

-- what is counted, and what is left to count
abbrev pub invariant-events : goal.invariant-events
invariant-events l = record {
  few : l.count ≤ l.event-index;
  goes : l.count + all_transmissions (drop l.event-index l.events) ≡ all_transmissions l.events;
}
