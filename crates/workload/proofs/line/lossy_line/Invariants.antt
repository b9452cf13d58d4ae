use Rattle.std.proofs.Common.{◌≡◌, ◌+◌, ◌-◌, ◌*◌, ◌++◌, length}
use Rattle.std.specs.List.{repeat}
use Rattle.workload.specs.Workload.{fate_letters, fates_line}
use Rattle.workload.proofs.line.lossy_line.Given as goal

-- what is written, and what is left to write
abbrev pub invariant-loop : goal.invariant-loop
invariant-loop l = record {
  room : length l.line.items ≡ 6 + 29 * l.counter;
  goes : l.line.items ++ repeat (20 - l.counter) fate_letters ≡ fates_line;
}
