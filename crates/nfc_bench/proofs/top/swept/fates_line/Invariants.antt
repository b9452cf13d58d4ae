use Rattle.std.proofs.Common.{◌≡◌, ◌+◌, ◌-◌, ◌++◌, length, replicate}
use Rattle.std.specs.Prelude.{codes}
use Rattle.nfc_bench.proofs.top.swept.fates_line.Given as goal

-- what is written, and what is left to write
abbrev pub invariant-letters : goal.invariant-letters
invariant-letters l = record {
  room : length l.line.items ≡ 6 + l.counter;
  goes : l.line.items ++ replicate (l.passes - l.counter) 80 ≡ codes "fates " ++ replicate l.passes 80;
}
