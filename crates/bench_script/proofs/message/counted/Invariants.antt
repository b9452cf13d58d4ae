use Rattle.std.proofs.Common.{◌≡◌, ◌+◌, ◌-◌, ◌%◌, ◌++◌, map}
use Rattle.std.specs.List.{range_with_len}
use Rattle.bench_script.specs.Messages.{counted}
use Rattle.bench_script.proofs.message.counted.Given as goal

-- what is made, and what is left to make
abbrev pub invariant-loop-i : goal.invariant-loop-i
invariant-loop-i l = l.bytes.items ++ map (λ k. (l.start + k) % 256) (range_with_len l.i (l.count - l.i)) ≡ counted l.start l.count
