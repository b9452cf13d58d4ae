use Rattle.std.proofs.Common.{◌≡◌, ◌++◌, drop}
use Rattle.bench_script.proofs.command.copy_puts.Given as goal

abbrev pub invariant-loop-put : goal.invariant-loop-put
invariant-loop-put l = l.copies.items ++ drop l.put-index l.puts ≡ l.puts
