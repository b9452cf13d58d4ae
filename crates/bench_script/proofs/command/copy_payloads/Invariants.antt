use Rattle.std.proofs.Common.{◌≡◌, ◌++◌, drop}
use Rattle.bench_script.proofs.command.copy_payloads.Given as goal

abbrev pub invariant-loop-payload : goal.invariant-loop-payload
invariant-loop-payload l = l.copies.items ++ drop l.payload-index l.payloads ≡ l.payloads
