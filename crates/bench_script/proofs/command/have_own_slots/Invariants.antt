use Rattle.std.proofs.Common.{◌≡◌, drop}
use Rattle.bench_script.specs.Slots.{have_own_slots}
use Rattle.bench_script.proofs.command.have_own_slots.Given as goal

-- what is left decides
abbrev pub invariant-loop-i : goal.invariant-loop-i
invariant-loop-i l = have_own_slots (drop l.i l.puts) ≡ have_own_slots l.puts
