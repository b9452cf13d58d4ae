use Rattle.nfc_bench.proofs.Sweeping.{Standing}
use Rattle.nfc_bench.proofs.top.sweeping.standing_count.Given as goal

abbrev pub invariant-lines : goal.invariant-lines
invariant-lines l = record { standing : Standing l.script l.place }
