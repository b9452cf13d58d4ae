use Rattle.std.proofs.Common.{◌≡◌, ◌++◌, drop}
use Rattle.bench_script.specs.Canonical.{fates_text}
use Rattle.bench_script.proofs.writing.add_fates.Given as goal

abbrev pub invariant-loop-fate : goal.invariant-loop-fate
invariant-loop-fate l = l.line.items ++ fates_text (drop l.fate-index l.fates) ≡ l.initial.line.items ++ fates_text l.fates
