use Rattle.std.proofs.Common.{◌≡◌, ◌++◌, drop, map}
use Rattle.bench_script.specs.Canonical.{slot_put_text, row_text}
use Rattle.bench_script.proofs.writing.add_slot_puts.Given as goal

abbrev pub invariant-loop-put : goal.invariant-loop-put
invariant-loop-put l = l.line.items ++ row_text (map slot_put_text (drop l.put-index l.puts)) ≡ l.initial.line.items ++ row_text (map slot_put_text l.puts)
