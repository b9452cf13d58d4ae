use Rattle.std.proofs.Common.{◌≡◌, ◌++◌, drop, map}
use Rattle.hex.specs.Hex.{encode_upper}
use Rattle.bench_script.specs.Canonical.{row_text}
use Rattle.bench_script.proofs.writing.add_payloads.Given as goal

abbrev pub invariant-loop-payload : goal.invariant-loop-payload
invariant-loop-payload l = l.line.items ++ row_text (map encode_upper (drop l.payload-index l.payloads)) ≡ l.initial.line.items ++ row_text (map encode_upper l.payloads)
