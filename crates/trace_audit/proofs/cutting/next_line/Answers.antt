use Rattle.std.proofs.Common.{◌<◌, length, ap, arith}
use Rattle.std.proofs.lemmas.Grind.{common_steps}
use Rattle.trace_audit.proofs.ScriptLines.{line_front, front_shorter, line_last}
use Rattle.trace_audit.proofs.cutting.next_line.Goals as goal

pub returns-in-Some : goal.returns-in-Some
returns-in-Some c =
    let cut = c.in-Some.ensures in
    let line = c.in-Some.parts.0.now in
    let rest = c.in-Some.parts.1.now in
    record { lines = line_front c.args.script.now line rest cut.0 cut.1; shorter = front_shorter c.args.script.now line rest cut.0 }

pub returns-in-None : goal.returns-in-None
returns-in-None c =
    let some : 0 < length c.args.script.now = grind (arith, common_steps) in
    record { lines = line_last c.args.script.now c.as_slice.result.now c.in-None.ensures some c.as_slice.ensures; shorter = omega (arith, ap length c.as_slice.ensures, some) }
