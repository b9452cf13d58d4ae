use Rattle.std.proofs.Common.{arith}
use Rattle.nfc_bench.proofs.Limits.{within_short}
use Rattle.nfc_bench.proofs.top.audit.judge.Goals as goal

pub audit-requires-clause-script : goal.audit-requires-clause-script
audit-requires-clause-script c = omega (arith, within_short c.args.script.now c.requires.limits)
