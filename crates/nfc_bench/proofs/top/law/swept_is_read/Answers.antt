use Rattle.nfc_bench.proofs.BrokenRuns as broken
use Rattle.nfc_bench.proofs.top.law.swept_is_read.Goals as goal

pub returns-clause-read : goal.returns-clause-read
returns-clause-read c = broken.swept_is_read

pub returns-clause-empty : goal.returns-clause-empty
returns-clause-empty c = broken.neither_is_empty
