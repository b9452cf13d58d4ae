use Rattle.snep_core.proofs.jobs.CallsEnd.{calls_begin, calls_end, replies_fall}
use Rattle.snep_core.proofs.law.calls_end.Goals as goal

pub returns-clause-begins : goal.returns-clause-begins
returns-clause-begins c = calls_begin

pub returns-clause-falls : goal.returns-clause-falls
returns-clause-falls c = replies_fall

pub returns-clause-most : goal.returns-clause-most
returns-clause-most c = calls_end
