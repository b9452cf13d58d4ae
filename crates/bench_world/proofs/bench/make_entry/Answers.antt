use Rattle.std.proofs.Common.{Err, rules}
use Rattle.std.specs.Prelude.{IsErrOf}
use Rattle.bench_world.specs.declared.entry.Answer.{Answer}
use Rattle.bench_world.specs.declared.bench.ObeyFault.TheVariants as faults
use Rattle.bench_world.proofs.bench.make_entry.Goals as goal

pub returns-in_err-answer-clause-cut : goal.returns-in_err-answer-clause-cut
returns-in_err-answer-clause-cut c = λ e.
    let same : IsErrOf {T = Answer} (Err c.in_err-answer.field-0.0) faults.Memory = search rules in
    c.in_err-answer.ensures.cut same
