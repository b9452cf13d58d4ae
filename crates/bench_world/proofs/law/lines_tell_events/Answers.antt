use Rattle.bench_world.proofs.lines.ReadBack.{lines_tell, answers_apart}
use Rattle.bench_world.proofs.law.lines_tell_events.Goals as goal

pub returns-clause-events : goal.returns-clause-events
returns-clause-events c = lines_tell

pub returns-clause-answers : goal.returns-clause-answers
returns-clause-answers c = answers_apart
