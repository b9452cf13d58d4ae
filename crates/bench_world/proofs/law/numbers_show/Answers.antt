use Rattle.bench_world.proofs.showing.ShowingLeft.{entries_leave_alike, events_tell}
use Rattle.bench_world.proofs.showing.ShowingSteps as steps
use Rattle.bench_world.proofs.law.numbers_show.Goals as goal

pub returns : goal.returns
returns c = record { steps = steps.numbers_show; told = events_tell; alike = entries_leave_alike }
