use Rattle.bench_world.proofs.devices.Shapes as shapes
use Rattle.bench_world.proofs.law.lines_decide.Goals as goal

pub returns : goal.returns
returns c = shapes.lines_decide
