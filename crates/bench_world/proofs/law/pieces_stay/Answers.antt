use Rattle.bench_world.proofs.sizes.SizedStates.{first_cuts, front_cuts, midst_cuts, replies_short}
use Rattle.bench_world.proofs.law.pieces_stay.Goals as goal

pub returns : goal.returns
returns c = record { first = first_cuts; fronts = front_cuts; midst = midst_cuts; replies = replies_short }
