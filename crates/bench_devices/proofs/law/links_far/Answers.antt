use Rattle.bench_devices.proofs.far_ends.FarLeaves.{far_leaves}
use Rattle.bench_devices.proofs.far_ends.LinkFar.{selects_far, opens_far}
use Rattle.bench_devices.proofs.law.links_far.Goals as goal

pub returns-clause-selects : goal.returns-clause-selects
returns-clause-selects g c = λ t. selects_far t

pub returns-clause-opens : goal.returns-clause-opens
returns-clause-opens g c = λ t view. opens_far g.A.Answerer.restarts g.A.Answerer.steps t view

pub returns-clause-leaves : goal.returns-clause-leaves
returns-clause-leaves g c = λ t. far_leaves t
