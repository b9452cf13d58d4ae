use Rattle.bench_world.proofs.alike.AlikeStates as alike
use Rattle.bench_world.proofs.law.alike_states.Goals as goal

pub returns-clause-accept : goal.returns-clause-accept
returns-clause-accept c = alike.alike_accept

pub returns-clause-fronts : goal.returns-clause-fronts
returns-clause-fronts c = alike.alike_fronts

pub returns-clause-steps : goal.returns-clause-steps
returns-clause-steps c = alike.alike_steps

pub returns-clause-answers : goal.returns-clause-answers
returns-clause-answers c = alike.alike_answers
