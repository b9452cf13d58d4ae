use Rattle.bench_devices.proofs.far_ends.OpensPeer.{has_target, opens}
use Rattle.dep_link.specs.Activating.{by_cause}
use Rattle.bench_devices.proofs.opening.open_link.Goals as goal

pub returns-clause-tells : goal.returns-clause-tells
returns-clause-tells g c = λ place d s tag.
    opens c.args.field.now place d s tag g.A.Answerer.restarts g.A.Answerer.steps g.A.Answerer.stops g.A.Answerer.is_stuck c.args.far.now c.activate.new.field c.activate.new.far
    c.args.general.now c.requires (by_cause c.activate.result) c.activate.ensures.turns (c.activate.ensures.ends (has_target c.args.field.now place d s tag c.args.general.now c.requires))
