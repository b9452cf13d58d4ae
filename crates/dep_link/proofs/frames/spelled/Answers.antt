use Rattle.dep_link.proofs.frames.spelled.Goals as goal

pub returns-in-Ok-clause-range : goal.returns-in-Ok-clause-range
returns-in-Ok-clause-range c = ((c.read_from.ensures.ok c.in-Ok.value).0 c.in-Ok.is).range
