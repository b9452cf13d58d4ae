use Rattle.t3t_access.proofs.writer.put_all.Goals as goal

pub returns-clause-told : goal.returns-clause-told
returns-clause-told g c a w = c.close.ensures.told a (c.in-Ok-fill.ensures.told a (c.in-Ok.ensures.told a w))

pub returns-clause-moves : goal.returns-clause-moves
returns-clause-moves g c =
    g.met.T.TagLink.goes_on c.args.link.now c.open.new.link c.close.new.link c.open.ensures.moves
    (g.met.T.TagLink.goes_on c.open.new.link c.fill.new.link c.close.new.link c.fill.ensures.moves c.close.ensures.moves)
