use Rattle.t3t_access.proofs.Talks.{next_of}
use Rattle.t3t_access.proofs.asking.ask.Goals as goal

pub returns-clause-next : goal.returns-clause-next
returns-clause-next g c a cs is =
    next_of a (g.T.TagLink.seen c.args.link.now) (g.T.TagLink.seen c.ask.new.self) cs c.args.command.now c.ask.result is
    c.ask.ensures.obeys c.ask.ensures.rises c.ask.ensures.last c.ask.ensures.ok c.ask.ensures.err c.ask.ensures.cause c.ask.ensures.ended c.ask.ensures.calm
