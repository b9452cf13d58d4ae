use Rattle.t3t_access.proofs.OwnLaw.{own_read}
use Rattle.t3t_access.proofs.OwnAsked.{own_asked}
use Rattle.t3t_access.proofs.reader.read3.Goals as goal

pub returns-clause-law : goal.returns-clause-law
returns-clause-law g c locked tag =
    own_read c.args.id locked (g.T.TagLink.seen c.args.link.now) tag (g.T.TagLink.seen c.read_message.new.link) c.read_message.result c.read_message.ensures.told

pub returns-clause-asked : goal.returns-clause-asked
returns-clause-asked g c locked tag =
    own_asked c.args.id locked (g.T.TagLink.seen c.args.link.now) tag (g.T.TagLink.seen c.read_message.new.link) c.read_message.result c.read_message.ensures.told
