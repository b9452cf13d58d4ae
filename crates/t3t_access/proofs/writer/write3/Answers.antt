use Rattle.t3t_access.proofs.OwnWritten.{own_write}
use Rattle.t3t_access.proofs.OwnPuts.{own_puts}
use Rattle.t3t_access.proofs.writer.write3.Goals as goal

pub returns-clause-law : goal.returns-clause-law
returns-clause-law g c locked tag =
    own_write c.args.id locked (g.T.TagLink.seen c.args.link.now) tag c.args.message.now (g.T.TagLink.seen c.write_message.new.link) c.write_message.result c.write_message.ensures.told

pub returns-clause-asked : goal.returns-clause-asked
returns-clause-asked g c locked tag =
    own_puts c.args.id locked (g.T.TagLink.seen c.args.link.now) tag c.args.message.now (g.T.TagLink.seen c.write_message.new.link) c.write_message.result c.write_message.ensures.told
