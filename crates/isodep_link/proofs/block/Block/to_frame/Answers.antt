use Rattle.isodep_link.proofs.Spelled.{spelled_by}
use Rattle.isodep_link.proofs.block.Block.to_frame.Goals as goal

pub returns-clause-spelled : goal.returns-clause-spelled
returns-clause-spelled c = spelled_by c.args.self.now c.written.result c.written.ensures.frame c.written.ensures.fits
