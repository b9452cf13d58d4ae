use Rattle.tag_reader.specs.Asked.{ToWrite}
use Rattle.tag_reader.proofs.BlockCounts.{few_of}
use Rattle.tag_reader.proofs.surveying.survey.Goals as goal

pub returns-clause-few : goal.returns-clause-few
returns-clause-few g c = few_of ToWrite c.args.how (g.T.TagLink.seen c.args.link.now)
