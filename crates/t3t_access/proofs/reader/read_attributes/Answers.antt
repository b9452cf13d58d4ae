use Rattle.std.proofs.Common.{[]}
use Rattle.t3t_access.proofs.Talks.{answered_none}
use Rattle.t3t_access.proofs.Judging.{attributes_told, start_told}
use Rattle.t3t_access.proofs.reader.read_attributes.Goals as goal

pub returns-clause-told : goal.returns-clause-told
returns-clause-told g c =
    attributes_told c.args.id (g.T.TagLink.seen c.args.link.now) (g.T.TagLink.seen c.check-told.new.link) c.check-told.result c.judge_content.result
    (λ xs e. c.check-told.ensures.next (g.T.TagLink.seen c.args.link.now) [] xs (answered_none (g.T.TagLink.seen c.args.link.now)) e)
    c.check-told.ensures.size c.judge_content.ensures.faults c.judge_content.ensures.judged

pub returns-clause-start : goal.returns-clause-start
returns-clause-start g c =
    start_told c.args.id (g.T.TagLink.seen c.args.link.now) (g.T.TagLink.seen c.check-told.new.link) c.check-told.result c.judge_content.result
    (λ xs e. c.check-told.ensures.next (g.T.TagLink.seen c.args.link.now) [] xs (answered_none (g.T.TagLink.seen c.args.link.now)) e)
    c.check-told.ensures.size c.judge_content.ensures.faults c.judge_content.ensures.judged
