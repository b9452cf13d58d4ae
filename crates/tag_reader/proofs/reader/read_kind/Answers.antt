use Rattle.std.proofs.Common.{sym, subst}
use Rattle.tag_reader.specs.Kinds.{IsTag}
use Rattle.tag_reader.specs.Steps.{IsRead}
use Rattle.tag_reader.specs.Heard.{IsOf, IsToldBy}
use Rattle.tag_reader.proofs.reader.read_kind.Goals as goal

pub read_area-requires-clause-of : goal.read_area-requires-clause-of
read_area-requires-clause-of g c = subst (λ h. IsOf h (g.T.TagLink.seen c.args.link.now)) c.in-T2.is c.requires.of

pub returns-in-T2-clause-told : goal.returns-in-T2-clause-told
returns-in-T2-clause-told g c =
    subst (λ h. IsToldBy h (g.T.TagLink.seen c.args.link.now) (g.T.TagLink.seen c.read_area.new.link) c.read_area.result) (sym c.in-T2.is) c.read_area.ensures.told

pub returns-in-T2-clause-reads : goal.returns-in-T2-clause-reads
returns-in-T2-clause-reads g c size is =
    subst (λ h. IsRead h size (g.T.TagLink.seen c.args.link.now) (g.T.TagLink.seen c.read_area.new.link) c.read_area.result) (sym c.in-T2.is)
    (c.read_area.ensures.reads size (subst (λ h. IsTag h size (g.T.TagLink.seen c.args.link.now)) c.in-T2.is is))

pub read_file-requires-clause-of : goal.read_file-requires-clause-of
read_file-requires-clause-of g c = subst (λ h. IsOf h (g.T.TagLink.seen c.args.link.now)) c.in-T4.is c.requires.of

pub returns-in-T4-clause-told : goal.returns-in-T4-clause-told
returns-in-T4-clause-told g c =
    subst (λ h. IsToldBy h (g.T.TagLink.seen c.args.link.now) (g.T.TagLink.seen c.read_file.new.link) c.read_file.result) (sym c.in-T4.is) c.read_file.ensures.told

pub returns-in-T4-clause-reads : goal.returns-in-T4-clause-reads
returns-in-T4-clause-reads g c size is =
    subst (λ h. IsRead h size (g.T.TagLink.seen c.args.link.now) (g.T.TagLink.seen c.read_file.new.link) c.read_file.result) (sym c.in-T4.is)
    (c.read_file.ensures.reads size (subst (λ h. IsTag h size (g.T.TagLink.seen c.args.link.now)) c.in-T4.is is))

pub read_blocks-requires-clause-of : goal.read_blocks-requires-clause-of
read_blocks-requires-clause-of g c = subst (λ h. IsOf h (g.T.TagLink.seen c.args.link.now)) c.in-T5.is c.requires.of

pub returns-in-T5-clause-told : goal.returns-in-T5-clause-told
returns-in-T5-clause-told g c =
    subst (λ h. IsToldBy h (g.T.TagLink.seen c.args.link.now) (g.T.TagLink.seen c.read_blocks.new.link) c.read_blocks.result) (sym c.in-T5.is) c.read_blocks.ensures.told

pub returns-in-T5-clause-reads : goal.returns-in-T5-clause-reads
returns-in-T5-clause-reads g c size is =
    subst (λ h. IsRead h size (g.T.TagLink.seen c.args.link.now) (g.T.TagLink.seen c.read_blocks.new.link) c.read_blocks.result) (sym c.in-T5.is)
    (c.read_blocks.ensures.reads size (subst (λ h. IsTag h size (g.T.TagLink.seen c.args.link.now)) c.in-T5.is is))
