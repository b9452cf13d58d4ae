use Rattle.tag_reader.proofs.Exact.{tells_refused, tells_protocol, exactly_over}
use Rattle.tag_reader.proofs.BlockCounts.{few_of}
use Rattle.tag_reader.proofs.OneForm.{said_told, cut_told}
use Rattle.tag_reader.specs.Asked.{ToRead}
use Rattle.tag_reader.proofs.reader.read.Goals as goal

pub returns-clause-refused : goal.returns-clause-refused
returns-clause-refused g c code = tells_refused _ _ _ code _ c.read_kind.ensures.told

pub returns-clause-protocol : goal.returns-clause-protocol
returns-clause-protocol g c = tells_protocol _ _ _ _ c.read_kind.ensures.told

pub returns-clause-over : goal.returns-clause-over
returns-clause-over g c e is = exactly_over _ _ _ e _ c.read_kind.ensures.told is

pub returns-clause-said : goal.returns-clause-said
returns-clause-said g c f is = said_told _ _ _ f _ c.read_kind.ensures.told is

pub returns-clause-cut_off : goal.returns-clause-cut_off
returns-clause-cut_off g c f is = cut_told _ _ _ f _ c.read_kind.ensures.told is

pub returns-clause-stays : goal.returns-clause-stays
returns-clause-stays g c size is = (c.read_kind.ensures.reads size is).stays

pub returns-clause-asked : goal.returns-clause-asked
returns-clause-asked g c size is = (c.read_kind.ensures.reads size is).asked

pub returns-clause-whole : goal.returns-clause-whole
returns-clause-whole g c size is = (c.read_kind.ensures.reads size is).whole

pub returns-clause-goes_on : goal.returns-clause-goes_on
returns-clause-goes_on g c size is = (c.read_kind.ensures.reads size is).goes_on

pub returns-clause-ok : goal.returns-clause-ok
returns-clause-ok g c size is = (c.read_kind.ensures.reads size is).ok

pub returns-clause-err : goal.returns-clause-err
returns-clause-err g c size is = (c.read_kind.ensures.reads size is).err

pub returns-clause-calm : goal.returns-clause-calm
returns-clause-calm g c size is = (c.read_kind.ensures.reads size is).calm

pub returns-clause-few : goal.returns-clause-few
returns-clause-few g c = few_of ToRead c.args.how (g.T.TagLink.seen c.args.link.now)
