use Rattle.bench_devices.specs.private.Linking.{seen_plain}
use Rattle.bench_devices.proofs.type3.ThreeWriting.{ends_written, ends_write_cut}
use Rattle.bench_devices.proofs.type3.ThreeTags.{new_three_ready, new_three_of}
use Rattle.bench_devices.proofs.threes.write_behind.Goals as goal

pub write3-requires-clause-ready : goal.write3-requires-clause-ready
write3-requires-clause-ready c over = new_three_ready (seen_plain c.args.link.now) c.requires.fresh c.args.id c.requires.tag

pub write3-requires-clause-of : goal.write3-requires-clause-of
write3-requires-clause-of c = new_three_of (seen_plain c.args.link.now) c.requires.fresh c.args.id c.requires.tag

pub returns-clause-tells : goal.returns-clause-tells
returns-clause-tells c =
    ends_written (seen_plain c.args.link.now) c.requires.fresh c.args.id c.args.message.now (seen_plain c.write3.new.link) c.write3.ensures.moves c.write3.result c.write3.ensures.told
    c.write3.ensures.law c.write3.ensures.asked

pub returns-clause-cut : goal.returns-clause-cut
returns-clause-cut c =
    ends_write_cut (seen_plain c.args.link.now) c.requires.fresh c.args.id c.args.message.now (seen_plain c.write3.new.link) c.write3.ensures.moves c.write3.result c.write3.ensures.told
    c.write3.ensures.law c.write3.ensures.asked
