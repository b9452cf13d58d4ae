use Rattle.bench_devices.specs.private.Linking.{seen_plain}
use Rattle.bench_devices.proofs.type3.ThreeReading.{ends_read, ends_cut}
use Rattle.bench_devices.proofs.type3.ThreeTags.{new_three_ready, new_three_of}
use Rattle.bench_devices.proofs.threes.read_behind.Goals as goal

pub read3-requires-clause-ready : goal.read3-requires-clause-ready
read3-requires-clause-ready c over = new_three_ready (seen_plain c.args.link.now) c.requires.fresh c.args.id c.requires.tag

pub read3-requires-clause-of : goal.read3-requires-clause-of
read3-requires-clause-of c = new_three_of (seen_plain c.args.link.now) c.requires.fresh c.args.id c.requires.tag

pub returns-clause-tells : goal.returns-clause-tells
returns-clause-tells c =
    ends_read (seen_plain c.args.link.now) c.requires.fresh c.args.id (seen_plain c.read3.new.link) c.read3.ensures.moves c.read3.result c.read3.ensures.told c.read3.ensures.law c.read3.ensures.asked

pub returns-clause-cut : goal.returns-clause-cut
returns-clause-cut c =
    ends_cut (seen_plain c.args.link.now) c.requires.fresh c.args.id (seen_plain c.read3.new.link) c.read3.ensures.moves c.read3.result c.read3.ensures.told c.read3.ensures.law c.read3.ensures.asked
