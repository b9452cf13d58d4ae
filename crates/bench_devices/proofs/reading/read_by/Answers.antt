use Rattle.bench_devices.specs.private.Linking.{seen_plain}
use Rattle.bench_devices.proofs.selected.NewLinks.{new_ready, new_is_tag}
use Rattle.bench_devices.proofs.reads.ReadingEnds.{ends_read, ends_cut}
use Rattle.bench_devices.proofs.reading.read_by.Goals as goal

pub read-requires-clause-ready : goal.read-requires-clause-ready
read-requires-clause-ready c over = new_ready (seen_plain c.args.link.now) c.requires.fresh c.args.how c.requires.tag

pub read-requires-clause-of : goal.read-requires-clause-of
read-requires-clause-of c =
    let tag = new_is_tag (seen_plain c.args.link.now) c.requires.fresh c.args.how c.requires.tag in
    record { kind = tag.1.kind; named = tag.1.named }

pub returns-clause-tells : goal.returns-clause-tells
returns-clause-tells c =
    let tag = new_is_tag (seen_plain c.args.link.now) c.requires.fresh c.args.how c.requires.tag in
    ends_read (seen_plain c.args.link.now) c.requires.fresh c.args.how c.requires.tag (seen_plain c.read.new.link) c.read.ensures.moves c.read.result (record {
      order = c.read.ensures.asked tag.0 tag.1;
      all = c.read.ensures.whole tag.0 tag.1;
      goes_on = c.read.ensures.goes_on tag.0 tag.1;
      ok = c.read.ensures.ok tag.0 tag.1;
      err = c.read.ensures.err tag.0 tag.1;
      calm = c.read.ensures.calm tag.0 tag.1;
    })

pub returns-clause-cut : goal.returns-clause-cut
returns-clause-cut c =
    let tag = new_is_tag (seen_plain c.args.link.now) c.requires.fresh c.args.how c.requires.tag in
    ends_cut (seen_plain c.args.link.now) c.requires.fresh c.args.how c.requires.tag (seen_plain c.read.new.link) c.read.ensures.moves c.read.result (record {
      order = c.read.ensures.asked tag.0 tag.1;
      all = c.read.ensures.whole tag.0 tag.1;
      goes_on = c.read.ensures.goes_on tag.0 tag.1;
      ok = c.read.ensures.ok tag.0 tag.1;
      err = c.read.ensures.err tag.0 tag.1;
      calm = c.read.ensures.calm tag.0 tag.1;
    })
