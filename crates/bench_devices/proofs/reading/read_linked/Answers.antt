use Rattle.isodep_link.specs.IsoLinks.{seen_link}
use Rattle.bench_devices.specs.Device.{size_of}
use Rattle.bench_devices.proofs.selected.CardLinks.{new_ready, new_tag}
use Rattle.bench_devices.proofs.reads.CardReadingLinks.{ends_read, cut_read}
use Rattle.bench_devices.proofs.reading.read_linked.Goals as goal

pub read-requires-clause-ready : goal.read-requires-clause-ready
read-requires-clause-ready c over = new_ready (seen_link c.args.link.now) c.requires.fresh c.requires.tag.0 c.requires.tag.1

pub read-requires-clause-of : goal.read-requires-clause-of
read-requires-clause-of c =
    let tag = new_tag (seen_link c.args.link.now) c.requires.fresh c.requires.tag.0 c.requires.tag.1 in
    record { kind = tag.kind; named = tag.named }

pub returns-clause-tells : goal.returns-clause-tells
returns-clause-tells c fed d linked =
    let tag = new_tag (seen_link c.args.link.now) c.requires.fresh d linked in
    ends_read (seen_link c.args.link.now) c.requires.fresh d linked (seen_link c.read.new.link) c.read.ensures.moves c.read.result fed (c.read.ensures.stays (size_of d) tag).store (record {
      order = c.read.ensures.asked (size_of d) tag;
      all = c.read.ensures.whole (size_of d) tag;
      goes_on = c.read.ensures.goes_on (size_of d) tag;
      ok = c.read.ensures.ok (size_of d) tag;
      err = c.read.ensures.err (size_of d) tag;
      calm = c.read.ensures.calm (size_of d) tag;
    })

pub returns-clause-cut : goal.returns-clause-cut
returns-clause-cut c starved d linked =
    let tag = new_tag (seen_link c.args.link.now) c.requires.fresh d linked in
    cut_read (seen_link c.args.link.now) c.requires.fresh d linked (seen_link c.read.new.link) c.read.ensures.moves c.read.result starved (c.read.ensures.stays (size_of d) tag).store (record {
      order = c.read.ensures.asked (size_of d) tag;
      all = c.read.ensures.whole (size_of d) tag;
      goes_on = c.read.ensures.goes_on (size_of d) tag;
      ok = c.read.ensures.ok (size_of d) tag;
      err = c.read.ensures.err (size_of d) tag;
      calm = c.read.ensures.calm (size_of d) tag;
    })
