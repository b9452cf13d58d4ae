use Rattle.isodep_link.specs.IsoLinks.{seen_link}
use Rattle.bench_devices.specs.Device.{size_of}
use Rattle.bench_devices.proofs.selected.CardLinks.{new_ready, new_tag}
use Rattle.bench_devices.proofs.writes.CardWriting.{writes_on, writes_some_on}
use Rattle.bench_devices.proofs.writing.write_linked.Goals as goal

pub write-requires-clause-ready : goal.write-requires-clause-ready
write-requires-clause-ready c over = new_ready (seen_link c.args.link.now) c.requires.fresh c.requires.tag.0 c.requires.tag.1

pub write-requires-clause-of : goal.write-requires-clause-of
write-requires-clause-of c =
    let tag = new_tag (seen_link c.args.link.now) c.requires.fresh c.requires.tag.0 c.requires.tag.1 in
    record { kind = tag.kind; named = tag.named }

pub returns-clause-tells : goal.returns-clause-tells
returns-clause-tells c fed d linked =
    let tag = new_tag (seen_link c.args.link.now) c.requires.fresh d linked in
    writes_on c.args.message.now (seen_link c.args.link.now) c.requires.fresh d linked (seen_link c.write.new.link) c.write.ensures.moves c.write.result fed (record {
      keeps = c.write.ensures.law (size_of d) tag;
      order = c.write.ensures.asked (size_of d) tag;
      all = c.write.ensures.whole (size_of d) tag;
      goes_on = c.write.ensures.goes_on (size_of d) tag;
      ok = c.write.ensures.ok (size_of d) tag;
      err = c.write.ensures.err (size_of d) tag;
      calm = c.write.ensures.calm (size_of d) tag;
    })

pub returns-clause-cut : goal.returns-clause-cut
returns-clause-cut c starved d linked =
    let tag = new_tag (seen_link c.args.link.now) c.requires.fresh d linked in
    writes_some_on c.args.message.now (seen_link c.args.link.now) c.requires.fresh d linked (seen_link c.write.new.link) c.write.ensures.moves c.write.result starved (record {
      keeps = c.write.ensures.law (size_of d) tag;
      order = c.write.ensures.asked (size_of d) tag;
      all = c.write.ensures.whole (size_of d) tag;
      goes_on = c.write.ensures.goes_on (size_of d) tag;
      ok = c.write.ensures.ok (size_of d) tag;
      err = c.write.ensures.err (size_of d) tag;
      calm = c.write.ensures.calm (size_of d) tag;
    })
