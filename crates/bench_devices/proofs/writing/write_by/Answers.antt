use Rattle.bench_devices.specs.private.Linking.{seen_plain}
use Rattle.bench_devices.proofs.selected.NewLinks.{new_ready, new_is_tag}
use Rattle.bench_devices.proofs.writes.WritingEnds.{ends_written, ends_cut}
use Rattle.bench_devices.proofs.writing.write_by.Goals as goal

pub write-requires-clause-ready : goal.write-requires-clause-ready
write-requires-clause-ready c over = new_ready (seen_plain c.args.link.now) c.requires.fresh c.args.how c.requires.tag

pub write-requires-clause-of : goal.write-requires-clause-of
write-requires-clause-of c =
    let tag = new_is_tag (seen_plain c.args.link.now) c.requires.fresh c.args.how c.requires.tag in
    record { kind = tag.1.kind; named = tag.1.named }

pub returns-clause-tells : goal.returns-clause-tells
returns-clause-tells c =
    let tag = new_is_tag (seen_plain c.args.link.now) c.requires.fresh c.args.how c.requires.tag in
    ends_written (seen_plain c.args.link.now) c.requires.fresh c.args.how c.requires.tag c.args.message.now (seen_plain c.write.new.link) c.write.ensures.moves c.write.result (record {
      keeps = c.write.ensures.law tag.0 tag.1;
      order = c.write.ensures.asked tag.0 tag.1;
      all = c.write.ensures.whole tag.0 tag.1;
      goes_on = c.write.ensures.goes_on tag.0 tag.1;
      ok = c.write.ensures.ok tag.0 tag.1;
      err = c.write.ensures.err tag.0 tag.1;
      calm = c.write.ensures.calm tag.0 tag.1;
    })

pub returns-clause-cut : goal.returns-clause-cut
returns-clause-cut c =
    let tag = new_is_tag (seen_plain c.args.link.now) c.requires.fresh c.args.how c.requires.tag in
    ends_cut (seen_plain c.args.link.now) c.requires.fresh c.args.how c.requires.tag c.args.message.now (seen_plain c.write.new.link) c.write.ensures.moves c.write.result (record {
      keeps = c.write.ensures.law tag.0 tag.1;
      order = c.write.ensures.asked tag.0 tag.1;
      all = c.write.ensures.whole tag.0 tag.1;
      goes_on = c.write.ensures.goes_on tag.0 tag.1;
      ok = c.write.ensures.ok tag.0 tag.1;
      err = c.write.ensures.err tag.0 tag.1;
      calm = c.write.ensures.calm tag.0 tag.1;
    })
