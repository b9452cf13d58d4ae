use Rattle.std.proofs.Common.{refl}
use Rattle.nfc_base.specs.TagLinks.{LinkView}
use Rattle.tag_writer.specs.Phases.{next_at}
use Rattle.tag_writer.proofs.Calming.{calm_fault}
use Rattle.tag_writer.proofs.Reaching.{reaches, reaches_since}
use Rattle.tag_writer.proofs.Stopping.{stops_at, stops_since}
use Rattle.tag_writer.proofs.phase.advance.Goals as goal

pub returns-in-Ok-clause-ends : goal.returns-in-Ok-clause-ends
returns-in-Ok-clause-ends g c =
    let a : LinkView = g.T.TagLink.seen c.args.link.now in
    let b : LinkView = g.T.TagLink.seen c.put_all.new.link in
    record {
      told = c.in-Ok.ensures.told;
      rises = c.in-Ok.ensures.rises;
      ok = λ j at. reaches c.args.phase j c.args.work.now a b at (c.in-Ok.ensures.ok j at);
      since = λ j v at since. reaches_since c.args.phase j c.args.work.now v a b at since (c.in-Ok.ensures.ok j at);
    }

pub returns-in-Err-clause-ends : goal.returns-in-Err-clause-ends
returns-in-Err-clause-ends g c =
    let a : LinkView = g.T.TagLink.seen c.args.link.now in
    let b : LinkView = g.T.TagLink.seen c.put_all.new.link in
    record {
      stopped = refl;
      told = c.in-Err.ensures.told;
      rises = c.in-Err.ensures.rises;
      err = λ j at. stops_at c.args.phase j c.args.work.now a b c.in-Err.cause at (c.in-Err.ensures.err j at);
      law = λ j v at since. stops_since c.args.phase j c.args.work.now v a b c.in-Err.cause at since (c.in-Err.ensures.err j at);
      calm = λ j at calm. calm_fault j.how a b (next_at c.args.phase j) c.in-Err.cause (c.in-Err.ensures.err j at) calm;
    }
