use Rattle.std.proofs.Common.{inr, [], sym, subst}
use Rattle.nfc_base.specs.TagLinks.{LinkView}
use Rattle.tag_writer.specs.WriteHeard.{IsWhy}
use Rattle.tag_writer.proofs.Acknowledging.{put_by, put_told, put_lost}
use Rattle.tag_writer.proofs.Loses.{some_answer, loses}
use Rattle.tag_writer.proofs.putting.put.Goals as goal

pub returns-in-Err-clause-puts : goal.returns-in-Err-clause-puts
returns-in-Err-clause-puts g c is =
    let a : LinkView = g.T.TagLink.seen c.args.link.now in
    let b : LinkView = g.T.TagLink.seen c.ask.new.self in
    inr (
      c.in-Err.fault,
      c.from.ensures,
      loses a b c.args.command.now c.in-Err.fault c.in-Err.ensures.obeys c.in-Err.ensures.rises c.in-Err.ensures.last c.in-Err.ensures.err c.in-Err.ensures.cause c.in-Err.ensures.ended
          c.in-Err.ensures.calm
          (some_answer c.args.how (a.step a.state c.args.command.now).answer is),
    )

pub returns-in-Err-clause-told : goal.returns-in-Err-clause-told
returns-in-Err-clause-told g c =
    let a : LinkView = g.T.TagLink.seen c.args.link.now in
    let b : LinkView = g.T.TagLink.seen c.ask.new.self in
    subst (λ e. IsWhy c.args.how a b [] c.args.command.now e) (sym c.from.ensures)
    (put_lost c.args.how a b c.args.command.now c.in-Err.fault c.in-Err.ensures.err c.in-Err.ensures.cause c.in-Err.ensures.ended c.in-Err.ensures.last)

pub returns-in-Ok-clause-puts : goal.returns-in-Ok-clause-puts
returns-in-Ok-clause-puts g c is =
    put_by c.args.how (g.T.TagLink.seen c.args.link.now) (g.T.TagLink.seen c.ask.new.self) c.args.command.now c.in-Ok.answer c.in-Ok.ensures.obeys c.in-Ok.ensures.rises c.in-Ok.ensures.last
    c.in-Ok.ensures.ok
    c.tell.result c.tell.ensures is

pub returns-in-Ok-clause-told : goal.returns-in-Ok-clause-told
returns-in-Ok-clause-told g c =
    put_told c.args.how (g.T.TagLink.seen c.args.link.now) (g.T.TagLink.seen c.ask.new.self) c.args.command.now c.in-Ok.answer c.in-Ok.ensures.obeys c.in-Ok.ensures.rises c.in-Ok.ensures.last
    c.in-Ok.ensures.ok
    c.tell.result c.tell.ensures
