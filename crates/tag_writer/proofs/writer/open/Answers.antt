use Rattle.std.proofs.Common.{rules, ◌≡◌, sym, ◌∙◌, subst}
use Rattle.std.specs.Prelude.{Result, Err}
use Rattle.nfc_base.specs.TagLinks.{LinkView}
use Rattle.tag_reader.specs.Heard.{IsOf}
use Rattle.tag_writer.specs.declared.phase.Phase.TheVariants.{Emptied, Filled}
use Rattle.tag_writer.specs.declared.phase.Stopped.{Stopped}
use Rattle.tag_writer.specs.declared.work.Work.{Work}
use Rattle.tag_writer.specs.Ends.{HasReached, HasStopped, EndsPhase, HasFailed, EndsWork}
use Rattle.tag_writer.specs.Phases.{how_of}
use Rattle.tag_writer.proofs.Opening.{of_reached, fails_first, fails_second, ends_third}
use Rattle.tag_writer.proofs.writer.open.Goals as goal

fails : {A : Type 0} (w : Work) (a b : LinkView) (r : Result A Stopped) (s : Stopped) → r ≡ Err s → HasFailed w a b s.cause → EndsWork w a b r
fails w a b r s is p = subst (EndsWork w a b) (sym is) p

pub fill-requires-clause-of : goal.fill-requires-clause-of
fill-requires-clause-of g c =
    let w : Work = c.args.prepared.work in
    let a : LinkView = g.T.TagLink.seen c.args.link.now in
    let v : LinkView = g.T.TagLink.seen c.empty.new.link in
    subst (λ x. IsOf (how_of x) v) (sym c.in_ok-emptied.ensures.kept) (of_reached w a v _ c.requires.of c.in_ok-emptied.ensures.ends.told)

pub finish-requires-clause-of : goal.finish-requires-clause-of
finish-requires-clause-of g c =
    let w : Work = c.args.prepared.work in
    let a : LinkView = g.T.TagLink.seen c.args.link.now in
    let v : LinkView = g.T.TagLink.seen c.empty.new.link in
    let x : LinkView = g.T.TagLink.seen c.fill.new.link in
    let second : HasReached Emptied w v x = subst (λ y. HasReached Emptied y v x) c.in_ok-emptied.ensures.kept c.in_ok-filled.ensures.ends in
    subst (λ y. IsOf (how_of y) x) (sym (c.in_ok-filled.ensures.kept ∙ c.in_ok-emptied.ensures.kept))
    (of_reached w v x _ (of_reached w a v _ c.requires.of c.in_ok-emptied.ensures.ends.told) second.told)

pub returns-in_err-emptied-clause-ends : goal.returns-in_err-emptied-clause-ends
returns-in_err-emptied-clause-ends g c =
    let w : Work = c.args.prepared.work in
    let a : LinkView = g.T.TagLink.seen c.args.link.now in
    let b : LinkView = g.T.TagLink.seen c.empty.new.link in
    fails w a b c.from_residual.result c.in_err-emptied.field-0.0 (search rules) (fails_first w a b c.in_err-emptied.field-0.0 c.in_err-emptied.ensures.ends)

pub returns-in_err-filled-clause-ends : goal.returns-in_err-filled-clause-ends
returns-in_err-filled-clause-ends g c =
    let w : Work = c.args.prepared.work in
    let a : LinkView = g.T.TagLink.seen c.args.link.now in
    let v : LinkView = g.T.TagLink.seen c.empty.new.link in
    let b : LinkView = g.T.TagLink.seen c.fill.new.link in
    let s : Stopped = c.in_err-filled.field-0.0 in
    let stops : HasStopped Emptied w v b s = subst (λ y. HasStopped Emptied y v b s) c.in_ok-emptied.ensures.kept c.in_err-filled.ensures.ends in
    fails w a b c.from_residual-in_err-filled.result s (search rules) (fails_second w a v b s c.in_ok-emptied.ensures.ends stops)

pub returns-clause-ends : goal.returns-clause-ends
returns-clause-ends g c =
    let w : Work = c.args.prepared.work in
    let a : LinkView = g.T.TagLink.seen c.args.link.now in
    let v : LinkView = g.T.TagLink.seen c.empty.new.link in
    let x : LinkView = g.T.TagLink.seen c.fill.new.link in
    let b : LinkView = g.T.TagLink.seen c.finish.new.link in
    let second : HasReached Emptied w v x = subst (λ y. HasReached Emptied y v x) c.in_ok-emptied.ensures.kept c.in_ok-filled.ensures.ends in
    let third : EndsPhase Filled w x b c.finish.result =
    subst (λ y. EndsPhase Filled y x b c.finish.result) (c.in_ok-filled.ensures.kept ∙ c.in_ok-emptied.ensures.kept) c.finish.ensures.ends in
    ends_third w a v x b c.finish.result c.in_ok-emptied.ensures.ends second third
