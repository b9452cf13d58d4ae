use Rattle.std.proofs.Common.{◌≡◌, List, ℕ, suc, ◌+◌, ◌<◌, Ok, Err, ◌∙◌, subst, arith}
use Rattle.nfc_base.specs.TagLinks.{LinkView}
use Rattle.t3t_access.specs.Writing.{content_at, blocks_of, first_asked, TellsUpdate, Writes}
use Rattle.t3t_access.proofs.Doing.{does, put_fill}
use Rattle.t3t_access.proofs.writer.fill.Goals as goal

pub returns-in-Err-clause-told : goal.returns-in-Err-clause-told
returns-in-Err-clause-told g c a w =
    let block : List ℕ = c.args.block.now in
    let message : List ℕ = c.args.message.now in
    let n : ℕ = c.loop-written.written in
    let new : LinkView = g.T.TagLink.seen c.update.new.link in
    let asked = first_asked c.args.id block message (suc n) in
    let less : n < blocks_of message = omega (arith, c.loop-written-test.true) in
    let at : 1 + n ≡ suc n = omega arith in
    let before : Writes c.args.id a (g.T.TagLink.seen c.loop-written.link) block message (suc n) = c.loop-written.invariant.writes a w in
    does c.args.id a (g.T.TagLink.seen c.loop-written.link) new block message (suc n) (record { block = suc n; content = content_at message n }) (Err c.in-Err.fault) before (omega (arith, less))
    (put_fill block message n less)
    (subst (λ k. TellsUpdate c.args.id k (content_at message n) a new asked (Err c.in-Err.fault)) at
    (subst (λ x. TellsUpdate c.args.id (1 + n) x a new asked (Err c.in-Err.fault)) c.content_at-content.ensures (c.in-Err.ensures.next a asked before.answered)))

pub loop-written-preserved : goal.loop-written-preserved
loop-written-preserved g c =
    let block : List ℕ = c.args.block.now in
    let message : List ℕ = c.args.message.now in
    let n : ℕ = c.loop-written.written in
    let new : LinkView = g.T.TagLink.seen c.update.new.link in
    let asked = first_asked c.args.id block message (suc n) in
    let less : n < blocks_of message = omega (arith, c.loop-written-test.true) in
    let at : 1 + n ≡ suc n = omega arith in
    let next : suc n ≡ n + 1 = omega arith in
    record {
      writes = λ a w.
          let before : Writes c.args.id a (g.T.TagLink.seen c.loop-written.link) block message (suc n) = c.loop-written.invariant.writes a w in
          subst (λ k. Writes c.args.id a new block message (suc k)) next
          (does c.args.id a (g.T.TagLink.seen c.loop-written.link) new block message (suc n) (record { block = suc n; content = content_at message n }) (Ok c.in-Ok.field-0) before
          (omega (arith, less)) (put_fill block message n less)
          (subst (λ k. TellsUpdate c.args.id k (content_at message n) a new asked (Ok c.in-Ok.field-0)) at
          (subst (λ x. TellsUpdate c.args.id (1 + n) x a new asked (Ok c.in-Ok.field-0)) c.content_at-content.ensures (c.in-Ok.ensures.next a asked before.answered))));
      most = omega (arith, less);
      of = c.update.ensures.of;
      ready = c.update.ensures.ready;
      same = c.update.ensures.same ∙ c.loop-written.invariant.same;
      moves = g.met.T.TagLink.goes_on c.args.link.now c.loop-written.link c.update.new.link c.loop-written.invariant.moves c.update.ensures.moves;
    }

pub returns-clause-told : goal.returns-clause-told
returns-clause-told g c a w =
    let all : c.loop-written.written ≡ blocks_of c.args.message.now = omega (arith, c.loop-written-test.false, c.loop-written.invariant.most) in
    subst (λ k. Writes c.args.id a (g.T.TagLink.seen c.loop-written.link) c.args.block.now c.args.message.now (suc k)) all (c.loop-written.invariant.writes a w)
