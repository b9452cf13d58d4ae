use Rattle.std.proofs.Common.{rules, ◌≡◌, ◌<◌, [], ◌∷◌, length, take, sym, ◌∙◌, subst, arith}
use Rattle.std.specs.Prelude.{Result, Err, IfErr}
use Rattle.std.proofs.lemmas.List.{take_all}
use Rattle.nfc_base.specs.TagLinks.{LinkView, MayAsk}
use Rattle.nfc_base.proofs.Leading.{rises_on}
use Rattle.tag_writer.specs.declared.fault.WriteFault.{WriteFault}
use Rattle.tag_writer.specs.Puttings.{Makes, BreaksOff, PutsTell, signal_at}
use Rattle.tag_writer.specs.Phases.{WriteJob, how_of, next_at}
use Rattle.tag_writer.specs.Commands.{commands_at, command_at}
use Rattle.tag_writer.specs.WriteHeard.{AreAcknowledged, IsWhy}
use Rattle.tag_writer.proofs.Jobs.{answers_at, makes_at, breaks_at}
use Rattle.tag_writer.proofs.Commanding.{HasCommand, nth_command, counted_as, commanded_as, work_may}
use Rattle.tag_writer.proofs.Acknowledging.{acknowledged_on, of_left, stops_at_command}
use Rattle.tag_writer.proofs.putting.put_all.Goals as goal

pub command-command-requires-clause-low : goal.command-command-requires-clause-low
command-command-requires-clause-low g c = subst (λ n. c.loop-index.index < n) c.count-index-end.ensures c.loop-index-test.true

pub put-requires-clause-fits : goal.put-requires-clause-fits
put-requires-clause-fits g c =
    let a : LinkView = g.T.TagLink.seen c.args.link.now in
    let v : LinkView = g.T.TagLink.seen c.loop-index.link in
    let low = subst (λ n. c.loop-index.index < n) c.count-index-end.ensures c.loop-index-test.true in
    subst (λ f. MayAsk v.kind v.identifier f) (sym c.command-command.ensures)
    (work_may c.args.phase c.args.work.now v c.loop-index.index (of_left (how_of c.args.work.now) a v _ c.requires.of c.loop-index.invariant.told.left) c.requires.fit low)

fails : (j : WriteJob) (P : WriteFault → Type 0) (r : Result Unit WriteFault) (e : WriteFault) → r ≡ Err e → P e → IfErr r P
fails j P r e is p = subst (λ x. IfErr x P) (sym is) p

pub returns-in_err-put-clause-err : goal.returns-in_err-put-clause-err
returns-in_err-put-clause-err g c j at =
    let a : LinkView = g.T.TagLink.seen c.args.link.now in
    let v : LinkView = g.T.TagLink.seen c.loop-index.link in
    let b : LinkView = g.T.TagLink.seen c.put.new.link in
    let count : c.count-index-end.result ≡ length (next_at c.args.phase j) = counted_as c.args.phase j c.args.work.now c.count-index-end.result at.work' c.count-index-end.ensures in
    let low : c.loop-index.index < length (next_at c.args.phase j) = subst (λ n. c.loop-index.index < n) count c.loop-index-test.true in
    let asks : c.command-command.result ≡ signal_at (next_at c.args.phase j) c.loop-index.index =
    commanded_as c.args.phase j c.args.work.now c.loop-index.index c.command-command.result at.work' c.command-command.ensures in
    let kind : c.how-how.result ≡ j.how = c.how-how.ensures ∙ sym at.work'.how' in
    let makes = c.loop-index.invariant.makes j at in
    fails j (BreaksOff j.how a (next_at c.args.phase j) b) c.from_residual.result c.in_err-put.field-0.0 (search rules)
    (breaks_at c.args.phase j a v b c.loop-index.index c.command-command.result c.how-how.result c.in_err-put.field-0.0 low makes asks kind
    (c.in_err-put.ensures.puts (answers_at c.args.phase j c.args.work.now a v c.loop-index.index c.command-command.result c.how-how.result at low makes asks kind)))

pub returns-in_err-put-clause-told : goal.returns-in_err-put-clause-told
returns-in_err-put-clause-told g c =
    let a : LinkView = g.T.TagLink.seen c.args.link.now in
    let v : LinkView = g.T.TagLink.seen c.loop-index.link in
    let b : LinkView = g.T.TagLink.seen c.put.new.link in
    let is_err : c.from_residual.result ≡ Err c.in_err-put.field-0.0 = search rules in
    let low = subst (λ n. c.loop-index.index < n) c.count-index-end.ensures c.loop-index-test.true in
    let why : IsWhy (how_of c.args.work.now) v b [] (command_at (commands_at c.args.phase c.args.work.now) c.loop-index.index) c.in_err-put.field-0.0 =
    subst (λ h. IsWhy h v b [] (command_at (commands_at c.args.phase c.args.work.now) c.loop-index.index) c.in_err-put.field-0.0) c.how-how.ensures
    (subst (λ f. IsWhy c.how-how.result v b [] f c.in_err-put.field-0.0) c.command-command.ensures c.in_err-put.ensures.told) in
    subst (λ x. PutsTell (how_of c.args.work.now) a b (commands_at c.args.phase c.args.work.now) x) (sym is_err)
    (stops_at_command (how_of c.args.work.now) a v b (commands_at c.args.phase c.args.work.now) c.loop-index.index c.in_err-put.field-0.0
    (nth_command (commands_at c.args.phase c.args.work.now) c.loop-index.index low) c.loop-index.invariant.told c.loop-index.invariant.rises why)

pub loop-index-preserved : goal.loop-index-preserved
loop-index-preserved g c =
    let a : LinkView = g.T.TagLink.seen c.args.link.now in
    let v : LinkView = g.T.TagLink.seen c.loop-index.link in
    let b : LinkView = g.T.TagLink.seen c.put.new.link in
    record {
      makes = λ j at.
          (let count : c.count-index-end.result ≡ length (next_at c.args.phase j) = counted_as c.args.phase j c.args.work.now c.count-index-end.result at.work' c.count-index-end.ensures in
          let low : c.loop-index.index < length (next_at c.args.phase j) = subst (λ n. c.loop-index.index < n) count c.loop-index-test.true in
          let asks : c.command-command.result ≡ signal_at (next_at c.args.phase j) c.loop-index.index =
          commanded_as c.args.phase j c.args.work.now c.loop-index.index c.command-command.result at.work' c.command-command.ensures in
          let kind : c.how-how.result ≡ j.how = c.how-how.ensures ∙ sym at.work'.how' in
          let makes = c.loop-index.invariant.makes j at in
          makes_at c.args.phase j a v b c.loop-index.index c.command-command.result c.how-how.result low makes asks kind
          (c.in_ok-put.ensures.puts (answers_at c.args.phase j c.args.work.now a v c.loop-index.index c.command-command.result c.how-how.result at low makes asks kind)));
      told =
          (let low = subst (λ n. c.loop-index.index < n) c.count-index-end.ensures c.loop-index-test.true in
          let h : HasCommand (commands_at c.args.phase c.args.work.now) c.loop-index.index = nth_command (commands_at c.args.phase c.args.work.now) c.loop-index.index low in
          let one : AreAcknowledged (how_of c.args.work.now) v b (command_at (commands_at c.args.phase c.args.work.now) c.loop-index.index ∷ []) =
          subst (λ k. AreAcknowledged k v b (command_at (commands_at c.args.phase c.args.work.now) c.loop-index.index ∷ [])) c.how-how.ensures
          (subst (λ f. AreAcknowledged c.how-how.result v b (f ∷ [])) c.command-command.ensures c.in_ok-put.ensures.told) in
          subst (AreAcknowledged (how_of c.args.work.now) a b) (sym h.more)
          (acknowledged_on (how_of c.args.work.now) a v b (take c.loop-index.index (commands_at c.args.phase c.args.work.now))
          (command_at (commands_at c.args.phase c.args.work.now) c.loop-index.index ∷ []) c.loop-index.invariant.told one));
      rises = rises_on a v b c.loop-index.invariant.rises c.in_ok-put.ensures.rises;
      ready = c.in_ok-put.ensures.ready;
      same = c.in_ok-put.ensures.same ∙ c.loop-index.invariant.same;
      moves = g.met.T.TagLink.goes_on c.args.link.now c.loop-index.link c.put.new.link c.loop-index.invariant.moves c.in_ok-put.ensures.moves;
    }

pub returns-in_err-put-clause-rises : goal.returns-in_err-put-clause-rises
returns-in_err-put-clause-rises g c = rises_on (g.T.TagLink.seen c.args.link.now) (g.T.TagLink.seen c.loop-index.link) (g.T.TagLink.seen c.put.new.link) c.loop-index.invariant.rises
    c.in_err-put.ensures.rises

pub returns-clause-ok : goal.returns-clause-ok
returns-clause-ok g c j at =
    let count : c.count-index-end.result ≡ length (next_at c.args.phase j) = counted_as c.args.phase j c.args.work.now c.count-index-end.result at.work' c.count-index-end.ensures in
    subst (λ ps. Makes j.how (g.T.TagLink.seen c.args.link.now) ps (g.T.TagLink.seen c.loop-index.link))
    (take_all c.loop-index.index (next_at c.args.phase j) (omega (arith, count, c.loop-index-test.false)))
    (c.loop-index.invariant.makes j at)
