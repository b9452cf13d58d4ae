use Rattle.std.proofs.Common.{rules, ◌≡◌, suc, ◌<◌, ◌≤◌, [], ◌∷◌, ◌++◌, length, Ok, Err, sym, ◌∙◌, ap, subst, arith}
use Rattle.nfc_base.specs.TagLinks.{LinkView}
use Rattle.tag_reader.specs.Asked.{ToWrite}
use Rattle.tag_reader.specs.private.BlockSteps.{LooksBlocks, SeesBlocks, NextBlocks, GainsBlocks, EndsBlocks, HasRunOut}
use Rattle.tag_reader.specs.declared.how.How.TheVariants.{T5}
use Rattle.tag_reader.specs.private.SurveySteps.{KnowsAll}
use Rattle.tag_reader.proofs.BlockEndings.{names_more, names_begins}
use Rattle.tag_reader.proofs.AreaSurveys.{area_due, all_is_known, tag_is_known, cut_area, still_of}
use Rattle.tag_reader.proofs.Filing.{or_fault}
use Rattle.tag_reader.proofs.Surveys.{blocks_all, blocks_ended}
use Rattle.tag_reader.proofs.Needing.{on_err, blocks_needs}
use Rattle.tag_reader.proofs.area.read_to_end.Goals as goal

pub returns-in_err-goes_on-clause-reads : goal.returns-in_err-goes_on-clause-reads
returns-in_err-goes_on-clause-reads g c size n a begun =
    let old : LinkView = g.T.TagLink.seen c.area.link in
    let new : LinkView = g.T.TagLink.seen c.ask_blocks.new.link in
    let is_err : c.from_residual.result ≡ Err c.in_err-goes_on.field-0.0 = search rules in
    let short : length c.area.known.bytes.items < c.args.space.end = omega (arith, c.len.ensures, c.area-test.true) in
    let r = c.area.invariant.reading size n a begun in
    subst (λ x. KnowsAll c.args.id size a new c.ask_blocks.new.known x) (sym is_err)
    (c.in_err-goes_on.ensures.next ToWrite size (suc r.0) a r.1 (area_due c.args.id size r.0 a old c.area.known c.args.space r.1 c.area.invariant.names short))

pub returns-then-not-goes_on-clause-area : goal.returns-then-not-goes_on-clause-area
returns-then-not-goes_on-clause-area g c =
    let new : LinkView = g.T.TagLink.seen c.ask_blocks.new.link in
    let looks : LooksBlocks c.args.id c.area.invariant.looks.0 (g.T.TagLink.seen c.area.link) c.area.known = c.area.invariant.looks.1 in
    let ends : EndsBlocks c.args.id c.area.invariant.looks.0 new looks.ps c.area.known c.ask_blocks.new.known =
    subst (λ m. SeesBlocks c.args.id c.area.invariant.looks.0 new looks.ps c.area.known c.ask_blocks.new.known (Ok m)) c.if-not-goes_on.true
    (c.in_ok-goes_on.ensures.sees c.area.invariant.looks.0 looks.ps looks.under looks.known') in
    let short : length c.area.known.bytes.items < c.args.space.end = omega (arith, c.len.ensures, c.area-test.true) in
    let same : length c.ask_blocks.new.known.bytes.items ≡ length c.area.known.bytes.items = ap (λ k. length k.bytes.items) ends.same in
    let begins = names_begins c.area.known c.args.space c.area.invariant.names in
    cut_area c.args.space c.len-then-not-goes_on.result c.requires.area (omega (arith, c.len-then-not-goes_on.ensures, same, begins)) (omega (arith, c.len-then-not-goes_on.ensures, same, short))

pub returns-then-not-goes_on-clause-reads : goal.returns-then-not-goes_on-clause-reads
returns-then-not-goes_on-clause-reads g c size n a begun =
    let old : LinkView = g.T.TagLink.seen c.area.link in
    let new : LinkView = g.T.TagLink.seen c.ask_blocks.new.link in
    let short : length c.area.known.bytes.items < c.args.space.end = omega (arith, c.len.ensures, c.area-test.true) in
    let r = c.area.invariant.reading size n a begun in
    let out : HasRunOut ToWrite c.args.id size a new c.area.known c.ask_blocks.new.known (suc r.0) =
    subst (λ m. NextBlocks ToWrite c.args.id size a new c.area.known c.ask_blocks.new.known (suc r.0) (Ok m)) c.if-not-goes_on.true
    (c.in_ok-goes_on.ensures.next ToWrite size (suc r.0) a r.1 (area_due c.args.id size r.0 a old c.area.known c.args.space r.1 c.area.invariant.names short)) in
    tag_is_known c.args.id size r.0 a old new c.area.known c.ask_blocks.new.known c.args.space c.len-then-not-goes_on.result r.1 c.area.invariant.names short out
    (omega (arith, c.len-then-not-goes_on.ensures))

pub area-preserved : goal.area-preserved
area-preserved g c =
    let old : LinkView = g.T.TagLink.seen c.area.link in
    let new : LinkView = g.T.TagLink.seen c.ask_blocks.new.link in
    let short : length c.area.known.bytes.items < c.args.space.end = omega (arith, c.len.ensures, c.area-test.true) in
    let a : LinkView = c.area.invariant.looks.0 in
    let looks : LooksBlocks c.args.id a old c.area.known = c.area.invariant.looks.1 in
    let gains : GainsBlocks c.args.id a new looks.ps c.ask_blocks.new.known =
    subst (λ m. SeesBlocks c.args.id a new looks.ps c.area.known c.ask_blocks.new.known (Ok m)) c.if-not-goes_on.false (c.in_ok-goes_on.ensures.sees a looks.ps looks.under looks.known') in
    record {
      of = still_of c.args.id a old new looks.ps (looks.ps ++ gains.piece ∷ []) c.area.invariant.of looks.under gains.under;
      looks = (a, record { ps = looks.ps ++ gains.piece ∷ []; under = gains.under; known' = gains.known' });
      seen = λ b begun.
          (let l : LooksBlocks c.args.id b old c.area.known = c.area.invariant.seen b begun in
          let more : GainsBlocks c.args.id b new l.ps c.ask_blocks.new.known =
          subst (λ m. SeesBlocks c.args.id b new l.ps c.area.known c.ask_blocks.new.known (Ok m)) c.if-not-goes_on.false (c.in_ok-goes_on.ensures.sees b l.ps l.under l.known') in
          record { ps = l.ps ++ more.piece ∷ []; under = more.under; known' = more.known' });
      names = names_more c.args.id a new looks.ps c.area.known c.ask_blocks.new.known c.args.space looks.known' c.area.invariant.names gains;
      reading = λ size n b begun.
          (let r = c.area.invariant.reading size n b begun in (
            suc r.0,
            subst (λ m. NextBlocks ToWrite c.args.id size b new c.area.known c.ask_blocks.new.known (suc r.0) (Ok m)) c.if-not-goes_on.false
                (c.in_ok-goes_on.ensures.next ToWrite size (suc r.0) b r.1 (area_due c.args.id size r.0 b old c.area.known c.args.space r.1 c.area.invariant.names short)),
          ));
      ready = c.in_ok-goes_on.ensures.ready;
      same = c.in_ok-goes_on.ensures.same ∙ c.area.invariant.same;
      moves = g.met.T.TagLink.goes_on c.args.link.now c.area.link c.ask_blocks.new.link c.area.invariant.moves c.in_ok-goes_on.ensures.moves;
    }

pub returns-clause-reads : goal.returns-clause-reads
returns-clause-reads g c size n a begun =
    let whole : c.args.space.end ≤ length c.area.known.bytes.items = omega (arith, c.len.ensures, c.area-test.false) in
    let r = c.area.invariant.reading size n a begun in
    all_is_known c.args.id size r.0 a (g.T.TagLink.seen c.area.link) c.area.known c.args.space r.1 c.area.invariant.names whole

-- whatever the tag does
pub returns-in_err-goes_on-clause-hears : goal.returns-in_err-goes_on-clause-hears
returns-in_err-goes_on-clause-hears g c a begun =
    let new : LinkView = g.T.TagLink.seen c.ask_blocks.new.link in
    let is_err : c.from_residual.result ≡ Err c.in_err-goes_on.field-0.0 = search rules in
    let l : LooksBlocks c.args.id a (g.T.TagLink.seen c.area.link) c.area.known = c.area.invariant.seen a begun in
    or_fault _ (T5 c.args.id) a new c.from_residual.result c.in_err-goes_on.field-0.0 is_err (c.in_err-goes_on.ensures.sees a l.ps l.under l.known')

pub returns-then-not-goes_on-clause-hears : goal.returns-then-not-goes_on-clause-hears
returns-then-not-goes_on-clause-hears g c a begun =
    let new : LinkView = g.T.TagLink.seen c.ask_blocks.new.link in
    let l : LooksBlocks c.args.id a (g.T.TagLink.seen c.area.link) c.area.known = c.area.invariant.seen a begun in
    let ends : EndsBlocks c.args.id a new l.ps c.area.known c.ask_blocks.new.known =
    subst (λ m. SeesBlocks c.args.id a new l.ps c.area.known c.ask_blocks.new.known (Ok m)) c.if-not-goes_on.true (c.in_ok-goes_on.ensures.sees a l.ps l.under l.known') in
    let short : length c.area.known.bytes.items < c.args.space.end = omega (arith, c.len.ensures, c.area-test.true) in
    blocks_ended c.args.id a (g.T.TagLink.seen c.area.link) new c.area.known c.ask_blocks.new.known c.args.space c.len-then-not-goes_on.result l c.area.invariant.names ends short
    (omega (arith, c.len-then-not-goes_on.ensures))

pub returns-clause-hears : goal.returns-clause-hears
returns-clause-hears g c a begun = blocks_all c.args.id a (g.T.TagLink.seen c.area.link) c.area.known c.args.space (c.area.invariant.seen a begun) c.area.invariant.names

-- it asks for what it needs
pub returns-in_err-goes_on-clause-needs : goal.returns-in_err-goes_on-clause-needs
returns-in_err-goes_on-clause-needs g c a begun =
    let short : length c.area.known.bytes.items < c.args.space.end = omega (arith, c.len.ensures, c.area-test.true) in
    on_err _ c.from_residual.result
    (blocks_needs c.args.id a (g.T.TagLink.seen c.area.link) (g.T.TagLink.seen c.ask_blocks.new.link) c.area.known c.args.space (c.area.invariant.seen a begun) c.area.invariant.names short
    c.in_err-goes_on.ensures.cut)
