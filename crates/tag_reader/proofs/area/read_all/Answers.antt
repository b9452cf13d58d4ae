use Rattle.std.proofs.Common.{rules, ◌≡◌, ◌<◌, length, inr, sym, subst, ◌∙◌, arith, Err}
use Rattle.nfc_base.specs.TagLinks.{LinkView}
use Rattle.tlv_area.specs.declared.space.Space.{Space}
use Rattle.tag_reader.specs.declared.how.How.TheVariants.{T2}
use Rattle.tag_reader.specs.Asked.{ToWrite}
use Rattle.tag_reader.specs.Heard.{IsFaultBy}
use Rattle.tag_reader.specs.private.SurveySteps.{ReadsAll}
use Rattle.tag_reader.proofs.Looking.{of_under, next_number, looks_more}
use Rattle.tag_reader.proofs.Endings.{ends_later}
use Rattle.tag_reader.proofs.AreaSurveys.{left, brings_more}
use Rattle.tag_reader.proofs.Surveys.{looks_all}
use Rattle.tag_reader.proofs.Needing.{on_err, looks_needs}
use Rattle.tag_reader.proofs.area.read_all.Goals as goal

pub returns-in_err-space-clause-reads : goal.returns-in_err-space-clause-reads
returns-in_err-space-clause-reads g c =
    let a : LinkView = g.T.TagLink.seen c.args.link.now in
    let new : LinkView = g.T.TagLink.seen c.open_area.new.link in
    let is_err : c.from_residual.result ≡ Err c.in_err-space.field-0.0 = search rules in
    subst (λ x. ReadsAll a new c.open_area.new.known.items x) (sym is_err) (c.in_err-space.ensures.opens ToWrite)

pub area-init : goal.area-init
area-init g c = record {
  walks = c.in_ok-space.ensures.opens ToWrite;
  looks = c.in_ok-space.ensures.sees;
  ready = c.in_ok-space.ensures.ready;
  same = c.in_ok-space.ensures.same;
  moves = c.in_ok-space.ensures.moves;
}

pub returns-in_err-ask_next-clause-reads : goal.returns-in_err-ask_next-clause-reads
returns-in_err-ask_next-clause-reads g c =
    let a : LinkView = g.T.TagLink.seen c.args.link.now in
    let old : LinkView = g.T.TagLink.seen c.area.link in
    let new : LinkView = g.T.TagLink.seen c.ask_next.new.link in
    let space : Space = c.in_ok-space.space in
    let is_err : c.from_residual-in_err-ask_next.result ≡ Err c.in_err-ask_next.field-0.0 = search rules in
    let short : length c.area.known.items < space.end = omega (arith, c.len.ensures, c.area-test.true) in
    subst (λ x. ReadsAll a new c.ask_next.new.known.items x) (sym is_err) (λ size is.
    (let walks = c.area.invariant.walks size is in
    let l = left size a old c.area.known.items space c.area.index is.store walks short in
    ends_later ToWrite size a old new c.area.known.items c.ask_next.new.known.items c.area.index c.in_err-ask_next.field-0.0 walks.knows (inr l.due)
    (c.in_err-ask_next.ensures.next size l.tag l.reach)))

pub area-preserved : goal.area-preserved
area-preserved g c =
    let a : LinkView = g.T.TagLink.seen c.args.link.now in
    let old : LinkView = g.T.TagLink.seen c.area.link in
    let new : LinkView = g.T.TagLink.seen c.ask_next.new.link in
    let space : Space = c.in_ok-space.space in
    let looks = c.area.invariant.looks in
    let short : length c.area.known.items < space.end = omega (arith, c.len.ensures, c.area-test.true) in
    record {
      walks = λ size is.
          (let walks = c.area.invariant.walks size is in
          let l = left size a old c.area.known.items space c.area.index is.store walks short in
          brings_more size a old new c.area.known.items c.ask_next.new.known.items space c.area.index is.store walks l (c.in_ok-ask_next.ensures.next size l.tag l.reach));
      looks = looks_more a old new c.area.known.items c.ask_next.new.known.items space c.area.index looks (c.in_ok-ask_next.ensures.gains a looks.ps looks.under looks.count);
      ready = c.in_ok-ask_next.ensures.ready;
      same = c.in_ok-ask_next.ensures.same ∙ c.area.invariant.same;
      moves = g.met.T.TagLink.goes_on c.args.link.now c.area.link c.ask_next.new.link c.area.invariant.moves c.in_ok-ask_next.ensures.moves;
    }

pub returns-clause-reads : goal.returns-clause-reads
returns-clause-reads g c size is = record { n = c.area.index; walks = c.area.invariant.walks size is; whole = omega (arith, c.len.ensures, c.area-test.false) }

-- the next READ has a number
pub overflow_add-index : goal.overflow_add-index
overflow_add-index g c =
    let short : length c.area.known.items < c.in_ok-space.space.end = omega (arith, c.len.ensures, c.area-test.true) in
    omega (
      arith,
      next_number (g.T.TagLink.seen c.args.link.now) (g.T.TagLink.seen c.area.link) c.area.known.items c.in_ok-space.space c.area.index c.area.invariant.looks c.in_ok-space.ensures.area
          short,
    )

pub ask_next-requires-clause-number : goal.ask_next-requires-clause-number
ask_next-requires-clause-number g c =
    let short : length c.area.known.items < c.in_ok-space.space.end = omega (arith, c.len.ensures, c.area-test.true) in
    next_number (g.T.TagLink.seen c.args.link.now) (g.T.TagLink.seen c.area.link) c.area.known.items c.in_ok-space.space c.area.index c.area.invariant.looks c.in_ok-space.ensures.area short

pub ask_next-requires-clause-of : goal.ask_next-requires-clause-of
ask_next-requires-clause-of g c =
    of_under T2 (g.T.TagLink.seen c.args.link.now) (g.T.TagLink.seen c.area.link) c.area.invariant.looks.ps c.requires.of c.area.invariant.looks.under

-- whatever the tag does
pub returns-in_err-space-clause-hears : goal.returns-in_err-space-clause-hears
returns-in_err-space-clause-hears g c =
    let a : LinkView = g.T.TagLink.seen c.args.link.now in
    let h : IsFaultBy T2 a (g.T.TagLink.seen c.open_area.new.link) c.in_err-space.field-0.0 = c.in_err-space.ensures.sees in
    search rules

pub returns-in_err-ask_next-clause-hears : goal.returns-in_err-ask_next-clause-hears
returns-in_err-ask_next-clause-hears g c =
    let a : LinkView = g.T.TagLink.seen c.args.link.now in
    let looks = c.area.invariant.looks in
    let h : IsFaultBy T2 a (g.T.TagLink.seen c.ask_next.new.link) c.in_err-ask_next.field-0.0 = c.in_err-ask_next.ensures.gains a looks.ps looks.under looks.count in
    search rules

pub returns-clause-hears : goal.returns-clause-hears
returns-clause-hears g c = looks_all (g.T.TagLink.seen c.args.link.now) (g.T.TagLink.seen c.area.link) c.area.known.items c.in_ok-space.space c.area.index c.area.invariant.looks

-- it asks for what it needs
pub returns-in_err-space-clause-needs : goal.returns-in_err-space-clause-needs
returns-in_err-space-clause-needs g c = on_err _ c.from_residual.result c.in_err-space.ensures.needs

pub returns-in_err-ask_next-clause-needs : goal.returns-in_err-ask_next-clause-needs
returns-in_err-ask_next-clause-needs g c =
    let short : length c.area.known.items < c.in_ok-space.space.end = omega (arith, c.len.ensures, c.area-test.true) in
    on_err _ c.from_residual-in_err-ask_next.result
    (looks_needs (g.T.TagLink.seen c.args.link.now) (g.T.TagLink.seen c.area.link) (g.T.TagLink.seen c.ask_next.new.link) c.area.known.items c.in_ok-space.space c.area.index c.area.invariant.looks
    short
    c.in_err-ask_next.ensures.cut)
