use Rattle.std.proofs.Common.{rules, ◌≡◌, suc, [], ◌∷◌, ◌++◌, true, false, Ok, Err, sym, ◌∙◌, ap, subst}
use Rattle.nfc_base.specs.TagLinks.{LinkView}
use Rattle.tlv_area.specs.Containers.{t5_is_open, t5_front}
use Rattle.tag_reader.specs.declared.how.How.TheVariants.{T5}
use Rattle.tag_reader.specs.Steps.{of_container}
use Rattle.tag_reader.specs.private.BlockSteps.{LooksBlocks, SeesBlocks, NextBlocks, GainsBlocks, EndsBlocks, HasRunOut, Opens}
use Rattle.tag_reader.proofs.BlockEndings.{known_size, closed_sized, some_known, open_due, names_ready, names_area, later, short_blocks, reads_short, faulty_blocks, reads_faulty}
use Rattle.tag_reader.proofs.Needing.{on_err, open_needs, none_needs, container_needs}
use Rattle.tag_reader.proofs.Exits.{exit_is}
use Rattle.tag_reader.proofs.Filing.{or_fault}
use Rattle.tag_reader.proofs.block_finding.open_area.Goals as goal

pub returns-then-not-goes_on-clause-sees : goal.returns-then-not-goes_on-clause-sees
returns-then-not-goes_on-clause-sees g c =
    let a : LinkView = g.T.TagLink.seen c.args.link.now in
    let new : LinkView = g.T.TagLink.seen c.ask_blocks.new.link in
    let looks : LooksBlocks c.args.id a (g.T.TagLink.seen c.open.link) c.open.known = c.open.invariant.looks in
    let open' : t5_is_open c.open.known.bytes.items ≡ true = sym (c.is_open.ensures ∙ ap t5_is_open c.as_slice.ensures.value) ∙ c.open-test.true in
    let ends : EndsBlocks c.args.id a new looks.ps c.open.known c.ask_blocks.new.known =
    subst (λ m. SeesBlocks c.args.id a new looks.ps c.open.known c.ask_blocks.new.known (Ok m)) c.if-not-goes_on.true (c.in_ok-goes_on.ensures.sees a looks.ps looks.under looks.known') in
    short_blocks c.args.id a new looks.ps c.open.known c.ask_blocks.new.known looks.known' open' ends

pub returns-then-not-goes_on-clause-opens : goal.returns-then-not-goes_on-clause-opens
returns-then-not-goes_on-clause-opens g c aim size is =
    let a : LinkView = g.T.TagLink.seen c.args.link.now in
    let new : LinkView = g.T.TagLink.seen c.ask_blocks.new.link in
    let open' : t5_is_open c.open.known.bytes.items ≡ true = sym (c.is_open.ensures ∙ ap t5_is_open c.as_slice.ensures.value) ∙ c.open-test.true in
    let r = c.open.invariant.reading aim size is in
    let due = open_due aim c.args.id size r.0 a (g.T.TagLink.seen c.open.link) c.open.known r.1 open' in
    let ends : HasRunOut aim c.args.id size a new c.open.known c.ask_blocks.new.known r.0 =
    subst (λ m. NextBlocks aim c.args.id size a new c.open.known c.ask_blocks.new.known r.0 (Ok m)) c.if-not-goes_on.true (c.in_ok-goes_on.ensures.next aim size r.0 a r.1 due) in
    reads_short c.args.id size r.0 a (g.T.TagLink.seen c.open.link) new c.open.known c.ask_blocks.new.known r.1 open' ends

pub returns-in_err-goes_on-clause-opens : goal.returns-in_err-goes_on-clause-opens
returns-in_err-goes_on-clause-opens g c aim =
    let a : LinkView = g.T.TagLink.seen c.args.link.now in
    let new : LinkView = g.T.TagLink.seen c.ask_blocks.new.link in
    let is_err : c.from_residual.result ≡ Err c.in_err-goes_on.field-0.0 = search rules in
    subst (λ x. Opens aim c.args.id a new c.ask_blocks.new.known x) (sym is_err) (λ size is.
    (let open' : t5_is_open c.open.known.bytes.items ≡ true = sym (c.is_open.ensures ∙ ap t5_is_open c.as_slice.ensures.value) ∙ c.open-test.true in
    let r = c.open.invariant.reading aim size is in
    c.in_err-goes_on.ensures.next aim size r.0 a r.1 (open_due aim c.args.id size r.0 a (g.T.TagLink.seen c.open.link) c.open.known r.1 open')))

pub open-preserved : goal.open-preserved
open-preserved g c =
    let a : LinkView = g.T.TagLink.seen c.args.link.now in
    let new : LinkView = g.T.TagLink.seen c.ask_blocks.new.link in
    let looks : LooksBlocks c.args.id a (g.T.TagLink.seen c.open.link) c.open.known = c.open.invariant.looks in
    let open' : t5_is_open c.open.known.bytes.items ≡ true = sym (c.is_open.ensures ∙ ap t5_is_open c.as_slice.ensures.value) ∙ c.open-test.true in
    let gains : GainsBlocks c.args.id a new looks.ps c.ask_blocks.new.known =
    subst (λ m. SeesBlocks c.args.id a new looks.ps c.open.known c.ask_blocks.new.known (Ok m)) c.if-not-goes_on.false (c.in_ok-goes_on.ensures.sees a looks.ps looks.under looks.known') in
    record {
      looks = record { ps = looks.ps ++ gains.piece ∷ []; under = gains.under; known' = gains.known' };
      reading = λ aim size is.
          (let r = c.open.invariant.reading aim size is in
          let due = open_due aim c.args.id size r.0 a (g.T.TagLink.seen c.open.link) c.open.known r.1 open' in
          (suc r.0, subst (λ m. NextBlocks aim c.args.id size a new c.open.known c.ask_blocks.new.known r.0 (Ok m)) c.if-not-goes_on.false (c.in_ok-goes_on.ensures.next aim size r.0 a r.1 due)));
      ready = c.in_ok-goes_on.ensures.ready;
      same = c.in_ok-goes_on.ensures.same ∙ c.open.invariant.same;
      moves = g.met.T.TagLink.goes_on c.args.link.now c.open.link c.ask_blocks.new.link c.open.invariant.moves c.in_ok-goes_on.ensures.moves;
    }

pub returns-clause-names : goal.returns-clause-names
returns-clause-names g c =
    let looks = c.open.invariant.looks in
    let closed : t5_is_open c.open.known.bytes.items ≡ false = sym (c.is_open.ensures ∙ ap t5_is_open c.as_slice.ensures.value) ∙ c.open-test.false in
    names_ready c.open.known c.as_slice-2.result.now c.in-Ready.space c.reach.result c.in-Ready.wide c.in-Ready.many
    (known_size c.args.id (g.T.TagLink.seen c.args.link.now) (g.T.TagLink.seen c.open.link) looks.ps c.open.known looks.under looks.known') closed c.as_slice-2.ensures.value
    (λ more. c.in_ok-space.ensures.front more (λ e. let f = c.in-Ready.is in cc) ∙ ap (λ f. Ok f) c.in-Ready.is) (c.reach.ensures c.in-Ready.many)

pub returns-clause-area : goal.returns-clause-area
returns-clause-area g c = names_area c.open.known c.reach.result (returns-clause-names g c)

pub returns-clause-opens : goal.returns-clause-opens
returns-clause-opens g c aim size is =
    let closed : t5_is_open c.open.known.bytes.items ≡ false = sym (c.is_open.ensures ∙ ap t5_is_open c.as_slice.ensures.value) ∙ c.open-test.false in
    let r = c.open.invariant.reading aim size is in
    later c.args.id size r.0 (g.T.TagLink.seen c.args.link.now) (g.T.TagLink.seen c.open.link) c.open.known r.1 closed

pub returns-in_err-space-clause-sees : goal.returns-in_err-space-clause-sees
returns-in_err-space-clause-sees g c =
    let a : LinkView = g.T.TagLink.seen c.args.link.now in
    let b : LinkView = g.T.TagLink.seen c.open.link in
    let looks = c.open.invariant.looks in
    let closed : t5_is_open c.open.known.bytes.items ≡ false = sym (c.is_open.ensures ∙ ap t5_is_open c.as_slice.ensures.value) ∙ c.open-test.false in
    let sized = closed_sized c.open.known (known_size c.args.id a b looks.ps c.open.known looks.under looks.known') closed in
    let front : t5_front c.open.known.bytes.items ≡ Err c.in_err-space.field-0.0 = ap t5_front (sym c.as_slice-2.ensures.value) ∙ sym c.in_err-space.ensures.exact in
    let exit : c.from_residual-in_err-space.result ≡ Err (of_container c.in_err-space.field-0.0) =
    exit_is c.from_residual-in_err-space.result (of_container c.in_err-space.field-0.0) c.from_residual-in_err-space.ensures.1 in
    or_fault _ (T5 c.args.id) a b c.from_residual-in_err-space.result (of_container c.in_err-space.field-0.0) exit
    (faulty_blocks c.args.id a b looks.ps c.open.known c.in_err-space.field-0.0 looks.under looks.known' (some_known looks.ps c.open.known looks.known' sized.0) closed front)

pub returns-in_err-space-clause-opens : goal.returns-in_err-space-clause-opens
returns-in_err-space-clause-opens g c aim =
    let a : LinkView = g.T.TagLink.seen c.args.link.now in
    let b : LinkView = g.T.TagLink.seen c.open.link in
    let closed : t5_is_open c.open.known.bytes.items ≡ false = sym (c.is_open.ensures ∙ ap t5_is_open c.as_slice.ensures.value) ∙ c.open-test.false in
    subst (λ x. Opens aim c.args.id a b c.open.known x) (sym (exit_is c.from_residual-in_err-space.result (of_container c.in_err-space.field-0.0) c.from_residual-in_err-space.ensures.1)) (λ size is.
    (let r = c.open.invariant.reading aim size is in
    let l = later c.args.id size r.0 a b c.open.known r.1 closed in
    reads_faulty aim c.args.id size l.0 a b c.open.known c.in_err-space.field-0.0 l.1 (λ more. ap (λ xs. t5_front (xs ++ more)) (sym c.as_slice-2.ensures.value) ∙ c.in_err-space.ensures.front
    more (λ e. cc))))

-- it asks for what it needs
pub returns-in_err-goes_on-clause-needs : goal.returns-in_err-goes_on-clause-needs
returns-in_err-goes_on-clause-needs g c =
    let open' : t5_is_open c.open.known.bytes.items ≡ true = sym (c.is_open.ensures ∙ ap t5_is_open c.as_slice.ensures.value) ∙ c.open-test.true in
    on_err _ c.from_residual.result
    (open_needs c.args.id (g.T.TagLink.seen c.args.link.now) (g.T.TagLink.seen c.open.link) (g.T.TagLink.seen c.ask_blocks.new.link) c.open.known c.open.invariant.looks open'
    c.in_err-goes_on.ensures.cut)

pub returns-then-not-goes_on-clause-needs : goal.returns-then-not-goes_on-clause-needs
returns-then-not-goes_on-clause-needs g c =
    none_needs (T5 c.args.id) (g.T.TagLink.seen c.args.link.now) (g.T.TagLink.seen c.ask_blocks.new.link) _ (returns-then-not-goes_on-clause-sees g c)

pub returns-in_err-space-clause-needs : goal.returns-in_err-space-clause-needs
returns-in_err-space-clause-needs g c =
    let a : LinkView = g.T.TagLink.seen c.args.link.now in
    let b : LinkView = g.T.TagLink.seen c.open.link in
    let looks = c.open.invariant.looks in
    let closed : t5_is_open c.open.known.bytes.items ≡ false = sym (c.is_open.ensures ∙ ap t5_is_open c.as_slice.ensures.value) ∙ c.open-test.false in
    let sized = closed_sized c.open.known (known_size c.args.id a b looks.ps c.open.known looks.under looks.known') closed in
    let front : t5_front c.open.known.bytes.items ≡ Err c.in_err-space.field-0.0 = ap t5_front (sym c.as_slice-2.ensures.value) ∙ sym c.in_err-space.ensures.exact in
    on_err _ c.from_residual-in_err-space.result (container_needs (T5 c.args.id) a b c.in_err-space.field-0.0
    (faulty_blocks c.args.id a b looks.ps c.open.known c.in_err-space.field-0.0 looks.under looks.known' (some_known looks.ps c.open.known looks.known' sized.0) closed front))
