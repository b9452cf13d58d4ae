use Rattle.std.proofs.Common.{rules, ◌≡◌, suc, [], ◌∷◌, ◌++◌, length, take, Ok, Err, sym, ◌∙◌, ap, subst, arith}
use Rattle.std.proofs.lemmas.List.{append-nil, take_all}
use Rattle.nfc_base.specs.TagLinks.{LinkView}
use Rattle.tlv_area.specs.declared.space.Space.{Space}
use Rattle.tlv_area.specs.declared.walk.Walk.TheVariants as walk
use Rattle.tlv_area.specs.Form as form
use Rattle.tlv_area.specs.Walking.{HasCome}
use Rattle.tag_reader.specs.declared.how.How.TheVariants.{T5}
use Rattle.tag_reader.specs.Asked.{ToRead}
use Rattle.tag_reader.specs.Steps.{Reads, IsCutFault}
use Rattle.tag_reader.specs.private.BlockSteps.{LooksBlocks, SeesBlocks, NextBlocks, GainsBlocks, EndsBlocks, HasRunOut}
use Rattle.tag_reader.proofs.Looking.{known_short}
use Rattle.tag_reader.proofs.Walking.{finds_in, needs_in, short_in, come_further}
use Rattle.tag_reader.proofs.BlockEndings.{grown_by, names_more, names_begins, any_known, blocks_none, blocks_bad, blocks_held, blocks_due, blocks_cut, lacks_here, sees_here, read_form, cut_here}
use Rattle.tag_reader.proofs.block_finding.find_in_blocks.Goals as goal

pub find_message-requires : goal.find_message-requires
find_message-requires g c = record {
  come =
      let before : c.front.result.now ≡ take c.in_ok-space.space.end c.walk.known.bytes.items = c.front.ensures ∙ ap (λ k. take c.in_ok-space.space.end k) c.as_slice.ensures.value in
      let after : c.front-2.result.now ≡ take c.in_ok-space.space.end c.walk.known.bytes.items = c.front-2.ensures ∙ ap (λ k. take c.in_ok-space.space.end k) c.as_slice-2.ensures.value in
      subst (HasCome c.needs_more.new.self) (append-nil c.front.result.now ∙ before ∙ sym after) (c.needs_more.ensures.come []);
}

pub returns-in_err-space-clause-reads : goal.returns-in_err-space-clause-reads
returns-in_err-space-clause-reads g c size is =
    let a : LinkView = g.T.TagLink.seen c.args.link.now in
    let new : LinkView = g.T.TagLink.seen c.open_area.new.link in
    let h : Reads ToRead (T5 c.args.id) size a new c.open_area.new.known.bytes.items (Err c.in_err-space.field-0.0) =
    any_known c.args.id size a new [] c.open_area.new.known.bytes.items c.in_err-space.field-0.0 (c.in_err-space.ensures.opens ToRead size is) in
    let is_err : c.from_residual.result ≡ Err c.in_err-space.field-0.0 = search rules in
    subst (λ x. Reads ToRead (T5 c.args.id) size a new c.open_area.new.known.bytes.items x) (sym is_err) h

pub cut_fault-requires-clause-more : goal.cut_fault-requires-clause-more
cut_fault-requires-clause-more g c =
    let a : LinkView = g.T.TagLink.seen c.args.link.now in
    let new : LinkView = g.T.TagLink.seen c.ask_blocks.new.link in
    let space : Space = c.in_ok-space.space in
    let looks : LooksBlocks c.args.id a (g.T.TagLink.seen c.walk.link) c.walk.known = c.walk.invariant.looks in
    let e : c.front.result.now ≡ take space.end c.walk.known.bytes.items = c.front.ensures ∙ ap (λ k. take space.end k) c.as_slice.ensures.value in
    let short = known_short c.walk.known.bytes.items c.front.result.now space.end e (short_in c.walk.walker space c.front.result.now c.walk.invariant.space
    (c.needs_more.ensures.short c.walk-test.true)) in
    let ends : EndsBlocks c.args.id a new looks.ps c.walk.known c.ask_blocks.new.known =
    subst (λ m. SeesBlocks c.args.id a new looks.ps c.walk.known c.ask_blocks.new.known (Ok m)) c.if-not-goes_on.true (c.in_ok-goes_on.ensures.sees a looks.ps looks.under looks.known') in
    let whole : c.front.result.now ≡ c.as_slice-then-not-goes_on.result.now =
    e ∙ take_all space.end c.walk.known.bytes.items (omega (arith, short)) ∙ sym (c.as_slice-then-not-goes_on.ensures.value ∙ ap (λ k. k.bytes.items) ends.same) in
    subst (λ xs. form.NeedsMore space xs) whole (needs_in c.walk.walker space c.front.result.now c.walk.invariant.space (c.needs_more.ensures.more.0 c.walk-test.true))

pub returns-in_err-goes_on-clause-reads : goal.returns-in_err-goes_on-clause-reads
returns-in_err-goes_on-clause-reads g c size is =
    let a : LinkView = g.T.TagLink.seen c.args.link.now in
    let old : LinkView = g.T.TagLink.seen c.walk.link in
    let new : LinkView = g.T.TagLink.seen c.ask_blocks.new.link in
    let space : Space = c.in_ok-space.space in
    let e : c.front.result.now ≡ take space.end c.walk.known.bytes.items = c.front.ensures ∙ ap (λ k. take space.end k) c.as_slice.ensures.value in
    let r = c.walk.invariant.reading size is in
    let due = blocks_due c.args.id size r.0 a old c.walk.known space c.front.result.now r.1 c.walk.invariant.names e
    (short_in c.walk.walker space c.front.result.now c.walk.invariant.space (c.needs_more.ensures.short c.walk-test.true))
    (needs_in c.walk.walker space c.front.result.now c.walk.invariant.space (c.needs_more.ensures.more.0 c.walk-test.true)) in
    let h : Reads ToRead (T5 c.args.id) size a new c.ask_blocks.new.known.bytes.items (Err c.in_err-goes_on.field-0.0) =
    any_known c.args.id size a new [] c.ask_blocks.new.known.bytes.items c.in_err-goes_on.field-0.0 (c.in_err-goes_on.ensures.next ToRead size (suc r.0) a r.1 due) in
    let is_err : c.from_residual-in_err-goes_on.result ≡ Err c.in_err-goes_on.field-0.0 = search rules in
    subst (λ x. Reads ToRead (T5 c.args.id) size a new c.ask_blocks.new.known.bytes.items x) (sym is_err) h

pub cut_fault-requires-clause-begins : goal.cut_fault-requires-clause-begins
cut_fault-requires-clause-begins g c =
    let a : LinkView = g.T.TagLink.seen c.args.link.now in
    let new : LinkView = g.T.TagLink.seen c.ask_blocks.new.link in
    let looks : LooksBlocks c.args.id a (g.T.TagLink.seen c.walk.link) c.walk.known = c.walk.invariant.looks in
    let ends : EndsBlocks c.args.id a new looks.ps c.walk.known c.ask_blocks.new.known =
    subst (λ m. SeesBlocks c.args.id a new looks.ps c.walk.known c.ask_blocks.new.known (Ok m)) c.if-not-goes_on.true (c.in_ok-goes_on.ensures.sees a looks.ps looks.under looks.known') in
    let low = names_begins c.walk.known c.in_ok-space.space c.walk.invariant.names in
    omega (arith, low, ap length (c.as_slice-then-not-goes_on.ensures.value ∙ ap (λ k. k.bytes.items) ends.same))

pub returns-then-not-goes_on-clause-sees : goal.returns-then-not-goes_on-clause-sees
returns-then-not-goes_on-clause-sees g c =
    let a : LinkView = g.T.TagLink.seen c.args.link.now in
    let new : LinkView = g.T.TagLink.seen c.ask_blocks.new.link in
    let space : Space = c.in_ok-space.space in
    let looks : LooksBlocks c.args.id a (g.T.TagLink.seen c.walk.link) c.walk.known = c.walk.invariant.looks in
    let e : c.front.result.now ≡ take space.end c.walk.known.bytes.items = c.front.ensures ∙ ap (λ k. take space.end k) c.as_slice.ensures.value in
    let short = known_short c.walk.known.bytes.items c.front.result.now space.end e (short_in c.walk.walker space c.front.result.now c.walk.invariant.space
    (c.needs_more.ensures.short c.walk-test.true)) in
    let ends : EndsBlocks c.args.id a new looks.ps c.walk.known c.ask_blocks.new.known =
    subst (λ m. SeesBlocks c.args.id a new looks.ps c.walk.known c.ask_blocks.new.known (Ok m)) c.if-not-goes_on.true (c.in_ok-goes_on.ensures.sees a looks.ps looks.under looks.known') in
    cut_here c.args.id a (g.T.TagLink.seen c.walk.link) new looks.ps c.walk.known c.ask_blocks.new.known space c.cut_fault.result looks.under looks.known' c.walk.invariant.names short ends
    (subst (λ xs. IsCutFault space xs c.cut_fault.result) (c.as_slice-then-not-goes_on.ensures.value ∙ ap (λ k. k.bytes.items) ends.same) c.cut_fault.ensures)

pub returns-then-not-goes_on-clause-reads : goal.returns-then-not-goes_on-clause-reads
returns-then-not-goes_on-clause-reads g c size is =
    let a : LinkView = g.T.TagLink.seen c.args.link.now in
    let old : LinkView = g.T.TagLink.seen c.walk.link in
    let new : LinkView = g.T.TagLink.seen c.ask_blocks.new.link in
    let space : Space = c.in_ok-space.space in
    let e : c.front.result.now ≡ take space.end c.walk.known.bytes.items = c.front.ensures ∙ ap (λ k. take space.end k) c.as_slice.ensures.value in
    let less = short_in c.walk.walker space c.front.result.now c.walk.invariant.space (c.needs_more.ensures.short c.walk-test.true) in
    let short = known_short c.walk.known.bytes.items c.front.result.now space.end e less in
    let r = c.walk.invariant.reading size is in
    let due = blocks_due c.args.id size r.0 a old c.walk.known space c.front.result.now r.1 c.walk.invariant.names e less
    (needs_in c.walk.walker space c.front.result.now c.walk.invariant.space (c.needs_more.ensures.more.0 c.walk-test.true)) in
    let ends : HasRunOut ToRead c.args.id size a new c.walk.known c.ask_blocks.new.known (suc r.0) =
    subst (λ m. NextBlocks ToRead c.args.id size a new c.walk.known c.ask_blocks.new.known (suc r.0) (Ok m)) c.if-not-goes_on.true (c.in_ok-goes_on.ensures.next ToRead size (suc r.0) a r.1 due) in
    blocks_cut c.args.id size r.0 a old new c.walk.known c.ask_blocks.new.known space c.cut_fault.result r.1 c.walk.invariant.names short ends
    (subst (λ xs. IsCutFault space xs c.cut_fault.result) (c.as_slice-then-not-goes_on.ensures.value ∙ ap (λ k. k.bytes.items) ends.same) c.cut_fault.ensures)

pub walk-preserved : goal.walk-preserved
walk-preserved g c =
    let a : LinkView = g.T.TagLink.seen c.args.link.now in
    let old : LinkView = g.T.TagLink.seen c.walk.link in
    let new : LinkView = g.T.TagLink.seen c.ask_blocks.new.link in
    let space : Space = c.in_ok-space.space in
    let looks : LooksBlocks c.args.id a old c.walk.known = c.walk.invariant.looks in
    let e : c.front.result.now ≡ take space.end c.walk.known.bytes.items = c.front.ensures ∙ ap (λ k. take space.end k) c.as_slice.ensures.value in
    let gains : GainsBlocks c.args.id a new looks.ps c.ask_blocks.new.known =
    subst (λ m. SeesBlocks c.args.id a new looks.ps c.walk.known c.ask_blocks.new.known (Ok m)) c.if-not-goes_on.false (c.in_ok-goes_on.ensures.sees a looks.ps looks.under looks.known') in
    let grown = grown_by looks.ps gains.piece c.walk.known c.ask_blocks.new.known looks.known' gains.known' in
    record {
      looks = record { ps = looks.ps ++ gains.piece ∷ []; under = gains.under; known' = gains.known' };
      names = names_more c.args.id a new looks.ps c.walk.known c.ask_blocks.new.known space looks.known' c.walk.invariant.names gains;
      reading = λ size is.
          (let r = c.walk.invariant.reading size is in
          let due = blocks_due c.args.id size r.0 a old c.walk.known space c.front.result.now r.1 c.walk.invariant.names e
          (short_in c.walk.walker space c.front.result.now c.walk.invariant.space (c.needs_more.ensures.short c.walk-test.true))
          (needs_in c.walk.walker space c.front.result.now c.walk.invariant.space (c.needs_more.ensures.more.0 c.walk-test.true)) in (
            suc r.0,
            subst (λ m. NextBlocks ToRead c.args.id size a new c.walk.known c.ask_blocks.new.known (suc r.0) (Ok m)) c.if-not-goes_on.false
                (c.in_ok-goes_on.ensures.next ToRead size (suc r.0) a r.1 due),
          ));
      space = c.needs_more.ensures.space ∙ c.walk.invariant.space;
      come = come_further c.needs_more.new.self space.end c.walk.known.bytes.items c.front.result.now gains.piece c.ask_blocks.new.known.bytes.items e grown c.needs_more.ensures.come;
      ready = c.in_ok-goes_on.ensures.ready;
      same = c.in_ok-goes_on.ensures.same ∙ c.walk.invariant.same;
      moves = g.met.T.TagLink.goes_on c.args.link.now c.walk.link c.ask_blocks.new.link c.walk.invariant.moves c.in_ok-goes_on.ensures.moves;
    }

pub returns-in-Held-clause-sees : goal.returns-in-Held-clause-sees
returns-in-Held-clause-sees g c =
    let looks = c.walk.invariant.looks in
    let space : Space = c.in_ok-space.space in
    let finds = finds_in c.needs_more.new.self space c.front-2.result.now (walk.Held c.in-Held.map) (c.needs_more.ensures.space ∙ c.walk.invariant.space) c.in-Held.ensures.finds in
    let e : c.front-2.result.now ≡ take space.end c.walk.known.bytes.items = c.front-2.ensures ∙ ap (λ k. take space.end k) c.as_slice-2.ensures.value in
    sees_here c.args.id (g.T.TagLink.seen c.args.link.now) (g.T.TagLink.seen c.walk.link) looks.ps c.walk.known space looks.under looks.known' c.walk.invariant.names c.front-2.result.now c.in-Held.map
    e
    (λ more. finds.front more tt) (λ more. finds.settled more tt) finds.places

pub returns-in-Held-clause-reads : goal.returns-in-Held-clause-reads
returns-in-Held-clause-reads g c size is =
    let space : Space = c.in_ok-space.space in
    let finds = finds_in c.needs_more.new.self space c.front-2.result.now (walk.Held c.in-Held.map) (c.needs_more.ensures.space ∙ c.walk.invariant.space) c.in-Held.ensures.finds in
    let e : c.front-2.result.now ≡ take space.end c.walk.known.bytes.items = c.front-2.ensures ∙ ap (λ k. take space.end k) c.as_slice-2.ensures.value in
    let r = c.walk.invariant.reading size is in
    blocks_held c.args.id size r.0 (g.T.TagLink.seen c.args.link.now) (g.T.TagLink.seen c.walk.link) c.walk.known space c.front-2.result.now c.in-Held.map r.1 c.walk.invariant.names e
    (λ more. finds.front more tt) finds.places

pub returns-in-NoMessageTlv-clause-sees : goal.returns-in-NoMessageTlv-clause-sees
returns-in-NoMessageTlv-clause-sees g c =
    let looks = c.walk.invariant.looks in
    let space : Space = c.in_ok-space.space in
    let finds = finds_in c.needs_more.new.self space c.front-2.result.now walk.NoMessageTlv (c.needs_more.ensures.space ∙ c.walk.invariant.space) c.in-NoMessageTlv.ensures.finds in
    let e : c.front-2.result.now ≡ take space.end c.walk.known.bytes.items = c.front-2.ensures ∙ ap (λ k. take space.end k) c.as_slice-2.ensures.value in
    lacks_here c.args.id (g.T.TagLink.seen c.args.link.now) (g.T.TagLink.seen c.walk.link) looks.ps c.walk.known space looks.under looks.known' c.walk.invariant.names form.NoMessageTlv
    (read_form c.args.id (g.T.TagLink.seen c.args.link.now) (g.T.TagLink.seen c.walk.link) looks.ps c.walk.known space looks.under looks.known' c.walk.invariant.names c.front-2.result.now
    walk.NoMessageTlv e (λ more. finds.settled more tt))

pub returns-in-NoMessageTlv-clause-reads : goal.returns-in-NoMessageTlv-clause-reads
returns-in-NoMessageTlv-clause-reads g c size is =
    let space : Space = c.in_ok-space.space in
    let finds = finds_in c.needs_more.new.self space c.front-2.result.now walk.NoMessageTlv (c.needs_more.ensures.space ∙ c.walk.invariant.space) c.in-NoMessageTlv.ensures.finds in
    let e : c.front-2.result.now ≡ take space.end c.walk.known.bytes.items = c.front-2.ensures ∙ ap (λ k. take space.end k) c.as_slice-2.ensures.value in
    let r = c.walk.invariant.reading size is in
    blocks_none c.args.id size r.0 (g.T.TagLink.seen c.args.link.now) (g.T.TagLink.seen c.walk.link) c.walk.known space c.front-2.result.now r.1 c.walk.invariant.names e (λ more. finds.front more tt)

pub returns-in-BadTlv-clause-sees : goal.returns-in-BadTlv-clause-sees
returns-in-BadTlv-clause-sees g c =
    let looks = c.walk.invariant.looks in
    let space : Space = c.in_ok-space.space in
    let finds = finds_in c.needs_more.new.self space c.front-2.result.now walk.BadTlv (c.needs_more.ensures.space ∙ c.walk.invariant.space) c.in-BadTlv.ensures.finds in
    let e : c.front-2.result.now ≡ take space.end c.walk.known.bytes.items = c.front-2.ensures ∙ ap (λ k. take space.end k) c.as_slice-2.ensures.value in
    lacks_here c.args.id (g.T.TagLink.seen c.args.link.now) (g.T.TagLink.seen c.walk.link) looks.ps c.walk.known space looks.under looks.known' c.walk.invariant.names form.BadTlv
    (read_form c.args.id (g.T.TagLink.seen c.args.link.now) (g.T.TagLink.seen c.walk.link) looks.ps c.walk.known space looks.under looks.known' c.walk.invariant.names c.front-2.result.now walk.BadTlv
    e (λ more. finds.settled more tt))

pub returns-in-BadTlv-clause-reads : goal.returns-in-BadTlv-clause-reads
returns-in-BadTlv-clause-reads g c size is =
    let space : Space = c.in_ok-space.space in
    let finds = finds_in c.needs_more.new.self space c.front-2.result.now walk.BadTlv (c.needs_more.ensures.space ∙ c.walk.invariant.space) c.in-BadTlv.ensures.finds in
    let e : c.front-2.result.now ≡ take space.end c.walk.known.bytes.items = c.front-2.ensures ∙ ap (λ k. take space.end k) c.as_slice-2.ensures.value in
    let r = c.walk.invariant.reading size is in
    blocks_bad c.args.id size r.0 (g.T.TagLink.seen c.args.link.now) (g.T.TagLink.seen c.walk.link) c.walk.known space c.front-2.result.now r.1 c.walk.invariant.names e (λ more. finds.front more tt)
