use Rattle.std.proofs.Common.{rules, ◌≡◌, [], take, inr, sym, subst, ◌∙◌, ap, arith, Err}
use Rattle.std.proofs.lemmas.List.{append-nil}
use Rattle.nfc_base.specs.TagLinks.{LinkView}
use Rattle.tlv_area.specs.declared.space.Space.{Space}
use Rattle.tlv_area.specs.declared.walk.Walk.TheVariants as walk
use Rattle.tlv_area.specs.Walking.{HasCome}
use Rattle.tag_reader.specs.declared.how.How.TheVariants.{T2}
use Rattle.tag_reader.specs.Asked.{ToRead}
use Rattle.tag_reader.specs.Steps.{ReadsMap}
use Rattle.tag_reader.specs.Heard.{IsFaultBy}
use Rattle.tag_reader.proofs.Looking.{of_under, known_short, next_number, looks_none, looks_bad, looks_held, looks_more}
use Rattle.tag_reader.proofs.Endings.{ends_later}
use Rattle.tag_reader.proofs.Turns.{held, none, bad, next, goes_on}
use Rattle.tag_reader.proofs.Walking.{finds_in, needs_in, short_in, come_further}
use Rattle.tag_reader.proofs.finding.find_map.Goals as goal

pub needs_more-requires : goal.needs_more-requires
needs_more-requires g c = record {
  come = subst (HasCome c.walk.walker) (sym (c.front.ensures ∙ ap (λ k. take c.in_ok-space.space.end k) c.as_slice.ensures.value)) c.walk.invariant.come;
}

pub find_message-requires : goal.find_message-requires
find_message-requires g c = record {
  come =
      let before : c.front.result.now ≡ take c.in_ok-space.space.end c.walk.known.items = c.front.ensures ∙ ap (λ k. take c.in_ok-space.space.end k) c.as_slice.ensures.value in
      let after : c.front-2.result.now ≡ take c.in_ok-space.space.end c.walk.known.items = c.front-2.ensures ∙ ap (λ k. take c.in_ok-space.space.end k) c.as_slice-2.ensures.value in
      subst (HasCome c.needs_more.new.self) (append-nil c.front.result.now ∙ before ∙ sym after) (c.needs_more.ensures.come []);
}

pub returns-in_err-space-clause-reads : goal.returns-in_err-space-clause-reads
returns-in_err-space-clause-reads g c =
    let is_err : c.from_residual.result ≡ Err c.in_err-space.field-0.0 = search rules in
    subst (λ x. ReadsMap (g.T.TagLink.seen c.args.link.now) (g.T.TagLink.seen c.open_area.new.link) c.open_area.new.known.items x) (sym is_err) (c.in_err-space.ensures.opens ToRead)

pub walk-init : goal.walk-init
walk-init g c = record {
  walks = c.in_ok-space.ensures.opens ToRead;
  looks = c.in_ok-space.ensures.sees;
  space = c.new-walker.ensures.space;
  come = c.new-walker.ensures.begun _;
  ready = c.in_ok-space.ensures.ready;
  same = c.in_ok-space.ensures.same;
  moves = c.in_ok-space.ensures.moves;
}

pub returns-in-Held-clause-reads : goal.returns-in-Held-clause-reads
returns-in-Held-clause-reads g c size is =
    let space : Space = c.in_ok-space.space in
    let finds = finds_in c.needs_more.new.self space c.front-2.result.now (walk.Held c.in-Held.map) (c.needs_more.ensures.space ∙ c.walk.invariant.space) c.in-Held.ensures.finds in
    let e : c.front-2.result.now ≡ take space.end c.walk.known.items = c.front-2.ensures ∙ ap (λ k. take space.end k) c.as_slice-2.ensures.value in
    held size (g.T.TagLink.seen c.args.link.now) (g.T.TagLink.seen c.walk.link) c.walk.known.items c.front-2.result.now space c.walk.index c.in-Held.map
    (c.walk.invariant.walks size is) e (λ more. finds.front more tt) finds.places

pub returns-in-NoMessageTlv-clause-reads : goal.returns-in-NoMessageTlv-clause-reads
returns-in-NoMessageTlv-clause-reads g c size is =
    let space : Space = c.in_ok-space.space in
    let finds = finds_in c.needs_more.new.self space c.front-2.result.now walk.NoMessageTlv (c.needs_more.ensures.space ∙ c.walk.invariant.space) c.in-NoMessageTlv.ensures.finds in
    let e : c.front-2.result.now ≡ take space.end c.walk.known.items = c.front-2.ensures ∙ ap (λ k. take space.end k) c.as_slice-2.ensures.value in
    none size (g.T.TagLink.seen c.args.link.now) (g.T.TagLink.seen c.walk.link) c.walk.known.items c.front-2.result.now space c.walk.index
    (c.walk.invariant.walks size is) e (λ more. finds.front more tt)

pub returns-in-BadTlv-clause-reads : goal.returns-in-BadTlv-clause-reads
returns-in-BadTlv-clause-reads g c size is =
    let space : Space = c.in_ok-space.space in
    let finds = finds_in c.needs_more.new.self space c.front-2.result.now walk.BadTlv (c.needs_more.ensures.space ∙ c.walk.invariant.space) c.in-BadTlv.ensures.finds in
    let e : c.front-2.result.now ≡ take space.end c.walk.known.items = c.front-2.ensures ∙ ap (λ k. take space.end k) c.as_slice-2.ensures.value in
    bad size (g.T.TagLink.seen c.args.link.now) (g.T.TagLink.seen c.walk.link) c.walk.known.items c.front-2.result.now space c.walk.index
    (c.walk.invariant.walks size is) e (λ more. finds.front more tt)

pub returns-in_err-ask_next-clause-reads : goal.returns-in_err-ask_next-clause-reads
returns-in_err-ask_next-clause-reads g c =
    let a : LinkView = g.T.TagLink.seen c.args.link.now in
    let old : LinkView = g.T.TagLink.seen c.walk.link in
    let new : LinkView = g.T.TagLink.seen c.ask_next.new.link in
    let space : Space = c.in_ok-space.space in
    let e : c.front.result.now ≡ take space.end c.walk.known.items = c.front.ensures ∙ ap (λ k. take space.end k) c.as_slice.ensures.value in
    let short = short_in c.walk.walker space c.front.result.now c.walk.invariant.space (c.needs_more.ensures.short c.walk-test.true) in
    let more = needs_in c.walk.walker space c.front.result.now c.walk.invariant.space (c.needs_more.ensures.more.0 c.walk-test.true) in
    let is_err : c.from_residual-in_err-ask_next.result ≡ Err c.in_err-ask_next.field-0.0 = search rules in
    subst (λ x. ReadsMap a new c.ask_next.new.known.items x) (sym is_err) (λ size is.
    (let walks = c.walk.invariant.walks size is in
    let due = next size a old c.walk.known.items c.front.result.now space c.walk.index is.store walks e short more in
    ends_later ToRead size a old new c.walk.known.items c.ask_next.new.known.items c.walk.index c.in_err-ask_next.field-0.0 walks.knows (inr due.due)
    (c.in_err-ask_next.ensures.next size due.tag due.reach)))

pub walk-preserved : goal.walk-preserved
walk-preserved g c =
    let a : LinkView = g.T.TagLink.seen c.args.link.now in
    let old : LinkView = g.T.TagLink.seen c.walk.link in
    let new : LinkView = g.T.TagLink.seen c.ask_next.new.link in
    let space : Space = c.in_ok-space.space in
    let looks = c.walk.invariant.looks in
    let e : c.front.result.now ≡ take space.end c.walk.known.items = c.front.ensures ∙ ap (λ k. take space.end k) c.as_slice.ensures.value in
    let short = short_in c.walk.walker space c.front.result.now c.walk.invariant.space (c.needs_more.ensures.short c.walk-test.true) in
    let more = needs_in c.walk.walker space c.front.result.now c.walk.invariant.space (c.needs_more.ensures.more.0 c.walk-test.true) in
    let gains = c.in_ok-ask_next.ensures.gains a looks.ps looks.under looks.count in
    record {
      walks = λ size is.
          (let walks = c.walk.invariant.walks size is in
          let due = next size a old c.walk.known.items c.front.result.now space c.walk.index is.store walks e short more in
          goes_on size a old new c.walk.known.items c.ask_next.new.known.items space c.walk.index is.store walks due (c.in_ok-ask_next.ensures.next size due.tag due.reach));
      looks = looks_more a old new c.walk.known.items c.ask_next.new.known.items space c.walk.index looks gains;
      space = c.needs_more.ensures.space ∙ c.walk.invariant.space;
      come = come_further c.needs_more.new.self space.end c.walk.known.items c.front.result.now gains.piece _ e gains.grown c.needs_more.ensures.come;
      ready = c.in_ok-ask_next.ensures.ready;
      same = c.in_ok-ask_next.ensures.same ∙ c.walk.invariant.same;
      moves = g.met.T.TagLink.goes_on c.args.link.now c.walk.link c.ask_next.new.link c.walk.invariant.moves c.in_ok-ask_next.ensures.moves;
    }

-- the next READ has a number
pub overflow_add-index : goal.overflow_add-index
overflow_add-index g c =
    let space : Space = c.in_ok-space.space in
    let e : c.front.result.now ≡ take space.end c.walk.known.items = c.front.ensures ∙ ap (λ k. take space.end k) c.as_slice.ensures.value in
    let short = known_short c.walk.known.items c.front.result.now space.end e (short_in c.walk.walker space c.front.result.now c.walk.invariant.space (c.needs_more.ensures.short c.walk-test.true)) in
    omega (arith, next_number (g.T.TagLink.seen c.args.link.now) (g.T.TagLink.seen c.walk.link) c.walk.known.items space c.walk.index c.walk.invariant.looks c.in_ok-space.ensures.area short)

pub ask_next-requires-clause-number : goal.ask_next-requires-clause-number
ask_next-requires-clause-number g c =
    let space : Space = c.in_ok-space.space in
    let e : c.front.result.now ≡ take space.end c.walk.known.items = c.front.ensures ∙ ap (λ k. take space.end k) c.as_slice.ensures.value in
    let short = known_short c.walk.known.items c.front.result.now space.end e (short_in c.walk.walker space c.front.result.now c.walk.invariant.space (c.needs_more.ensures.short c.walk-test.true)) in
    next_number (g.T.TagLink.seen c.args.link.now) (g.T.TagLink.seen c.walk.link) c.walk.known.items space c.walk.index c.walk.invariant.looks c.in_ok-space.ensures.area short

pub ask_next-requires-clause-of : goal.ask_next-requires-clause-of
ask_next-requires-clause-of g c =
    of_under T2 (g.T.TagLink.seen c.args.link.now) (g.T.TagLink.seen c.walk.link) c.walk.invariant.looks.ps c.requires.of c.walk.invariant.looks.under

-- whatever the tag does
pub returns-in_err-space-clause-sees : goal.returns-in_err-space-clause-sees
returns-in_err-space-clause-sees g c =
    let h : IsFaultBy T2 (g.T.TagLink.seen c.args.link.now) (g.T.TagLink.seen c.open_area.new.link) c.in_err-space.field-0.0 = c.in_err-space.ensures.sees in
    search rules

pub returns-in-Held-clause-sees : goal.returns-in-Held-clause-sees
returns-in-Held-clause-sees g c =
    let space : Space = c.in_ok-space.space in
    let finds = finds_in c.needs_more.new.self space c.front-2.result.now (walk.Held c.in-Held.map) (c.needs_more.ensures.space ∙ c.walk.invariant.space) c.in-Held.ensures.finds in
    let e : c.front-2.result.now ≡ take space.end c.walk.known.items = c.front-2.ensures ∙ ap (λ k. take space.end k) c.as_slice-2.ensures.value in
    looks_held (g.T.TagLink.seen c.args.link.now) (g.T.TagLink.seen c.walk.link) c.walk.known.items c.front-2.result.now space c.walk.index c.in-Held.map c.walk.invariant.looks e
    (λ more. finds.front more tt) (λ more. finds.settled more tt) finds.places

pub returns-in-NoMessageTlv-clause-sees : goal.returns-in-NoMessageTlv-clause-sees
returns-in-NoMessageTlv-clause-sees g c =
    let space : Space = c.in_ok-space.space in
    let finds = finds_in c.needs_more.new.self space c.front-2.result.now walk.NoMessageTlv (c.needs_more.ensures.space ∙ c.walk.invariant.space) c.in-NoMessageTlv.ensures.finds in
    let e : c.front-2.result.now ≡ take space.end c.walk.known.items = c.front-2.ensures ∙ ap (λ k. take space.end k) c.as_slice-2.ensures.value in
    looks_none (g.T.TagLink.seen c.args.link.now) (g.T.TagLink.seen c.walk.link) c.walk.known.items c.front-2.result.now space c.walk.index c.walk.invariant.looks e (λ more. finds.settled more tt)

pub returns-in-BadTlv-clause-sees : goal.returns-in-BadTlv-clause-sees
returns-in-BadTlv-clause-sees g c =
    let space : Space = c.in_ok-space.space in
    let finds = finds_in c.needs_more.new.self space c.front-2.result.now walk.BadTlv (c.needs_more.ensures.space ∙ c.walk.invariant.space) c.in-BadTlv.ensures.finds in
    let e : c.front-2.result.now ≡ take space.end c.walk.known.items = c.front-2.ensures ∙ ap (λ k. take space.end k) c.as_slice-2.ensures.value in
    looks_bad (g.T.TagLink.seen c.args.link.now) (g.T.TagLink.seen c.walk.link) c.walk.known.items c.front-2.result.now space c.walk.index c.walk.invariant.looks e (λ more. finds.settled more tt)

pub returns-in_err-ask_next-clause-sees : goal.returns-in_err-ask_next-clause-sees
returns-in_err-ask_next-clause-sees g c =
    let a : LinkView = g.T.TagLink.seen c.args.link.now in
    let looks = c.walk.invariant.looks in
    let h : IsFaultBy T2 a (g.T.TagLink.seen c.ask_next.new.link) c.in_err-ask_next.field-0.0 = c.in_err-ask_next.ensures.gains a looks.ps looks.under looks.count in
    search rules
