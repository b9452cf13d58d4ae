use Rattle.std.proofs.Common.{rules, ◌≡◌, [], refl, sym, subst, Err}
use Rattle.nfc_base.specs.TagLinks.{LinkView}
use Rattle.tag_reader.specs.declared.how.How.TheVariants.{T2}
use Rattle.tag_reader.specs.Heard.{IsFaultBy}
use Rattle.tag_reader.specs.Steps.{OpensArea, of_container}
use Rattle.tag_reader.proofs.Bringing.{under_none}
use Rattle.tag_reader.proofs.Looking.{first_holds, first_looks, first_faulty}
use Rattle.tag_reader.proofs.Endings.{ends_first}
use Rattle.tag_reader.proofs.Turns.{first_reach, begun, first_fault, first_walk}
use Rattle.tag_reader.proofs.Needing.{on_err, cut_needs, nothing_unsaid, container_needs}
use Rattle.tag_reader.proofs.Exits.{exit_is}
use Rattle.tag_reader.proofs.Filing.{or_fault}
use Rattle.tag_reader.proofs.finding.open_area.Goals as goal

pub returns-in_err-ask_next-clause-opens : goal.returns-in_err-ask_next-clause-opens
returns-in_err-ask_next-clause-opens g c aim =
    let a : LinkView = g.T.TagLink.seen c.args.link.now in
    let new : LinkView = g.T.TagLink.seen c.ask_next.new.link in
    let is_err : c.from_residual.result ≡ Err c.in_err-ask_next.field-0.0 = search rules in
    subst (λ x. OpensArea aim a new c.ask_next.new.known.items x) (sym is_err) (λ size is.
    ends_first aim T2 size a new c.ask_next.new.known.items c.in_err-ask_next.field-0.0 (c.in_err-ask_next.ensures.next size is (first_reach size a.state.store is.store)))

pub returns-in_err-space_of-clause-opens : goal.returns-in_err-space_of-clause-opens
returns-in_err-space_of-clause-opens g c aim =
    let a : LinkView = g.T.TagLink.seen c.args.link.now in
    let new : LinkView = g.T.TagLink.seen c.ask_next.new.link in
    let exit : c.from_residual-in_err-space_of.result ≡ Err (of_container c.in_err-space_of.field-0.0) =
    exit_is c.from_residual-in_err-space_of.result (of_container c.in_err-space_of.field-0.0) c.from_residual-in_err-space_of.ensures.1 in
    subst (λ x. OpensArea aim a new c.ask_next.new.known.items x) (sym exit) (λ size is.
    (let knows = begun aim size a new c.args.known.now.items c.ask_next.new.known.items is c.requires.begun (c.in_ok-ask_next.ensures.next size is (first_reach size a.state.store is.store)) in
    first_fault aim size a new c.ask_next.new.known.items c.as_slice.result.now c.in_err-space_of.field-0.0 (of_container c.in_err-space_of.field-0.0) is.store knows c.as_slice.ensures.value
    c.in_err-space_of.ensures.exact refl))

pub returns-clause-opens : goal.returns-clause-opens
returns-clause-opens g c aim size is =
    let a : LinkView = g.T.TagLink.seen c.args.link.now in
    let new : LinkView = g.T.TagLink.seen c.ask_next.new.link in
    let knows = begun aim size a new c.args.known.now.items c.ask_next.new.known.items is c.requires.begun (c.in_ok-ask_next.ensures.next size is (first_reach size a.state.store is.store)) in
    first_walk size a new c.ask_next.new.known.items c.as_slice.result.now c.in_ok-space_of.field-0 is.store knows c.as_slice.ensures.value c.in_ok-space_of.ensures.exact

-- whatever the tag does
pub space_of-requires : goal.space_of-requires
space_of-requires g c =
    let a : LinkView = g.T.TagLink.seen c.args.link.now in
    first_holds a (g.T.TagLink.seen c.ask_next.new.link) c.args.known.now.items c.ask_next.new.known.items c.as_slice.result.now c.requires.begun
    (c.in_ok-ask_next.ensures.gains a [] (under_none T2 a) refl) c.as_slice.ensures.value

pub returns-in_err-ask_next-clause-sees : goal.returns-in_err-ask_next-clause-sees
returns-in_err-ask_next-clause-sees g c =
    let a : LinkView = g.T.TagLink.seen c.args.link.now in
    let h : IsFaultBy T2 a (g.T.TagLink.seen c.ask_next.new.link) c.in_err-ask_next.field-0.0 = c.in_err-ask_next.ensures.gains a [] (under_none T2 a) refl in
    search rules

pub returns-in_err-space_of-clause-sees : goal.returns-in_err-space_of-clause-sees
returns-in_err-space_of-clause-sees g c =
    let a : LinkView = g.T.TagLink.seen c.args.link.now in
    let new : LinkView = g.T.TagLink.seen c.ask_next.new.link in
    let exit : c.from_residual-in_err-space_of.result ≡ Err (of_container c.in_err-space_of.field-0.0) =
    exit_is c.from_residual-in_err-space_of.result (of_container c.in_err-space_of.field-0.0) c.from_residual-in_err-space_of.ensures.1 in
    or_fault _ T2 a new c.from_residual-in_err-space_of.result (of_container c.in_err-space_of.field-0.0) exit
    (first_faulty a new c.args.known.now.items c.ask_next.new.known.items c.as_slice.result.now c.in_err-space_of.field-0.0 (of_container c.in_err-space_of.field-0.0) c.requires.begun
    (c.in_ok-ask_next.ensures.gains a [] (under_none T2 a) refl) c.as_slice.ensures.value c.in_err-space_of.ensures.exact refl)

pub returns-clause-sees : goal.returns-clause-sees
returns-clause-sees g c =
    let a : LinkView = g.T.TagLink.seen c.args.link.now in
    first_looks a (g.T.TagLink.seen c.ask_next.new.link) c.args.known.now.items c.ask_next.new.known.items c.as_slice.result.now c.in_ok-space_of.field-0 c.requires.begun
    (c.in_ok-ask_next.ensures.gains a [] (under_none T2 a) refl) c.as_slice.ensures.value c.in_ok-space_of.ensures.exact

-- it asks for what it needs
pub returns-in_err-ask_next-clause-needs : goal.returns-in_err-ask_next-clause-needs
returns-in_err-ask_next-clause-needs g c =
    let a : LinkView = g.T.TagLink.seen c.args.link.now in
    on_err _ c.from_residual.result (cut_needs T2 a a (g.T.TagLink.seen c.ask_next.new.link) [] (under_none T2 a) nothing_unsaid c.in_err-ask_next.ensures.cut)

pub returns-in_err-space_of-clause-needs : goal.returns-in_err-space_of-clause-needs
returns-in_err-space_of-clause-needs g c =
    let a : LinkView = g.T.TagLink.seen c.args.link.now in
    let new : LinkView = g.T.TagLink.seen c.ask_next.new.link in
    on_err _ c.from_residual-in_err-space_of.result (container_needs T2 a new c.in_err-space_of.field-0.0
    (first_faulty a new c.args.known.now.items c.ask_next.new.known.items c.as_slice.result.now c.in_err-space_of.field-0.0 (of_container c.in_err-space_of.field-0.0) c.requires.begun
    (c.in_ok-ask_next.ensures.gains a [] (under_none T2 a) refl) c.as_slice.ensures.value c.in_err-space_of.ensures.exact refl))
