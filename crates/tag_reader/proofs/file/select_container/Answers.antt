use Rattle.std.proofs.Common.{arith, rules, [], ◌∷◌, refl}
use Rattle.nfc_base.specs.TagLinks.{LinkView}
use Rattle.tag_reader.specs.private.FileSteps.{EndsBy}
use Rattle.tag_reader.proofs.FileReading.{head_due, begins}
use Rattle.tag_reader.specs.declared.how.How.TheVariants.{T4}
use Rattle.tag_reader.specs.Heard.{IsFaultBy}
use Rattle.tag_reader.proofs.Bringing.{under_none}
use Rattle.tag_reader.proofs.Looking.{of_under}
use Rattle.tag_reader.proofs.Needing.{on_err, few_needs}
use Rattle.tag_reader.proofs.file.select_container.Goals as goal

pub returns-in_err-ask_file-clause-selects : goal.returns-in_err-ask_file-clause-selects
returns-in_err-ask_file-clause-selects g c aim size is =
    let a : LinkView = g.T.TagLink.seen c.args.link.now in
    let h : EndsBy aim size a (g.T.TagLink.seen c.ask_file.new.link) c.in_err-ask_file.field-0.0 =
    c.in_err-ask_file.ensures.next aim size 0 a (begins aim size a is) (head_due aim size a.state.store 0 (omega arith) tt) refl in
    search rules

pub returns-in_err-ask_file-2-clause-selects : goal.returns-in_err-ask_file-2-clause-selects
returns-in_err-ask_file-2-clause-selects g c aim size is =
    let a : LinkView = g.T.TagLink.seen c.args.link.now in
    let next = c.in_ok-ask_file.ensures.next aim size 0 a (begins aim size a is) (head_due aim size a.state.store 0 (omega arith) tt) refl in
    let h : EndsBy aim size a (g.T.TagLink.seen c.ask_file-2.new.link) c.in_err-ask_file-2.field-0.0 =
    c.in_err-ask_file-2.ensures.next aim size 1 a next.0 (head_due aim size a.state.store 1 (omega arith) tt) refl in
    search rules

pub returns-clause-selects : goal.returns-clause-selects
returns-clause-selects g c aim size is =
    let a : LinkView = g.T.TagLink.seen c.args.link.now in
    let next = c.in_ok-ask_file.ensures.next aim size 0 a (begins aim size a is) (head_due aim size a.state.store 0 (omega arith) tt) refl in
    (c.in_ok-ask_file-2.ensures.next aim size 1 a next.0 (head_due aim size a.state.store 1 (omega arith) tt) refl).0

pub ask_file-requires-2-clause-of : goal.ask_file-requires-2-clause-of
ask_file-requires-2-clause-of g c =
    let a : LinkView = g.T.TagLink.seen c.args.link.now in
    let first = c.in_ok-ask_file.ensures.brings a [] (under_none T4 a) refl in
    of_under T4 a (g.T.TagLink.seen c.ask_file.new.link) (c.in_ok-ask_file.field-0.items ∷ []) c.requires.of first

pub returns-in_err-ask_file-clause-brings : goal.returns-in_err-ask_file-clause-brings
returns-in_err-ask_file-clause-brings g c =
    let a : LinkView = g.T.TagLink.seen c.args.link.now in
    let h : IsFaultBy T4 a (g.T.TagLink.seen c.ask_file.new.link) c.in_err-ask_file.field-0.0 = c.in_err-ask_file.ensures.brings a [] (under_none T4 a) refl in
    search rules

pub returns-in_err-ask_file-2-clause-brings : goal.returns-in_err-ask_file-2-clause-brings
returns-in_err-ask_file-2-clause-brings g c =
    let a : LinkView = g.T.TagLink.seen c.args.link.now in
    let first = c.in_ok-ask_file.ensures.brings a [] (under_none T4 a) refl in
    let h : IsFaultBy T4 a (g.T.TagLink.seen c.ask_file-2.new.link) c.in_err-ask_file-2.field-0.0 = c.in_err-ask_file-2.ensures.brings a (c.in_ok-ask_file.field-0.items ∷ []) first refl in
    search rules

pub returns-clause-brings : goal.returns-clause-brings
returns-clause-brings g c =
    let a : LinkView = g.T.TagLink.seen c.args.link.now in
    let first = c.in_ok-ask_file.ensures.brings a [] (under_none T4 a) refl in
    record {
      application = c.in_ok-ask_file.field-0.items;
      container = c.in_ok-ask_file-2.field-0.items;
      under = c.in_ok-ask_file-2.ensures.brings a (c.in_ok-ask_file.field-0.items ∷ []) first refl;
    }

-- it asks for what it needs
pub returns-in_err-ask_file-clause-needs : goal.returns-in_err-ask_file-clause-needs
returns-in_err-ask_file-clause-needs g c =
    let a : LinkView = g.T.TagLink.seen c.args.link.now in
    on_err _ c.from_residual.result (few_needs a a (g.T.TagLink.seen c.ask_file.new.link) [] (under_none T4 a) (omega arith) c.in_err-ask_file.ensures.cut)

pub returns-in_err-ask_file-2-clause-needs : goal.returns-in_err-ask_file-2-clause-needs
returns-in_err-ask_file-2-clause-needs g c =
    let a : LinkView = g.T.TagLink.seen c.args.link.now in
    let first = c.in_ok-ask_file.ensures.brings a [] (under_none T4 a) refl in
    on_err _ c.from_residual-in_err-ask_file-2.result
    (few_needs a (g.T.TagLink.seen c.ask_file.new.link) (g.T.TagLink.seen c.ask_file-2.new.link) (c.in_ok-ask_file.field-0.items ∷ []) first (omega arith) c.in_err-ask_file-2.ensures.cut)
