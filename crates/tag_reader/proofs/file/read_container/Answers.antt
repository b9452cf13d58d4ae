use Rattle.std.proofs.Common.{◌≡◌, Err, arith, rules, [], ◌∷◌, length, refl, ◌∙◌, ap}
use Rattle.nfc_base.specs.TagLinks.{LinkView}
use Rattle.tag_reader.specs.private.FileSteps.{EndsBy}
use Rattle.tag_reader.specs.Steps.{of_container}
use Rattle.tag_reader.proofs.FileReading.{head_due, opens_file, no_file_by}
use Rattle.tag_reader.specs.declared.how.How.TheVariants.{T4}
use Rattle.tag_reader.specs.Heard.{IsFaultBy}
use Rattle.tag_reader.proofs.Looking.{of_under}
use Rattle.tag_reader.proofs.Filing.{or_fault, or_ends, opens, no_file}
use Rattle.tag_reader.proofs.Needing.{on_err, few_needs, container_needs}
use Rattle.tag_reader.proofs.Exits.{exit_is}
use Rattle.tag_reader.proofs.file.read_container.Goals as goal

pub returns-in_err-select_container-clause-opens : goal.returns-in_err-select_container-clause-opens
returns-in_err-select_container-clause-opens g c aim size is =
    let h : EndsBy aim size (g.T.TagLink.seen c.args.link.now) (g.T.TagLink.seen c.select_container.new.link) c.in_err-select_container.field-0.0 = c.in_err-select_container.ensures.selects aim
    size is in
    search rules

pub returns-in_err-bytes-clause-opens : goal.returns-in_err-bytes-clause-opens
returns-in_err-bytes-clause-opens g c aim size is =
    let a : LinkView = g.T.TagLink.seen c.args.link.now in
    let h : EndsBy aim size a (g.T.TagLink.seen c.ask_file.new.link) c.in_err-bytes.field-0.0 =
    c.in_err-bytes.ensures.next aim size 2 a (c.in_ok-select_container.ensures.selects aim size is) (head_due aim size a.state.store 2 (omega arith) tt) refl in
    search rules

pub returns-in_err-file_named-clause-opens : goal.returns-in_err-file_named-clause-opens
returns-in_err-file_named-clause-opens g c aim size is =
    let a : LinkView = g.T.TagLink.seen c.args.link.now in
    let next = c.in_ok-bytes.ensures.next aim size 2 a (c.in_ok-select_container.ensures.selects aim size is) (head_due aim size a.state.store 2 (omega arith) tt) refl in
    let exit : c.from_residual-in_err-file_named.result ≡ Err (of_container c.in_err-file_named.field-0.0) =
    exit_is c.from_residual-in_err-file_named.result (of_container c.in_err-file_named.field-0.0) c.from_residual-in_err-file_named.ensures.1 in
    or_ends aim _ size a (g.T.TagLink.seen c.ask_file.new.link) c.from_residual-in_err-file_named.result (of_container c.in_err-file_named.field-0.0) exit
    (no_file_by size a _ c.as_slice.result.now c.in_err-file_named.field-0.0 next.0 (c.as_slice.ensures.value ∙ next.1) c.in_err-file_named.ensures)

pub returns-clause-opens : goal.returns-clause-opens
returns-clause-opens g c aim size is =
    let a : LinkView = g.T.TagLink.seen c.args.link.now in
    let next = c.in_ok-bytes.ensures.next aim size 2 a (c.in_ok-select_container.ensures.selects aim size is) (head_due aim size a.state.store 2 (omega arith) tt) refl in
    opens_file size a _ c.as_slice.result.now c.in_ok-file_named.field-0 next.0 (c.as_slice.ensures.value ∙ next.1) c.in_ok-file_named.ensures

pub ask_file-requires-clause-of : goal.ask_file-requires-clause-of
ask_file-requires-clause-of g c =
    let a : LinkView = g.T.TagLink.seen c.args.link.now in
    let sel = c.in_ok-select_container.ensures.brings in
    of_under T4 a (g.T.TagLink.seen c.select_container.new.link) (sel.application ∷ sel.container ∷ []) c.requires.of sel.under

pub file_named-requires : goal.file_named-requires
file_named-requires g c = ap length c.as_slice.ensures.value ∙ c.in_ok-bytes.ensures.size

pub returns-in_err-select_container-clause-brings : goal.returns-in_err-select_container-clause-brings
returns-in_err-select_container-clause-brings g c =
    let h : IsFaultBy T4 (g.T.TagLink.seen c.args.link.now) (g.T.TagLink.seen c.select_container.new.link) c.in_err-select_container.field-0.0 = c.in_err-select_container.ensures.brings in
    search rules

pub returns-in_err-bytes-clause-brings : goal.returns-in_err-bytes-clause-brings
returns-in_err-bytes-clause-brings g c =
    let a : LinkView = g.T.TagLink.seen c.args.link.now in
    let sel = c.in_ok-select_container.ensures.brings in
    let h : IsFaultBy T4 a (g.T.TagLink.seen c.ask_file.new.link) c.in_err-bytes.field-0.0 = c.in_err-bytes.ensures.brings a (sel.application ∷ sel.container ∷ []) sel.under refl in
    search rules

pub returns-in_err-file_named-clause-brings : goal.returns-in_err-file_named-clause-brings
returns-in_err-file_named-clause-brings g c =
    let a : LinkView = g.T.TagLink.seen c.args.link.now in
    let sel = c.in_ok-select_container.ensures.brings in
    let exit : c.from_residual-in_err-file_named.result ≡ Err (of_container c.in_err-file_named.field-0.0) =
    exit_is c.from_residual-in_err-file_named.result (of_container c.in_err-file_named.field-0.0) c.from_residual-in_err-file_named.ensures.1 in
    or_fault _ T4 a (g.T.TagLink.seen c.ask_file.new.link) c.from_residual-in_err-file_named.result (of_container c.in_err-file_named.field-0.0) exit
    (no_file a (g.T.TagLink.seen c.ask_file.new.link) sel.application sel.container c.in_ok-bytes.bytes.items c.as_slice.result.now c.in_err-file_named.field-0.0 (of_container
    c.in_err-file_named.field-0.0)
    (c.in_ok-bytes.ensures.brings a (sel.application ∷ sel.container ∷ []) sel.under refl) c.as_slice.ensures.value c.in_err-file_named.ensures refl)

pub returns-clause-brings : goal.returns-clause-brings
returns-clause-brings g c =
    let a : LinkView = g.T.TagLink.seen c.args.link.now in
    let sel = c.in_ok-select_container.ensures.brings in
    opens a (g.T.TagLink.seen c.ask_file.new.link) sel.application sel.container c.in_ok-bytes.bytes.items c.as_slice.result.now c.in_ok-file_named.field-0
    (c.in_ok-bytes.ensures.brings a (sel.application ∷ sel.container ∷ []) sel.under refl) c.as_slice.ensures.value c.in_ok-file_named.ensures

-- it asks for what it needs
pub returns-in_err-select_container-clause-needs : goal.returns-in_err-select_container-clause-needs
returns-in_err-select_container-clause-needs g c = on_err _ c.from_residual.result c.in_err-select_container.ensures.needs

pub returns-in_err-bytes-clause-needs : goal.returns-in_err-bytes-clause-needs
returns-in_err-bytes-clause-needs g c =
    let sel = c.in_ok-select_container.ensures.brings in
    on_err _ c.from_residual-in_err-bytes.result
    (few_needs (g.T.TagLink.seen c.args.link.now) (g.T.TagLink.seen c.select_container.new.link) (g.T.TagLink.seen c.ask_file.new.link) (sel.application ∷ sel.container ∷ []) sel.under (omega arith)
    c.in_err-bytes.ensures.cut)

pub returns-in_err-file_named-clause-needs : goal.returns-in_err-file_named-clause-needs
returns-in_err-file_named-clause-needs g c =
    let a : LinkView = g.T.TagLink.seen c.args.link.now in
    let sel = c.in_ok-select_container.ensures.brings in
    on_err _ c.from_residual-in_err-file_named.result (container_needs T4 a (g.T.TagLink.seen c.ask_file.new.link) c.in_err-file_named.field-0.0
    (no_file a (g.T.TagLink.seen c.ask_file.new.link) sel.application sel.container c.in_ok-bytes.bytes.items c.as_slice.result.now c.in_err-file_named.field-0.0 (of_container
    c.in_err-file_named.field-0.0)
    (c.in_ok-bytes.ensures.brings a (sel.application ∷ sel.container ∷ []) sel.under refl) c.as_slice.ensures.value c.in_err-file_named.ensures refl))
