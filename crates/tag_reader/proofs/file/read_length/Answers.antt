use Rattle.std.proofs.Common.{rules, ℕ, List, [], ◌∷◌, ◌++◌, length, refl, sym, ◌∙◌, ap, arith}
use Rattle.nfc_base.specs.TagLinks.{LinkView}
use Rattle.tag_reader.specs.private.FileSteps.{EndsBy}
use Rattle.tag_reader.proofs.FileReading.{head_due, selected_file, length_told, too_long}
use Rattle.tag_reader.specs.declared.how.How.TheVariants.{T4}
use Rattle.tag_reader.specs.Heard.{IsFaultBy}
use Rattle.tag_reader.proofs.Filing.{opened_room, selects, measures, measured, file_too_long}
use Rattle.tag_reader.proofs.Needing.{on_err, opened_needs, selected_needs, none_needs}
use Rattle.tag_reader.proofs.file.read_length.Goals as goal

pub returns-in_err-ask_file-clause-measures : goal.returns-in_err-ask_file-clause-measures
returns-in_err-ask_file-clause-measures g c aim size a o =
    let h : EndsBy aim size a (g.T.TagLink.seen c.ask_file.new.link) c.in_err-ask_file.field-0.0 =
    c.in_err-ask_file.ensures.next aim size 3 a o.under (head_due aim size a.state.store 3 (omega arith) (c.args.map, o.names)) (selected_file a c.args.map o.names) in
    search rules

pub returns-in_err-bytes-clause-measures : goal.returns-in_err-bytes-clause-measures
returns-in_err-bytes-clause-measures g c aim size a o =
    let next = c.in_ok-ask_file.ensures.next aim size 3 a o.under (head_due aim size a.state.store 3 (omega arith) (c.args.map, o.names)) (selected_file a c.args.map o.names) in
    let h : EndsBy aim size a (g.T.TagLink.seen c.ask_file-2.new.link) c.in_err-bytes.field-0.0 =
    c.in_err-bytes.ensures.next aim size 4 a next.0 (head_due aim size a.state.store 4 (omega arith) (c.args.map, o.names)) refl in
    search rules

pub returns-then-length-map-clause-measures : goal.returns-then-length-map-clause-measures
returns-then-length-map-clause-measures g c aim size a o =
    let first = c.in_ok-ask_file.ensures.next aim size 3 a o.under (head_due aim size a.state.store 3 (omega arith) (c.args.map, o.names)) (selected_file a c.args.map o.names) in
    let next = c.in_ok-bytes.ensures.next aim size 4 a first.0 (head_due aim size a.state.store 4 (omega arith) (c.args.map, o.names)) refl in
    let told = length_told a c.as_slice.result.now c.number_of-length.result (c.as_slice.ensures.value ∙ next.1) c.number_of-length.ensures in
    too_long size a (g.T.TagLink.seen c.ask_file-2.new.link) c.args.map next.0 o.names (omega (arith, told, c.if-length-map.true))

pub returns-clause-measures : goal.returns-clause-measures
returns-clause-measures g c aim size a o =
    let first = c.in_ok-ask_file.ensures.next aim size 3 a o.under (head_due aim size a.state.store 3 (omega arith) (c.args.map, o.names)) (selected_file a c.args.map o.names) in
    let next = c.in_ok-bytes.ensures.next aim size 4 a first.0 (head_due aim size a.state.store 4 (omega arith) (c.args.map, o.names)) refl in
    let told = length_told a c.as_slice.result.now c.number_of-length.result (c.as_slice.ensures.value ∙ next.1) c.number_of-length.ensures in
    record { under = next.0; names = o.names; length' = told; fits = omega (arith, c.if-length-map.false) }

pub ask_file-requires-2-clause-of : goal.ask_file-requires-2-clause-of
ask_file-requires-2-clause-of g c =
    let d = c.requires.opened in
    let first = c.in_ok-ask_file.ensures.brings d.0 d.1.ps d.1.under (selects d.0 (g.T.TagLink.seen c.args.link.now) c.args.map d.1) in
    record { kind = first.kind ∙ sym d.1.under.kind ∙ c.requires.of.kind; named = tt }

pub number_of-length-requires : goal.number_of-length-requires
number_of-length-requires g c = ap length c.as_slice.ensures.value ∙ c.in_ok-bytes.ensures.size

pub overflow_sub-map : goal.overflow_sub-map
overflow_sub-map g c = let r = opened_room c.requires.opened.0 (g.T.TagLink.seen c.args.link.now) c.args.map c.requires.opened.1 in omega (arith, r.least)

pub returns-in_err-ask_file-clause-brings : goal.returns-in_err-ask_file-clause-brings
returns-in_err-ask_file-clause-brings g c a o =
    let h : IsFaultBy T4 a (g.T.TagLink.seen c.ask_file.new.link) c.in_err-ask_file.field-0.0 =
    c.in_err-ask_file.ensures.brings a o.ps o.under (selects a (g.T.TagLink.seen c.args.link.now) c.args.map o) in
    search rules

pub returns-in_err-bytes-clause-brings : goal.returns-in_err-bytes-clause-brings
returns-in_err-bytes-clause-brings g c a o =
    let first = c.in_ok-ask_file.ensures.brings a o.ps o.under (selects a (g.T.TagLink.seen c.args.link.now) c.args.map o) in
    let h : IsFaultBy T4 a (g.T.TagLink.seen c.ask_file-2.new.link) c.in_err-bytes.field-0.0 =
    c.in_err-bytes.ensures.brings a (o.ps ++ c.in_ok-ask_file.field-0.items ∷ []) first (measures a (g.T.TagLink.seen c.args.link.now) c.args.map c.in_ok-ask_file.field-0.items o) in
    search rules

pub returns-then-length-map-clause-brings : goal.returns-then-length-map-clause-brings
returns-then-length-map-clause-brings g c a o =
    let file : List ℕ = c.in_ok-ask_file.field-0.items in
    let first = c.in_ok-ask_file.ensures.brings a o.ps o.under (selects a (g.T.TagLink.seen c.args.link.now) c.args.map o) in
    let next = c.in_ok-bytes.ensures.brings a (o.ps ++ file ∷ []) first (measures a (g.T.TagLink.seen c.args.link.now) c.args.map file o) in
    file_too_long a (g.T.TagLink.seen c.args.link.now) (g.T.TagLink.seen c.ask_file-2.new.link) c.args.map file c.in_ok-bytes.bytes.items c.as_slice.result.now c.number_of-length.result o next
    c.as_slice.ensures.value
    c.number_of-length.ensures c.if-length-map.true

pub returns-clause-brings : goal.returns-clause-brings
returns-clause-brings g c a o =
    let file : List ℕ = c.in_ok-ask_file.field-0.items in
    let first = c.in_ok-ask_file.ensures.brings a o.ps o.under (selects a (g.T.TagLink.seen c.args.link.now) c.args.map o) in
    let next = c.in_ok-bytes.ensures.brings a (o.ps ++ file ∷ []) first (measures a (g.T.TagLink.seen c.args.link.now) c.args.map file o) in
    measured a (g.T.TagLink.seen c.args.link.now) (g.T.TagLink.seen c.ask_file-2.new.link) c.args.map file c.in_ok-bytes.bytes.items c.as_slice.result.now c.number_of-length.result o next
    c.as_slice.ensures.value
    c.number_of-length.ensures c.if-length-map.false

pub returns-in_err-bytes-clause-moves : goal.returns-in_err-bytes-clause-moves
returns-in_err-bytes-clause-moves g c = g.met.T.TagLink.goes_on c.args.link.now c.ask_file.new.link c.ask_file-2.new.link c.in_ok-ask_file.ensures.moves c.in_err-bytes.ensures.moves

pub returns-then-length-map-clause-moves : goal.returns-then-length-map-clause-moves
returns-then-length-map-clause-moves g c = g.met.T.TagLink.goes_on c.args.link.now c.ask_file.new.link c.ask_file-2.new.link c.in_ok-ask_file.ensures.moves c.in_ok-bytes.ensures.moves

pub returns-clause-moves : goal.returns-clause-moves
returns-clause-moves g c = g.met.T.TagLink.goes_on c.args.link.now c.ask_file.new.link c.ask_file-2.new.link c.in_ok-ask_file.ensures.moves c.in_ok-bytes.ensures.moves

-- it asks for what it needs
pub returns-in_err-ask_file-clause-needs : goal.returns-in_err-ask_file-clause-needs
returns-in_err-ask_file-clause-needs g c a o =
    on_err _ c.from_residual.result (opened_needs a (g.T.TagLink.seen c.args.link.now) (g.T.TagLink.seen c.ask_file.new.link) c.args.map o c.in_err-ask_file.ensures.cut)

pub returns-in_err-bytes-clause-needs : goal.returns-in_err-bytes-clause-needs
returns-in_err-bytes-clause-needs g c a o =
    let old : LinkView = g.T.TagLink.seen c.args.link.now in
    let first = c.in_ok-ask_file.ensures.brings a o.ps o.under (selects a old c.args.map o) in
    on_err _ c.from_residual-in_err-bytes.result
    (selected_needs a old (g.T.TagLink.seen c.ask_file-2.new.link) c.args.map c.in_ok-ask_file.field-0.items o (g.T.TagLink.seen c.ask_file.new.link) first c.in_err-bytes.ensures.cut)

pub returns-then-length-map-clause-needs : goal.returns-then-length-map-clause-needs
returns-then-length-map-clause-needs g c a o = none_needs T4 a (g.T.TagLink.seen c.ask_file-2.new.link) _ (returns-then-length-map-clause-brings g c a o)
