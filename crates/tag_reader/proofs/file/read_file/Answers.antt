use Rattle.std.proofs.Common.{rules, Err, refl, arith}
use Rattle.nfc_base.specs.TagLinks.{LinkView}
use Rattle.tag_reader.specs.declared.how.How.TheVariants.{T4}
use Rattle.tag_reader.specs.declared.found.Site.TheVariants.{File}
use Rattle.tag_reader.specs.Steps.{IsRead}
use Rattle.tag_reader.proofs.FileReading.{is_read, is_ended, most_is}
use Rattle.tag_reader.specs.Heard.{IsFaultBy}
use Rattle.tag_reader.proofs.Looking.{of_under}
use Rattle.tag_reader.proofs.Filing.{found_file}
use Rattle.tag_reader.specs.Asked.{ToRead}
use Rattle.tag_reader.proofs.file.read_file.Goals as goal

pub returns-in_err-map-clause-reads : goal.returns-in_err-map-clause-reads
returns-in_err-map-clause-reads g c size is =
    let a : LinkView = g.T.TagLink.seen c.args.link.now in
    let h : IsRead T4 size a (g.T.TagLink.seen c.read_container.new.link) (Err c.in_err-map.field-0.0) = is_ended size a _ c.in_err-map.field-0.0 (c.in_err-map.ensures.opens ToRead size is) in
    search rules

pub returns-in_err-length-clause-reads : goal.returns-in_err-length-clause-reads
returns-in_err-length-clause-reads g c size is =
    let a : LinkView = g.T.TagLink.seen c.args.link.now in
    let h : IsRead T4 size a (g.T.TagLink.seen c.read_length.new.link) (Err c.in_err-length.field-0.0) =
    is_ended size a _ c.in_err-length.field-0.0 (c.in_err-length.ensures.measures ToRead size a (c.in_ok-map.ensures.opens ToRead size is)) in
    search rules

pub returns-in_err-message-clause-reads : goal.returns-in_err-message-clause-reads
returns-in_err-message-clause-reads g c size is =
    let a : LinkView = g.T.TagLink.seen c.args.link.now in
    let opens = c.in_ok-map.ensures.opens ToRead size is in
    let measured = c.in_ok-length.ensures.measures ToRead size a opens in
    let h : IsRead T4 size a (g.T.TagLink.seen c.read_message.new.link) (Err c.in_err-message.field-0.0) =
    is_ended size a _ c.in_err-message.field-0.0 (c.in_err-message.ensures.whole size a c.in_ok-map.map measured (most_is a c.in_ok-map.map c.min.result opens.names c.min.ensures)) in
    search rules

pub returns-clause-reads : goal.returns-clause-reads
returns-clause-reads g c size is =
    let a : LinkView = g.T.TagLink.seen c.args.link.now in
    let opens = c.in_ok-map.ensures.opens ToRead size is in
    let measured = c.in_ok-length.ensures.measures ToRead size a opens in
    let whole = c.in_ok-message.ensures.whole size a c.in_ok-map.map measured (most_is a c.in_ok-map.map c.min.result opens.names c.min.ensures) in
    is_read size a (g.T.TagLink.seen c.read_message.new.link) c.in_ok-map.map (record { message = c.new.result; site = File c.in_ok-map.map; writable = c.in_ok-map.map.writable })
    (rw c.new.ensures whole)
    opens.names (omega (arith, measured.length', measured.fits)) refl refl

pub returns-in_err-message-clause-moves : goal.returns-in_err-message-clause-moves
returns-in_err-message-clause-moves g c =
    g.met.T.TagLink.goes_on c.args.link.now c.read_length.new.link c.read_message.new.link
    (g.met.T.TagLink.goes_on c.args.link.now c.read_container.new.link c.read_length.new.link c.in_ok-map.ensures.moves c.in_ok-length.ensures.moves) c.in_err-message.ensures.moves

pub returns-clause-moves : goal.returns-clause-moves
returns-clause-moves g c =
    g.met.T.TagLink.goes_on c.args.link.now c.read_length.new.link c.read_message.new.link
    (g.met.T.TagLink.goes_on c.args.link.now c.read_container.new.link c.read_length.new.link c.in_ok-map.ensures.moves c.in_ok-length.ensures.moves) c.in_ok-message.ensures.moves

pub read_length-requires-clause-of : goal.read_length-requires-clause-of
read_length-requires-clause-of g c = let o = c.in_ok-map.ensures.brings in of_under T4 (g.T.TagLink.seen c.args.link.now) (g.T.TagLink.seen c.read_container.new.link) o.ps c.requires.of o.under

pub read_length-requires-clause-opened : goal.read_length-requires-clause-opened
read_length-requires-clause-opened g c = (g.T.TagLink.seen c.args.link.now, c.in_ok-map.ensures.brings)

pub read_message-requires-clause-of : goal.read_message-requires-clause-of
read_message-requires-clause-of g c =
    let m = c.in_ok-length.ensures.brings (g.T.TagLink.seen c.args.link.now) c.in_ok-map.ensures.brings in
    of_under T4 (g.T.TagLink.seen c.args.link.now) (g.T.TagLink.seen c.read_length.new.link) m.ps c.requires.of m.under

pub read_message-requires-clause-measured : goal.read_message-requires-clause-measured
read_message-requires-clause-measured g c =
    (g.T.TagLink.seen c.args.link.now, c.in_ok-map.map, c.in_ok-length.ensures.brings (g.T.TagLink.seen c.args.link.now) c.in_ok-map.ensures.brings, c.min.ensures)

pub returns-in_err-map-clause-told : goal.returns-in_err-map-clause-told
returns-in_err-map-clause-told g c =
    let h : IsFaultBy T4 (g.T.TagLink.seen c.args.link.now) (g.T.TagLink.seen c.read_container.new.link) c.in_err-map.field-0.0 = c.in_err-map.ensures.brings in
    search rules

pub returns-in_err-length-clause-told : goal.returns-in_err-length-clause-told
returns-in_err-length-clause-told g c =
    let h : IsFaultBy T4 (g.T.TagLink.seen c.args.link.now) (g.T.TagLink.seen c.read_length.new.link) c.in_err-length.field-0.0 =
    c.in_err-length.ensures.brings (g.T.TagLink.seen c.args.link.now) c.in_ok-map.ensures.brings in
    search rules

pub returns-in_err-message-clause-told : goal.returns-in_err-message-clause-told
returns-in_err-message-clause-told g c =
    let a : LinkView = g.T.TagLink.seen c.args.link.now in
    let m = c.in_ok-length.ensures.brings a c.in_ok-map.ensures.brings in
    let h : IsFaultBy T4 a (g.T.TagLink.seen c.read_message.new.link) c.in_err-message.field-0.0 = c.in_err-message.ensures.brings a c.in_ok-map.map m c.min.ensures in
    search rules

pub returns-clause-told : goal.returns-clause-told
returns-clause-told g c =
    let a : LinkView = g.T.TagLink.seen c.args.link.now in
    let m = c.in_ok-length.ensures.brings a c.in_ok-map.ensures.brings in
    let all = c.in_ok-message.ensures.brings a c.in_ok-map.map m c.min.ensures in
    found_file a (g.T.TagLink.seen c.read_message.new.link) c.in_ok-map.map c.in_ok-length.length (record { message = c.new.result; site = File c.in_ok-map.map; writable = c.in_ok-map.map.writable })
    (rw c.new.ensures all) refl refl
