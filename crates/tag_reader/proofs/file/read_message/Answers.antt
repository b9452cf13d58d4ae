use Rattle.std.proofs.Common.{rules, ◌≡◌, ◌-◌, ◌*◌, [], ◌++◌, Err, refl, sym, ◌∙◌, ap, arith}
use Rattle.std.specs.Prelude.{min}
use Rattle.nfc_base.specs.TagLinks.{LinkView}
use Rattle.tag_reader.specs.private.FileSteps.{piece_at, IsWhole}
use Rattle.tag_reader.specs.HeardSteps.{ReadAll}
use Rattle.tag_reader.proofs.FileReading.{no_pieces, low_piece, piece_due, piece_command, pieces_more, all_pieces, under_lost}
use Rattle.tag_reader.specs.declared.how.How.TheVariants.{T4}
use Rattle.tag_reader.proofs.Filing.{or_fault, or_ends, parts_some, parts_low, none_read, part_command, read_more, read_lost, read_all, pieces_high}
use Rattle.tag_reader.specs.Asked.{ToRead}
use Rattle.tag_reader.specs.declared.fault.ReadFault.TheVariants as fault
use Rattle.tag_reader.proofs.Exits.{exit_is}
use Rattle.tag_reader.proofs.file.read_message.Goals as goal

pub loop-index-init : goal.loop-index-init
loop-index-init g c = record {
  pieces = λ size a m is same. rw c.new-message.ensures.items (no_pieces size a (g.T.TagLink.seen c.args.link.now) m c.args.length is);
  brings = λ a m is same. rw c.new-message.ensures.items (none_read a (g.T.TagLink.seen c.args.link.now) m c.args.length c.args.most is);
  ready = c.requires.ready;
  same = refl;
  moves = g.met.T.TagLink.stays c.args.link.now;
}

pub returns-in_err-piece-clause-whole : goal.returns-in_err-piece-clause-whole
returns-in_err-piece-clause-whole g c size a m is same =
    let old : LinkView = g.T.TagLink.seen c.args.link.now in
    let k = c.loop-index.index in
    let due = piece_due size a old m c.args.length c.args.most c.div_ceil-pieces.result k is same c.div_ceil-pieces.ensures c.loop-index-test.true in
    let pieces = c.loop-index.invariant.pieces size a m is same in
    or_ends ToRead (λ message. IsWhole size a (g.T.TagLink.seen c.ask_file.new.link) message.items) size a (g.T.TagLink.seen c.ask_file.new.link) c.from_residual.result c.in_err-piece.field-0.0
    (search rules)
    (c.in_err-piece.ensures.next ToRead size (piece_at k) a pieces.under due (piece_command size a old m c.args.length c.args.most k c.min.result is same c.min.ensures))

pub returns-in_err-piece-clause-moves : goal.returns-in_err-piece-clause-moves
returns-in_err-piece-clause-moves g c = g.met.T.TagLink.goes_on c.args.link.now c.loop-index.link c.ask_file.new.link c.loop-index.invariant.moves c.in_err-piece.ensures.moves

pub returns-in_err-extend_from_slice-clause-whole : goal.returns-in_err-extend_from_slice-clause-whole
returns-in_err-extend_from_slice-clause-whole g c size a m is same =
    let old : LinkView = g.T.TagLink.seen c.args.link.now in
    let k = c.loop-index.index in
    let due = piece_due size a old m c.args.length c.args.most c.div_ceil-pieces.result k is same c.div_ceil-pieces.ensures c.loop-index-test.true in
    let pieces = c.loop-index.invariant.pieces size a m is same in
    let next = c.in_ok-piece.ensures.next ToRead size (piece_at k) a pieces.under due (piece_command size a old m c.args.length c.args.most k c.min.result is same c.min.ensures) in
    let exit : c.from_residual-in_err-extend_from_slice.result ≡ Err fault.Memory =
    exit_is c.from_residual-in_err-extend_from_slice.result fault.Memory c.from_residual-in_err-extend_from_slice.ensures.1 in
    or_ends ToRead (λ message. IsWhole size a (g.T.TagLink.seen c.ask_file.new.link) message.items) size a (g.T.TagLink.seen c.ask_file.new.link) c.from_residual-in_err-extend_from_slice.result
    fault.Memory exit (under_lost size (piece_at k) a (g.T.TagLink.seen c.ask_file.new.link) next.0)

pub returns-in_err-extend_from_slice-clause-moves : goal.returns-in_err-extend_from_slice-clause-moves
returns-in_err-extend_from_slice-clause-moves g c = g.met.T.TagLink.goes_on c.args.link.now c.loop-index.link c.ask_file.new.link c.loop-index.invariant.moves c.in_ok-piece.ensures.moves

pub loop-index-preserved : goal.loop-index-preserved
loop-index-preserved g c = record {
  pieces = λ size a m is same.
      (let old : LinkView = g.T.TagLink.seen c.args.link.now in
      let k = c.loop-index.index in
      let due = piece_due size a old m c.args.length c.args.most c.div_ceil-pieces.result k is same c.div_ceil-pieces.ensures c.loop-index-test.true in
      let pieces = c.loop-index.invariant.pieces size a m is same in
      let next = c.in_ok-piece.ensures.next ToRead size (piece_at k) a pieces.under due (piece_command size a old m c.args.length c.args.most k c.min.result is same c.min.ensures) in
      let grown : c.extend_from_slice.new.self.items ≡ c.loop-index.message.items ++ c.in_ok-piece.piece.items =
      c.in_ok-extend_from_slice.ensures.items ∙ ap (λ xs. c.loop-index.message.items ++ xs) c.deref.ensures.0 in
      rw grown (pieces_more size a (g.T.TagLink.seen c.loop-index.link) (g.T.TagLink.seen c.ask_file.new.link) c.loop-index.message.items c.in_ok-piece.piece.items k pieces due next.0 next.1));
  brings = λ a m is same.
      (let h = c.loop-index.invariant.brings a m is same in
      let k = c.loop-index.index in
      let some = parts_some a (g.T.TagLink.seen c.args.link.now) m c.args.length c.args.most [] is same in
      let left = low_piece c.args.length c.args.most k (omega (arith, some)) (rw (sym c.div_ceil-pieces.ensures) c.loop-index-test.true) in
      let command = part_command a (g.T.TagLink.seen c.loop-index.link) m c.args.length c.args.most k c.min.result c.loop-index.message.items h same c.min.ensures in
      read_more a (g.T.TagLink.seen c.loop-index.link) (g.T.TagLink.seen c.ask_file.new.link) m c.args.length c.args.most k c.loop-index.message.items c.extend_from_slice.new.self.items
      c.in_ok-piece.piece.items h (c.in_ok-piece.ensures.brings a h.has.ps h.has.under command)
      (c.in_ok-extend_from_slice.ensures.items ∙ ap (λ xs. c.loop-index.message.items ++ xs) c.deref.ensures.0) (c.in_ok-piece.ensures.size ∙ c.min.ensures) left);
  ready = c.in_ok-piece.ensures.ready;
  same = c.in_ok-piece.ensures.same ∙ c.loop-index.invariant.same;
  moves = g.met.T.TagLink.goes_on c.args.link.now c.loop-index.link c.ask_file.new.link c.loop-index.invariant.moves c.in_ok-piece.ensures.moves;
}

pub returns-clause-whole : goal.returns-clause-whole
returns-clause-whole g c size a m is same =
    all_pieces size a (g.T.TagLink.seen c.args.link.now) (g.T.TagLink.seen c.loop-index.link) m c.args.length c.args.most c.div_ceil-pieces.result c.loop-index.index c.loop-index.message.items
    is same c.div_ceil-pieces.ensures c.loop-index-test.false (c.loop-index.invariant.pieces size a m is same)

pub overflow_mul-taken : goal.overflow_mul-taken
overflow_mul-taken g c =
    let d = c.requires.measured in
    let old : LinkView = g.T.TagLink.seen c.args.link.now in
    let k = c.loop-index.index in
    let some = parts_some d.0 old d.1 c.args.length c.args.most [] d.2 d.3 in
    let left = low_piece c.args.length c.args.most k (omega (arith, some)) (rw (sym c.div_ceil-pieces.ensures) c.loop-index-test.true) in
    let low = parts_low d.0 old d.1 c.args.length [] d.2 in
    omega (arith, left, low)

pub overflow_add-read : goal.overflow_add-read
overflow_add-read g c =
    let d = c.requires.measured in
    let old : LinkView = g.T.TagLink.seen c.args.link.now in
    let k = c.loop-index.index in
    let some = parts_some d.0 old d.1 c.args.length c.args.most [] d.2 d.3 in
    let left = low_piece c.args.length c.args.most k (omega (arith, some)) (rw (sym c.div_ceil-pieces.ensures) c.loop-index-test.true) in
    let low = parts_low d.0 old d.1 c.args.length [] d.2 in
    omega (arith, left, low)

pub overflow_sub-length : goal.overflow_sub-length
overflow_sub-length g c =
    let d = c.requires.measured in
    let old : LinkView = g.T.TagLink.seen c.args.link.now in
    let k = c.loop-index.index in
    let some = parts_some d.0 old d.1 c.args.length c.args.most [] d.2 d.3 in
    let left = low_piece c.args.length c.args.most k (omega (arith, some)) (rw (sym c.div_ceil-pieces.ensures) c.loop-index-test.true) in
    let low = parts_low d.0 old d.1 c.args.length [] d.2 in
    omega (arith, left)

pub ask_file-requires-clause-of : goal.ask_file-requires-clause-of
ask_file-requires-clause-of g c =
    let d = c.requires.measured in
    let old : LinkView = g.T.TagLink.seen c.args.link.now in
    let k = c.loop-index.index in
    let some = parts_some d.0 old d.1 c.args.length c.args.most [] d.2 d.3 in
    let left = low_piece c.args.length c.args.most k (omega (arith, some)) (rw (sym c.div_ceil-pieces.ensures) c.loop-index-test.true) in
    let low = parts_low d.0 old d.1 c.args.length [] d.2 in
    let h = c.loop-index.invariant.brings d.0 d.1 d.2 d.3 in
    record { kind = h.has.under.kind ∙ sym d.2.under.kind ∙ c.requires.of.kind; named = tt }

pub ask_file-requires-clause-range : goal.ask_file-requires-clause-range
ask_file-requires-clause-range g c =
    let d = c.requires.measured in
    let old : LinkView = g.T.TagLink.seen c.args.link.now in
    let k = c.loop-index.index in
    let some = parts_some d.0 old d.1 c.args.length c.args.most [] d.2 d.3 in
    let left = low_piece c.args.length c.args.most k (omega (arith, some)) (rw (sym c.div_ceil-pieces.ensures) c.loop-index-test.true) in
    let low = parts_low d.0 old d.1 c.args.length [] d.2 in
    let count : c.min.result ≡ min c.args.most (c.args.length - c.args.most * k) = c.min.ensures in
    (omega (arith, left, low), omega (arith, left, count, some))

pub returns-in_err-piece-clause-brings : goal.returns-in_err-piece-clause-brings
returns-in_err-piece-clause-brings g c =
    let e : c.from_residual.result ≡ Err c.in_err-piece.field-0.0 = search rules in
    λ a m is same. let h = c.loop-index.invariant.brings a m is same in
    let k = c.loop-index.index in
    let command = part_command a (g.T.TagLink.seen c.loop-index.link) m c.args.length c.args.most k c.min.result c.loop-index.message.items h same c.min.ensures in
    or_fault (λ message. ReadAll a (g.T.TagLink.seen c.ask_file.new.link) m c.args.length message.items) T4 a (g.T.TagLink.seen c.ask_file.new.link) c.from_residual.result c.in_err-piece.field-0.0 e
    (c.in_err-piece.ensures.brings a h.has.ps h.has.under command)

pub returns-in_err-extend_from_slice-clause-brings : goal.returns-in_err-extend_from_slice-clause-brings
returns-in_err-extend_from_slice-clause-brings g c a m is same =
    let h = c.loop-index.invariant.brings a m is same in
    let k = c.loop-index.index in
    let command = part_command a (g.T.TagLink.seen c.loop-index.link) m c.args.length c.args.most k c.min.result c.loop-index.message.items h same c.min.ensures in
    or_fault (λ message. ReadAll a (g.T.TagLink.seen c.ask_file.new.link) m c.args.length message.items) T4 a (g.T.TagLink.seen c.ask_file.new.link)
    c.from_residual-in_err-extend_from_slice.result fault.Memory
    (exit_is c.from_residual-in_err-extend_from_slice.result fault.Memory c.from_residual-in_err-extend_from_slice.ensures.1)
    (read_lost a (g.T.TagLink.seen c.loop-index.link) (g.T.TagLink.seen c.ask_file.new.link) m c.args.length c.args.most k c.loop-index.message.items c.in_ok-piece.piece.items h
    (c.in_ok-piece.ensures.brings a h.has.ps h.has.under command))

pub returns-clause-brings : goal.returns-clause-brings
returns-clause-brings g c a m is same =
    let some = parts_some a (g.T.TagLink.seen c.args.link.now) m c.args.length c.args.most [] is same in
    read_all a (g.T.TagLink.seen c.loop-index.link) m c.args.length c.args.most c.loop-index.index c.loop-index.message.items (c.loop-index.invariant.brings a m is same)
    (pieces_high c.args.length c.args.most c.div_ceil-pieces.result c.loop-index.index (omega (arith, some)) c.div_ceil-pieces.ensures c.loop-index-test.false)
