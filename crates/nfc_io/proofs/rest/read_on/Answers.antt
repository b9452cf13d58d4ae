use Rattle.std.proofs.Common.{ℕ, List, ◌++◌, Option, arith}
use Rattle.nfc_io.proofs.Behind.{on_by_read, taken}
use Rattle.nfc_io.proofs.rest.read_on.Goals as goal

pub returns-in-Err-clause-some : goal.returns-in-Err-clause-some
returns-in-Err-clause-some g c =
    let left : Option (List ℕ) = g.S.Source.left c.args.source.now in
    rw c.in-Err.ensures.same.1 (taken c.args.most c.args.ended c.args.held.now c.reading.bytes.items left (g.S.Source.left c.reading.source) c.reading.invariant.on)

pub returns-then-is_err-2-clause-some : goal.returns-then-is_err-2-clause-some
returns-then-is_err-2-clause-some g c =
    let left : Option (List ℕ) = g.S.Source.left c.args.source.now in
    let left' : Option (List ℕ) = g.S.Source.left c.fill.new.source in
    let bytes : List ℕ = c.reading.bytes.items in
    let text : List ℕ = c.fill.new.self in
    let on = on_by_read c.args.most _ c.args.ended c.args.held.now bytes c.reading.held text left (g.S.Source.left c.reading.source) left' c.if-ended.false
    c.reading.invariant.on (omega (arith, c.reading-test.true, c.len.ensures)) c.reading.invariant.none c.in-Ok.ensures.ok in
    taken c.args.most c.args.ended c.args.held.now (bytes ++ text) left left' on
