use Rattle.std.proofs.Common.{ℕ, List, ◌++◌, Option, ◌∙◌, subst}
use Rattle.nfc_io.specs.Moves.{GainsFront}
use Rattle.bench_world.specs.Report.{line_text, answer_text}
use Rattle.nfc_bench.specs.Gathering.{IsWritten}
use Rattle.nfc_bench.proofs.Writing.{on_err, piece_cut, piece_written}
use Rattle.nfc_bench.proofs.top.writing.gather_answer.Goals as goal

pub pieces-preserved : goal.pieces-preserved
pieces-preserved g c =
    let t : Option (List ℕ) = g.K.Sink.taken c.args.sink.now in
    let t1 : Option (List ℕ) = g.K.Sink.taken c.pieces.sink in
    let t2 : Option (List ℕ) = g.K.Sink.taken c.gather.new.sink in
    let held : List ℕ = c.pieces.held.items in
    let whole : List ℕ = c.args.held.now.items ++ line_text c.args.entry.now.line (answer_text c.args.entry.now.answer) in
    let piece : List ℕ = c.in-Some.piece.items in
    let rest : List ℕ = c.next.new.self in
    let so : IsWritten whole (held ++ (piece ++ rest)) t t1 = subst (λ x. IsWritten whole (held ++ x) t t1) c.in-Some.ensures.steps.0 c.pieces.invariant.written in
    record {
      written = piece_written whole held piece rest c.gather.new.held.items t t1 t2 so (subst (λ x. IsWritten (held ++ x) c.gather.new.held.items t1 t2) c.deref.ensures.0 c.in_ok-gather.ensures.ok);
      still = c.in_ok-gather.ensures.still ∙ c.pieces.invariant.still;
    }

pub returns-in_err-gather-clause-err : goal.returns-in_err-gather-clause-err
returns-in_err-gather-clause-err g c =
    let t : Option (List ℕ) = g.K.Sink.taken c.args.sink.now in
    let t1 : Option (List ℕ) = g.K.Sink.taken c.pieces.sink in
    let t2 : Option (List ℕ) = g.K.Sink.taken c.gather.new.sink in
    let held : List ℕ = c.pieces.held.items in
    let whole : List ℕ = c.args.held.now.items ++ line_text c.args.entry.now.line (answer_text c.args.entry.now.answer) in
    let piece : List ℕ = c.in-Some.piece.items in
    let rest : List ℕ = c.next.new.self in
    let so : IsWritten whole (held ++ (piece ++ rest)) t t1 = subst (λ x. IsWritten whole (held ++ x) t t1) c.in-Some.ensures.steps.0 c.pieces.invariant.written in
    on_err c.from_residual.result (GainsFront t t2 whole)
    (piece_cut whole held piece rest t t1 t2 so (subst (λ x. GainsFront t1 t2 (held ++ x)) c.deref.ensures.0 c.in_err-gather.ensures.err))
