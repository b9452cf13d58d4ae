use Rattle.std.proofs.Common.{◌≡◌, ℕ, List, ◌++◌, length, Option, sym, ◌∙◌, subst}
use Rattle.std.proofs.lemmas.Bool.{eqb-true}
use Rattle.hex.specs.Hex.{encode_upper}
use Rattle.nfc_io.specs.Moves.{GainsFront}
use Rattle.nfc_bench.specs.Gathering.{IsWritten}
use Rattle.nfc_bench.proofs.Writing.{on_err, piece_cut, piece_written}
use Rattle.nfc_bench.proofs.AuditTelling.{digits_over, digits_parted}
use Rattle.bench_world.proofs.lines.Joined.{empty_is}
use Rattle.nfc_bench.proofs.top.audit_telling.gather_digits.Goals as goal

pub pieces-preserved : goal.pieces-preserved
pieces-preserved g c =
    let t : Option (List ℕ) = g.K.Sink.taken c.args.sink.now in
    let t1 : Option (List ℕ) = g.K.Sink.taken c.pieces.sink in
    let t2 : Option (List ℕ) = g.K.Sink.taken c.gather.new.sink in
    let held : List ℕ = c.pieces.held.items in
    let whole : List ℕ = c.args.held.now.items ++ encode_upper c.args.bytes.now in
    let piece : List ℕ = encode_upper c.split_at.result.0.now in
    let rest : List ℕ = encode_upper c.split_at.result.1.now in
    let is : c.deref.result.now ≡ piece = c.deref.ensures.0 ∙ c.digits.ensures in
    let so : IsWritten whole (held ++ (piece ++ rest)) t t1 =
    subst (λ x. IsWritten whole (held ++ x) t t1) (digits_parted _ c.pieces.left.now c.split_at.result.0.now c.split_at.result.1.now c.split_at.ensures.front c.split_at.ensures.back)
    c.pieces.invariant.written in
    record {
      written = piece_written whole held piece rest c.gather.new.held.items t t1 t2 so (subst (λ x. IsWritten (held ++ x) c.gather.new.held.items t1 t2) is c.in_ok-gather.ensures.ok);
      still = c.in_ok-gather.ensures.still ∙ c.pieces.invariant.still;
    }

pub returns-in_err-gather-clause-err : goal.returns-in_err-gather-clause-err
returns-in_err-gather-clause-err g c =
    let t : Option (List ℕ) = g.K.Sink.taken c.args.sink.now in
    let t1 : Option (List ℕ) = g.K.Sink.taken c.pieces.sink in
    let t2 : Option (List ℕ) = g.K.Sink.taken c.gather.new.sink in
    let held : List ℕ = c.pieces.held.items in
    let whole : List ℕ = c.args.held.now.items ++ encode_upper c.args.bytes.now in
    let piece : List ℕ = encode_upper c.split_at.result.0.now in
    let rest : List ℕ = encode_upper c.split_at.result.1.now in
    let is : c.deref.result.now ≡ piece = c.deref.ensures.0 ∙ c.digits.ensures in
    let so : IsWritten whole (held ++ (piece ++ rest)) t t1 =
    subst (λ x. IsWritten whole (held ++ x) t t1) (digits_parted _ c.pieces.left.now c.split_at.result.0.now c.split_at.result.1.now c.split_at.ensures.front c.split_at.ensures.back)
    c.pieces.invariant.written in
    on_err c.from_residual.result (GainsFront t t2 whole)
    (piece_cut whole held piece rest t t1 t2 so (subst (λ x. GainsFront t1 t2 (held ++ x)) is c.in_err-gather.ensures.err))

pub returns-clause-ok : goal.returns-clause-ok
returns-clause-ok g c =
    let none : length c.pieces.left.now ≡ 0 = eqb-true (length c.pieces.left.now) 0 (sym c.pieces-test.ensures) in
    digits_over _ c.pieces.held.items c.pieces.left.now (g.K.Sink.taken c.args.sink.now) (g.K.Sink.taken c.pieces.sink) c.pieces.invariant.written (empty_is c.pieces.left.now none)
