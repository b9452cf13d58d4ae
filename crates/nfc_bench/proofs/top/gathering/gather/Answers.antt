use Rattle.std.proofs.Common.{◌≡◌, ℕ, List, ◌++◌, Option, ◌∙◌, ap}
use Rattle.nfc_io.specs.Moves.{with_end, GainsFront}
use Rattle.nfc_io.proofs.Moves.{GainsFront-after}
use Rattle.nfc_bench.specs.Gathering.{IsWritten}
use Rattle.nfc_bench.proofs.Writing.{behind_written, on_err_too, on_ok_too}
use Rattle.nfc_bench.proofs.top.gathering.gather.Goals as goal

pub returns-in_ok-write_all-in-Err-clause-ok : goal.returns-in_ok-write_all-in-Err-clause-ok
returns-in_ok-write_all-in-Err-clause-ok g c =
    let t : Option (List ℕ) = g.K.Sink.taken c.args.sink.now in
    let t1 : Option (List ℕ) = g.K.Sink.taken c.write_all.new.sink in
    let t2 : Option (List ℕ) = g.K.Sink.taken c.begin.new.sink in
    let held : List ℕ = c.args.held.now.items in
    let piece : List ℕ = c.args.piece.now in
    let first : t1 ≡ with_end t held = c.in_ok-write_all-in-Err.ensures.ok ∙ ap (with_end t) (c.as_slice.ensures.value ∙ ap (λ h. h.items) c.in-Err.ensures.err) in
    on_ok_too c.begin.result (IsWritten piece c.begin.new.held.items t1 t2) (IsWritten (held ++ piece) c.begin.new.held.items t t2)
    (behind_written held piece c.begin.new.held.items t t1 t2 first) c.begin.ensures.ok

pub returns-in_ok-write_all-in-Err-clause-err : goal.returns-in_ok-write_all-in-Err-clause-err
returns-in_ok-write_all-in-Err-clause-err g c =
    let t : Option (List ℕ) = g.K.Sink.taken c.args.sink.now in
    let t1 : Option (List ℕ) = g.K.Sink.taken c.write_all.new.sink in
    let t2 : Option (List ℕ) = g.K.Sink.taken c.begin.new.sink in
    let held : List ℕ = c.args.held.now.items in
    let piece : List ℕ = c.args.piece.now in
    let first : t1 ≡ with_end t held = c.in_ok-write_all-in-Err.ensures.ok ∙ ap (with_end t) (c.as_slice.ensures.value ∙ ap (λ h. h.items) c.in-Err.ensures.err) in
    on_err_too c.begin.result (GainsFront t1 t2 piece) (GainsFront t t2 (held ++ piece)) (GainsFront-after t t1 t2 held piece first) c.begin.ensures.err
