use Rattle.std.proofs.Common.{ℕ, List, Option, subst}
use Rattle.nfc_io.specs.Moves.{GainsFront}
use Rattle.bench_world.specs.Report.{entry_text}
use Rattle.nfc_bench.proofs.Writing.{rest_cut, on_err_too}
use Rattle.nfc_bench.proofs.top.writing.write_entry.Goals as goal

pub returns-clause-err : goal.returns-clause-err
returns-clause-err g c =
    let t : Option (List ℕ) = g.K.Sink.taken c.args.sink.now in
    let t1 : Option (List ℕ) = g.K.Sink.taken c.gather_entry.new.sink in
    let t2 : Option (List ℕ) = g.K.Sink.taken c.write_all.new.sink in
    let text : List ℕ = entry_text c.args.quiet c.args.entry.now in
    let held : List ℕ = c.gather_entry.new.held.items in
    on_err_too c.write_all.result (GainsFront t1 t2 c.as_slice.result.now) (GainsFront t t2 text)
    (λ front. rest_cut text held t t1 t2 c.in_ok-gather_entry.ensures.ok (subst (λ x. GainsFront t1 t2 x) c.as_slice.ensures.value front)) c.write_all.ensures.err
