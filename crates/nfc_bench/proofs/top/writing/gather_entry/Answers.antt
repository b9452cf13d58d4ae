use Rattle.std.proofs.Common.{ℕ, List, ◌++◌, Bool, Option, sym, subst}
use Rattle.nfc_io.specs.Moves.{GainsFront}
use Rattle.bench_world.specs.Report.{events_text, line_text, answer_text, entry_text}
use Rattle.nfc_bench.specs.Gathering.{IsWritten}
use Rattle.nfc_bench.proofs.Writing.{both_written, then_cut, on_err_too, on_ok_too}
use Rattle.nfc_bench.proofs.top.writing.gather_entry.Goals as goal

pub returns-clause-ok : goal.returns-clause-ok
returns-clause-ok g c =
    let t : Option (List ℕ) = g.K.Sink.taken c.args.sink.now in
    let t1 : Option (List ℕ) = g.K.Sink.taken c.gather_events.new.sink in
    let t2 : Option (List ℕ) = g.K.Sink.taken c.gather_answer-2.new.sink in
    let held : List ℕ = c.gather_events.new.held.items in
    let held' : List ℕ = c.gather_answer-2.new.held.items in
    let events : List ℕ = events_text c.args.entry.now.line c.args.entry.now.events in
    let answer : List ℕ = line_text c.args.entry.now.line (answer_text c.args.entry.now.answer) in
    let first : IsWritten events held t t1 =
    subst (λ h. IsWritten (h ++ events) held t t1) c.requires
    (subst (λ es. IsWritten (c.args.held.now.items ++ events_text c.args.entry.now.line es) held t t1) c.as_slice.ensures c.in_ok-gather_events.ensures.ok) in
    let Q : Bool → Type 0 = λ q. IsWritten (entry_text q c.args.entry.now) held' t t2 in
    on_ok_too c.gather_answer-2.result (IsWritten (held ++ answer) held' t1 t2) (Q c.args.quiet)
    (λ w. subst Q (sym c.if-quiet.false) (both_written events answer held held' t t1 t2 first w)) c.gather_answer-2.ensures.ok

pub returns-clause-err : goal.returns-clause-err
returns-clause-err g c =
    let t : Option (List ℕ) = g.K.Sink.taken c.args.sink.now in
    let t1 : Option (List ℕ) = g.K.Sink.taken c.gather_events.new.sink in
    let t2 : Option (List ℕ) = g.K.Sink.taken c.gather_answer-2.new.sink in
    let held : List ℕ = c.gather_events.new.held.items in
    let events : List ℕ = events_text c.args.entry.now.line c.args.entry.now.events in
    let answer : List ℕ = line_text c.args.entry.now.line (answer_text c.args.entry.now.answer) in
    let first : IsWritten events held t t1 =
    subst (λ h. IsWritten (h ++ events) held t t1) c.requires
    (subst (λ es. IsWritten (c.args.held.now.items ++ events_text c.args.entry.now.line es) held t t1) c.as_slice.ensures c.in_ok-gather_events.ensures.ok) in
    let Q : Bool → Type 0 = λ q. GainsFront t t2 (entry_text q c.args.entry.now) in
    on_err_too c.gather_answer-2.result (GainsFront t1 t2 (held ++ answer)) (Q c.args.quiet)
    (λ front. subst Q (sym c.if-quiet.false) (then_cut events answer held t t1 t2 first front)) c.gather_answer-2.ensures.err
