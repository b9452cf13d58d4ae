use Rattle.std.proofs.Common.{◌≡◌, true, false, ℕ, List, ◌++◌, Option, sym, ap, ◌∙◌, subst}
use Rattle.nfc_io.specs.Moves.{with_end, GainsFront}
use Rattle.nfc_io.proofs.Moves.{with_end-nil}
use Rattle.bench_world.specs.declared.entry.Entry.{Entry}
use Rattle.bench_world.specs.Report.{entry_text, report_text}
use Rattle.bench_world.specs.Obeying.{Benched}
use Rattle.nfc_bench.specs.Stops.{LineObeyed, IsLast}
use Rattle.nfc_bench.proofs.Journals.{report_one}
use Rattle.nfc_bench.proofs.top.lines.obey_line.Goals as goal

-- the journal's last entry is that of the line
last_is : (old new : Benched) (n : ℕ) (l : List ℕ) (last : Entry) → (it : LineObeyed old new n l true) → IsLast new.journal last → last ≡ it.asked.0
last_is old new n l last it is = is old.journal it.asked.0 (it.follows.added ∙ ap (λ es. old.journal ++ es) it.asked.1)

pub returns-in-Ok-false-clause-ok : goal.returns-in-Ok-false-clause-ok
returns-in-Ok-false-clause-ok g c =
    let is : c.in-Ok-false.field-0 ≡ false = cc in
    let it : LineObeyed c.args.bench.now c.obey_text.new.bench c.args.line c.args.text.now false =
    subst (LineObeyed c.args.bench.now c.obey_text.new.bench c.args.line c.args.text.now) is c.in-Ok-false.ensures.ok in
    let taken : Option (List ℕ) = g.K.Sink.taken c.args.sink.now in
    record { follows = it.follows; written = sym (with_end-nil taken) ∙ ap (λ es. with_end taken (report_text c.args.quiet es)) (sym it.asked) }

pub returns-in-Ok-clause-ok : goal.returns-in-Ok-clause-ok
returns-in-Ok-clause-ok g c =
    let is : c.in-Ok-true.field-0 ≡ true = cc in
    let it : LineObeyed c.args.bench.now c.obey_text.new.bench c.args.line c.args.text.now true =
    subst (LineObeyed c.args.bench.now c.obey_text.new.bench c.args.line c.args.text.now) is c.in-Ok-true.ensures.ok in
    let last : c.last_entry.result.now ≡ it.asked.0 = last_is c.args.bench.now c.obey_text.new.bench c.args.line c.args.text.now c.last_entry.result.now it c.last_entry.ensures in
    let text = ap (entry_text c.args.quiet) last in
    record {
      follows = it.follows;
      written = c.in-Ok.ensures.ok ∙ ap (with_end (g.K.Sink.taken c.args.sink.now)) (text ∙ sym (report_one c.args.quiet it.follows.entries it.asked.0 it.asked.1));
    }

pub returns-in-Err-clause-err : goal.returns-in-Err-clause-err
returns-in-Err-clause-err g c =
    let is : c.in-Ok-true.field-0 ≡ true = cc in
    let it : LineObeyed c.args.bench.now c.obey_text.new.bench c.args.line c.args.text.now true =
    subst (LineObeyed c.args.bench.now c.obey_text.new.bench c.args.line c.args.text.now) is c.in-Ok-true.ensures.ok in
    let last : c.last_entry.result.now ≡ it.asked.0 = last_is c.args.bench.now c.obey_text.new.bench c.args.line c.args.text.now c.last_entry.result.now it c.last_entry.ensures in
    let G : List ℕ → Type 0 = λ t. GainsFront (g.K.Sink.taken c.args.sink.now) (g.K.Sink.taken c.write_entry.new.sink) t in
    record {
      follows = it.follows;
      entry = it.asked.0;
      one = it.asked.1;
      written = subst G (ap (entry_text c.args.quiet) last) c.in-Err.ensures.err;
      risen = c.in-Err.ensures.cause;
    }
