use Rattle.std.proofs.Common.{ℕ, List, Option, refl, subst, ◌+◌, arith}
use Rattle.nfc_bench.specs.private.AuditReading.{Comes}
use Rattle.nfc_bench.specs.declared.top.audit_input.Ahead.{Ahead}
use Rattle.nfc_bench.specs.declared.top.audit_input.Ahead.TheVariants.{Marked, Unmarked}
use Rattle.nfc_bench.specs.AuditInput.{most_audited, most_report}
use Rattle.nfc_bench.specs.private.AuditReading.{most_ahead}
use Rattle.nfc_bench.specs.Limits.{chunk_size}
use Rattle.nfc_bench.proofs.AuditBounds.{reads_both, reads_less}
use Rattle.nfc_bench.proofs.AuditReading.{input_ends, input_reports}
use Rattle.nfc_bench.proofs.top.audit_input.read_input.Goals as goal

pub returns-in-Ok-Unmarked-clause-ok : goal.returns-in-Ok-Unmarked-clause-ok
returns-in-Ok-Unmarked-clause-ok g c =
    let left : Option (List ℕ) = g.S.Source.left c.args.source.now in
    let left' : Option (List ℕ) = g.S.Source.left c.read_ahead.new.source in
    let P : Ahead → Type 0 = λ a. Comes left left' c.read_ahead.new.reader a in
    let comes : P (Unmarked c.in-Ok-Unmarked.script c.in-Ok-Unmarked.count) = subst P c.in-Ok-Unmarked.field-0-is c.in-Ok-Unmarked.ensures.ok in
    input_ends left left' c.in-Ok-Unmarked.script.items c.in-Ok-Unmarked.count _ comes.0 refl

pub returns-in-Ok-read_report-clause-ok : goal.returns-in-Ok-read_report-clause-ok
returns-in-Ok-read_report-clause-ok g c =
    let left : Option (List ℕ) = g.S.Source.left c.args.source.now in
    let mid : Option (List ℕ) = g.S.Source.left c.read_ahead.new.source in
    let left' : Option (List ℕ) = g.S.Source.left c.read_report.new.source in
    let P : Ahead → Type 0 = λ a. Comes left mid c.read_ahead.new.reader a in
    let comes : P (Marked c.in-Ok-Marked.script c.in-Ok-Marked.count) = subst P c.in-Ok-Marked.field-0-is c.in-Ok-Marked.ensures.ok in
    input_reports left mid left' c.read_ahead.new.reader c.in-Ok-Marked.script.items c.in-Ok-Marked.count c.in-Ok-read_report.behind comes.0 c.in-Ok-read_report.ensures.ok

pub returns-in-Ok-Unmarked-clause-bound : goal.returns-in-Ok-Unmarked-clause-bound
returns-in-Ok-Unmarked-clause-bound g c =
    reads_less most_ahead most_audited (g.S.Source.left c.args.source.now) (g.S.Source.left c.read_ahead.new.source) (omega arith) c.in-Ok-Unmarked.ensures.bound

pub returns-in-Err-clause-bound : goal.returns-in-Err-clause-bound
returns-in-Err-clause-bound g c =
    reads_less most_ahead most_audited (g.S.Source.left c.args.source.now) (g.S.Source.left c.read_ahead.new.source) (omega arith) c.in-Err.ensures.bound

pub returns-in-Ok-read_report-clause-bound : goal.returns-in-Ok-read_report-clause-bound
returns-in-Ok-read_report-clause-bound g c =
    reads_both most_ahead (most_report + chunk_size) most_audited (g.S.Source.left c.args.source.now) (g.S.Source.left c.read_ahead.new.source) (g.S.Source.left c.read_report.new.source)
    (omega arith) c.in-Ok-Marked.ensures.bound c.in-Ok-read_report.ensures.bound

pub returns-in-Err-read_report-clause-bound : goal.returns-in-Err-read_report-clause-bound
returns-in-Err-read_report-clause-bound g c =
    reads_both most_ahead (most_report + chunk_size) most_audited (g.S.Source.left c.args.source.now) (g.S.Source.left c.read_ahead.new.source) (g.S.Source.left c.read_report.new.source)
    (omega arith) c.in-Ok-Marked.ensures.bound c.in-Err-read_report.ensures.bound
