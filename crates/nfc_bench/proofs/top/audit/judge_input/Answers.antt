use Rattle.std.proofs.Common.{ℕ, List, [], Option, subst}
use Rattle.nfc_io.specs.Lines.{lines_of}
use Rattle.trace_audit.specs.Judging.{Judges}
use Rattle.nfc_bench.specs.private.AuditReading.{ReadsInput}
use Rattle.nfc_bench.specs.private.AuditStops.{LinesStop}
use Rattle.nfc_bench.specs.declared.top.audit_input.Behind.{Behind}
use Rattle.nfc_bench.specs.declared.top.audit_input.Behind.TheVariants.{Report, NoReport}
use Rattle.nfc_bench.proofs.Auditing.{concludes, stops}
use Rattle.nfc_bench.proofs.top.audit.judge_input.Goals as goal

pub returns-in-Ok-judge-clause-ok : goal.returns-in-Ok-judge-clause-ok
returns-in-Ok-judge-clause-ok g c =
    let left : Option (List ℕ) = g.S.Source.left c.args.source.now in
    let left' : Option (List ℕ) = g.S.Source.left c.read_input.new.source in
    let script : List ℕ = c.in-Ok.input.script.items in
    let P : Behind → Type 0 = λ x. ReadsInput left left' script x in
    let read : P (Report c.in-Report.report) = subst P c.in-Report.is c.in-Ok.ensures.ok in
    let Q : List ℕ → List ℕ → Type 0 = λ x y. Judges (lines_of x) y c.judge.new.bench c.in-Ok-judge.verdict in
    let j : Q script c.in-Report.report.items =
    subst (Q script) c.deref-in-Report.ensures.value (subst (λ x. Q x c.deref-in-Report.result.now) c.deref.ensures.value c.in-Ok-judge.ensures.ok) in
    concludes left left' script (Report c.in-Report.report) c.judge.new.bench c.in-Ok-judge.verdict read j

pub returns-in-Report-clause-err : goal.returns-in-Report-clause-err
returns-in-Report-clause-err g c =
    let left : Option (List ℕ) = g.S.Source.left c.args.source.now in
    let left' : Option (List ℕ) = g.S.Source.left c.read_input.new.source in
    let script : List ℕ = c.in-Ok.input.script.items in
    let why : LinesStop (lines_of script) c.in-Err.why = subst (λ x. LinesStop (lines_of x) c.in-Err.why) c.deref.ensures.value c.in-Err.ensures.err in
    stops left left' script c.in-Ok.input.behind (g.S.Source.faults c.args.source.now) (g.S.Source.faults c.read_input.new.source) c.args.bench.now c.judge.new.bench c.in-Err.why
    c.in-Ok.ensures.ok why

pub returns-in-Ok-judge-2-clause-err : goal.returns-in-Ok-judge-2-clause-err
returns-in-Ok-judge-2-clause-err g c =
    let left : Option (List ℕ) = g.S.Source.left c.args.source.now in
    let left' : Option (List ℕ) = g.S.Source.left c.read_input.new.source in
    let script : List ℕ = c.in-Ok.input.script.items in
    let P : Behind → Type 0 = λ x. ReadsInput left left' script x in
    let read : P (NoReport c.in-NoReport.line) = subst P c.in-NoReport.is c.in-Ok.ensures.ok in
    let Q : List ℕ → Type 0 = λ x. Judges (lines_of x) [] c.judge-in-NoReport.new.bench c.in-Ok-judge-2.field-0 in
    concludes left left' script (NoReport c.in-NoReport.line) c.judge-in-NoReport.new.bench c.in-Ok-judge-2.field-0 read
    (subst Q c.deref-in-NoReport.ensures.value c.in-Ok-judge-2.ensures.ok)

pub returns-clause-err : goal.returns-clause-err
returns-clause-err g c =
    let left : Option (List ℕ) = g.S.Source.left c.args.source.now in
    let left' : Option (List ℕ) = g.S.Source.left c.read_input.new.source in
    let script : List ℕ = c.in-Ok.input.script.items in
    let why : LinesStop (lines_of script) c.in-Err-judge.why = subst (λ x. LinesStop (lines_of x) c.in-Err-judge.why) c.deref-in-NoReport.ensures.value c.in-Err-judge.ensures.err in
    stops left left' script c.in-Ok.input.behind (g.S.Source.faults c.args.source.now) (g.S.Source.faults c.read_input.new.source) c.args.bench.now c.judge-in-NoReport.new.bench
    c.in-Err-judge.why c.in-Ok.ensures.ok why
