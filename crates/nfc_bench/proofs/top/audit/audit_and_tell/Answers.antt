use Rattle.std.proofs.Common.{ℕ, List, [], inl, inr, subst, ap, ◌∙◌}
use Rattle.nfc_io.specs.Moves.{with_end, GainsFront}
use Rattle.trace_audit.specs.declared.judging.Verdict.{Verdict}
use Rattle.trace_audit.specs.declared.judging.Verdict.TheVariants.{Legal, Faulty}
use Rattle.nfc_bench.specs.private.AuditStops.{HasJudged, AuditStops}
use Rattle.nfc_bench.specs.declared.top.audit.Unaudited.{Unaudited}
use Rattle.nfc_bench.specs.declared.top.audit.Unaudited.TheVariants.{Refused}
use Rattle.nfc_bench.specs.AuditText.{faulty_line}
use Rattle.nfc_bench.specs.Run.{AddsFault}
use Rattle.nfc_bench.proofs.AuditOnce.{not_refused}
use Rattle.nfc_bench.proofs.Auditing.{report_few}
use Rattle.nfc_bench.proofs.top.audit.audit_and_tell.Goals as goal

pub write_legal-requires-clause-few : goal.write_legal-requires-clause-few
write_legal-requires-clause-few g c =
    let P : Verdict → Type 0 = λ v. HasJudged (g.S.Source.left c.args.source.now) (g.S.Source.left c.judge_input.new.source) c.judge_input.new.bench v in
    let judged : P Legal = subst P c.in-Ok-Legal.field-0-is c.in-Ok-Legal.ensures.ok in
    report_few judged.read.parts.lines judged.read.parts.report c.judge_input.new.bench judged.read.parts.limits judged.says

pub returns-in-Ok-clause-legal : goal.returns-in-Ok-clause-legal
returns-in-Ok-clause-legal g c = λ _.
    let P : Verdict → Type 0 = λ v. HasJudged (g.S.Source.left c.args.source.now) (g.S.Source.left c.judge_input.new.source) c.judge_input.new.bench v in
    let judged : P Legal = subst P c.in-Ok-Legal.field-0-is c.in-Ok-Legal.ensures.ok in
    record { read = judged.read; is = judged.says; written = c.in-Ok.ensures.ok }

pub returns-in-Err-clause-unwritten : goal.returns-in-Err-clause-unwritten
returns-in-Err-clause-unwritten g c = λ _.
    let P : Verdict → Type 0 = λ v. HasJudged (g.S.Source.left c.args.source.now) (g.S.Source.left c.judge_input.new.source) c.judge_input.new.bench v in
    let judged : P Legal = subst P c.in-Ok-Legal.field-0-is c.in-Ok-Legal.ensures.ok in
    record { risen = c.in-Err.ensures.cause; read = judged.read; found = inl (judged.says, c.in-Err.ensures.err) }

pub returns-in-Ok-write_all-clause-faulty : goal.returns-in-Ok-write_all-clause-faulty
returns-in-Ok-write_all-clause-faulty g c = λ _.
    let P : Verdict → Type 0 = λ v. HasJudged (g.S.Source.left c.args.source.now) (g.S.Source.left c.judge_input.new.source) c.judge_input.new.bench v in
    let judged : P (Faulty c.in-Ok-Faulty.line) = subst P c.in-Ok-Faulty.field-0-is c.in-Ok-Faulty.ensures.ok in
    record {
      read = judged.read;
      number = c.in-Ok-Faulty.line;
      faulty = judged.says;
      written = c.in-Ok-write_all.ensures.ok ∙ ap (with_end (g.K.Sink.taken c.args.sink.now)) (c.deref.ensures.0 ∙ c.faulty_line.ensures);
    }

pub returns-in-Err-write_all-clause-unwritten : goal.returns-in-Err-write_all-clause-unwritten
returns-in-Err-write_all-clause-unwritten g c = λ _.
    let P : Verdict → Type 0 = λ v. HasJudged (g.S.Source.left c.args.source.now) (g.S.Source.left c.judge_input.new.source) c.judge_input.new.bench v in
    let judged : P (Faulty c.in-Ok-Faulty.line) = subst P c.in-Ok-Faulty.field-0-is c.in-Ok-Faulty.ensures.ok in
    let F : List ℕ → Type 0 = λ x. GainsFront (g.K.Sink.taken c.args.sink.now) (g.K.Sink.taken c.write_all.new.sink) x in
    let front : F (faulty_line c.in-Ok-Faulty.line) = subst F (c.deref.ensures.0 ∙ c.faulty_line.ensures) c.in-Err-write_all.ensures.err in
    record { risen = c.in-Err-write_all.ensures.cause; read = judged.read; found = inr (c.in-Ok-Faulty.line, judged.says, front) }

pub returns-in-Err-Refused-clause-refused : goal.returns-in-Err-Refused-clause-refused
returns-in-Err-Refused-clause-refused g c = λ _.
    let P : Unaudited → Type 0 = λ w. AuditStops (g.S.Source.left c.args.source.now) (g.S.Source.faults c.args.source.now) (g.S.Source.faults c.judge_input.new.source)
    c.args.bench.now c.judge_input.new.bench w in
    let refused : P (Refused c.in-Err-Refused.line) = subst P c.in-Err-Refused.field-0-is c.in-Err-Refused.ensures.err in
    let A : List ℕ → Type 0 = λ x. AddsFault [] x (g.K.Sink.taken c.args.sink.now) (g.K.Sink.taken c.write_fault.new.sink) (g.K.Sink.faults c.args.sink.now) (g.K.Sink.faults c.write_fault.new.sink) in
    record {
      input = refused.input;
      told = refused.told;
      number = c.in-Err-Refused.line;
      line = refused.line;
      written = subst A (c.deref-in-Err-Refused.ensures.0 ∙ c.refusal.ensures) c.write_fault.ensures.told;
    }

pub returns-in-Err-Refused-clause-complete : goal.returns-in-Err-Refused-clause-complete
returns-in-Err-Refused-clause-complete g c = λ bytes told audited _ _.
    let P : Unaudited → Type 0 = λ w. AuditStops (g.S.Source.left c.args.source.now) (g.S.Source.faults c.args.source.now) (g.S.Source.faults c.judge_input.new.source)
    c.args.bench.now c.judge_input.new.bench w in
    let refused : P (Refused c.in-Err-Refused.line) = subst P c.in-Err-Refused.field-0-is c.in-Err-Refused.ensures.err in
    absurd (not_refused (g.S.Source.left c.args.source.now) bytes c.in-Err-Refused.line told audited refused)
