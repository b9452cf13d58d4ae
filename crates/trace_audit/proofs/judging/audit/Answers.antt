use Rattle.std.proofs.Common.{refl, arith, rules}
use Rattle.trace_audit.specs.declared.judging.AuditFault.{AuditFault}
use Rattle.nfc_io.specs.Lines.{lines_of}
use Rattle.trace_audit.specs.Judging.{RefusesScript}
use Rattle.trace_audit.proofs.Judged.{line_small, walk_judged, walk_refused, walks_first, walks_on}
use Rattle.trace_audit.proofs.judging.audit.Goals as goal

pub lines-init : goal.lines-init
lines-init c = walks_first c.args.script.now c.args.report.now c.args.bench.now _ c.requires.new refl refl refl

pub overflow_add-line : goal.overflow_add-line
overflow_add-line c =
    omega (
      arith,
      line_small c.args.script.now c.args.report.now c.lines.left.now c.in-Some.rest.now c.in-Some.text.now c.lines.line c.lines.bench c.lines.walk c.requires.script c.lines.invariant
          c.in-Some.ensures.lines,
    )

pub returns-in_err-walk-clause-err : goal.returns-in_err-walk-clause-err
returns-in_err-walk-clause-err c =
    let fault : AuditFault = c.in_err-walk.field-0.0 in
    let refused : RefusesScript (lines_of c.args.script.now) fault =
    walk_refused c.args.script.now c.args.report.now c.lines.left.now c.in-Some.rest.now c.in-Some.text.now c.lines.line c.lines.bench c.lines.walk c.requires.script c.lines.invariant
    c.in-Some.ensures.lines fault c.in_err-walk.ensures.err in
    search (rules, refused)

pub lines-preserved : goal.lines-preserved
lines-preserved c =
    walks_on c.args.script.now c.args.report.now c.lines.left.now c.in-Some.rest.now c.in-Some.text.now c.lines.line c.lines.bench c.lines.walk c.requires.script c.lines.invariant
    c.in-Some.ensures.lines c.audit_line.new.bench c.in_ok-walk.walk c.in_ok-walk.ensures.ok c.in_ok-walk.ensures.room

pub returns-clause-ok : goal.returns-clause-ok
returns-clause-ok c =
    walk_judged c.args.script.now c.args.report.now c.lines.left.now c.lines.line c.lines.bench c.lines.walk c.judge.result c.requires.script c.lines.invariant c.in_default.ensures c.judge.ensures
