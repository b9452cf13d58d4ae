use Rattle.std.proofs.Common.{◌≡◌, ◌<◌, ◌≤◌, ◌+◌, List, ℕ, [], length, get_or, Err, refl, sym, ◌∙◌, ap, subst, arith}
use Rattle.std.proofs.lemmas.List.{take_all}
use Rattle.bench_world.specs.Obeying.{Benched}
use Rattle.bench_world.specs.declared.bench.ObeyFault.TheVariants.{Refused, Memory}
use Rattle.nfc_bench.specs.Stops.{Follows, ObeyedBy}
use Rattle.nfc_bench.proofs.Progress.{obeyed_new}
use Rattle.nfc_bench.proofs.Obeying.{obeyed_next, untaken_next, front_obeyed}
use Rattle.nfc_bench.proofs.top.obeying.obey_all.Goals as goal

pub lines-init : goal.lines-init
lines-init g c = record {
  obeyed = subst (λ b. ObeyedBy [] b) (sym c.requires) (obeyed_new c.args.bench.now.finished);
  runs = refl;
}

pub lines-preserved : goal.lines-preserved
lines-preserved g c =
    let lines : List (List ℕ) = g.L.Lines.lines c.args.lines.now in
    let within : c.lines.place < length lines = omega (arith, c.lines-test.true, c.count-place-end.ensures) in
    let same : c.deref.result.now ≡ get_or lines c.lines.place [] = c.deref.ensures.0 ∙ c.line.ensures in
    let follows : Follows c.lines.bench c.obey_text.new.bench (c.lines.place + 1) (get_or lines c.lines.place []) =
    subst (Follows c.lines.bench c.obey_text.new.bench (c.lines.place + 1)) same c.in-Ok.ensures.ok.follows in
    record {
      obeyed = obeyed_next lines c.lines.place c.lines.bench c.obey_text.new.bench within c.lines.invariant.obeyed follows;
      runs = follows.runs ∙ c.lines.invariant.runs;
    }

pub returns-in-Err-Refused-clause-err : goal.returns-in-Err-Refused-clause-err
returns-in-Err-Refused-clause-err g c =
    let lines : List (List ℕ) = g.L.Lines.lines c.args.lines.now in
    let within : c.lines.place < length lines = omega (arith, c.lines-test.true, c.count-place-end.ensures) in
    let same : c.deref.result.now ≡ get_or lines c.lines.place [] = c.deref.ensures.0 ∙ c.line.ensures in
    let refused = c.in-Err-Refused.ensures.refused (ap Err c.in-Err-Refused.field-0-is) in
    untaken_next lines c.lines.place c.lines.bench c.obey_text.new.bench c.deref.result.now within same c.lines.invariant.obeyed refused.0 refused.1

pub returns-in-Err-Memory-clause-err : goal.returns-in-Err-Memory-clause-err
returns-in-Err-Memory-clause-err g c =
    let lines : List (List ℕ) = g.L.Lines.lines c.args.lines.now in
    let within : c.lines.place < length lines = omega (arith, c.lines-test.true, c.count-place-end.ensures) in
    let same : c.deref.result.now ≡ get_or lines c.lines.place [] = c.deref.ensures.0 ∙ c.line.ensures in
    front_obeyed lines c.lines.place c.lines.bench c.obey_text.new.bench c.deref.result.now within same c.lines.invariant.obeyed (c.in-Err-Memory.ensures.memory (ap Err c.in-Err-Memory.field-0-is))

pub returns-in-Err-Refused-clause-runs : goal.returns-in-Err-Refused-clause-runs
returns-in-Err-Refused-clause-runs g c =
    ap (λ (b : Benched). b.finished) (c.in-Err-Refused.ensures.refused (ap Err c.in-Err-Refused.field-0-is)).0 ∙ c.lines.invariant.runs

pub returns-in-Err-Memory-clause-runs : goal.returns-in-Err-Memory-clause-runs
returns-in-Err-Memory-clause-runs g c = (c.in-Err-Memory.ensures.memory (ap Err c.in-Err-Memory.field-0-is)).runs ∙ c.lines.invariant.runs

pub returns-clause-ok : goal.returns-clause-ok
returns-clause-ok g c =
    let lines : List (List ℕ) = g.L.Lines.lines c.args.lines.now in
    let end : length lines ≤ c.lines.place = omega (arith, c.lines-test.false, c.count-place-end.ensures) in
    subst (λ ls. ObeyedBy ls c.lines.bench) (take_all c.lines.place lines end) c.lines.invariant.obeyed
