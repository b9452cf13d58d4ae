use Rattle.std.proofs.Common.{◌≡◌, ◌+◌, ◌<◌, ℕ, List, Err, refl, sym, ◌∙◌, ap, subst, arith}
use Rattle.bench_world.specs.declared.entry.Entry.{Entry}
use Rattle.bench_world.specs.Obeying.{Benched}
use Rattle.nfc_bench.specs.declared.top.obeying.Unobeyed.{Unobeyed}
use Rattle.nfc_bench.specs.Stops.{ObeyedBy, Unobeys}
use Rattle.nfc_bench.specs.Sweep.{Swept, sweep_lines}
use Rattle.nfc_bench.specs.SweepStops.{HasBrokenAll}
use Rattle.nfc_bench.proofs.Obeying.{none_untaken}
use Rattle.nfc_bench.proofs.Sweeping.{broken_none, broken_more, broken_some, front_all}
use Rattle.nfc_bench.proofs.top.sweeping.break_each.Goals as goal

-- the lines of a run, by how many transmissions pass
run_lines : Swept → ℕ → List (List ℕ)
run_lines s n = sweep_lines s.before s.last s.read n

-- they are the same whatever passed before
same_lines : (s l m : Swept) (n : ℕ) → l ≡ record s { passes = l.passes } → m ≡ record l { passes = n } → sweep_lines m.before m.last m.read m.passes ≡ sweep_lines s.before s.last s.read n
same_lines s l m n same now =
    let all : m ≡ record s { passes = n } = now ∙ ap (λ (x : Swept). record x { passes = n }) same in
    ap (λ (x : Swept). sweep_lines x.before x.last x.read x.passes) all

pub runs-init : goal.runs-init
runs-init c = record { broken = broken_none c.args.lines.now c.args.bench.now c.requires.new; same = refl }

pub unreachable-requires : goal.unreachable-requires
unreachable-requires c =
    let s : Swept = c.args.lines.now in
    let lines = same_lines s c.runs.lines c.let_pass.new.self c.runs.passes c.runs.invariant.same c.let_pass.ensures in
    let it = c.requires.taken c.runs.passes in
    let P : Unobeyed → Type 0 = λ why. Unobeys (sweep_lines s.before s.last s.read c.runs.passes) c.obey_all.new.bench why in
    none_untaken (sweep_lines s.before s.last s.read c.runs.passes) it.0 c.obey_all.new.bench c.in-Err-Refused.field-0-0 it.1
    (subst P c.in-Err-Refused.field-0-is (subst (λ ls. Unobeys ls c.obey_all.new.bench c.in-Err-Refused.field-0) lines c.in-Err-Refused.ensures.err))

pub returns-in-Err-Memory-clause-err : goal.returns-in-Err-Memory-clause-err
returns-in-Err-Memory-clause-err c =
    let s : Swept = c.args.lines.now in
    let lines = same_lines s c.runs.lines c.let_pass.new.self c.runs.passes c.runs.invariant.same c.let_pass.ensures in
    let P : Unobeyed → Type 0 = λ why. Unobeys (sweep_lines s.before s.last s.read c.runs.passes) c.obey_all.new.bench why in
    broken_some s c.runs.passes c.args.count c.args.bench.now c.runs.bench c.obey_all.new.bench c.runs.invariant.broken (omega (arith, c.runs-test.true)) c.obey_all.ensures.runs
    (subst P c.in-Err-Memory.field-0-is (subst (λ ls. Unobeys ls c.obey_all.new.bench c.in-Err-Memory.field-0) lines c.in-Err-Memory.ensures.err))

pub returns-in_err-again-clause-err : goal.returns-in_err-again-clause-err
returns-in_err-again-clause-err c =
    let s : Swept = c.args.lines.now in
    let lines = same_lines s c.runs.lines c.let_pass.new.self c.runs.passes c.runs.invariant.same c.let_pass.ensures in
    let o : ObeyedBy (sweep_lines s.before s.last s.read c.runs.passes) c.obey_all.new.bench = subst (λ ls. ObeyedBy ls c.obey_all.new.bench) lines c.in-Ok.ensures.ok in
    let it = broken_some s c.runs.passes c.args.count c.args.bench.now c.runs.bench c.obey_all.new.bench c.runs.invariant.broken (omega (arith, c.runs-test.true)) c.obey_all.ensures.runs
    (front_all (sweep_lines s.before s.last s.read c.runs.passes) c.obey_all.new.bench o) in
    grind (arith, it, c.in_err-again.ensures.err)

pub runs-preserved : goal.runs-preserved
runs-preserved c =
    let s : Swept = c.args.lines.now in
    let lines = same_lines s c.runs.lines c.let_pass.new.self c.runs.passes c.runs.invariant.same c.let_pass.ensures in
    let o : ObeyedBy (sweep_lines s.before s.last s.read c.runs.passes) c.obey_all.new.bench = subst (λ ls. ObeyedBy ls c.obey_all.new.bench) lines c.in-Ok.ensures.ok in
    let all : c.let_pass.new.self ≡ record s { passes = c.runs.passes } = c.let_pass.ensures ∙ ap (λ (x : Swept). record x { passes = c.runs.passes }) c.runs.invariant.same in
    record {
      broken = broken_more s c.runs.passes c.args.bench.now c.runs.bench c.obey_all.new.bench c.again.new.self c.runs.invariant.broken o c.obey_all.ensures.runs c.in_ok-again.ensures.ok;
      same = all ∙ ap (λ k. record s { passes = k }) (sym (ap (λ (x : Swept). x.passes) all));
    }

pub returns-clause-ok : goal.returns-clause-ok
returns-clause-ok c =
    let at : c.runs.passes ≡ c.args.count = omega (arith, c.runs-test.false, c.runs.auto.passes-end) in
    subst (λ n. HasBrokenAll c.args.lines.now n c.args.bench.now c.runs.bench) at c.runs.invariant.broken
