use Rattle.std.proofs.Common.{◌≡◌, ◌⊎◌, ℕ, List, [], Result, Ok, Err, sym, ◌∙◌, ap, subst, inl, inr}
use Rattle.std.specs.Prelude.{OnOk, OnErr}
use Rattle.bench_script.specs.declared.command.Command.{Command}
use Rattle.bench_world.specs.Taking.{AreTaken}
use Rattle.nfc_bench.specs.Run.{FirstAreObeyed, HasSweptSome}
use Rattle.nfc_bench.specs.Sweep.{sweep_lines, read_line}
use Rattle.bench_world.specs.Obeying.{Benched}
use Rattle.nfc_bench.specs.SweepStops.{AreAllTaken}
use Rattle.nfc_bench.proofs.Endings.{done_taken}
use Rattle.nfc_bench.proofs.SweptLines.{run_taken}
use Rattle.nfc_bench.proofs.Sweeping.{swept_all, swept_some, all_some, front_all}
use Rattle.nfc_bench.proofs.top.sweeping.break_off.Goals as goal

on_ok : {X E P : Type 0} (r : Result X E) → P → OnOk r P
on_ok (Ok x) p = p
on_ok (Err e) p = tt

on_err : {X E P : Type 0} (r : Result X E) → P → OnErr r P
on_err (Ok x) p = tt
on_err (Err e) p = p

pub returns-clause-swept : goal.returns-clause-swept
returns-clause-swept c =
    on_ok c.found_in.result
    (swept_all c.args.script c.args.count c.args.bench.now c.again.new.self c.break_each.new.bench c.in_ok-lines.lines c.requires.begins c.in_ok-lines.ensures.ok c.in_ok-again.ensures.ok
    c.in_ok-break_each.ensures.ok)

pub break_each-requires-clause-taken : goal.break_each-requires-clause-taken
break_each-requires-clause-taken c =
    let s = c.args.script in
    let a = c.in_ok-lines.ensures.ok in
    let it = done_taken s.lines c.args.bench.now c.requires.begins.obeys.obeyed in
    let taken = subst (λ ls. AreTaken ls it.commands) a.parts it.taken in
    let all : (n : ℕ) → (cs : List Command) × AreTaken (sweep_lines c.in_ok-lines.lines.before c.in_ok-lines.lines.last (read_line a.id) n) cs =
    run_taken c.in_ok-lines.lines.before c.in_ok-lines.lines.last it.commands a.id a.message taken a.spelled in
    subst (λ r. (n : ℕ) → (cs : List Command) × AreTaken (sweep_lines c.in_ok-lines.lines.before c.in_ok-lines.lines.last r n) cs) (sym a.read) all

pub returns-clause-err : goal.returns-clause-err
returns-clause-err c =
    on_err c.found_in.result
    (inr (all_some c.args.script.lines c.break_each.new.bench
    (swept_all c.args.script c.args.count c.args.bench.now c.again.new.self c.break_each.new.bench c.in_ok-lines.lines c.requires.begins c.in_ok-lines.ensures.ok c.in_ok-again.ensures.ok
    c.in_ok-break_each.ensures.ok)))

pub returns-in_err-again-clause-err : goal.returns-in_err-again-clause-err
returns-in_err-again-clause-err c =
    let lines : List (List ℕ) = c.args.script.lines in
    let same : c.again.new.self ≡ c.args.bench.now = c.in_err-again.ensures.err in
    on_err c.from_residual-in_err-again.result
    (inl (ap (λ (b : Benched). b.finished) same ∙ c.requires.begins.runs, subst (FirstAreObeyed lines) (sym same) (front_all lines c.args.bench.now c.requires.begins.obeys.obeyed)))

pub returns-in_err-break_each-clause-err : goal.returns-in_err-break_each-clause-err
returns-in_err-break_each-clause-err c =
    on_err c.from_residual-in_err-break_each.result
    (inr (swept_some c.args.script c.args.count c.args.bench.now c.again.new.self c.break_each.new.bench c.in_ok-lines.lines c.requires.begins c.in_ok-lines.ensures.ok c.in_ok-again.ensures.ok
    c.in_err-break_each.ensures.err))
