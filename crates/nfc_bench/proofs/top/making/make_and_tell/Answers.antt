use Rattle.std.proofs.Common.{◌≤◌, List, ℕ, length, sym, subst}
use Rattle.std.specs.List.{All}
use Rattle.bench_script.specs.Limits.{most_lines, AreWithinLimits}
use Rattle.bench_world.specs.declared.entry.Entry.{Entry}
use Rattle.workload.specs.Workload.{IsCount, workload_lines, workload_commands}
use Rattle.workload.proofs.Spelled.{within_limits}
use Rattle.nfc_bench.proofs.Counting.{PutsShort, journal_few, puts_short}
use Rattle.nfc_bench.specs.declared.top.obeying.Unobeyed.{Unobeyed}
use Rattle.nfc_bench.specs.Stops.{Unobeys}
use Rattle.nfc_bench.proofs.Obeying.{none_untaken}
use Rattle.nfc_bench.proofs.Workloads.{workload_taken}
use Rattle.nfc_bench.proofs.top.making.make_and_tell.Goals as goal

pub unreachable-requires-in-Err-Refused : goal.unreachable-requires-in-Err-Refused
unreachable-requires-in-Err-Refused g c =
    let seed : ℕ = c.in-Some.workload.seed in
    let count : ℕ = c.in-Some.workload.count in
    let P : Unobeyed → Type 0 = λ why. Unobeys (workload_lines seed count) c.obey_all.new.bench why in
    none_untaken (workload_lines seed count) (workload_commands seed count) c.obey_all.new.bench c.in-Err-Refused.field-0-0 (workload_taken seed count)
    (subst P c.in-Err-Refused.field-0-is c.in-Err-Refused.ensures.err)

pub tally_of-requires-clause-few : goal.tally_of-requires-clause-few
tally_of-requires-clause-few g c =
    let lines : List (List ℕ) = workload_lines c.in-Some.workload.seed c.in-Some.workload.count in
    let limits : AreWithinLimits lines = within_limits c.in-Some.workload.seed c.in-Some.workload.count (subst IsCount (sym c.in-Some.ensures.value.1) c.requires.valid) in
    subst (λ js. length js ≤ most_lines) (sym c.journal.ensures) (journal_few lines c.obey_all.new.bench limits c.in-Ok.ensures.ok.obeyed)

pub tally_of-requires-clause-short : goal.tally_of-requires-clause-short
tally_of-requires-clause-short g c =
    let lines : List (List ℕ) = workload_lines c.in-Some.workload.seed c.in-Some.workload.count in
    subst (λ (js : List Entry). All PutsShort js) (sym c.journal.ensures) (puts_short lines c.obey_all.new.bench c.in-Ok.ensures.ok.obeyed)

pub returns-in-Err-Memory-clause-lines : goal.returns-in-Err-Memory-clause-lines
returns-in-Err-Memory-clause-lines g c = workload_taken c.args.seed c.args.count

pub returns-in-Ok-write_all-clause-lines : goal.returns-in-Ok-write_all-clause-lines
returns-in-Ok-write_all-clause-lines g c = workload_taken c.args.seed c.args.count

pub returns-in-Err-clause-lines : goal.returns-in-Err-clause-lines
returns-in-Err-clause-lines g c = workload_taken c.args.seed c.args.count

pub returns-in-Err-Memory-clause-limits : goal.returns-in-Err-Memory-clause-limits
returns-in-Err-Memory-clause-limits g c = within_limits c.args.seed c.args.count c.requires.valid

pub returns-in-Ok-write_all-clause-limits : goal.returns-in-Ok-write_all-clause-limits
returns-in-Ok-write_all-clause-limits g c = within_limits c.args.seed c.args.count c.requires.valid

pub returns-in-Err-clause-limits : goal.returns-in-Err-clause-limits
returns-in-Err-clause-limits g c = within_limits c.args.seed c.args.count c.requires.valid
