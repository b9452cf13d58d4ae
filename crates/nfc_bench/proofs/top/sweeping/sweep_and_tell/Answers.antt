use Rattle.std.proofs.Common.{ℕ, List, Option, subst}
use Rattle.nfc_bench.specs.declared.top.sweeping.Cut.{Cut}
use Rattle.nfc_bench.specs.declared.top.sweeping.Cut.TheVariants.{Refused}
use Rattle.nfc_bench.specs.SweepStops.{SweepStops}
use Rattle.nfc_bench.proofs.ScriptText.{reads_at_most}
use Rattle.nfc_bench.proofs.Sweeping.{sweep_not_refused}
use Rattle.nfc_bench.proofs.top.sweeping.sweep_and_tell.Goals as goal

pub returns-in-Err-Refused-clause-complete : goal.returns-in-Err-Refused-clause-complete
returns-in-Err-Refused-clause-complete g c = λ bytes told may reads writes.
    let left : Option (List ℕ) = g.S.Source.left c.args.source.now in
    let P : Cut → Type 0 = λ s. SweepStops left (g.S.Source.faults c.args.source.now) (g.S.Source.faults c.sweep.new.source) c.sweep.new.bench s in
    let s : P (Refused c.in-Err-Refused.line) = subst P c.in-Err-Refused.field-0-is c.in-Err-Refused.ensures.err in
    absurd (sweep_not_refused left bytes c.sweep.new.bench c.in-Err-Refused.line told may s)

pub returns-in-Err-Refused-clause-bound : goal.returns-in-Err-Refused-clause-bound
returns-in-Err-Refused-clause-bound g c = reads_at_most (g.S.Source.left c.args.source.now) (g.S.Source.left c.sweep.new.source) c.sweep.ensures.stop

pub returns-in-Err-ReadFault-clause-bound : goal.returns-in-Err-ReadFault-clause-bound
returns-in-Err-ReadFault-clause-bound g c = reads_at_most (g.S.Source.left c.args.source.now) (g.S.Source.left c.sweep.new.source) c.sweep.ensures.stop

pub returns-in-Err-Memory-clause-bound : goal.returns-in-Err-Memory-clause-bound
returns-in-Err-Memory-clause-bound g c = reads_at_most (g.S.Source.left c.args.source.now) (g.S.Source.left c.sweep.new.source) c.sweep.ensures.stop

pub returns-in-Ok-write_all-clause-bound : goal.returns-in-Ok-write_all-clause-bound
returns-in-Ok-write_all-clause-bound g c = reads_at_most (g.S.Source.left c.args.source.now) (g.S.Source.left c.sweep.new.source) c.sweep.ensures.stop

pub returns-in-Err-clause-bound : goal.returns-in-Err-clause-bound
returns-in-Err-clause-bound g c = reads_at_most (g.S.Source.left c.args.source.now) (g.S.Source.left c.sweep.new.source) c.sweep.ensures.stop
