use Rattle.std.proofs.Common.{ℕ, List, Option, ◌∙◌, subst}
use Rattle.nfc_bench.specs.declared.top.lines.Stop.{Stop}
use Rattle.nfc_bench.specs.declared.top.lines.Stop.TheVariants.{Refused, ReadFault}
use Rattle.nfc_bench.specs.Stops.{RunStops}
use Rattle.nfc_bench.proofs.ScriptText.{reads_at_most}
use Rattle.nfc_bench.proofs.Endings.{ends_refused, ends_unread, taken_not_refused}
use Rattle.nfc_bench.proofs.top.run_and_tell.Goals as goal

pub returns-in-Err-Refused-clause-refused : goal.returns-in-Err-Refused-clause-refused
returns-in-Err-Refused-clause-refused g c = λ _.
    let left : Option (List ℕ) = g.S.Source.left c.args.source.now in
    let t : Option (List ℕ) = g.K.Sink.taken c.args.sink.now in
    let t1 : Option (List ℕ) = g.K.Sink.taken c.run_script.new.sink in
    let w : ℕ = g.K.Sink.faults c.args.sink.now in
    let w1 : ℕ = g.K.Sink.faults c.run_script.new.sink in
    let P : Stop → Type 0 = λ s. RunStops c.args.quiet left (g.S.Source.left c.run_script.new.source) t t1 (g.S.Source.faults c.args.source.now) (g.S.Source.faults c.run_script.new.source) w w1
    c.run_script.new.bench s in
    let s : P (Refused c.in-Err-Refused.n) = subst P c.in-Err-Refused.field-0-is c.in-Err-Refused.ensures.err in
    (ends_refused c.args.quiet left t t1 (g.K.Sink.taken c.write_fault.new.sink) w w1 (g.K.Sink.faults c.write_fault.new.sink) c.run_script.new.bench c.in-Err-Refused.n c.deref.result.now
    s (c.deref.ensures.0 ∙ c.refusal.ensures) c.run_script.ensures.writes c.write_fault.ensures.told)

pub returns-in-Err-Refused-clause-complete : goal.returns-in-Err-Refused-clause-complete
returns-in-Err-Refused-clause-complete g c = λ bytes told all reads writes.
    let left : Option (List ℕ) = g.S.Source.left c.args.source.now in
    let t : Option (List ℕ) = g.K.Sink.taken c.args.sink.now in
    let t1 : Option (List ℕ) = g.K.Sink.taken c.run_script.new.sink in
    let w : ℕ = g.K.Sink.faults c.args.sink.now in
    let w1 : ℕ = g.K.Sink.faults c.run_script.new.sink in
    let P : Stop → Type 0 = λ s. RunStops c.args.quiet left (g.S.Source.left c.run_script.new.source) t t1 (g.S.Source.faults c.args.source.now) (g.S.Source.faults c.run_script.new.source) w w1
    c.run_script.new.bench s in
    let s : P (Refused c.in-Err-Refused.n) = subst P c.in-Err-Refused.field-0-is c.in-Err-Refused.ensures.err in
    absurd (taken_not_refused left bytes c.run_script.new.bench c.in-Err-Refused.n told all s.lines)

pub returns-in-Err-ReadFault-clause-unread : goal.returns-in-Err-ReadFault-clause-unread
returns-in-Err-ReadFault-clause-unread g c = λ _.
    let left : Option (List ℕ) = g.S.Source.left c.args.source.now in
    let left' : Option (List ℕ) = g.S.Source.left c.run_script.new.source in
    let t : Option (List ℕ) = g.K.Sink.taken c.args.sink.now in
    let t1 : Option (List ℕ) = g.K.Sink.taken c.run_script.new.sink in
    let t2 : Option (List ℕ) = g.K.Sink.taken c.write_fault-in-Err-ReadFault.new.sink in
    let w : ℕ = g.K.Sink.faults c.args.sink.now in
    let w1 : ℕ = g.K.Sink.faults c.run_script.new.sink in
    let w2 : ℕ = g.K.Sink.faults c.write_fault-in-Err-ReadFault.new.sink in
    let r : ℕ = g.S.Source.faults c.args.source.now in
    let r' : ℕ = g.S.Source.faults c.run_script.new.source in
    let P : Stop → Type 0 = λ s. RunStops c.args.quiet left left' t t1 r r' w w1 c.run_script.new.bench s in
    let s : P ReadFault = subst P c.in-Err-ReadFault.field-0-is c.in-Err-ReadFault.ensures.err in
    (ends_unread c.args.quiet left left' t t1 t2 r r' w w1 w2 c.run_script.new.bench s c.run_script.ensures.writes c.write_fault-in-Err-ReadFault.ensures.told)

pub returns-in-Ok-clause-bound : goal.returns-in-Ok-clause-bound
returns-in-Ok-clause-bound g c = reads_at_most (g.S.Source.left c.args.source.now) (g.S.Source.left c.run_script.new.source) c.run_script.ensures.stop

pub returns-in-Err-Refused-clause-bound : goal.returns-in-Err-Refused-clause-bound
returns-in-Err-Refused-clause-bound g c = reads_at_most (g.S.Source.left c.args.source.now) (g.S.Source.left c.run_script.new.source) c.run_script.ensures.stop

pub returns-in-Err-ReadFault-clause-bound : goal.returns-in-Err-ReadFault-clause-bound
returns-in-Err-ReadFault-clause-bound g c = reads_at_most (g.S.Source.left c.args.source.now) (g.S.Source.left c.run_script.new.source) c.run_script.ensures.stop

pub returns-in-Err-WriteFault-clause-bound : goal.returns-in-Err-WriteFault-clause-bound
returns-in-Err-WriteFault-clause-bound g c = reads_at_most (g.S.Source.left c.args.source.now) (g.S.Source.left c.run_script.new.source) c.run_script.ensures.stop

pub returns-in-Err-Memory-clause-bound : goal.returns-in-Err-Memory-clause-bound
returns-in-Err-Memory-clause-bound g c = reads_at_most (g.S.Source.left c.args.source.now) (g.S.Source.left c.run_script.new.source) c.run_script.ensures.stop
