use Rattle.nfc_bench.proofs.Endings.{fault_written}
use Rattle.nfc_bench.proofs.top.write_fault.Goals as goal

pub returns-clause-told : goal.returns-clause-told
returns-clause-told g c =
    fault_written c.write_all.result (g.K.Sink.taken c.args.sink.now) (g.K.Sink.taken c.write_all.new.sink) (g.K.Sink.faults c.args.sink.now) (g.K.Sink.faults c.write_all.new.sink) c.args.line.now
    c.write_all.ensures.ok c.write_all.ensures.err c.write_all.ensures.cause
