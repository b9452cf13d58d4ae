use Rattle.std.proofs.Common.{◌≡◌, ◌++◌, drop}
use Rattle.nfc_bench.specs.AuditText.{messages_text}
use Rattle.nfc_bench.specs.Gathering.{IsWritten}
use Rattle.nfc_bench.proofs.top.audit_telling.gather_link.Given as goal

abbrev pub invariant-messages : goal.invariant-messages
invariant-messages g l = record {
  written : IsWritten (l.fn.held.items ++ messages_text l.link l.messages l.sources) (l.held.items ++ messages_text l.link (drop l.i l.messages) (drop l.i l.sources)) (g.K.Sink.taken l.fn.sink)
      (g.K.Sink.taken l.sink);
  still : g.K.Sink.faults l.sink ≡ g.K.Sink.faults l.fn.sink;
}
