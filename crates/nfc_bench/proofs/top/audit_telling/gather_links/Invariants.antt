use Rattle.std.proofs.Common.{◌≡◌, ◌+◌, ◌-◌, ◌++◌, length}
use Rattle.nfc_bench.specs.AuditText.{links_text}
use Rattle.nfc_bench.specs.Gathering.{IsWritten}
use Rattle.nfc_bench.proofs.top.audit_telling.gather_links.Given as goal

abbrev pub invariant-links : goal.invariant-links
invariant-links g l = record {
  written : IsWritten (l.fn.held.items ++ links_text l.bench.state 1 (length l.bench.state.peers.links))
      (l.held.items ++ links_text l.bench.state (l.before + 1) (length l.bench.state.peers.links - l.before)) (g.K.Sink.taken l.fn.sink) (g.K.Sink.taken l.sink);
  still : g.K.Sink.faults l.sink ≡ g.K.Sink.faults l.fn.sink;
}
