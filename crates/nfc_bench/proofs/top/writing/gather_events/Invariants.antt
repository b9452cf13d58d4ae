use Rattle.std.proofs.Common.{◌≡◌, ◌++◌, drop}
use Rattle.bench_world.specs.Report.{events_text}
use Rattle.nfc_bench.specs.Gathering.{IsWritten}
use Rattle.nfc_bench.proofs.top.writing.gather_events.Given as goal

abbrev pub invariant-events : goal.invariant-events
invariant-events g l = record {
  written : IsWritten (l.fn.held.items ++ events_text l.line l.events) (l.held.items ++ events_text l.line (drop l.event-index l.events)) (g.K.Sink.taken l.fn.sink) (g.K.Sink.taken l.sink);
  still : g.K.Sink.faults l.sink ≡ g.K.Sink.faults l.fn.sink;
}
