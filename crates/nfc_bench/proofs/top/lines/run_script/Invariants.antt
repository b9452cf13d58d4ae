use Rattle.std.proofs.Common.{◌≡◌, ◌≤◌, ◌-◌, None}
use Rattle.nfc_bench.proofs.Progress.{Progress}
use Rattle.nfc_bench.proofs.top.lines.run_script.Given as goal

abbrev pub invariant-lines : goal.invariant-lines
invariant-lines g l = record {
  progress : Progress l.fn.quiet (g.S.Source.left l.fn.source) (g.S.Source.left l.source) l.reader l.bench l.line (g.K.Sink.taken l.fn.sink) (g.K.Sink.taken l.sink);
  going : l.reader.stop ≡ None;
  runs : l.bench.finished ≡ l.fn.bench.finished;
  few : l.line ≤ 1001;
  reads : g.S.Source.faults l.source ≡ g.S.Source.faults l.fn.source;
  writes : g.K.Sink.faults l.sink ≡ g.K.Sink.faults l.fn.sink;
}

abbrev pub decreases-lines : goal.decreases-lines
decreases-lines g l = 1001 - l.line
