use Rattle.std.proofs.Common.{◌≡◌, take}
use Rattle.nfc_bench.specs.Stops.{ObeyedBy}
use Rattle.nfc_bench.proofs.top.obeying.obey_all.Given as goal

abbrev pub invariant-lines : goal.invariant-lines
invariant-lines g l = record {
  obeyed : ObeyedBy (take l.place (g.L.Lines.lines l.lines)) l.bench;
  runs : l.bench.finished ≡ l.fn.bench.finished;
}
