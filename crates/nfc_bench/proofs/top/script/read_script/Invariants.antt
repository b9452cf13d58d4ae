use Rattle.std.proofs.Common.{◌≡◌, length, None}
use Rattle.nfc_bench.proofs.Progress.{HasRead}
use Rattle.nfc_bench.proofs.top.script.read_script.Given as goal

abbrev pub invariant-lines : goal.invariant-lines
invariant-lines g l = record {
  read : HasRead (g.S.Source.left l.fn.source) (g.S.Source.left l.source) l.reader l.lines.items;
  count : length l.lines.items ≡ l.counter;
  going : l.reader.stop ≡ None;
  faults : g.S.Source.faults l.source ≡ g.S.Source.faults l.fn.source;
}
