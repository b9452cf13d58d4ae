use Rattle.std.proofs.Common.{◌≡◌, ◌+◌, ◌-◌, length, []}
use Rattle.nfc_io.specs.Behind.{ReadsOn}
use Rattle.nfc_io.proofs.rest.read_on.Given as goal

abbrev pub invariant-reading : goal.invariant-reading
invariant-reading g l = record {
  none : l.held ≡ [];
  on : ReadsOn l.most l.ended l.fn.held l.bytes.items (g.S.Source.left l.fn.source) (g.S.Source.left l.source);
  still : g.S.Source.faults l.source ≡ g.S.Source.faults l.fn.source;
}

abbrev pub decreases-reading : goal.decreases-reading
decreases-reading g l = l.most + 1 - length l.bytes.items
