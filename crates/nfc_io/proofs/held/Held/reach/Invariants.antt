use Rattle.std.proofs.Common.{length, ◌-◌, ◌≡◌, ◌≤◌, take}
use Rattle.nfc_io.specs.Lines.{NoLf}
use Rattle.nfc_io.specs.Reading.{Fetches}
use Rattle.nfc_io.proofs.held.Held.reach.Given as goal

abbrev pub invariant-reading : goal.invariant-reading
invariant-reading g l = record {
  fetched : Fetches l.ended l.fn.self l.self (g.S.Source.left l.fn.source) (g.S.Source.left l.source);
  within : l.clean ≤ length l.self;
  clean : NoLf (take l.clean l.self);
  still : g.S.Source.faults l.source ≡ g.S.Source.faults l.fn.source;
}

abbrev pub decreases-reading : goal.decreases-reading
decreases-reading g l = 4097 - length l.self
