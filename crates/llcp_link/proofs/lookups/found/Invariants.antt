use Rattle.std.proofs.Common.{◌≡◌, drop}
use Rattle.llcp_link.specs.Asking.{found_in}
use Rattle.llcp_link.proofs.lookups.found.Given as goal

abbrev pub invariant-lookups : goal.invariant-lookups
invariant-lookups l = record {
  left : found_in l.tid (drop l.lookup-index l.lookups) ≡ found_in l.tid l.lookups;
}
