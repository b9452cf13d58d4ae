use Rattle.std.proofs.Common.{◌≡◌, drop}
use Rattle.llcp_link.specs.Kept.{AllBound}
use Rattle.llcp_link.specs.Names.{is_bound as has_bound}
use Rattle.llcp_link.proofs.names.is_bound.Given as goal

abbrev pub invariant-bound : goal.invariant-bound
invariant-bound l = record {
  left : has_bound l.sap (drop l.known-index l.bound) ≡ has_bound l.sap l.bound;
  range : AllBound l.bound → AllBound (drop l.known-index l.bound);
}
