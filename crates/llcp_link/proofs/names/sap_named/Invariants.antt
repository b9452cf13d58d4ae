use Rattle.std.proofs.Common.{◌≡◌, drop}
use Rattle.llcp_link.specs.Kept.{AllBound}
use Rattle.llcp_link.specs.Names.{bound_to}
use Rattle.llcp_link.proofs.names.sap_named.Given as goal

abbrev pub invariant-bound : goal.invariant-bound
invariant-bound l = record {
  left : bound_to l.name (drop l.known-index l.bound) ≡ bound_to l.name l.bound;
  range : AllBound l.bound → AllBound (drop l.known-index l.bound);
}
