use Rattle.std.proofs.Common.{◌≡◌, drop}
use Rattle.snep_core.specs.Session.{value_of, AreShort}
use Rattle.snep_core.proofs.session.value_of.Given as goal

abbrev pub invariant-table : goal.invariant-table
invariant-table l = record {
  left : value_of l.key (drop l.offer-index l.table) ≡ value_of l.key l.table;
  short : AreShort (drop l.offer-index l.table);
}
