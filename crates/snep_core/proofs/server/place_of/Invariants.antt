use Rattle.std.proofs.Common.{◌≡◌, ◌+◌, drop, option_map}
use Rattle.snep_core.specs.Server.{place_of}
use Rattle.snep_core.proofs.server.place_of.Given as goal

abbrev pub invariant-table : goal.invariant-table
invariant-table l = record {
  left : option_map (λ n. l.place + n) (place_of l.key (drop l.offer-index l.table)) ≡ place_of l.key l.table;
  here : l.place ≡ l.offer-index;
}
