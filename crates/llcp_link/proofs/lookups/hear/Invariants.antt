use Rattle.std.proofs.Common.{◌≡◌}
use Rattle.llcp_pdu.specs.Views.{params_in}
use Rattle.llcp_link.specs.Names.{lookups_told}
use Rattle.llcp_link.proofs.lookups.hear.Given as goal

abbrev pub invariant-params : goal.invariant-params
invariant-params l = record {
  left : lookups_told (params_in l.param-iterator) l.lookups.items ≡ lookups_told (params_in l.params) l.fn.lookups.items;
}
