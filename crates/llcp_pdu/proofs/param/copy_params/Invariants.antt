use Rattle.std.proofs.Common.{◌≡◌, ◌++◌}
use Rattle.llcp_pdu.specs.Views.{params_in}
use Rattle.llcp_pdu.proofs.param.copy_params.Given as goal

abbrev pub invariant-params : goal.invariant-params
invariant-params l = l.found.items ++ params_in l.param-iterator ≡ params_in l.params
