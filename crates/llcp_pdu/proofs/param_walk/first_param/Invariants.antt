use Rattle.std.proofs.Common.{length, ◌≡◌}
use Rattle.llcp_pdu.specs.Views.{HoldsParams, params_in}
use Rattle.llcp_pdu.proofs.param_walk.first_param.Given as goal

abbrev pub invariant-params : goal.invariant-params
invariant-params l = record {
  holds : HoldsParams l.rest;
  same : params_in l.params ≡ params_in l.rest;
}

abbrev pub decreases-params : goal.decreases-params
decreases-params l = length l.rest
