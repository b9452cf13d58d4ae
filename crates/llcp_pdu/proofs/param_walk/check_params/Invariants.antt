use Rattle.std.proofs.Common.{length, ◌≡◌, ◌+◌, List}
use Rattle.llcp_pdu.specs.declared.param.Param.{Param}
use Rattle.llcp_pdu.proofs.ParamLaws.{before}
use Rattle.llcp_pdu.specs.Params.{params}
use Rattle.llcp_pdu.proofs.param_walk.check_params.Given as goal

abbrev pub invariant-params : goal.invariant-params
invariant-params l = record {
  place : l.at + length l.rest ≡ l.start + length l.bytes;
  reads : (found : List Param) × (params l.bytes 0 l.start ≡ before found (params l.rest 0 l.at));
}

abbrev pub decreases-params : goal.decreases-params
decreases-params l = length l.rest
