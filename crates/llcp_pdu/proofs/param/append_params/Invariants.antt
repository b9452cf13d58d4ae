use Rattle.std.proofs.Common.{◌≡◌, ◌++◌, drop}
use Rattle.llcp_pdu.specs.Ranges.{AreParams}
use Rattle.llcp_pdu.specs.Writing.{params_bytes}
use Rattle.llcp_pdu.proofs.param.append_params.Given as goal

abbrev pub invariant-params : goal.invariant-params
invariant-params l = record {
  left : AreParams (drop l.param-index l.params);
  bytes : l.target.items ++ params_bytes (drop l.param-index l.params) ≡ l.fn.target.items ++ params_bytes l.params;
}
