use Rattle.std.proofs.Common.{◌≡◌}
use Rattle.llcp_pdu.specs.Params.{later, last_of, miux_in, rw_in, name_in}
use Rattle.llcp_pdu.specs.Views.{named, params_in}
use Rattle.llcp_pdu.proofs.connect.ConnectParams.new.Given as goal

abbrev pub invariant-params : goal.invariant-params
invariant-params l = record {
  miux : later (last_of miux_in (params_in l.param-iterator)) l.said.miux ≡ last_of miux_in (params_in l.params);
  rw : later (last_of rw_in (params_in l.param-iterator)) l.said.rw ≡ last_of rw_in (params_in l.params);
  name : later (last_of name_in (params_in l.param-iterator)) (named l.said) ≡ last_of name_in (params_in l.params);
}
