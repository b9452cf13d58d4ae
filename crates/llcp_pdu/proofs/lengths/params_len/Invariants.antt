use Rattle.std.proofs.Common.{◌≡◌, ◌<◌, ◌+◌, length, drop}
use Rattle.llcp_pdu.specs.Writing.{params_bytes}
use Rattle.llcp_pdu.proofs.lengths.params_len.Given as goal

abbrev pub invariant-params : goal.invariant-params
invariant-params l = record {
  total : l.total + length (params_bytes (drop l.param-index l.params)) ≡ length (params_bytes l.params);
  most : length (params_bytes l.params) < 65536;
}
