use Rattle.std.proofs.Common.{◌≡◌, ◌-◌}
use Rattle.llcp_conn.specs.Conn.{IsSap}
use Rattle.llcp_link.specs.Giving.{acknowledges, first_from, first_of_all}
use Rattle.llcp_pdu.specs.Wire.{sap_count}
use Rattle.llcp_link.proofs.llc.Llc.give_ack.Given as goal

abbrev pub invariant-clients : goal.invariant-clients
invariant-clients g l = record {
  client : IsSap l.client;
  same : l.self ≡ l.fn.self;
  left : first_of_all l.fn.self.last (acknowledges l.fn.self) ≡ first_from (sap_count - l.counter) l.client (acknowledges l.fn.self);
}
