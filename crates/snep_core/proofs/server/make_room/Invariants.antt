use Rattle.std.proofs.Common.{◌≡◌, ◌≤◌, ◌-◌, length}
use Rattle.snep_core.specs.Server.{padded}
use Rattle.llcp_pdu.specs.Wire.{sap_count}
use Rattle.snep_core.proofs.server.make_room.Given as goal

abbrev pub invariant-loop-alloc : goal.invariant-loop-alloc
invariant-loop-alloc l = record {
  same : padded l.sessions.items ≡ padded l.initial.sessions.items;
  few : length l.sessions.items ≤ sap_count;
}

abbrev pub decreases-loop-alloc : goal.decreases-loop-alloc
decreases-loop-alloc l = sap_count - length l.sessions.items
