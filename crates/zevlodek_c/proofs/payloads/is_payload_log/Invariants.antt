use Rattle.std.proofs.Common.{length}
use Rattle.zevlodek_c.specs.Peer.{IsPayloadLog}
use Rattle.zevlodek_c.proofs.payloads.is_payload_log.Given as goal

abbrev pub invariant-loop-rest : goal.invariant-loop-rest
invariant-loop-rest l = record {
  whole : IsPayloadLog l.rest → IsPayloadLog l.initial.rest;
  left : IsPayloadLog l.initial.rest → IsPayloadLog l.rest;
}

abbrev pub decreases-loop-rest : goal.decreases-loop-rest
decreases-loop-rest l = length l.rest
