use Rattle.std.proofs.Common.{rules, ◌∷◌}
use Rattle.zevlodek_c.specs.Peer.{IsPayloadLog, SpellsPayload}
use Rattle.zevlodek_c.proofs.Chains.{IsLeft, left_behind, none_begins}
use Rattle.zevlodek_c.proofs.Chunks.{less_payload, one_payload}
use Rattle.zevlodek_c.proofs.payloads.is_payload_log.Goals as goal

-- src/payloads.rt:42:13
pub returns-in_default-clause-no : goal.returns-in_default-clause-no
returns-in_default-clause-no c e log =
    let left : IsPayloadLog c.loop-rest.rest.now = c.loop-rest.invariant.left log in
    none_begins SpellsPayload c.loop-rest.rest.now (c.in_default.ensures.none (search rules)) (search rules) left.0 left.1

-- src/payloads.rt:40:5
pub loop-rest-preserved : goal.loop-rest-preserved
loop-rest-preserved c = record {
  whole = λ log. c.loop-rest.invariant.whole (c.in-Some.field-0-0.now ∷ log.0, (c.in-Some.left.now, c.in-Some.ensures.some, log.1));
  left = λ log.
      let all : IsPayloadLog c.loop-rest.rest.now = c.loop-rest.invariant.left log in
      let more : IsLeft SpellsPayload c.in-Some.field-0-0.now c.in-Some.left.now all.0 =
      left_behind SpellsPayload less_payload one_payload c.in-Some.field-0-0.now c.loop-rest.rest.now c.in-Some.left.now c.in-Some.ensures.some all.0 all.1 in
      (more.more, more.spelled);
}
