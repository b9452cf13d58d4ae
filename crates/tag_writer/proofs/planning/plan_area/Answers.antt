use Rattle.std.proofs.Common.{arith}
use Rattle.tag_writer.proofs.Grounded.{blocks_fit}
use Rattle.tag_writer.proofs.Known.{planned, planned_for, read_only, too_long}
use Rattle.tag_writer.proofs.planning.plan_area.Goals as goal

pub returns-then-not-map-clause-err : goal.returns-then-not-map-clause-err
returns-then-not-map-clause-err c size store is k = read_only c.args.how size store c.args.message.now c.args.known.now c.args.block c.args.map.now k (grind (arith, c.if-not-map.true))

pub returns-then-message-room-clause-err : goal.returns-then-message-room-clause-err
returns-then-message-room-clause-err c size store is k =
    too_long c.args.how size store c.args.message.now c.args.known.now c.args.block c.args.map.now c.capacity-room.result k (grind (arith, c.if-not-map.false)) c.capacity-room.ensures.exact
    (omega (arith, c.if-message-room.true))

pub returns-in-Ok-clause-ok : goal.returns-in-Ok-clause-ok
returns-in-Ok-clause-ok c size store is k =
    planned_for c.args.how size store c.args.message.now c.args.map.now c.in-Ok.plan (planned c.args.how size store c.args.known.now c.args.message.now c.args.block c.args.map.now c.in-Ok.plan is k
    (grind (arith, c.if-not-map.false)) (omega (arith, c.if-message-room.false, c.capacity-room.ensures.exact)) c.in-Ok.ensures.front c.in-Ok.ensures.form)

pub invariant_of-result : goal.invariant_of-result
invariant_of-result c = record {
  fit = blocks_fit c.args.how c.args.known.now c.args.message.now c.args.block c.args.map.now c.in-Ok.plan c.requires.seen c.requires.low c.in-Ok.ensures.keeps;
}
