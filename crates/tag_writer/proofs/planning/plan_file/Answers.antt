use Rattle.std.proofs.Common.{arith}
use Rattle.tag_writer.proofs.FileKnown.{file_too_long, file_short, file_planned}
use Rattle.tag_writer.proofs.planning.plan_file.Goals as goal

pub returns-in-Ok-clause-ok : goal.returns-in-Ok-clause-ok
returns-in-Ok-clause-ok c size store is k =
    file_planned size store c.args.message.now c.in-Ok.message c.args.map c.args.length c.min.result c.in-Ok.ensures is k
    (grind (arith, c.if-not-map.false)) (omega (arith, c.if-message-from.false, c.from.ensures, c.saturating_sub-room.ensures)) (omega (arith, c.if-map-lt-NLEN_SIZE.false)) c.min.ensures

pub returns-then-message-from-clause-err : goal.returns-then-message-from-clause-err
returns-then-message-from-clause-err c size store is k =
    file_too_long size store c.args.message.now c.args.map c.args.length c.from-then-message-from.result k (grind (arith, c.if-not-map.false))
    (omega (arith, c.from-then-message-from.ensures, c.saturating_sub-room.ensures))
    (omega (arith, c.if-message-from.true, c.from.ensures, c.from-then-message-from.ensures))

pub returns-then-map-lt-NLEN_SIZE-clause-err : goal.returns-then-map-lt-NLEN_SIZE-clause-err
returns-then-map-lt-NLEN_SIZE-clause-err c size store is k =
    file_short size store c.args.message.now c.args.map c.args.length k (grind (arith, c.if-not-map.false)) (omega (arith, c.if-message-from.false, c.from.ensures, c.saturating_sub-room.ensures))
    (omega (arith, c.if-map-lt-NLEN_SIZE.true))

pub returns-then-map-lt-NLEN_SIZE-clause-declined : goal.returns-then-map-lt-NLEN_SIZE-clause-declined
returns-then-map-lt-NLEN_SIZE-clause-declined c =
    (grind (arith, c.if-not-map.false), omega (arith, c.if-message-from.false, c.from.ensures, c.saturating_sub-room.ensures), omega (arith, c.if-map-lt-NLEN_SIZE.true))
