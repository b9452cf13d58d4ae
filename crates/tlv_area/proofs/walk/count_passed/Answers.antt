use Rattle.std.proofs.Common.{arith}
use Rattle.std.proofs.lemmas.List.Elements.{All-more}
use Rattle.tlv_area.specs.Walking.{IsPassed}
use Rattle.tlv_area.proofs.walk.count_passed.Goals as goal

pub loop-count-preserved : goal.loop-count-preserved
loop-count-preserved c = record {
  counted = omega (arith, c.loop-count-test.true);
  passed = All-more (IsPassed c.args.at) c.args.reserved.now c.loop-count.count (0, 0) c.loop-count-test.true c.loop-count.invariant.passed
      (c.if-reserved-count.true, c.if-reserved-count-2.true);
}
