use Rattle.std.proofs.Common.{arith}
use Rattle.tlv_area.proofs.Runs.{length-run_at, length-run_behind}
use Rattle.tlv_area.proofs.ranges.count_free.Goals as goal

pub loop-range-preserved : goal.loop-range-preserved
loop-range-preserved c =
    let sizes = length-run_at c.args.reserved.now c.requires.ranges c.loop-range.range-index c.loop-range-test.true c.loop-range.address c.args.end c.run_before-run.result.to
    c.run_before-run.result.next c.loop-range.invariant.high c.run_before-run.ensures.to c.run_before-run.ensures.next in
    record {
      low = omega (arith, c.loop-range.invariant.low, c.run_before-run.ensures.to, c.run_before-run.ensures.next);
      high = omega (arith, c.loop-range.invariant.high, c.run_before-run.ensures.to, c.run_before-run.ensures.next);
      count = omega (arith, sizes, c.loop-range.invariant.count);
      bound = omega (arith, c.loop-range.invariant.low, c.loop-range.invariant.bound, c.run_before-run.ensures.to, c.run_before-run.ensures.next);
    }

pub returns-clause-count : goal.returns-clause-count
returns-clause-count c =
    omega (arith, c.loop-range.invariant.count, length-run_behind c.args.reserved.now c.loop-range.range-index c.loop-range-test.false c.loop-range.address c.args.end)
