use Rattle.std.proofs.Common.{arith}
use Rattle.tlv_area.proofs.Runs.{past_in_run, past_behind_run, length-run_at, past_behind, length-run_behind}
use Rattle.tlv_area.proofs.ranges.past.Goals as goal

pub returns-then-left-run-clause-some : goal.returns-then-left-run-clause-some
returns-then-left-run-clause-some c =
    c.loop-range.invariant.some _
    (past_in_run c.args.reserved.now c.requires.ranges c.loop-range.range-index c.loop-range-test.true c.loop-range.address c.args.end c.run_before-run.result.to
    c.run_before-run.result.next c.loop-range.invariant.high c.run_before-run.ensures.to c.loop-range.left c.if-left-run.true)

pub loop-range-preserved : goal.loop-range-preserved
loop-range-preserved c = record {
  low = omega (arith, c.loop-range.invariant.low, c.run_before-run.ensures.to, c.run_before-run.ensures.next);
  high = omega (arith, c.loop-range.invariant.high, c.run_before-run.ensures.to, c.run_before-run.ensures.next);
  some = λ p is. c.loop-range.invariant.some p
      (past_behind_run c.args.reserved.now c.requires.ranges c.loop-range.range-index c.loop-range-test.true c.loop-range.address c.args.end c.run_before-run.result.to
      c.run_before-run.result.next c.loop-range.invariant.high c.run_before-run.ensures.to c.run_before-run.ensures.next c.loop-range.left p c.if-left-run.false is);
  none = λ short. c.loop-range.invariant.none
      (let sizes = length-run_at c.args.reserved.now c.requires.ranges c.loop-range.range-index c.loop-range-test.true c.loop-range.address c.args.end c.run_before-run.result.to
      c.run_before-run.result.next c.loop-range.invariant.high c.run_before-run.ensures.to c.run_before-run.ensures.next in omega (arith, sizes, c.if-left-run.false));
}

pub returns-then-left-end-clause-none : goal.returns-then-left-end-clause-none
returns-then-left-end-clause-none c = c.loop-range.invariant.none
    (omega (arith, length-run_behind c.args.reserved.now c.loop-range.range-index c.loop-range-test.false c.loop-range.address c.args.end))

pub returns-clause-some : goal.returns-clause-some
returns-clause-some c = c.loop-range.invariant.some _
    (past_behind c.args.reserved.now c.loop-range.range-index c.loop-range-test.false c.loop-range.address c.args.end c.loop-range.left c.loop-range.invariant.high c.if-left-end.false)
