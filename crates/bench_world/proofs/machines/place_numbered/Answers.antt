use Rattle.std.proofs.Common.{sym, ◌∙◌}
use Rattle.bench_world.proofs.open_link.Unlinking.{not_here}
use Rattle.bench_world.proofs.machines.place_numbered.Goals as goal

pub loop-place-preserved : goal.loop-place-preserved
loop-place-preserved c =
    λ ends. c.loop-place.invariant ends ∙ not_here c.args.peer c.args.numbers.now c.loop-place.place c.loop-place-test.true _ (sym c.is_number.ensures ∙ c.if-is_number.false) ends
