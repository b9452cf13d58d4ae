use Rattle.std.proofs.Common.{◌≡◌, length}
use Rattle.bench_world.specs.ShownForged.{behind_res}
use Rattle.bench_world.proofs.following.behind_res.Given as goal

abbrev pub invariant-loop-event : goal.invariant-loop-event
invariant-loop-event l = behind_res l.left ≡ behind_res l.events

abbrev pub decreases-loop-event : goal.decreases-loop-event
decreases-loop-event l = length l.left
