use Rattle.std.proofs.Common.{◌≡◌, length}
use Rattle.bench_world.specs.ShownForged.{behind_opening}
use Rattle.bench_world.proofs.following.behind_opening.Given as goal

abbrev pub invariant-loop-event : goal.invariant-loop-event
invariant-loop-event l = behind_opening l.left ≡ behind_opening l.events

abbrev pub decreases-loop-event : goal.decreases-loop-event
decreases-loop-event l = length l.left
