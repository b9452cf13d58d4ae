use Rattle.std.proofs.Common.{◌≡◌, ◌++◌, drop, map}
use Rattle.bench_world.specs.private.LinkTaken.{not_yet}
use Rattle.bench_world.proofs.told.none_done.Given as goal

abbrev pub invariant-loop-one : goal.invariant-loop-one
invariant-loop-one l = l.done.items ++ map not_yet (drop l.one-index l.messages) ≡ map not_yet l.messages
