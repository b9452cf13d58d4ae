use Rattle.std.proofs.Common.{◌≡◌, List, Option, drop}
use Rattle.bench_world.specs.Links.{end_numbered}
use Rattle.bench_world.specs.World.{FarEnd}
use Rattle.bench_world.proofs.machines.place_numbered.Given as goal

-- it isn't among those that were looked at
abbrev pub invariant-loop-place : goal.invariant-loop-place
invariant-loop-place l = (ends : List (Option FarEnd)) → end_numbered l.fn.peer l.fn.numbers ends ≡ end_numbered l.fn.peer (drop l.place l.fn.numbers) (drop l.place ends)
