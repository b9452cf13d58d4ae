use Rattle.std.specs.List.{AllWithin}
use Rattle.bench_world.specs.Legal.{IsSlotPut}
use Rattle.bench_world.proofs.at_once.are_within.Given as goal

abbrev pub invariant-loop-put : goal.invariant-loop-put
invariant-loop-put l = AllWithin IsSlotPut l.puts 0 l.put-index
