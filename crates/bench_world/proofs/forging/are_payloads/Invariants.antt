use Rattle.std.specs.List.{AllWithin}
use Rattle.bench_world.specs.Legal.{IsPayload}
use Rattle.bench_world.proofs.forging.are_payloads.Given as goal

abbrev pub invariant-loop-payload : goal.invariant-loop-payload
invariant-loop-payload l = AllWithin IsPayload l.payloads 0 l.payload-index
