use Rattle.std.proofs.Common.{◌≡◌, ◌++◌, drop}
use Rattle.bench_world.specs.Asked.{slot_messages}
use Rattle.bench_world.proofs.at_once.messages_of.Given as goal

abbrev pub invariant-loop-put : goal.invariant-loop-put
invariant-loop-put l = l.messages.items ++ slot_messages (drop l.put-index l.puts) ≡ slot_messages l.puts
