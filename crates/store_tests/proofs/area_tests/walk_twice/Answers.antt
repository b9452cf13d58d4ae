use Rattle.std.proofs.Common.{[], take, drop, subst}
use Rattle.std.proofs.lemmas.List.{take-append-drop, append-nil}
use Rattle.tlv_area.specs.Walking.{HasCome}
use Rattle.store_tests.proofs.area_tests.walk_twice.Goals as goal

pub find_message-requires : goal.find_message-requires
find_message-requires c = record {
  come = subst (HasCome c.needs_more.new.self) (take-append-drop c.args.front c.args.memory.now) (c.needs_more.ensures.come (drop c.args.front c.args.memory.now));
}

pub find_message-requires-else-needs_more : goal.find_message-requires-else-needs_more
find_message-requires-else-needs_more c = record {
  come = subst (HasCome c.needs_more.new.self) (append-nil (take c.args.front c.args.memory.now)) (c.needs_more.ensures.come []);
}
