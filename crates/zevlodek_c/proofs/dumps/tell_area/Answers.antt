use Rattle.std.proofs.Common.{rules, inl}
use Rattle.zevlodek_c.specs.Showing.{of_bool}
use Rattle.zevlodek_c.proofs.Whole.{held_here}
use Rattle.zevlodek_c.proofs.dumps.tell_area.Goals as goal

-- src/dumps.rt:17:1
pub returns-in-Ok : goal.returns-in-Ok
returns-in-Ok c = inl (record {
  message = c.in-Ok.message.items;
  writable = of_bool c.args.space.now.writable;
  held = held_here c.args.memory.now c.args.space.now c.in-Held.map c.in-Ok.message.items c.in-Held.ensures.settled c.in-Ok.ensures.bytes;
  shown = search rules;
})
