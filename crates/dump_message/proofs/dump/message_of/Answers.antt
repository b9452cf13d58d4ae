use Rattle.std.proofs.Common.{sym, ◌∙◌}
use Rattle.dump_message.proofs.Whole.{whole}
use Rattle.dump_message.proofs.dump.message_of.Goals as goal

pub returns-in-Ok-copy_message-clause-ok : goal.returns-in-Ok-copy_message-clause-ok
returns-in-Ok-copy_message-clause-ok c =
    whole c.args.memory.now c.in-Ok.space c.in-Held.map c.in-Ok-copy_message.message.items
    (sym c.container_t2.ensures.exact ∙ c.in-Ok.is) c.in-Held.ensures.settled c.in-Ok-copy_message.ensures.bytes
