use Rattle.std.proofs.Common.{◌≡◌, drop}
use Rattle.snep_core.specs.Session.{due_len}
use Rattle.snep_core.proofs.session.due_len.Given as goal

abbrev pub invariant-due : goal.invariant-due
invariant-due l = due_len l.waiting (drop l.due-index l.due) ≡ due_len l.waits l.due
