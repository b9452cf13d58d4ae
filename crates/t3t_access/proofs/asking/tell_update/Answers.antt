use Rattle.std.proofs.Common.{sym, subst}
use Rattle.t3t_access.specs.Writing.{TellsDone}
use Rattle.t3t_access.proofs.Doing.{tells_done}
use Rattle.t3t_access.proofs.asking.tell_update.Goals as goal

pub returns : goal.returns
returns c =
    subst (TellsDone c.args.id c.args.answer.now) (sym c.done_told.ensures) (tells_done c.args.id c.args.answer.now c.read_from.result c.read_from.ensures.exact)
