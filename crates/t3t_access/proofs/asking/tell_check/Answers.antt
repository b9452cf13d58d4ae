use Rattle.std.proofs.Common.{◌*◌}
use Rattle.t3t_access.proofs.Told.{tells_found, found_size}
use Rattle.t3t_access.proofs.asking.tell_check.Goals as goal

pub returns-clause-tells : goal.returns-clause-tells
returns-clause-tells c xs e =
    tells_found c.args.id (16 * c.args.count) c.args.answer.now c.read_from.result c.read_from.ensures.exact c.content_told.result c.content_told.ensures xs e

pub returns-clause-size : goal.returns-clause-size
returns-clause-size c =
    found_size c.args.id (16 * c.args.count) c.args.answer.now c.read_from.result c.read_from.ensures.exact c.content_told.result c.content_told.ensures
