use Rattle.std.proofs.Common.{rules, arith, ◌+◌, ◌*◌, slice_index_or}
use Rattle.llcp_pdu.proofs.PduLaws.{inner_split}
use Rattle.llcp_pdu.proofs.inner_walk.split_inner.Goals as goal

pub returns-clause-ok : goal.returns-clause-ok
returns-clause-ok c =
    inner_split c.args.rest.now c.split_at-2.result.0.now c.split_at-2.result.1.now c.args.at (256 * slice_index_or c.args.rest.now 0 0 + slice_index_or c.args.rest.now 1 0)
    (omega arith) (search rules) (search rules) (search rules) (search rules)
