use Rattle.std.proofs.Common.{rules, arith}
use Rattle.llcp_pdu.proofs.ParamLaws.{params_split}
use Rattle.llcp_pdu.proofs.param_walk.split_param.Goals as goal

pub returns-clause-some : goal.returns-clause-some
returns-clause-some c =
    λ at. params_split c.args.rest.now c.split_at-2.result.0.now c.split_at-2.result.1.now at (omega arith) (search rules) (search rules) (search rules) (search rules)
