use Rattle.std.proofs.Common.{rules, arith, ◌+◌, ◌++◌, sym, refl, length, option_to_list}
use Rattle.llcp_pdu.specs.Params.{param, params}
use Rattle.llcp_pdu.proofs.ParamLaws.{params_more}
use Rattle.llcp_pdu.proofs.Outcomes.{whole_refusal}
use Rattle.llcp_pdu.proofs.Places.{all_params}
use Rattle.llcp_pdu.proofs.param_walk.check_params.Goals as goal

pub returns-in_default-clause-reads : goal.returns-in_default-clause-reads
returns-in_default-clause-reads c =
    sym (whole_refusal c.params.invariant.reads.0 (params c.args.bytes.now 0 c.args.start) (params c.params.rest.now 0 c.params.at) c.at.result c.params.invariant.reads.1 (search rules))

pub params-preserved : goal.params-preserved
params-preserved c =
    let found = c.params.invariant.reads.0 ++ option_to_list (param c.in-Some.field-0-0 c.in-Some.value.now) in record {
      place = (let n = c.in-Some.ensures.length in omega arith);
      reads = (
        found,
        params_more c.params.invariant.reads.0 (param c.in-Some.field-0-0 c.in-Some.value.now) found (params c.args.bytes.now 0 c.args.start) (params c.params.rest.now 0 c.params.at)
            c.in-Some.tail.now (c.params.at + 2 + length c.in-Some.value.now) _ c.params.invariant.reads.1 (search rules) refl (omega arith),
      );
    }

pub returns-clause-reads : goal.returns-clause-reads
returns-clause-reads c = (all_params c.args.bytes.now c.params.rest.now c.args.start c.params.at c.params.invariant.reads.0 c.params.invariant.reads.1 (search rules)).0

pub returns-clause-holds : goal.returns-clause-holds
returns-clause-holds c = (all_params c.args.bytes.now c.params.rest.now c.args.start c.params.at c.params.invariant.reads.0 c.params.invariant.reads.1 (search rules)).1
