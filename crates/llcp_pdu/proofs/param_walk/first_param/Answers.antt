use Rattle.std.proofs.Common.{rules, ◌≡◌, ◌++◌, ◌∙◌, None, Some, option_to_list, ap}
use Rattle.llcp_pdu.specs.Params.{param}
use Rattle.llcp_pdu.specs.Views.{params_in, shown_param}
use Rattle.llcp_pdu.proofs.Places.{params_left}
use Rattle.llcp_pdu.proofs.param_walk.first_param.Goals as goal

pub returns-in-Some-clause-some : goal.returns-in-Some-clause-some
returns-in-Some-clause-some c =
    let tail = c.in_ok-kind.tail.now in
    let first = param c.in_ok-kind.kind c.in_ok-kind.value.now in
    let left = params_left c.params.rest.now tail first _ c.params.invariant.holds (c.in_ok-kind.ensures.some 0) in
    let e : first ≡ Some (shown_param c.in-Some.param) = search rules in
    c.params.invariant.same ∙ left.1 ∙ ap (λ o. option_to_list o ++ params_in tail) e

pub returns-in-Some-clause-left : goal.returns-in-Some-clause-left
returns-in-Some-clause-left c =
    (params_left c.params.rest.now c.in_ok-kind.tail.now (param c.in_ok-kind.kind c.in_ok-kind.value.now) _ c.params.invariant.holds (c.in_ok-kind.ensures.some 0)).0

pub params-preserved : goal.params-preserved
params-preserved c =
    let tail = c.in_ok-kind.tail.now in
    let first = param c.in_ok-kind.kind c.in_ok-kind.value.now in
    let left = params_left c.params.rest.now tail first _ c.params.invariant.holds (c.in_ok-kind.ensures.some 0) in
    let e : first ≡ None = search rules in record {
      holds = left.0;
      same = c.params.invariant.same ∙ left.1 ∙ ap (λ o. option_to_list o ++ params_in tail) e;
    }
