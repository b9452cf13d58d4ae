use Rattle.std.proofs.Common.{rules, arith, ◌+◌, ◌∙◌, ap, length}
use Rattle.llcp_pdu.specs.Params.{param, params}
use Rattle.llcp_pdu.proofs.GeneralLaws.{finished}
use Rattle.llcp_pdu.specs.Wire.{magic_length}
use Rattle.llcp_pdu.proofs.GeneralLaws.{general_behind, general_more}
use Rattle.llcp_pdu.proofs.general.general_read.Goals as goal

pub params-init : goal.params-init
params-init c = record {
  miu = (omega arith, omega arith);
  reads = (magic_length, general_behind c.args.bytes.now c.in-Some.rest.now (search rules));
}

pub params-preserved : goal.params-preserved
params-preserved c =
    let tail = c.in-Some-split_param.tail.now in
    let place = c.params.invariant.reads.0 in
    let next = place + 2 + length c.in-Some-split_param.value.now in record {
      miu = search rules;
      reads = (
        next,
        general_more c.args.bytes.now c.params.rest.now tail c.params.spoken (param c.in-Some-split_param.kind c.in-Some-split_param.value.now) place next c.params.invariant.reads.1
            (c.in-Some-split_param.ensures.some place)
            ∙ ap (λ s. finished s (params tail 0 next)) (search rules),
      );
    }
