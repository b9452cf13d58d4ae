use Rattle.std.proofs.Common.{rules, arith, ◌+◌, ◌++◌, [], ◌∷◌, refl, length}
use Rattle.llcp_pdu.specs.Parts.{part}
use Rattle.llcp_pdu.specs.Pdus.{inner}
use Rattle.llcp_pdu.specs.Views.{parts_in}
use Rattle.llcp_pdu.proofs.PduLaws.{inner_more, inner_refused}
use Rattle.llcp_pdu.proofs.Outcomes.{whole_refusal, passes}
use Rattle.llcp_pdu.proofs.Places.{all_parts, one_read, one_refused}
use Rattle.llcp_pdu.proofs.inner_walk.check_inner.Goals as goal

pub returns-in_err-one-clause-reads : goal.returns-in_err-one-clause-reads
returns-in_err-one-clause-reads c =
    passes c.from_residual.result c.in_err-one.field-0.0 (parts_in c.args.bytes.now) (inner c.args.bytes.now 0 c.args.start) (search rules)
    ((whole_refusal c.inner.invariant.reads.0 (inner c.args.bytes.now 0 c.args.start) (inner c.inner.rest.now 0 c.inner.at) c.in_err-one.field-0.0 c.inner.invariant.reads.1 (search rules)))

pub returns-in_err-view_inner-clause-reads : goal.returns-in_err-view_inner-clause-reads
returns-in_err-view_inner-clause-reads c =
    let one = part c.in_ok-one.one.now (c.inner.at + 2) in
    passes c.from_residual-in_err-view_inner.result c.in_err-view_inner.field-0.0 (parts_in c.args.bytes.now) (inner c.args.bytes.now 0 c.args.start) (search rules)
    ((inner_refused c.inner.invariant.reads.0 (inner c.args.bytes.now 0 c.args.start) (inner c.inner.rest.now 0 c.inner.at) (inner c.in_ok-one.tail.now 0 (c.inner.at + 2 + length c.in_ok-one.one.now))
    one
    c.in_err-view_inner.field-0.0 c.inner.invariant.reads.1 c.in_ok-one.ensures.ok (one_refused one _ (search rules))))

pub inner-preserved : goal.inner-preserved
inner-preserved c =
    let one = part c.in_ok-one.one.now (c.inner.at + 2) in
    let read = one_read one c.in_ok-view_inner.field-0 (search rules) in record {
      place = (let n = c.in_ok-one.ensures.length in omega arith);
      reads = (
        c.inner.invariant.reads.0 ++ read.0 ∷ [],
        inner_more c.inner.invariant.reads.0 read.0 _ (inner c.args.bytes.now 0 c.args.start) (inner c.inner.rest.now 0 c.inner.at) one c.in_ok-one.tail.now
            (c.inner.at + 2 + length c.in_ok-one.one.now) _ c.inner.invariant.reads.1 c.in_ok-one.ensures.ok read.1 refl (omega arith),
      );
    }

pub returns-clause-reads : goal.returns-clause-reads
returns-clause-reads c = (all_parts c.args.bytes.now c.inner.rest.now c.args.start c.inner.at c.inner.invariant.reads.0 c.inner.invariant.reads.1 (search rules)).0

pub returns-clause-holds : goal.returns-clause-holds
returns-clause-holds c = (all_parts c.args.bytes.now c.inner.rest.now c.args.start c.inner.at c.inner.invariant.reads.0 c.inner.invariant.reads.1 (search rules)).1
