use Rattle.std.proofs.Common.{rules, ◌+◌, length}
use Rattle.llcp_pdu.specs.Parts.{part}
use Rattle.llcp_pdu.proofs.Places.{parts_left, shown_first}
use Rattle.llcp_pdu.proofs.inner_walk.first_part.Goals as goal

pub returns-clause-some : goal.returns-clause-some
returns-clause-some c =
    let one = part c.in_ok-one.one.now 2 in
    let left = parts_left c.args.inner.now c.in_ok-one.tail.now one (2 + length c.in_ok-one.one.now) c.requires (search rules) in
    shown_first c.in_ok-pdu.pdu one c.args.inner.now c.in_ok-one.tail.now (search rules) (left.1, left.2, left.3) (search rules)

pub returns-clause-left : goal.returns-clause-left
returns-clause-left c =
    (parts_left c.args.inner.now c.in_ok-one.tail.now (part c.in_ok-one.one.now 2) (2 + length c.in_ok-one.one.now) c.requires (search rules)).0
