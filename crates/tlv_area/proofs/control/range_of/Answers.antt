use Rattle.std.proofs.Common.{◌-◌, sym, ◌∙◌, arith}
use Rattle.std.specs.Prelude.{slice_index}
use Rattle.tlv_area.proofs.Trails.{reserves_named}
use Rattle.tlv_area.proofs.control.range_of.Goals as goal

pub returns-clause-range : goal.returns-clause-range
returns-clause-range c t is a =
    reserves_named t c.args.found.now.kind (slice_index c.args.known.now (c.args.found.now.first - 1)) (slice_index c.args.known.now (c.args.found.now.second - 1))
    (slice_index c.args.known.now (c.args.found.now.past - 1)) c.args.found.now.past a
    (λ z. absurd (omega (arith, c.if-found-lt-LOCK_CONTROL.false))) c.if-found-gt-MEMORY_CONTROL.false is.kind (is.three c.if-found-ne-CONTROL_SIZE.false) is.own
    ∙ sym (c.range_named.ensures.addresses a)
