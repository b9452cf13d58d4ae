use Rattle.std.proofs.Common.{refl}
use Rattle.tlv_area.specs.Map.{in_ranges}
use Rattle.tlv_area.proofs.Steps.{value_item, value_unknown}
use Rattle.tlv_area.proofs.ahead.value_ahead.Goals as goal

pub returns-then-past-known : goal.returns-then-past-known
returns-then-past-known c = record {
  kind' = refl;
  long' = refl;
  from' = refl;
  size = refl;
  value = c.in-Some.ensures.some;
  known = c.if-past-known.true;
  three = λ e. absurd (c.if-size-eq-CONTROL_SIZE.false e);
  next' = value_item (in_ranges c.args.reserved.now) c.args.known.now c.args.from c.args.end c.args.size c.in-Some.past c.requires.below c.in-Some.ensures.some
      c.if-past-known.true c.args.kind c.args.long;
}

pub returns-else-past-known : goal.returns-else-past-known
returns-else-past-known c =
    value_unknown (in_ranges c.args.reserved.now) c.args.known.now c.args.from c.args.end c.args.size c.in-Some.past c.requires.below c.in-Some.ensures.some
    c.if-past-known.false c.requires.front c.args.kind c.args.long
