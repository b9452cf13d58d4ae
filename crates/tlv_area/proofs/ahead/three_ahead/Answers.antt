use Rattle.std.proofs.Common.{refl, ap, arith}
use Rattle.tlv_area.specs.Layout.{free, bytes_at}
use Rattle.tlv_area.specs.Map.{in_ranges}
use Rattle.tlv_area.proofs.Steps.{value_fault, value_item, value_unknown, no_second, no_third, three_cells, three_past}
use Rattle.tlv_area.proofs.ahead.three_ahead.Goals as goal

pub returns-in_default : goal.returns-in_default
returns-in_default c header =
    value_fault c.args.known.now c.args.kind c.args.long header 3 (free (in_ranges c.args.reserved.now) c.args.from c.args.end) (omega (arith, c.in_default.ensures.none))

pub returns-in_default-past : goal.returns-in_default-past
returns-in_default-past c header =
    value_fault c.args.known.now c.args.kind c.args.long header 3 (free (in_ranges c.args.reserved.now) c.args.from c.args.end)
    (no_second (in_ranges c.args.reserved.now) c.args.from c.args.end c.in-Some.first c.requires.below c.in-Some.ensures.some c.in_default-past.ensures.none)

pub returns-in_default-past-2 : goal.returns-in_default-past-2
returns-in_default-past-2 c header =
    value_fault c.args.known.now c.args.kind c.args.long header 3 (free (in_ranges c.args.reserved.now) c.args.from c.args.end)
    (no_third (in_ranges c.args.reserved.now) c.args.from c.args.end c.in-Some.first c.requires.below c.in-Some.ensures.some c.in-Some-past.second c.in-Some.ensures.some.below
    c.in-Some-past.ensures.some c.in_default-past-2.ensures.none)

pub returns-then-third-known : goal.returns-then-third-known
returns-then-third-known c =
    value_unknown (in_ranges c.args.reserved.now) c.args.known.now c.args.from c.args.end 3 c.in-Some-past-2.third c.requires.below
    (three_past (in_ranges c.args.reserved.now) c.args.from c.args.end c.in-Some.first c.requires.below c.in-Some.ensures.some c.in-Some-past.second c.in-Some.ensures.some.below
    c.in-Some-past.ensures.some c.in-Some-past-2.third c.in-Some-past.ensures.some.below c.in-Some-past-2.ensures.some) c.if-third-known.true c.requires.front c.args.kind c.args.long

pub returns : goal.returns
returns c = record {
  kind' = refl;
  long' = refl;
  from' = refl;
  size = refl;
  value = (three_past (in_ranges c.args.reserved.now) c.args.from c.args.end c.in-Some.first c.requires.below c.in-Some.ensures.some c.in-Some-past.second c.in-Some.ensures.some.below
      c.in-Some-past.ensures.some c.in-Some-past-2.third c.in-Some-past.ensures.some.below c.in-Some-past-2.ensures.some);
  known = c.if-third-known.false;
  three = λ _. (
    record {
      first_low = omega (arith, c.in-Some.ensures.some.above);
      first_high = omega (arith, c.in-Some-past.ensures.some.above, c.in-Some-past-2.ensures.some.above, c.if-third-known.false);
      second_low = omega (arith, c.in-Some-past.ensures.some.above);
      second_high = omega (arith, c.in-Some-past-2.ensures.some.above, c.if-third-known.false);
      past_low = omega (arith, c.in-Some-past-2.ensures.some.above);
      past_high = c.if-third-known.false;
    },
    ap (λ cells. bytes_at c.args.known.now cells) (three_cells (in_ranges c.args.reserved.now) c.args.from c.args.end c.in-Some.first c.requires.below c.in-Some.ensures.some c.in-Some-past.second
        c.in-Some.ensures.some.below c.in-Some-past.ensures.some c.in-Some-past-2.third c.in-Some-past.ensures.some.below c.in-Some-past-2.ensures.some),
  );
  next' = value_item (in_ranges c.args.reserved.now) c.args.known.now c.args.from c.args.end 3 c.in-Some-past-2.third c.requires.below
      (three_past (in_ranges c.args.reserved.now) c.args.from c.args.end c.in-Some.first c.requires.below c.in-Some.ensures.some c.in-Some-past.second c.in-Some.ensures.some.below
      c.in-Some-past.ensures.some c.in-Some-past-2.third c.in-Some-past.ensures.some.below c.in-Some-past-2.ensures.some) c.if-third-known.false c.args.kind c.args.long;
}
