use Rattle.std.proofs.Common.{◌+◌, ◌-◌, ◌*◌, true, false, [], ◌∷◌, sym, ◌∙◌, ap, arith}
use Rattle.std.specs.Prelude.{slice_index}
use Rattle.tlv_area.specs.Layout.{free}
use Rattle.tlv_area.specs.Form.{value_next}
use Rattle.tlv_area.specs.Map.{in_ranges}
use Rattle.tlv_area.proofs.Steps.{length_none, length_unknown, length_short, length_long, long_none, long_one, long_unknown, long_known, one_taken, three_taken, all_ones, no_ones}
use Rattle.tlv_area.proofs.ahead.length_ahead.Goals as goal

pub returns-in_default : goal.returns-in_default
returns-in_default c kind a = length_none (in_ranges c.args.reserved.now) c.args.known.now c.args.at c.args.end c.in_default.ensures.none kind a

pub returns-then-first_past-known : goal.returns-then-first_past-known
returns-then-first_past-known c kind a =
    length_unknown (in_ranges c.args.reserved.now) c.args.known.now c.args.at c.args.end c.in-Some.first_past c.requires.below c.in-Some.ensures.some c.if-first_past-known.true kind a

pub returns-then-first : goal.returns-then-first
returns-then-first c = record {
  above = omega (arith, c.in-Some.ensures.some.above);
  below = c.in-Some.ensures.some.below;
  known = c.if-first_past-known.false;
  last = c.in-Some.ensures.some.last (omega arith);
  next' = λ kind a. length_short (in_ranges c.args.reserved.now) c.args.known.now c.args.at c.args.end c.in-Some.first_past c.requires.below c.in-Some.ensures.some c.if-first_past-known.false
      c.if-first.true kind a
      ∙ ap (λ cells. value_next c.args.known.now kind false (a ∷ cells) (slice_index c.args.known.now (c.in-Some.first_past - 1))
      (free (in_ranges c.args.reserved.now) c.in-Some.first_past c.args.end)) (sym (one_taken (in_ranges c.args.reserved.now) c.args.at c.args.end c.in-Some.first_past c.in-Some.ensures.some));
}

pub returns-in_default-past : goal.returns-in_default-past
returns-in_default-past c kind a =
    length_long (in_ranges c.args.reserved.now) c.args.known.now c.args.at c.args.end c.in-Some.first_past c.requires.below c.in-Some.ensures.some c.if-first_past-known.false c.if-first.false kind a
    ∙ long_none (in_ranges c.args.reserved.now) c.args.known.now c.in-Some.first_past c.args.end c.in_default-past.ensures.none kind a (c.in-Some.first_past - 1)

pub returns-in_default-past-2 : goal.returns-in_default-past-2
returns-in_default-past-2 c kind a =
    length_long (in_ranges c.args.reserved.now) c.args.known.now c.args.at c.args.end c.in-Some.first_past c.requires.below c.in-Some.ensures.some c.if-first_past-known.false c.if-first.false kind a
    ∙ long_one (in_ranges c.args.reserved.now) c.args.known.now c.in-Some.first_past c.args.end c.in-Some-past.high_past c.in-Some.ensures.some.below c.in-Some-past.ensures.some
    c.in_default-past-2.ensures.none kind a (c.in-Some.first_past - 1)

pub returns-then-low_past-known : goal.returns-then-low_past-known
returns-then-low_past-known c kind a =
    length_long (in_ranges c.args.reserved.now) c.args.known.now c.args.at c.args.end c.in-Some.first_past c.requires.below c.in-Some.ensures.some c.if-first_past-known.false c.if-first.false kind a
    ∙ long_unknown (in_ranges c.args.reserved.now) c.args.known.now c.in-Some.first_past c.args.end c.in-Some-past.high_past c.in-Some.ensures.some.below c.in-Some-past.ensures.some
    c.in-Some-past-2.low_past c.in-Some-past.ensures.some.below c.in-Some-past-2.ensures.some c.if-low_past-known.true kind a (c.in-Some.first_past - 1)

pub returns-then-size-eq-NO_LENGTH : goal.returns-then-size-eq-NO_LENGTH
returns-then-size-eq-NO_LENGTH c kind a =
    length_long (in_ranges c.args.reserved.now) c.args.known.now c.args.at c.args.end c.in-Some.first_past c.requires.below c.in-Some.ensures.some c.if-first_past-known.false c.if-first.false kind a
    ∙ long_known (in_ranges c.args.reserved.now) c.args.known.now c.in-Some.first_past c.args.end c.in-Some-past.high_past c.in-Some.ensures.some.below c.in-Some-past.ensures.some
    c.in-Some-past-2.low_past c.in-Some-past.ensures.some.below c.in-Some-past-2.ensures.some c.if-low_past-known.false kind a (c.in-Some.first_past - 1)
    ∙ all_ones c.args.known.now kind (a ∷ (c.in-Some.first_past - 1) ∷ (c.in-Some-past.high_past - 1) ∷ (c.in-Some-past-2.low_past - 1) ∷ [])
    (slice_index c.args.known.now (c.in-Some-past.high_past - 1) * 256 + slice_index c.args.known.now (c.in-Some-past-2.low_past - 1))
    (free (in_ranges c.args.reserved.now) c.in-Some-past-2.low_past c.args.end) c.if-size-eq-NO_LENGTH.true

pub returns : goal.returns
returns c = record {
  above = omega (arith, c.in-Some.ensures.some.above, c.in-Some-past.ensures.some.above, c.in-Some-past-2.ensures.some.above);
  below = c.in-Some-past-2.ensures.some.below;
  known = c.if-low_past-known.false;
  last = c.in-Some-past-2.ensures.some.last (omega arith);
  next' = λ kind a. length_long (in_ranges c.args.reserved.now) c.args.known.now c.args.at c.args.end c.in-Some.first_past c.requires.below c.in-Some.ensures.some c.if-first_past-known.false
      c.if-first.false kind a
      ∙ long_known (in_ranges c.args.reserved.now) c.args.known.now c.in-Some.first_past c.args.end c.in-Some-past.high_past c.in-Some.ensures.some.below c.in-Some-past.ensures.some
      c.in-Some-past-2.low_past c.in-Some-past.ensures.some.below c.in-Some-past-2.ensures.some c.if-low_past-known.false kind a (c.in-Some.first_past - 1)
      ∙ no_ones c.args.known.now kind (a ∷ (c.in-Some.first_past - 1) ∷ (c.in-Some-past.high_past - 1) ∷ (c.in-Some-past-2.low_past - 1) ∷ [])
      (slice_index c.args.known.now (c.in-Some-past.high_past - 1) * 256 + slice_index c.args.known.now (c.in-Some-past-2.low_past - 1))
      (free (in_ranges c.args.reserved.now) c.in-Some-past-2.low_past c.args.end) c.if-size-eq-NO_LENGTH.false
      ∙ ap (λ cells. value_next c.args.known.now kind true (a ∷ cells) (slice_index c.args.known.now (c.in-Some-past.high_past - 1) * 256
      + slice_index c.args.known.now (c.in-Some-past-2.low_past - 1)) (free (in_ranges c.args.reserved.now) c.in-Some-past-2.low_past c.args.end))
      (three_taken (in_ranges c.args.reserved.now) c.args.at c.in-Some.first_past c.args.end c.in-Some-past.high_past c.in-Some-past-2.low_past c.in-Some.ensures.some c.in-Some-past.ensures.some
      c.in-Some-past-2.ensures.some);
}
