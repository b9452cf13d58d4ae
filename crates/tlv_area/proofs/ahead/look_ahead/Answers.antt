use Rattle.std.proofs.Common.{◌≡◌, ℕ, ◌-◌, [], ◌∷◌, ◌++◌, false, refl, sym, ◌∙◌, ap, arith}
use Rattle.std.specs.Prelude.{slice_index}
use Rattle.tlv_area.specs.Layout.{free, bytes_at}
use Rattle.tlv_area.specs.Map.{in_ranges}
use Rattle.tlv_area.proofs.Free.{free_none, free_split}
use Rattle.tlv_area.proofs.Steps.{next_none, next_unknown, next_end, next_null, next_more, one_taken, whole}
use Rattle.tlv_area.proofs.ahead.look_ahead.Goals as goal

pub returns-in_default : goal.returns-in_default
returns-in_default c = next_none (in_ranges c.args.reserved.now) c.args.known.now c.args.at c.args.end c.in_default.ensures.none

pub returns-then-kind_past-known : goal.returns-then-kind_past-known
returns-then-kind_past-known c =
    next_unknown (in_ranges c.args.reserved.now) c.args.known.now c.args.at c.args.end c.in-Some.kind_past c.requires.below c.in-Some.ensures.some c.if-kind_past-known.true

pub returns-then-kind : goal.returns-then-kind
returns-then-kind c =
    next_end (in_ranges c.args.reserved.now) c.args.known.now c.args.at c.args.end c.in-Some.kind_past c.requires.below c.in-Some.ensures.some c.if-kind_past-known.false c.if-kind.true

pub returns-then-kind-eq-NULL : goal.returns-then-kind-eq-NULL
returns-then-kind-eq-NULL c = (
  record { kind = 0; long = false; value = []; at = (c.in-Some.kind_past - 1) ∷ [] },
  next_null (in_ranges c.args.reserved.now) c.args.known.now c.args.at c.args.end c.in-Some.kind_past c.requires.below c.in-Some.ensures.some c.if-kind_past-known.false c.if-kind-eq-NULL.true,
  record {
    kind = sym c.if-kind-eq-NULL.true;
    long = refl;
    size = refl;
    value = ap (λ cells. bytes_at c.args.known.now cells) (sym (free_none (in_ranges c.args.reserved.now) c.in-Some.kind_past));
    addresses = sym (one_taken (in_ranges c.args.reserved.now) c.args.at c.args.end c.in-Some.kind_past c.in-Some.ensures.some);
    from_above = omega (arith, c.in-Some.ensures.some.above);
    past_above = omega arith;
    below = c.in-Some.ensures.some.below;
    known = c.if-kind_past-known.false;
    last = c.in-Some.ensures.some.last (omega arith);
    three = λ e. absurd (omega arith);
  },
)

pub returns-in-Fault : goal.returns-in-Fault
returns-in-Fault c =
    next_more (in_ranges c.args.reserved.now) c.args.known.now c.args.at c.args.end c.in-Some.kind_past c.requires.below c.in-Some.ensures.some c.if-kind_past-known.false c.if-kind.false
    c.if-kind-eq-NULL.false
    ∙ c.in-Fault.ensures (slice_index c.args.known.now (c.in-Some.kind_past - 1)) (c.in-Some.kind_past - 1)

pub returns-in-Unknown : goal.returns-in-Unknown
returns-in-Unknown c =
    next_more (in_ranges c.args.reserved.now) c.args.known.now c.args.at c.args.end c.in-Some.kind_past c.requires.below c.in-Some.ensures.some c.if-kind_past-known.false c.if-kind.false
    c.if-kind-eq-NULL.false
    ∙ c.in-Unknown.ensures (slice_index c.args.known.now (c.in-Some.kind_past - 1)) (c.in-Some.kind_past - 1)

pub returns-in-Value : goal.returns-in-Value
returns-in-Value c =
    let kind : ℕ = slice_index c.args.known.now (c.in-Some.kind_past - 1) in
    let header : ((c.in-Some.kind_past - 1) ∷ free (in_ranges c.args.reserved.now) c.in-Some.kind_past c.in-Value.from) ≡ free (in_ranges c.args.reserved.now) c.args.at c.in-Value.from =
    ap (λ cells. cells ++ free (in_ranges c.args.reserved.now) c.in-Some.kind_past c.in-Value.from)
    (sym (one_taken (in_ranges c.args.reserved.now) c.args.at c.args.end c.in-Some.kind_past c.in-Some.ensures.some))
    ∙ sym (free_split (in_ranges c.args.reserved.now) c.args.at c.in-Some.kind_past c.in-Value.from (omega (arith, c.in-Some.ensures.some.above)) (omega (arith, c.in-Value.ensures.above))) in
    whole (in_ranges c.args.reserved.now) c.args.known.now c.args.at c.args.end c.in-Value.from kind c.in-Value.long c.in-Value.size
    ((c.in-Some.kind_past - 1) ∷ free (in_ranges c.args.reserved.now) c.in-Some.kind_past c.in-Value.from) c.value_ahead.result
    (next_more (in_ranges c.args.reserved.now) c.args.known.now c.args.at c.args.end c.in-Some.kind_past c.requires.below c.in-Some.ensures.some c.if-kind_past-known.false c.if-kind.false
    c.if-kind-eq-NULL.false ∙ c.in-Value.ensures.next' kind (c.in-Some.kind_past - 1))
    c.value_ahead.ensures header (omega (arith, c.in-Some.ensures.some.above, c.in-Value.ensures.above)) c.in-Value.ensures.below c.in-Value.ensures.last
