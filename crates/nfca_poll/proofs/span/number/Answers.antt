use Rattle.std.proofs.Common.{◌≡◌, ◌<◌, ◌+◌, ◌-◌, ◌*◌, ◌^◌, List, take, drop, get_or, Bool, true, false, ◌∙◌, arith}
use Rattle.std.proofs.lemmas.Grind.{common_steps}
use Rattle.nfc_base.specs.Bits.{bits_of, number_of}
use Rattle.nfc_base.proofs.Packing.{length_of_bits}
use Rattle.nfca_poll.proofs.identifiers.Spans.{small_more, number_down}
use Rattle.nfca_poll.proofs.span.number.Goals as goal

pub loop-at-preserved-then-one : goal.loop-at-preserved-then-one
loop-at-preserved-then-one c =
    let x : List Bool = bits_of c.args.bytes.now in
    let h : 0 < c.loop-at.at = omega arith in
    let e : true ≡ get_or x (c.loop-at.at - 1) false = grind (arith, common_steps) in
    record {
      low = omega arith;
      high = omega arith;
      small = small_more c.loop-at.value c.args.to c.loop-at.at h c.loop-at.invariant.high c.loop-at.invariant.small;
      value = number_down x c.loop-at.at c.args.to true c.loop-at.value h c.loop-at.invariant.high (omega (arith, length_of_bits c.args.bytes.now, c.requires.within)) e c.loop-at.invariant.value;
    }

pub loop-at-preserved : goal.loop-at-preserved
loop-at-preserved c =
    let x : List Bool = bits_of c.args.bytes.now in
    let h : 0 < c.loop-at.at = omega arith in
    let e : false ≡ get_or x (c.loop-at.at - 1) false = grind (arith, common_steps) in
    let s : 1 + 2 * c.loop-at.value < 2 ^ (c.args.to - (c.loop-at.at - 1)) = small_more c.loop-at.value c.args.to c.loop-at.at h c.loop-at.invariant.high c.loop-at.invariant.small in
    let v : 0 + 2 * c.loop-at.value ≡ number_of (drop (c.loop-at.at - 1) (take c.args.to x)) =
    number_down x c.loop-at.at c.args.to false c.loop-at.value h c.loop-at.invariant.high (omega (arith, length_of_bits c.args.bytes.now, c.requires.within)) e c.loop-at.invariant.value in
    record { low = omega arith; high = omega arith; small = omega (arith, s); value = (let q : 2 * c.loop-at.value ≡ 0 + 2 * c.loop-at.value = omega arith in q) ∙ v }
