use Rattle.std.proofs.Common.{◌≡◌, ◌<◌, ◌-◌, ◌+◌, ◌*◌, ◌^◌, length, drop, get_or, true, false, ◌∙◌, arith}
use Rattle.std.proofs.lemmas.Grind.{common_steps}
use Rattle.nfc_base.specs.Bits.{number_of}
use Rattle.nfca_poll.proofs.identifiers.Spans.{small_more}
use Rattle.nfca_poll.proofs.identifiers.KnownPacks.{number_next}
use Rattle.nfca_poll.proofs.known.number.Goals as goal

pub loop-at-preserved-then-bits-at : goal.loop-at-preserved-then-bits-at
loop-at-preserved-then-bits-at c =
    let h : 0 < c.loop-at.at = omega arith in
    let e : true ≡ get_or c.args.bits.now (c.loop-at.at - 1) false = grind (arith, common_steps) in
    record {
      high = omega arith;
      small = small_more c.loop-at.value (length c.args.bits.now) c.loop-at.at h c.loop-at.invariant.high c.loop-at.invariant.small;
      value = number_next c.args.bits.now c.loop-at.at true c.loop-at.value h c.loop-at.invariant.high e c.loop-at.invariant.value;
    }

pub loop-at-preserved : goal.loop-at-preserved
loop-at-preserved c =
    let h : 0 < c.loop-at.at = omega arith in
    let e : false ≡ get_or c.args.bits.now (c.loop-at.at - 1) false = grind (arith, common_steps) in
    let s : 1 + 2 * c.loop-at.value < 2 ^ (length c.args.bits.now - (c.loop-at.at - 1)) = small_more c.loop-at.value (length c.args.bits.now) c.loop-at.at h c.loop-at.invariant.high
    c.loop-at.invariant.small in
    let v : 0 + 2 * c.loop-at.value ≡ number_of (drop (c.loop-at.at - 1) c.args.bits.now) =
    number_next c.args.bits.now c.loop-at.at false c.loop-at.value h c.loop-at.invariant.high e c.loop-at.invariant.value in
    record { high = omega arith; small = omega (arith, s); value = (let q : 2 * c.loop-at.value ≡ 0 + 2 * c.loop-at.value = omega arith in q) ∙ v }
