use Rattle.std.proofs.Common.{◌≡◌, ℕ, ◌<◌, ◌≤◌, ◌+◌, ◌++◌, ◌∷◌, [], suc, List, Bool, false, length, drop, get_or, sym, ◌∙◌, ap, arith}
use Rattle.std.proofs.lemmas.Grind.{common_steps}
use Rattle.nfc_base.specs.Bits.{bits, bits_of, bit_count}
use Rattle.nfc_base.proofs.Packing.{length_of_bits}
use Rattle.nfca_poll.proofs.identifiers.KnownPacks.{next_bit}
use Rattle.nfca_poll.proofs.known.KnownBits.push_frame.Goals as goal

pub loop-at-preserved : goal.loop-at-preserved
loop-at-preserved c =
    let u : List Bool = bits_of c.args.frame.now.bytes in
    let to : ℕ = bit_count c.args.frame.now in
    let at : ℕ = c.loop-at.at in
    let less : at < to = grind (arith, common_steps) in
    let held : to ≤ length u = omega (arith, length_of_bits c.args.frame.now.bytes, c.bit_len-at-end.ensures.count, c.bit_len-at-end.ensures.bound) in
    let b : c.bit.result ≡ get_or u at false = c.bit.ensures ∙ ap (λ t. get_or (bits_of t) at false) c.view-bytes.ensures.bytes in
    let q : suc at ≡ at + 1 = omega arith in
    record {
      count = grind (arith, common_steps);
      more = ap (λ t. t ++ drop (at + 1) (bits c.args.frame.now)) c.push.ensures.items
          ∙ ap (λ t. (c.loop-at.self-inside.bits.items ++ c.bit.result ∷ []) ++ drop t (bits c.args.frame.now)) (sym q)
          ∙ next_bit u u c.loop-at.self-inside.bits.items (c.args.self.now ++ bits c.args.frame.now) at to c.bit.result less held b c.loop-at.invariant.more;
    }
