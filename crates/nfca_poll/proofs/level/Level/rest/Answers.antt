use Rattle.std.proofs.Common.{◌≡◌, drop, length, ◌∙◌, ap, arith}
use Rattle.nfc_base.specs.declared.frame.Tech.TheVariants.{A}
use Rattle.nfc_base.specs.Bits.{bits_of, of_bits}
use Rattle.nfc_base.proofs.Packing.{length_of_bits}
use Rattle.nfca_poll.specs.Calls.{known_bits}
use Rattle.nfca_poll.proofs.identifiers.KnownBits.{rest_is}
use Rattle.nfca_poll.proofs.level.Level.rest.Goals as goal

pub returns : goal.returns
returns c =
    let level : c.self.inside.bytes ≡ c.args.self.now = c.self.view_is in
    let size : length (bits_of c.self.inside.bytes) ≡ 40 = omega (arith, length_of_bits c.self.inside.bytes, c.self.told) in
    c.span_frame.ensures
    ∙ rest_is (bits_of c.self.inside.bytes) (known_bits c.args.frame.now) c.known_len-known.result size c.known_len-known.ensures.count
    ∙ ap (λ b. of_bits A (drop (length (known_bits c.args.frame.now)) (bits_of b))) level
