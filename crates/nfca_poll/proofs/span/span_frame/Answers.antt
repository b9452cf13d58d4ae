use Rattle.std.proofs.Common.{◌≡◌, ◌≤◌, List, length, Bool, ◌∙◌, arith}
use Rattle.std.proofs.lemmas.Grind.{common_steps}
use Rattle.nfc_base.specs.Bits.{bits_of, packed}
use Rattle.nfc_base.proofs.Packing.{length_of_bits}
use Rattle.nfca_poll.proofs.identifiers.Spans.{span, span_tail, span_signal}
use Rattle.nfca_poll.proofs.span.span_frame.Goals as goal

pub unwrap-requires : goal.unwrap-requires
unwrap-requires c =
    let x : List Bool = bits_of c.args.bytes.now in
    let within : c.args.to ≤ length x = omega (arith, length_of_bits c.args.bytes.now, c.requires.within) in
    let bytes : c.deref.result.now ≡ packed (span x c.args.from c.args.to) = grind (arith, common_steps) in
    c.part.ensures.fits.1 (omega (arith, c.deref.ensures.1), λ bad. span_tail x c.args.from c.args.to c.deref.result.now c.requires.order within bytes bad)

pub returns : goal.returns
returns c =
    let x : List Bool = bits_of c.args.bytes.now in
    let within : c.args.to ≤ length x = omega (arith, length_of_bits c.args.bytes.now, c.requires.within) in
    let bytes : c.deref.result.now ≡ packed (span x c.args.from c.args.to) = grind (arith, common_steps) in
    grind (arith, common_steps) ∙ span_signal x c.args.from c.args.to c.deref.result.now c.requires.order within bytes
