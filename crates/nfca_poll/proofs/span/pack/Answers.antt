use Rattle.std.proofs.Common.{ℕ, ◌<◌, ◌≤◌, ◌+◌, List, take, drop, Bool, sym, ◌∙◌, arith}
use Rattle.nfc_base.specs.Bits.{bits_of, packed}
use Rattle.nfc_base.proofs.Packing.{length_of_bits}
use Rattle.nfca_poll.proofs.identifiers.Spans.{pack_part, pack_end}
use Rattle.nfca_poll.proofs.span.pack.Goals as goal

pub returns-then-at-to : goal.returns-then-at-to
returns-then-at-to c =
    let x : List Bool = bits_of c.args.bytes.now in
    let at : ℕ = c.loop-at.at in
    let less : at < c.args.to = omega arith in
    let few : c.args.to < at + 8 = omega arith in
    c.push-then-at-to.ensures.items
    ∙ sym (pack_part x at c.args.to c.loop-at.packed.items (packed (drop c.args.from (take c.args.to x))) c.number-then-at-to.result less few
    (omega (arith, length_of_bits c.args.bytes.now, c.requires.within)) c.loop-at.invariant.bytes c.number-then-at-to.ensures)

pub returns-else-at-to : goal.returns-else-at-to
returns-else-at-to c =
    let x : List Bool = bits_of c.args.bytes.now in
    let none : c.args.to ≤ c.loop-at.at = omega arith in
    sym (pack_end x c.loop-at.at c.args.to c.loop-at.packed.items (packed (drop c.args.from (take c.args.to x))) none c.loop-at.invariant.bytes)
