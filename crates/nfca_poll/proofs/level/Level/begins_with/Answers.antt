use Rattle.std.proofs.Common.{◌≡◌, ℕ, List, take, drop, length, Bool, sym, ◌∙◌, ap, arith}
use Rattle.std.proofs.lemmas.Grind.{common_steps}
use Rattle.nfc_base.specs.Bits.{bits_of}
use Rattle.air_core.specs.Joint.{common}
use Rattle.nfc_base.proofs.Packing.{length_of_bits, take_whole}
use Rattle.nfca_poll.specs.Calls.{known_bits}
use Rattle.nfca_poll.specs.Front.{begins}
use Rattle.nfca_poll.proofs.identifiers.KnownBits.{asks_is}
use Rattle.nfca_poll.proofs.level.Level.begins_with.Goals as goal

pub returns : goal.returns
returns c =
    let u : List Bool = bits_of (drop 2 c.args.frame.now.bytes) in
    let x : List Bool = bits_of c.self.inside.bytes in
    let n : ℕ = c.known_len-known.result in
    let level : c.self.inside.bytes ≡ c.args.self.now = c.self.view_is in
    let whole : take 40 x ≡ x = take_whole x 40 (omega (arith, length_of_bits c.self.inside.bytes, c.self.told)) in
    let part : take c.shared.result u ≡ common (take n u) (take 40 x) = grind (arith, common_steps) in
    asks_is u x n c.shared.result c.known_len-known.ensures.held c.shared.ensures.bound (part ∙ ap (common (take n u)) whole)
    ∙ ap (λ t. begins t x) (sym c.known_len-known.ensures.bits) ∙ ap (λ b. begins (known_bits c.args.frame.now) (bits_of b)) level

pub shared-requires-clause-a : goal.shared-requires-clause-a
shared-requires-clause-a c =
    let back : c.split_at.result.1.now ≡ drop 2 c.args.frame.now.bytes = grind (arith, common_steps) in
    omega (arith, ap length back, length_of_bits (drop 2 c.args.frame.now.bytes), c.known_len-known.ensures.held)
