use Rattle.std.proofs.Common.{◌≡◌, ◌+◌, ◌++◌, length, List, Bool, true, nat_le, refl, arith}
use Rattle.std.proofs.lemmas.Grind.{common_steps}
use Rattle.nfc_base.specs.Bits.{bits, bit_count}
use Rattle.nfca_poll.specs.Poll.{BadAnswer, collision_bits}
use Rattle.nfca_poll.specs.Seeking.{levels_of}
use Rattle.nfca_poll.proofs.enquiries.SeekSteps.{known_size, too_far}
use Rattle.nfca_poll.proofs.seeking.narrow.Goals as goal

pub returns-then-bit_len-saturating_sub : goal.returns-then-bit_len-saturating_sub
returns-then-bit_len-saturating_sub c =
    let known : List Bool = c.args.known ++ bits c.args.common.now in
    let size : length known ≡ length c.args.known + bit_count c.args.common.now = known_size c.args.known c.args.common.now (omega (arith, c.bit_len.ensures.count, c.bit_len.ensures.bound)) in
    let far : nat_le collision_bits (length known) ≡ true = grind (arith, common_steps, size) in
    (BadAnswer, too_far (levels_of c.args.done) known far, refl)
