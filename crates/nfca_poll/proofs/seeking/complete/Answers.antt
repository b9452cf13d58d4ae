use Rattle.std.proofs.Common.{◌≡◌, ◌+◌, ◌++◌, ℕ, length, List, Bool, get_or, true, false, ◌==◌, refl, ◌∙◌, ap, arith}
use Rattle.std.proofs.lemmas.Grind.{common_steps}
use Rattle.nfc_base.specs.Bits.{bits, bit_count, packed}
use Rattle.nfca_poll.specs.Levels.{bcc}
use Rattle.nfca_poll.specs.Poll.{BadAnswer, level_bits}
use Rattle.nfca_poll.specs.Seeking.{levels_of}
use Rattle.nfca_poll.proofs.enquiries.SeekSteps.{known_size, not_complete, is_complete, packed_forty}
use Rattle.nfca_poll.proofs.seeking.complete.Goals as goal

pub returns-then-bit_len-len : goal.returns-then-bit_len-len
returns-then-bit_len-len c =
    let known : List Bool = c.args.known ++ bits c.args.rest.now in
    let size : length known ≡ length c.args.known + bit_count c.args.rest.now = known_size c.args.known c.args.rest.now (omega (arith, c.bit_len.ensures.count, c.bit_len.ensures.bound)) in
    let other : (length known == level_bits) ≡ false = grind (arith, common_steps, size) in
    (BadAnswer, not_complete (levels_of c.args.done) known other, refl)

pub unwrap-bytes-requires : goal.unwrap-bytes-requires
unwrap-bytes-requires c =
    let known : List Bool = c.args.known ++ bits c.args.rest.now in
    let size : length known ≡ length c.args.known + bit_count c.args.rest.now = known_size c.args.known c.args.rest.now (omega (arith, c.bit_len.ensures.count, c.bit_len.ensures.bound)) in
    let all : length known ≡ 40 = omega (arith, size, c.bit_len.ensures.count, c.len.ensures.count, c.len.ensures.bound) in
    let five : length (packed known) ≡ 5 = packed_forty known all in
    let bytes : c.as_slice.result.now ≡ packed known = c.as_slice.ensures.value ∙ c.pack.ensures ∙ ap packed c.push_frame.ensures in
    let some : length c.as_slice.result.now ≡ 5 = ap length bytes ∙ five in
    grind (arith, common_steps, some)

pub returns-in-Some : goal.returns-in-Some
returns-in-Some c =
    let known : List Bool = c.args.known ++ bits c.args.rest.now in
    let size : length known ≡ length c.args.known + bit_count c.args.rest.now = known_size c.args.known c.args.rest.now (omega (arith, c.bit_len.ensures.count, c.bit_len.ensures.bound)) in
    let all : length known ≡ 40 = omega (arith, size, c.bit_len.ensures.count, c.len.ensures.count, c.len.ensures.bound) in
    let bytes : c.as_slice.result.now ≡ packed known = c.as_slice.ensures.value ∙ c.pack.ensures ∙ ap packed c.push_frame.ensures in
    let array : c.unwrap-bytes.result ≡ packed known = grind (arith, common_steps, bytes) in
    let l : c.in-Some.level ≡ packed known = grind (arith, common_steps, array) in
    let check : get_or c.in-Some.level 4 0 ≡ bcc c.in-Some.level = grind (arith, common_steps, l, array) in
    is_complete (levels_of c.args.done) known c.in-Some.level (ap (λ n. n == 40) all) l (same (get_or c.in-Some.level 4 0) (bcc c.in-Some.level) check)
  where
    same : (a b : ℕ) → a ≡ b → (a == b) ≡ true
    same a b e = grind arith
