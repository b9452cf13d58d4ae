use Rattle.std.proofs.Common.{◌≡◌, ℕ, ◌+◌, ◌*◌, ◌/◌, ◌%◌, ◌<◌, slice_index, arith}
use Rattle.hex.specs.Hex.{upper_digits}
use Rattle.hex.proofs.Pairs.{encode_step, encode_done}
use Rattle.bench_world.proofs.lines.DigitPairs.{first_digit, second_digit}
use Rattle.bench_world.proofs.fixed_text.write_digits.Goals as goal

pub bytes-preserved : goal.bytes-preserved
bytes-preserved c =
    let byte : ℕ = slice_index c.args.bytes.now c.bytes.i in
    let fits : byte < 256 = omega arith in
    let first : slice_index c.args.pairs.now (2 * byte) ≡ slice_index upper_digits (byte / 16) = first_digit c.args.pairs.now byte c.requires.pairs fits in
    let second : slice_index c.args.pairs.now (2 * byte + 1) ≡ slice_index upper_digits (byte % 16) = second_digit c.args.pairs.now byte c.requires.pairs fits in
    encode_step upper_digits c.args.bytes.now c.bytes.digits c.bytes.i _ _ (omega arith) (omega arith) first second c.bytes.invariant

pub returns : goal.returns
returns c =
    encode_done _ _ _ c.bytes.i (omega arith) (omega arith) c.bytes.invariant
