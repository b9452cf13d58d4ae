use Rattle.std.proofs.Common.{◌≡◌, ◌≤◌, length, ap, arith}
use Rattle.std.specs.Fmt.{decimal}
use Rattle.std.proofs.lemmas.Fmt.{length-decimal-le}
use Rattle.bench_world.proofs.fixed_text.push_number.Goals as goal

pub push_decimal-requires : goal.push_decimal-requires
push_decimal-requires g c =
    let digits : length (decimal c.args.number) ≤ 20 = length-decimal-le 20 c.args.number (omega arith) (omega arith) (omega arith) in
    let none : length c.new-digits.result.items ≡ 0 = ap length c.new-digits.ensures in
    omega (arith, digits, none)
