use Rattle.std.proofs.Common.{◌≡◌, ◌≤◌, ◌<◌, ◌+◌, ◌^◌, ℕ, length, ap, ◌∙◌, arith}
use Rattle.std.proofs.lemmas.List.{length-append}
use Rattle.std.proofs.lemmas.Grind.{common_steps}
use Rattle.std.specs.Fmt.{decimal}
use Rattle.std.proofs.lemmas.Fmt.{length-decimal-le}
use Rattle.workload.proofs.line.counted_line.Goals as goal

few_digits : (n : ℕ) → n < 2 ^ 32 → length (decimal n) ≤ 10
few_digits n small = length-decimal-le 10 n (omega arith) (omega arith) (omega arith)

pub push_decimal-requires : goal.push_decimal-requires
push_decimal-requires c =
    let digits = few_digits c.args.count (omega arith) in
    let front : length c.text_line-line.result.items ≤ 600 = grind (arith, common_steps) in
    let text : length c.try_extend_from_slice.new.self.items ≡ length c.text_line-line.result.items + 4 = grind (arith, common_steps) in
    omega arith

pub push-requires : goal.push-requires
push-requires c =
    let digits = few_digits c.args.count (omega arith) in
    let front : length c.text_line-line.result.items ≤ 600 = grind (arith, common_steps) in
    let text : length c.try_extend_from_slice.new.self.items ≡ length c.text_line-line.result.items + 4 = grind (arith, common_steps) in
    let size : length c.push_decimal.new.line.items ≡ length c.try_extend_from_slice.new.self.items + length (decimal c.args.count) =
    ap length c.push_decimal.ensures ∙ length-append c.try_extend_from_slice.new.self.items (decimal c.args.count) in
    (omega arith, omega arith)

pub push_decimal-requires-2 : goal.push_decimal-requires-2
push_decimal-requires-2 c =
    let digits = few_digits c.args.count (omega arith) in
    let more = few_digits c.args.start (omega arith) in
    let front : length c.text_line-line.result.items ≤ 600 = grind (arith, common_steps) in
    let text : length c.try_extend_from_slice.new.self.items ≡ length c.text_line-line.result.items + 4 = grind (arith, common_steps) in
    let size : length c.push_decimal.new.line.items ≡ length c.try_extend_from_slice.new.self.items + length (decimal c.args.count) =
    ap length c.push_decimal.ensures ∙ length-append c.try_extend_from_slice.new.self.items (decimal c.args.count) in
    let colon : length c.push.new.self.items ≡ length c.push_decimal.new.line.items + 1 = grind (arith, common_steps) in
    omega arith
