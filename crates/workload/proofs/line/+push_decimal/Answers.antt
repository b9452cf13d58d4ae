use Rattle.std.proofs.Common.{◌≡◌, ◌≤◌, ◌<◌, ◌+◌, ◌/◌, ◌%◌, ◌^◌, ◌++◌, [], ◌∷◌, ℕ, List, length, sym, ◌∙◌, ap, append_assoc, arith}
use Rattle.std.proofs.lemmas.List.{length-append}
use Rattle.std.specs.Fmt.{decimal}
use Rattle.std.proofs.lemmas.Fmt.{decimal_step}
use Rattle.workload.proofs.line.+push_decimal.Goals as goal

one_longer : (n : ℕ) → 10 ≤ n → n < 2 ^ 32 → length (decimal n) ≡ length (decimal (n / 10)) + 1
one_longer n some small = ap length (decimal_step n some (omega arith)) ∙ length-append (decimal (n / 10)) ((48 + n % 10) ∷ [])

pub push_decimal-requires : goal.push_decimal-requires
push_decimal-requires t c =
    let longer : length (decimal c.args.number) ≡ length (decimal (c.args.number / 10)) + 1 = one_longer c.args.number c.if-number-lt10.false (omega arith) in
    (omega (arith, c.decreases), omega (arith, c.requires))

pub push-requires-else-number-lt10 : goal.push-requires-else-number-lt10
push-requires-else-number-lt10 t c =
    let longer : length (decimal c.args.number) ≡ length (decimal (c.args.number / 10)) + 1 = one_longer c.args.number c.if-number-lt10.false (omega arith) in
    let size : length c.push_decimal.new.line.items ≡ length c.args.line.now.items + length (decimal (c.args.number / 10)) =
    ap length c.push_decimal.ensures ∙ length-append c.args.line.now.items (decimal (c.args.number / 10)) in
    (omega arith, omega (arith, c.requires))

pub returns-else-number-lt10 : goal.returns-else-number-lt10
returns-else-number-lt10 t c =
    let last : List ℕ = (48 + c.args.number % 10) ∷ [] in
    c.push-else-number-lt10.ensures.items ∙ ap (λ x. x ++ last) c.push_decimal.ensures ∙ append_assoc c.args.line.now.items (decimal (c.args.number / 10)) last
    ∙ ap (λ x. c.args.line.now.items ++ x) (sym (decimal_step c.args.number c.if-number-lt10.false (omega arith)))
