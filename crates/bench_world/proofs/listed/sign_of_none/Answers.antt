use Rattle.std.proofs.Common.{◌≡◌, [], arith}
use Rattle.std.proofs.lemmas.Grind.{common_steps}
use Rattle.bench_world.proofs.lines.Joined.{empty_is, dash_parts}
use Rattle.bench_world.proofs.listed.sign_of_none.Goals as goal

pub returns-then-is_empty-clause-value : goal.returns-then-is_empty-clause-value
returns-then-is_empty-clause-value c =
    let none : c.args.bytes.now ≡ [] = empty_is c.args.bytes.now (grind (arith, common_steps)) in
    dash_parts c.args.bytes.now c.as_slice.result.now none (grind (arith, common_steps))
