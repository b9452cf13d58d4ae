use Rattle.std.proofs.Common.{◌≡◌, ◌+◌, ◌-◌, ◌++◌, suc, ℕ, List, length, sym, ◌∙◌, ap, append_assoc, arith}
use Rattle.std.specs.List.{repeat}
use Rattle.std.proofs.lemmas.List.{length-append}
use Rattle.std.proofs.lemmas.Grind.{common_steps}
use Rattle.workload.specs.Workload.{fate_letters}
use Rattle.workload.proofs.line.lossy_line.Goals as goal

pub loop-preserved : goal.loop-preserved
loop-preserved c =
    let left : 20 - c.loop.counter ≡ suc (20 - (c.loop.counter + 1)) = omega arith in
    let rest : List ℕ = repeat (20 - (c.loop.counter + 1)) fate_letters in
    let next : repeat (20 - c.loop.counter) fate_letters ≡ fate_letters ++ rest = ap (λ n. repeat n fate_letters) left in
    let added : c.try_extend_from_slice.new.self.items ≡ c.loop.line.items ++ fate_letters = grind (arith, common_steps) in
    record {
      room = ap length added ∙ length-append c.loop.line.items fate_letters ∙ (let room = c.loop.invariant.room in omega (arith, room));
      goes =
          ap (λ t. t ++ rest) added ∙ append_assoc c.loop.line.items fate_letters rest
          ∙ ap (λ t. c.loop.line.items ++ t) (sym next) ∙ c.loop.invariant.goes;
    }
