use Rattle.std.proofs.Common.{List, ℕ, map, string_bytes, rules, refl, subst}
use Rattle.bench_world.specs.Obeying.{Benched, new_bench}
use Rattle.nfc_bench.specs.declared.top.program.WordsFault.TheVariants.{NoText}
use Rattle.nfc_bench.specs.Run.{Ran, EndsWordless, sees}
use Rattle.nfc_bench.proofs.top.program.program.Goals as goal

pub returns-in-Ok-clause-ran : goal.returns-in-Ok-clause-ran
returns-in-Ok-clause-ran g c =
    let of : Benched → List (List ℕ) → Type 0 = λ b ws. Ran ws (sees g.S.Source g.K.Sink c.args.source.now c.args.sink.now b)
    (sees g.S.Source g.K.Sink c.run_bench.new.source c.run_bench.new.sink c.run_bench.new.bench) c.run_bench.result in
    let it : of c.new-bench.result (map string_bytes c.deref.result.now) = c.run_bench.ensures.ran in
    let here : of new_bench (map string_bytes c.deref.result.now) = subst (λ b. of b (map string_bytes c.deref.result.now)) c.new-bench.ensures it in
    rw c.in-Ok.is (c.run_bench.new.bench, subst (λ ws. of new_bench (map string_bytes ws)) c.deref.ensures.value here)

pub returns-in-Err-NoText-clause-wordless : goal.returns-in-Err-NoText-clause-wordless
returns-in-Err-NoText-clause-wordless g c =
    let it : EndsWordless NoText (g.K.Sink.taken c.args.sink.now) (g.K.Sink.taken c.write_fault.new.sink) (g.K.Sink.faults c.args.sink.now) (g.K.Sink.faults c.write_fault.new.sink) 6 =
    (refl, c.write_fault.ensures.told) in
    rw c.in-Err-NoText.is (search rules)
