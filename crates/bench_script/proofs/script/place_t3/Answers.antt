use Rattle.std.proofs.Common.{arith}
use Rattle.std.proofs.lemmas.Grind.{common_steps}
use Rattle.bench_script.specs.Script.{words_of}
use Rattle.bench_script.proofs.Spelling.{head_three_refused}
use Rattle.bench_script.proofs.script.place_t3.Goals as goal

pub returns-in_err-head-clause-refused : goal.returns-in_err-head-clause-refused
returns-in_err-head-clause-refused c = λ is.
    head_three_refused (words_of c.args.rest.now) c.in-Some.id_text.now c.in-Some.blocks_text.now c.in-Some.head_text.now c.in-Some.ensures
    (c.in_err-head.ensures.refused (grind (arith, common_steps)))
