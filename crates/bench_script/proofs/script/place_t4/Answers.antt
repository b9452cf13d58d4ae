use Rattle.std.proofs.Common.{arith}
use Rattle.std.proofs.lemmas.Grind.{common_steps}
use Rattle.bench_script.specs.Script.{words_of}
use Rattle.bench_script.proofs.Spelling.{container_refused, heads_refused}
use Rattle.bench_script.proofs.script.place_t4.Goals as goal

pub returns-in_err-container-clause-refused : goal.returns-in_err-container-clause-refused
returns-in_err-container-clause-refused c = λ is.
    container_refused (words_of c.args.rest.now) c.in-Some.id_text.now c.in-Some.code_text.now c.in-Some.container_text.now c.in-Some.head_text.now c.in-Some.ensures
    (c.in_err-container.ensures.refused (grind (arith, common_steps)))

pub returns-in_err-head-clause-refused : goal.returns-in_err-head-clause-refused
returns-in_err-head-clause-refused c = λ is.
    heads_refused (words_of c.args.rest.now) c.in-Some.id_text.now c.in-Some.code_text.now c.in-Some.container_text.now c.in-Some.head_text.now c.in-Some.ensures
    (c.in_err-head.ensures.refused (grind (arith, common_steps)))
