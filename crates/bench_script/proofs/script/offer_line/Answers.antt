use Rattle.std.proofs.Common.{arith}
use Rattle.std.proofs.lemmas.Grind.{common_steps}
use Rattle.bench_script.specs.Script.{words_of}
use Rattle.bench_script.proofs.Spelling.{key_refused, value_refused}
use Rattle.bench_script.proofs.script.offer_line.Goals as goal

pub returns-in_err-key-clause-refused : goal.returns-in_err-key-clause-refused
returns-in_err-key-clause-refused c = λ is.
    key_refused (words_of c.args.rest.now) c.in-Some.id_text.now c.in-Some.key_text.now c.in-Some.value_text.now c.in-Some.ensures
    (c.in_err-key.ensures.refused (grind (arith, common_steps)))

pub returns-in_err-value-clause-refused : goal.returns-in_err-value-clause-refused
returns-in_err-value-clause-refused c = λ is.
    value_refused (words_of c.args.rest.now) c.in-Some.id_text.now c.in-Some.key_text.now c.in-Some.value_text.now c.in-Some.ensures
    (c.in_err-value.ensures.refused (grind (arith, common_steps)))
