use Rattle.std.proofs.Common.{arith}
use Rattle.std.proofs.lemmas.Grind.{common_steps}
use Rattle.bench_script.specs.Script.{words_of}
use Rattle.bench_script.proofs.Spelling.{asked_key_refused}
use Rattle.bench_script.proofs.script.links.get_line.Goals as goal

pub returns-in_err-key-clause-refused : goal.returns-in_err-key-clause-refused
returns-in_err-key-clause-refused c = λ is.
    asked_key_refused (words_of c.args.rest.now) c.in-Some.acceptable_text.now c.in-Some.key_text.now c.in-Some.ensures
    (c.in_err-key.ensures.refused (grind (arith, common_steps)))
