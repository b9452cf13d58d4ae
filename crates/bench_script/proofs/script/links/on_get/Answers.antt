use Rattle.std.proofs.Common.{arith}
use Rattle.std.proofs.lemmas.Grind.{common_steps}
use Rattle.bench_script.specs.Script.{words_of}
use Rattle.bench_script.proofs.Spelling.{on_key_refused}
use Rattle.bench_script.proofs.script.links.on_get.Goals as goal

pub returns-in_err-key-clause-refused : goal.returns-in_err-key-clause-refused
returns-in_err-key-clause-refused c = λ is.
    on_key_refused (words_of c.args.rest.now) c.args.slot_text.now c.in-Some.acceptable_text.now c.in-Some.key_text.now c.in-Some.ensures
    (c.in_err-key.ensures.refused (grind (arith, common_steps)))
