use Rattle.std.proofs.Common.{arith}
use Rattle.std.proofs.lemmas.Grind.{common_steps}
use Rattle.bench_script.proofs.Messages.{behind_gen, colon_missing, count_missing, start_missing}
use Rattle.bench_script.proofs.script.words.counted_word.Goals as goal

pub returns-in_default-colon_parts-clause-refused : goal.returns-in_default-colon_parts-clause-refused
returns-in_default-colon_parts-clause-refused c = λ is.
    let split = c.in-Some.ensures.cases in
    let begins = behind_gen c.args.word.now c.in-Some.rest.now split.0 split.1 in
    colon_missing c.args.word.now c.in-Some.rest.now begins c.in_default-colon_parts.ensures

pub returns-in_err-count-clause-refused : goal.returns-in_err-count-clause-refused
returns-in_err-count-clause-refused c = λ is.
    let split = c.in-Some.ensures.cases in
    let begins = behind_gen c.args.word.now c.in-Some.rest.now split.0 split.1 in
    let cut = c.in-Some-colon_parts.ensures in
    count_missing c.args.word.now c.in-Some.rest.now c.in-Some-colon_parts.count_text.now c.in-Some-colon_parts.start_text.now
    begins cut.0 cut.1 (c.in_err-count.ensures.refused (grind (arith, common_steps)))

pub returns-in_err-start-clause-refused : goal.returns-in_err-start-clause-refused
returns-in_err-start-clause-refused c = λ is.
    let split = c.in-Some.ensures.cases in
    let begins = behind_gen c.args.word.now c.in-Some.rest.now split.0 split.1 in
    let cut = c.in-Some-colon_parts.ensures in
    start_missing c.args.word.now c.in-Some.rest.now c.in-Some-colon_parts.count_text.now c.in-Some-colon_parts.start_text.now
    begins cut.0 cut.1 (c.in_err-start.ensures.refused (grind (arith, common_steps)))
