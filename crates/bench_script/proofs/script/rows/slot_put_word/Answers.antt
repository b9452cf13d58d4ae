use Rattle.std.proofs.Common.{arith}
use Rattle.std.proofs.lemmas.Grind.{common_steps}
use Rattle.bench_script.proofs.SlotPuts.{uncut_refused, slot_refused, message_refused}
use Rattle.bench_script.proofs.script.rows.slot_put_word.Goals as goal

pub returns-in_default-clause-refused : goal.returns-in_default-clause-refused
returns-in_default-clause-refused c = λ is. uncut_refused c.args.word.now c.in_default.ensures

pub returns-in_err-slot-clause-refused : goal.returns-in_err-slot-clause-refused
returns-in_err-slot-clause-refused c = λ is.
    let cut = c.in-Some.ensures in
    slot_refused c.args.word.now c.in-Some.slot_text.now c.in-Some.message_text.now cut.0 cut.1
    (c.in_err-slot.ensures.refused (grind (arith, common_steps)))

pub returns-in_err-message-clause-refused : goal.returns-in_err-message-clause-refused
returns-in_err-message-clause-refused c = λ is.
    let cut = c.in-Some.ensures in
    message_refused c.args.word.now c.in-Some.slot_text.now c.in-Some.message_text.now cut.0 cut.1
    (c.in_err-message.ensures.refused (grind (arith, common_steps)))
