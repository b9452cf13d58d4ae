use Rattle.std.proofs.Common.{sym, subst}
use Rattle.tag_writer.specs.Puttings.{AnswerTells}
use Rattle.tag_writer.proofs.putting.tell.Goals as goal

pub returns-in-T5 : goal.returns-in-T5
returns-in-T5 c = subst (λ h. AnswerTells h c.args.answer.now c.tell_t5.result) (sym c.in-T5.is) (c.tell_t5.ensures c.in-T5.field-0)
