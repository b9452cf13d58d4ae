use Rattle.std.proofs.Common.{Some, ap}
use Rattle.t5t_tag.specs.declared.answer.T5Answer.TheVariants.{Error}
use Rattle.tag_reader.proofs.told.tell_blocks.Goals as goal

pub returns-in-Some-Error : goal.returns-in-Some-Error
returns-in-Some-Error c = record {
  tells = λ id. c.tell_error.ensures.tells id c.args.answer.now ((c.in-Some-Error.ensures.exact (Error c.in-Some-Error.code)).0 (ap (λ a. Some a) c.in-Some-Error.field-0-is)).frame;
}
