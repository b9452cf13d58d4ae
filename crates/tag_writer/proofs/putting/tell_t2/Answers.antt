use Rattle.std.proofs.Common.{◌≡◌, None, Some, ap}
use Rattle.t2t_tag.specs.declared.answer.T2Answer.TheVariants.{Done, Refused}
use Rattle.tag_reader.specs.declared.how.How.TheVariants.{T2}
use Rattle.tag_reader.specs.Heard.{refusal_of}
use Rattle.tag_reader.proofs.Refusals.{refuses_t2}
use Rattle.tag_writer.proofs.putting.tell_t2.Goals as goal

pub returns-in-Some-Done : goal.returns-in-Some-Done
returns-in-Some-Done c = (c.in-Some-Done.ensures.exact Done).0 (ap (λ a. Some a) c.in-Some-Done.field-0-is)

pub returns-in-Some-Refused : goal.returns-in-Some-Refused
returns-in-Some-Refused c = ap (refusal_of T2) ((c.in-Some-Refused.ensures.exact Refused).0 (ap (λ a. Some a) c.in-Some-Refused.field-0-is))

pub returns-in-None : goal.returns-in-None
returns-in-None c = record {
  no_acknowledgement = λ is. (let same : None ≡ Some Done = (c.in-None.ensures.exact Done).1 is in cc);
  no_refusal = λ code is. (let same : None ≡ Some Refused = (c.in-None.ensures.exact Refused).1 (refuses_t2 c.args.answer.now code is).0 in cc);
}
