use Rattle.std.proofs.Common.{◌≡◌, None, Some, Ok, ap}
use Rattle.t2t_tag.specs.declared.answer.T2Answer.TheVariants.{Content, Refused}
use Rattle.tag_reader.specs.declared.how.How.TheVariants.{T2}
use Rattle.tag_reader.specs.Heard.{refusal_of}
use Rattle.tag_reader.proofs.Refusals.{refuses_t2}
use Rattle.tag_reader.proofs.told.tell_t2.Goals as goal

pub returns-in-Some-Content-clause-content : goal.returns-in-Some-Content-clause-content
returns-in-Some-Content-clause-content c content size is =
    let same : Some c.in-Some-Content.field-0 ≡ Some (Content content) = (c.in-Some-Content.ensures.exact (Content content)).1 (size, is) in
    let was = c.in-Some-Content.field-0-is in
    let bytes : c.in-Some-Content.content ≡ content = cc in
    ap (λ xs. Ok xs) bytes

pub returns-in-None-clause-content : goal.returns-in-None-clause-content
returns-in-None-clause-content c content size is = let same : None ≡ Some (Content content) = (c.in-None.ensures.exact (Content content)).1 (size, is) in absurd (cc)

pub returns-in-Some-Refused-clause-fault : goal.returns-in-Some-Refused-clause-fault
returns-in-Some-Refused-clause-fault c = ap (refusal_of T2) ((c.in-Some-Refused.ensures.exact Refused).0 (ap (λ a. Some a) c.in-Some-Refused.field-0-is))

pub returns-in-Some-Content-clause-tells : goal.returns-in-Some-Content-clause-tells
returns-in-Some-Content-clause-tells c = (c.in-Some-Content.ensures.exact (Content c.in-Some-Content.content)).0 (ap (λ a. Some a) c.in-Some-Content.field-0-is)

pub returns-in-None-clause-fault : goal.returns-in-None-clause-fault
returns-in-None-clause-fault c = record {
  no_content = λ p is. (let same : None ≡ Some (Content p) = (c.in-None.ensures.exact (Content p)).1 is in cc);
  no_refusal = λ code is. (let same : None ≡ Some Refused = (c.in-None.ensures.exact Refused).1 (refuses_t2 c.args.answer.now code is).0 in cc);
}
