use Rattle.std.proofs.Common.{◌≡◌, [], arith}
use Rattle.std.proofs.lemmas.Grind.{common_steps}
use Rattle.tag_reader.specs.declared.how.How.TheVariants.{T4}
use Rattle.tag_reader.proofs.Bringing.{content_one, content_free}
use Rattle.tag_writer.proofs.putting.tell_t4.Goals as goal

pub returns-else-is_empty : goal.returns-else-is_empty
returns-else-is_empty c = record {
  no_acknowledgement = λ is.
      (let none : c.in-Ok.content.items ≡ [] = content_one T4 c.args.answer.now [] c.in-Ok.content.items (is, omega arith) c.in-Ok.ensures.tells in grind (arith, common_steps, none));
  no_refusal = λ code refuses. content_free T4 c.args.answer.now c.in-Ok.content.items code c.in-Ok.ensures.tells refuses;
}
