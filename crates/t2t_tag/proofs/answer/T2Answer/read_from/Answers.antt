use Rattle.std.proofs.Common.{arith}
use Rattle.std.proofs.lemmas.Grind.{common_steps}
use Rattle.t2t_tag.specs.Spelling.{T2AnswerSpelling}
use Rattle.t2t_tag.specs.declared.answer.T2Answer.TheVariants.{Content, Done, Refused}
use Rattle.t2t_tag.proofs.Spellings.{not_none}
use Rattle.t2t_tag.proofs.answer.T2Answer.read_from.Goals as goal

pub returns-in_ok-ok-in-0-default-clause-none : goal.returns-in_ok-ok-in-0-default-clause-none
returns-in_ok-ok-in-0-default-clause-none c =
    not_none (λ a. T2AnswerSpelling a c.args.frame.now) (Content c.in_ok-ok-in-0-default.field-0) (grind (arith, common_steps))

pub returns-in-4-eq10-clause-none : goal.returns-in-4-eq10-clause-none
returns-in-4-eq10-clause-none c = not_none (λ a. T2AnswerSpelling a c.args.frame.now) Done (grind (arith, common_steps))

pub returns-in-4-eq0-clause-none : goal.returns-in-4-eq0-clause-none
returns-in-4-eq0-clause-none c = not_none (λ a. T2AnswerSpelling a c.args.frame.now) Refused (grind (arith, common_steps))
