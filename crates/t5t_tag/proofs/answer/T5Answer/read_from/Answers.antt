use Rattle.std.proofs.Common.{◌≡◌, rules}
use Rattle.t5t_tag.specs.Spelling.{T5AnswerSpelling}
use Rattle.t5t_tag.specs.Reading.{spelled_answer}
use Rattle.t5t_tag.proofs.Bytes.{none_by}
use Rattle.t5t_tag.proofs.SpelledAnswers.{exact_answer}
use Rattle.t5t_tag.proofs.answer.T5Answer.read_from.Goals as goal

pub returns-clause-exact : goal.returns-clause-exact
returns-clause-exact c = exact_answer c.args.frame.now _ (search rules)

pub returns-clause-none : goal.returns-clause-none
returns-clause-none c =
    let reads : c.read_bytes.result ≡ spelled_answer c.args.frame.now = search rules in
    none_by (λ a. T5AnswerSpelling a c.args.frame.now) c.read_bytes.result (exact_answer c.args.frame.now c.read_bytes.result reads)
