use Rattle.std.proofs.Common.{◌≡◌, rules}
use Rattle.t3t_tag.specs.Spelling.{T3AnswerSpelling}
use Rattle.t3t_tag.specs.Reading.{spelled_answer}
use Rattle.t3t_tag.proofs.Bytes.{none_by}
use Rattle.t3t_tag.proofs.SpelledAnswers.{exact_answer}
use Rattle.t3t_tag.proofs.answer.T3Answer.read_from.Goals as goal

pub returns-clause-exact : goal.returns-clause-exact
returns-clause-exact c = exact_answer c.args.frame.now _ (search rules) (search rules)

pub returns-clause-none : goal.returns-clause-none
returns-clause-none c =
    let reads : c.read_bytes.result ≡ spelled_answer c.args.frame.now = search rules in
    none_by (λ d. T3AnswerSpelling d c.args.frame.now) c.read_bytes.result (exact_answer c.args.frame.now c.read_bytes.result (search rules) reads)
