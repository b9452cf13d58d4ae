use Rattle.std.proofs.Common.{◌≡◌, rules}
use Rattle.t3t_tag.specs.Spelling.{T3Spelling}
use Rattle.t3t_tag.specs.Reading.{spelled_command}
use Rattle.t3t_tag.proofs.Bytes.{none_by}
use Rattle.t3t_tag.proofs.SpelledCommands.{exact_command}
use Rattle.t3t_tag.proofs.command.T3Command.read_from.Goals as goal

pub returns-clause-exact : goal.returns-clause-exact
returns-clause-exact c = exact_command c.args.frame.now _ (search rules) (search rules)

pub returns-clause-none : goal.returns-clause-none
returns-clause-none c =
    let reads : c.read_bytes.result ≡ spelled_command c.args.frame.now = search rules in
    none_by (λ d. T3Spelling d c.args.frame.now) c.read_bytes.result (exact_command c.args.frame.now c.read_bytes.result (search rules) reads)
