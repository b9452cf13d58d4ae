use Rattle.std.proofs.Common.{rules, ◌≡◌, ◌==◌, false, length}
use Rattle.llcp_link.proofs.SdAnswers.{one_more}
use Rattle.llcp_link.proofs.discovery.put_answer.Goals as goal

pub returns-clause-all : goal.returns-clause-all
returns-clause-all c =
    let had = c.args.answers.now.items in
    let few : (length had == c.args.most) ≡ false = search rules in
    let more = one_more c.args.most had c.args.answer c.requires.answer c.requires.all few in
    search rules
