use Rattle.std.proofs.Common.{◌≡◌, sym, ◌∙◌}
use Rattle.bench_script.specs.declared.command.Command.{Command}
use Rattle.bench_script.specs.Script.{words_of, SpelledBy, Spells}
use Rattle.bench_script.proofs.Spelling.{spells_one, spells_words, words_spell}
use Rattle.std.proofs.lemmas.Result.{IfOk-weaker}
use Rattle.bench_script.proofs.script.parse_line.Goals as goal

pub returns-clause-alone : goal.returns-clause-alone
returns-clause-alone c =
    IfOk-weaker c.command_line.result (λ x. SpelledBy (words_of c.args.line.now) x) (λ x. (d : Command) → Spells c.args.line.now d → d ≡ x)
    (λ x p d q. spells_one c.args.line.now d x q (spells_words c.args.line.now x p)) c.command_line.ensures.ok

pub returns-clause-refused : goal.returns-clause-refused
returns-clause-refused c = λ refused d spelled.
    c.command_line.ensures.refused refused d (words_spell c.args.line.now d (sym c.is_skipped.ensures ∙ c.if-is_skipped.false) spelled)
