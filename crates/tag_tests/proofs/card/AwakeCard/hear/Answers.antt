use Rattle.std.proofs.Common.{◌≡◌, ap, ◌∙◌}
use Rattle.t5t_tag.specs.Store.{T5State, darkened}
use Rattle.t5t_tag.specs.Step.{t5_after}
use Rattle.t5t_tag.proofs.Steps.{same_tag}
use Rattle.tag_reader.specs.Kinds.{t5_step}
use Rattle.tag_reader.proofs.Cards.{t5_same}
use Rattle.tag_tests.proofs.card.AwakeCard.hear.Goals as goal

pub returns-clause-identifier : goal.returns-clause-identifier
returns-clause-identifier c =
    let after : c.dark.new.self ≡ darkened (t5_after c.args.self.now.tag c.args.command.now) = c.dark.ensures ∙ ap darkened c.obey-answer.ensures.step in
    ap (λ (t : T5State). t.id) after ∙ (same_tag c.args.self.now.tag c.args.command.now).id

pub returns-clause-step : goal.returns-clause-step
returns-clause-step c =
    let after : c.dark.new.self ≡ darkened (t5_after c.args.self.now.tag c.args.command.now) = c.dark.ensures ∙ ap darkened c.obey-answer.ensures.step in
    ap (λ (t : T5State). t5_step t.id t.size t.locked t.quiet) after ∙ t5_same c.args.self.now.tag c.args.command.now c.args.self.now.awake
