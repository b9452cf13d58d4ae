use Rattle.std.proofs.Common.{◌≡◌, ◌<◌, length, get_or, sym, ◌∙◌, ap, subst}
use Rattle.tag_writer.specs.Puts.{block_puts, block_command}
use Rattle.tag_writer.specs.Puttings.{signal_at}
use Rattle.tag_writer.specs.Works.{steps_at}
use Rattle.tag_writer.proofs.Steps.{signal_of}
use Rattle.tag_writer.proofs.work.step_at.Goals as goal

pub returns-in-Emptied-clause-signal : goal.returns-in-Emptied-clause-signal
returns-in-Emptied-clause-signal c how size =
    let k = c.args.index in let step = c.index-as_slice-index.result in let plan = c.args.plan.now in
    subst (λ p. signal_at (block_puts how size (steps_at p plan)) k ≡ block_command how step) (sym c.in-Emptied.is)
    (signal_of how size plan.fill k step (subst (λ p. k < length (steps_at p plan)) c.in-Emptied.is c.requires)
    (c.index-as_slice-index.is ∙ ap (λ xs. get_or xs k step) c.as_slice.ensures))
