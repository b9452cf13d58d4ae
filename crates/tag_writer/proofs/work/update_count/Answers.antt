use Rattle.std.proofs.Common.{◌≡◌, length, sym, ◌∙◌, subst}
use Rattle.tag_writer.specs.Commands.{updates_in}
use Rattle.tag_writer.proofs.Commanding.{count_of}
use Rattle.tag_writer.proofs.work.update_count.Goals as goal

pub returns-in-Emptied : goal.returns-in-Emptied
returns-in-Emptied c =
    let message = c.args.message.now in
    subst (λ p. c.div_ceil.result ≡ length (updates_in p message c.args.most c.args.close)) (sym c.in-Emptied.is)
    (c.div_ceil.ensures ∙ sym (count_of message c.args.most c.args.close))
