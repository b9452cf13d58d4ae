use Rattle.std.proofs.Common.{◌≡◌, ◌<◌, length, sym, ◌∙◌, subst}
use Rattle.tag_writer.specs.Commands.{updates_in, command_at}
use Rattle.tag_writer.proofs.Commanding.{piece_is, piece_fits, close_is}
use Rattle.tag_writer.proofs.work.update_at.Goals as goal

pub piece_frame-requires : goal.piece_frame-requires
piece_frame-requires c =
    let message = c.args.message.now in let most = c.args.most in let k = c.args.index in
    piece_fits message most k c.requires.low.0 c.requires.some c.requires.few c.requires.small
    (subst (λ p. k < length (updates_in p message most c.requires.low.0)) c.in-Emptied.is c.requires.low.1)

pub returns-in-Prepared : goal.returns-in-Prepared
returns-in-Prepared c close low =
    let message = c.args.message.now in let most = c.args.most in let k = c.args.index in
    subst (λ p. c.update_frame.result ≡ command_at (updates_in p message most close) k) (sym c.in-Prepared.is)
    (c.update_frame.ensures ∙ close_is message most k close (subst (λ p. k < length (updates_in p message most close)) c.in-Prepared.is low))

pub returns-in-Emptied : goal.returns-in-Emptied
returns-in-Emptied c close low =
    let message = c.args.message.now in let most = c.args.most in let k = c.args.index in
    subst (λ p. c.piece_frame.result ≡ command_at (updates_in p message most close) k) (sym c.in-Emptied.is)
    (c.piece_frame.ensures ∙ piece_is message most k close (subst (λ p. k < length (updates_in p message most close)) c.in-Emptied.is low))
