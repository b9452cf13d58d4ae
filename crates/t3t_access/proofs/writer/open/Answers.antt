use Rattle.std.proofs.Common.{◌≡◌, List, ℕ, refl, ◌∙◌, ap, subst, arith}
use Rattle.nfc_base.specs.TagLinks.{LinkView}
use Rattle.t3t_access.specs.Writing.{renewed, opened, first_asked, TellsUpdate}
use Rattle.t3t_access.proofs.Doing.{does}
use Rattle.t3t_access.proofs.writer.open.Goals as goal

pub returns-clause-told : goal.returns-clause-told
returns-clause-told g c a w =
    let block : List ℕ = c.args.block.now in
    let new : LinkView = g.T.TagLink.seen c.update.new.link in
    let content : c.renewed-content.result ≡ opened block = c.renewed-content.ensures ∙ ap (λ n. renewed block 15 n) c.message_length.ensures.length in
    does c.args.id a (g.T.TagLink.seen c.args.link.now) new block c.args.message.now 0 (record { block = 0; content = opened block }) c.update.result w (omega arith) refl
    (subst (λ x. TellsUpdate c.args.id 0 x a new (first_asked c.args.id block c.args.message.now 0) c.update.result) content
    (c.update.ensures.next a (first_asked c.args.id block c.args.message.now 0) w.answered))
