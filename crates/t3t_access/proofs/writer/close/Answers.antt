use Rattle.std.proofs.Common.{◌≡◌, List, ℕ, suc, subst, arith}
use Rattle.nfc_base.specs.TagLinks.{LinkView}
use Rattle.t3t_access.specs.Writing.{closed, blocks_of, first_asked, TellsUpdate}
use Rattle.t3t_access.proofs.Doing.{does, put_last}
use Rattle.t3t_access.proofs.writer.close.Goals as goal

pub returns-clause-told : goal.returns-clause-told
returns-clause-told g c a w =
    let block : List ℕ = c.args.block.now in
    let message : List ℕ = c.args.message.now in
    let n : ℕ = suc (blocks_of message) in
    let new : LinkView = g.T.TagLink.seen c.update.new.link in
    let content : c.renewed-content.result ≡ closed block message = c.renewed-content.ensures in
    does c.args.id a (g.T.TagLink.seen c.args.link.now) new block message n (record { block = 0; content = closed block message }) c.update.result w (omega arith) (put_last block message)
    (subst (λ x. TellsUpdate c.args.id 0 x a new (first_asked c.args.id block message n) c.update.result) content (c.update.ensures.next a (first_asked c.args.id block message n) w.answered))
