use Rattle.std.proofs.Common.{rules, ◌≡◌, List, ℕ, Ok, sym, ◌∙◌, ap, subst}
use Rattle.nfc_base.specs.TagLinks.{LinkView}
use Rattle.t3t_access.specs.Writing.{Takes, admitted, all_puts, Writes, PartTold}
use Rattle.t3t_access.proofs.Doing.{admits_ok, none_done, write_told}
use Rattle.t3t_access.proofs.writer.write_message.Goals as goal

pub returns-in-Ok-admit-clause-told : goal.returns-in-Ok-admit-clause-told
returns-in-Ok-admit-clause-told g c =
    let a : LinkView = g.T.TagLink.seen c.args.link.now in
    let m : LinkView = g.T.TagLink.seen c.read_attributes.new.link in
    let b : LinkView = g.T.TagLink.seen c.put_all.new.link in
    let block : List ℕ = c.in-Ok.block.items in
    let message : List ℕ = c.args.message.now in
    let first : c.deref.result.now ≡ block = search rules in
    let view : c.deref-in-Ok-admit.result.now ≡ block = search rules in
    let admits : admitted block message ≡ Ok tt = ap (λ x. admitted x message) (sym first) ∙ sym c.in-Ok-admit.ensures in
    let takes : Takes block message = admits_ok block message c.in-Ok.ensures.told.1 admits in
    let begun : Writes c.args.id a m block message 0 = none_done c.args.id a m block message c.in-Ok.ensures.told.0 takes in
    let told : PartTold c.args.id a b block message (all_puts message) c.put_all.result =
    subst (λ x. PartTold c.args.id a b x message (all_puts message) c.put_all.result) view (c.put_all.ensures.told a (subst (λ x. Writes c.args.id a m x message 0) (sym view) begun)) in
    write_told c.args.id a b block message c.put_all.result told
