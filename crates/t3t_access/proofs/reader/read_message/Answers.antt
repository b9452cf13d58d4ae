use Rattle.std.proofs.Common.{rules, ◌≡◌, List, ℕ, subst, sym, ◌∙◌}
use Rattle.nfc_base.specs.TagLinks.{LinkView}
use Rattle.t3t_tag.specs.Attributes.{write_flag}
use Rattle.t3t_access.specs.Reading.{Reads, Whole}
use Rattle.t3t_access.proofs.Growing.{holds_of}
use Rattle.t3t_access.proofs.reader.read_message.Goals as goal

pub returns-clause-told : goal.returns-clause-told
returns-clause-told g c =
    let a : LinkView = g.T.TagLink.seen c.args.link.now in
    let block : List ℕ = c.in-Ok.block.items in
    let same : c.in-Ok-to_vec.known.items ≡ block = search rules in
    let flag : write_flag block ≡ 0 = search rules in
    let view : c.deref-3.result.now ≡ block = search rules in
    let first : Reads c.args.id a (g.T.TagLink.seen c.read_attributes.new.link) block 1 c.in-Ok-to_vec.known.items =
    subst (λ k. Reads c.args.id a (g.T.TagLink.seen c.read_attributes.new.link) block 1 k) (sym same) c.in-Ok.ensures.told.0 in
    let begun : Reads c.args.id a (g.T.TagLink.seen c.read_attributes.new.link) c.deref-3.result.now 1 c.in-Ok-to_vec.known.items =
    subst (λ k. Reads c.args.id a (g.T.TagLink.seen c.read_attributes.new.link) k 1 c.in-Ok-to_vec.known.items) (sym view) first in
    let whole : Whole c.args.id a (g.T.TagLink.seen c.read_blocks.new.link) block c.read_blocks.new.known.items =
    subst (λ k. Whole c.args.id a (g.T.TagLink.seen c.read_blocks.new.link) k c.read_blocks.new.known.items) view (c.in-Ok-read_blocks.ensures.told a begun) in
    holds_of c.args.id a (g.T.TagLink.seen c.read_blocks.new.link) block c.read_blocks.new.known.items _ _ whole (c.in-Ok-read_blocks.ensures.head ∙ view) c.in-Ok.ensures.told.1 flag (search rules)
    (search rules)
